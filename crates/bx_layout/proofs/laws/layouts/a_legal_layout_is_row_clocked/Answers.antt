use Rattle.bx_layout.proofs.Flow.{row-clocked}
use Rattle.bx_layout.proofs.laws.layouts.a_legal_layout_is_row_clocked.Goals as goal

pub returns : goal.returns
returns c = row-clocked
