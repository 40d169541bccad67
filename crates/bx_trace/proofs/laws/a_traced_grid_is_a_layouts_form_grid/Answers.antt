use Rattle.bx_trace.proofs.Meaning.{traced-whole}
use Rattle.bx_trace.proofs.laws.a_traced_grid_is_a_layouts_form_grid.Goals as goal

pub returns : goal.returns
returns c = traced-whole
