use Rattle.bx_forms.proofs.Tables.{form-table}
use Rattle.bx_forms.proofs.laws.the_forms_are_as_described.Goals as goal

pub returns : goal.returns
returns c = form-table
