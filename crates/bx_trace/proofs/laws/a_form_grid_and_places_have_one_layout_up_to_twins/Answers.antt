use Rattle.bx_trace.proofs.Unique.{differ-by-twins}
use Rattle.bx_trace.proofs.laws.a_form_grid_and_places_have_one_layout_up_to_twins.Goals as goal

pub returns : goal.returns
returns c = differ-by-twins
