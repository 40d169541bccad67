use Rattle.bx_bounds.proofs.Window.{in-window}
use Rattle.bx_bounds.proofs.laws.a_window_lies_between_the_earliest_and_the_latest_row.Goals as goal

pub returns : goal.returns
returns c = in-window
