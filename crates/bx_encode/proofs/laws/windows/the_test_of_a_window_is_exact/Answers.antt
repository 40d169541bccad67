-- Longest paths by recursion over their edges.
use Rattle.bx_encode.proofs.Windows.{down-is, up-is, window-exact}
use Rattle.bx_encode.proofs.laws.windows.the_test_of_a_window_is_exact.Goals as goal

pub returns-clause-down : goal.returns-clause-down
returns-clause-down c N v net low = down-is N net v low

pub returns-clause-up : goal.returns-clause-up
returns-clause-up c N v net low = up-is N net v low

pub returns-clause-window : goal.returns-clause-window
returns-clause-window c N v row height net low = window-exact N net v row height low
