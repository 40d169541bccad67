use Rattle.bx_layout.proofs.Walks.{room-above, room-below, in-window}
use Rattle.bx_layout.proofs.laws.layouts.a_node_stands_in_its_window.Goals as goal

pub returns-clause-above : goal.returns-clause-above
returns-clause-above c = λ N permit L v t down network legal stands is. room-above N permit L network legal v t down stands is

pub returns-clause-below : goal.returns-clause-below
returns-clause-below c = λ N permit L v t up network legal stands is. room-below N permit L network legal v t up stands is

pub returns-clause-window : goal.returns-clause-window
returns-clause-window c = λ N permit L v t down up kind network legal stands is_kind is_down is_up. in-window N permit L network legal v t down up kind stands is_kind is_down is_up
