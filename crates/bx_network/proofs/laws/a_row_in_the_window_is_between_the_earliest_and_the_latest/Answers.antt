use Rattle.bx_network.proofs.Window.{not-before, not-behind, between}
use Rattle.bx_network.proofs.laws.a_row_in_the_window_is_between_the_earliest_and_the_latest.Goals as goal

pub returns-clause-earliest : goal.returns-clause-earliest
returns-clause-earliest c = not-before

pub returns-clause-latest : goal.returns-clause-latest
returns-clause-latest c = not-behind

pub returns-clause-between : goal.returns-clause-between
returns-clause-between c = between
