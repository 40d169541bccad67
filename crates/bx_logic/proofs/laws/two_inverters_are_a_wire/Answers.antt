use Rattle.bx_logic.proofs.Inverters.{two-are_wire, inverter-not_wire}
use Rattle.bx_logic.proofs.laws.two_inverters_are_a_wire.Goals as goal

pub returns-clause-two : goal.returns-clause-two
returns-clause-two c = two-are_wire

pub returns-clause-one : goal.returns-clause-one
returns-clause-one c = inverter-not_wire
