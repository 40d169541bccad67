use Rattle.bx_library.proofs.Settling.{some_reading}
use Rattle.bx_library.proofs.laws.bytes_give_a_library_or_a_fault.Goals as goal

pub returns : goal.returns
returns c = some_reading
