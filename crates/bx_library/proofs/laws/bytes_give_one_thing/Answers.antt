use Rattle.bx_library.proofs.One.{one_reading}
use Rattle.bx_library.proofs.laws.bytes_give_one_thing.Goals as goal

pub returns : goal.returns
returns c = one_reading
