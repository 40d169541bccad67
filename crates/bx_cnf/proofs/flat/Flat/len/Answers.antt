use Rattle.std.proofs.Common.{arith}
use Rattle.bx_cnf.proofs.Flats.{sized}
use Rattle.bx_cnf.proofs.flat.Flat.len.Goals as goal

pub returns : goal.returns
returns g c = let size = sized _ _ _ c.self.view_is in omega (arith, size)
