-- The bit is one of all.
use Rattle.std.proofs.Common.{arith}
use Rattle.bx_encode.proofs.Numbering.{number-above, number-within}
use Rattle.bx_encode.proofs.bits.mark.Goals as goal

pub bounds-bits-var_of : goal.bounds-bits-var_of
bounds-bits-var_of c = omega (arith, number-above c.args.net.now c.args.ratio c.args.x, number-within c.args.net.now c.args.ratio c.args.x c.requires.variable, c.requires.all, c.var_of.ensures.is)
