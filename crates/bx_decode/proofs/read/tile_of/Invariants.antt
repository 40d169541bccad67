-- The node stands on no tile so far.
use Rattle.std.proofs.Common.{◌≡◌, ℕ, ◌<◌, false}
use Rattle.bx_cnf.specs.Literals.{value_of}
use Rattle.bx_encode.specs.Variables.{number}
use Rattle.bx_encode.specs.declared.variable.Variable.TheVariants.{NodeOn}
use Rattle.bx_decode.proofs.read.tile_of.Given as goal

abbrev pub invariant-loop-t : goal.invariant-loop-t
invariant-loop-t l = (u : ℕ) → u < l.t → value_of l.bits (number l.net l.ratio (NodeOn l.v u)) ≡ false
