-- The border carries none of the edges so far.
use Rattle.std.proofs.Common.{◌≡◌, ℕ, ◌<◌, false}
use Rattle.bx_cnf.specs.Literals.{value_of}
use Rattle.bx_encode.specs.Variables.{number}
use Rattle.bx_encode.specs.declared.variable.Variable.TheVariants.{EdgeOn}
use Rattle.bx_decode.proofs.read.edge_on.Given as goal

abbrev pub invariant-loop-e : goal.invariant-loop-e
invariant-loop-e l = (d : ℕ) → d < l.e → value_of l.bits (number l.net l.ratio (EdgeOn d l.b)) ≡ false
