-- The clauses so far.
use Rattle.std.proofs.Common.{◌≡◌, ◌++◌, map, take}
use Rattle.bx_encode.specs.declared.variable.Variable.TheVariants.{EdgeOn}
use Rattle.bx_encode.specs.Variables.{number}
use Rattle.bx_encode.proofs.literals.add_on.Given as goal

abbrev pub invariant-loop-b : goal.invariant-loop-b
invariant-loop-b l = l.list.items ≡ l.initial.list.items ++ map (λ b. record { var = number l.frame.net.now l.frame.ratio (EdgeOn l.e b); positive = l.positive }) (take l.b-index l.borders)
