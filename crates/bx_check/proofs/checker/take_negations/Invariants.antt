use Rattle.std.proofs.Common.{◌≡◌, map, take}
use Rattle.bx_cnf.specs.Literals.{negated}
use Rattle.bx_check.proofs.checker.take_negations.Given as goal

abbrev pub invariant-loop-lit : goal.invariant-loop-lit
invariant-loop-lit l = l.assignment ≡ map negated (take l.lit-index l.literals)
