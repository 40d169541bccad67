-- The literals so far.
use Rattle.std.proofs.Common.{◌≡◌, ◌<◌, map, take}
use Rattle.std.specs.Prelude.{All}
use Rattle.bx_cnf.specs.Literals.{Literal, literal_of}
use Rattle.bx_dimacs.proofs.read.put_literals.Given as goal

abbrev pub invariant-loop-number : goal.invariant-loop-number
invariant-loop-number l = record {
  found : l.literals.items ≡ map literal_of (take l.number-index l.numbers);
  positive : All (λ (m : Literal). 0 < m.var) l.literals.items;
}
