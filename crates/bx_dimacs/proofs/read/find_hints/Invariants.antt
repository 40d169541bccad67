-- The hints so far name clauses, and their own ids were found.
use Rattle.std.proofs.Common.{◌≡◌, true, take}
use Rattle.std.specs.List.{list_all}
use Rattle.bx_dimacs.specs.Proofs.{AreOwnIds}
use Rattle.bx_dimacs.specs.ProofTexts.{names_clause}
use Rattle.bx_dimacs.proofs.read.find_hints.Given as goal

abbrev pub invariant-loop-number : goal.invariant-loop-number
invariant-loop-number l = record {
  named : AreOwnIds l.count l.ids (take l.number-index l.numbers) l.hints.items;
  all : list_all (names_clause l.count l.ids) (take l.number-index l.numbers) ≡ true;
}
