-- The literals are a clause exactly where the rest ascends above the last.
use Rattle.std.proofs.Common.{◌≤◌, take, drop}
use Rattle.std.specs.Prelude.{All}
use Rattle.bx_cnf.specs.Formulas.{AscendAbove}
use Rattle.bx_cnf.proofs.clauses.is_clause.Given as goal

abbrev pub invariant-loop-lit : goal.invariant-loop-lit
invariant-loop-lit l = record {
  whole : AscendAbove l.last (drop l.lit-index l.literals) → AscendAbove 0 l.literals;
  rest : AscendAbove 0 l.literals → AscendAbove l.last (drop l.lit-index l.literals);
  within : All (λ x. x.var ≤ l.vars) (take l.lit-index l.literals);
}
