-- A search asks no more often than its budget pays for.
use Rattle.std.proofs.Common.{ℕ, ◌+◌, ◌≤◌, arith}
use Rattle.bx_cnf.specs.Formulas.{Formula, IsFormula}
use Rattle.bx_search.specs.Searching.{IsSearch}
use Rattle.bx_search.specs.declared.outcome.Outcome.{Outcome}
use Rattle.bx_search.proofs.Counting.{count-within}
use Rattle.bx_search.proofs.Ends.{search-ends}

pub few-asks : (f : Formula) (budget before after : ℕ) → IsFormula f → ((end : Outcome) (n : ℕ) → IsSearch f budget end n → after ≤ before + n) → after ≤ before + budget
few-asks f budget before after formed at_most =
    let (end, n, found) = search-ends f budget formed in
    omega (arith, at_most end n found, count-within f budget n end found)
