-- What is found of a formula.
use Rattle.std.specs.Prelude.{◌≡◌, ℕ, ◌-◌, min, length, ⊤}
use Rattle.bx_cnf.specs.Formulas.{Formula, AllTrue}
use Rattle.bx_proof.specs.Accepted.{IsAccepted}
use Rattle.bx_proof.specs.Steps.{AreSteps}
use Rattle.bx_search.specs.Searching.{IsSearch}
use Rattle.bx_search.specs.declared.outcome.Outcome.TheVariants.{Sat, Unsat, Undecided}
use Rattle.bx_sat.specs.declared.solving.Answer.{Answer}
use Rattle.bx_sat.specs.declared.solving.Answer.TheVariants.{Satisfiable, Unsatisfiable, Unknown}

-- how much of a budget can be used: clauses and budget together have ids of 32 bits
abbrev pub usable_budget : Formula → ℕ → ℕ
usable_budget formula budget = min budget (4294967295 - length formula.clauses)

-- it is the end of the search within this budget
abbrev pub IsEnd : Formula → ℕ → Answer → Type 0
IsEnd formula budget (Satisfiable bits) = (n : ℕ) × IsSearch formula budget (Sat bits) n
IsEnd formula budget (Unsatisfiable log) = (n : ℕ) × IsSearch formula budget (Unsat log) n
IsEnd formula budget Unknown = (spent : ℕ) × (n : ℕ) × IsSearch formula budget (Undecided spent) n

-- bits, one for each variable, that make all clauses true, or a log that is accepted
abbrev pub IsRight : Formula → Answer → Type 0
IsRight formula (Satisfiable bits) = (length bits ≡ formula.vars) × AllTrue bits formula.clauses
IsRight formula (Unsatisfiable log) = IsAccepted formula log × AreSteps log.first log.steps
IsRight formula Unknown = ⊤

-- it is what a search finds of a formula within what is used of this budget, and right
pub record IsAnswerTo (formula : Formula) (budget : ℕ) (answer : Answer) : Type 0 where
  pub ended : IsEnd formula (usable_budget formula budget) answer
  pub right : IsRight formula answer
