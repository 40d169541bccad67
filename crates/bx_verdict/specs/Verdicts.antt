-- The verdict of a ratio: the first count proof that refutes it, where there is one, and otherwise how the search of
-- its formula ends.
use Rattle.std.specs.Prelude.{◌≡◌, ℕ, Some, None, ⊤}
use Rattle.bx_bounds.specs.Precedes.{IsFirst}
use Rattle.bx_bounds.specs.Refutes.{Refutes}
use Rattle.bx_cnf.specs.Formulas.{Formula}
use Rattle.bx_decode.specs.Meaning.{AreTrue}
use Rattle.bx_encode.specs.Formula.{formula}
use Rattle.bx_grid.specs.declared.ratio.Ratio.{Ratio}
use Rattle.bx_layout.specs.Legal.{LacksLayout}
use Rattle.bx_layout.specs.Permits.{PermitTest}
use Rattle.bx_network.specs.Networks.{Network}
use Rattle.bx_proof.specs.declared.refutation.Refutation.TheVariants.{Count, Clauses}
use Rattle.bx_refutes.specs.Refutations.{IsRefutedBy}
use Rattle.bx_search.specs.Searching.{IsSearch}
use Rattle.bx_search.specs.declared.outcome.Outcome.{Outcome}
use Rattle.bx_search.specs.declared.outcome.Outcome.TheVariants as outcome
use Rattle.bx_verdict.specs.declared.verdict.Ended.{Ended}
use Rattle.bx_verdict.specs.declared.verdict.Ended.TheVariants.{Refuted, Found, Undecided}
use Rattle.bx_verdict.specs.declared.verdict.Trial.{Trial}
use Rattle.bx_verdict.specs.declared.verdict.Trial.TheVariants as trial

-- the search of the formula within the budget ends so, however many clauses it learns
abbrev pub EndsWith : Formula → ℕ → Outcome → Type 0
EndsWith f budget end = (learned : ℕ) × IsSearch f budget end learned

-- so it does, as the end of a ratio's trial
abbrev pub IsEndOf : Formula → ℕ → Ended → Type 0
IsEndOf f budget (Refuted (Count proof)) = ⊥
IsEndOf f budget (Refuted (Clauses steps)) = EndsWith f budget (outcome.Unsat steps)
IsEndOf f budget (Found bits) = EndsWith f budget (outcome.Sat bits)
IsEndOf f budget (Undecided spent) = EndsWith f budget (outcome.Undecided spent)

module _ (N : Network) (permit : PermitTest) (r : Ratio) (budget : ℕ) where
  -- no count refutes the ratio, and the search of its formula ends so
  abbrev pub IsSearched : Ended → Type 0
  IsSearched end = IsFirst (Refutes N r) None × IsEndOf (formula N permit r) budget end

  abbrev pub IsVerdict : Ended → Type 0
  IsVerdict (Refuted (Count proof)) = IsFirst (Refutes N r) (Some proof)
  IsVerdict (Refuted (Clauses steps)) = IsSearched (Refuted (Clauses steps))
  IsVerdict (Found bits) = IsSearched (Found bits)
  IsVerdict (Undecided spent) = IsSearched (Undecided spent)

-- the search of the formula within the budget ends so, and has learned so many clauses that aren't empty
abbrev pub EndsAfter : Formula → ℕ → Ended → ℕ → Type 0
EndsAfter f budget (Refuted (Count proof)) n = ⊥
EndsAfter f budget (Refuted (Clauses steps)) n = IsSearch f budget (outcome.Unsat steps) n
EndsAfter f budget (Found bits) n = IsSearch f budget (outcome.Sat bits) n
EndsAfter f budget (Undecided spent) n = IsSearch f budget (outcome.Undecided spent) n

-- how often a verdict's search asks whether it is still wanted: once for each such clause; a count has no search
abbrev pub Asks : Network → PermitTest → Ratio → ℕ → Ended → ℕ → Type 0
Asks N permit r budget (Refuted (Count proof)) n = n ≡ 0
Asks N permit r budget (Refuted (Clauses steps)) n = EndsAfter (formula N permit r) budget (Refuted (Clauses steps)) n
Asks N permit r budget (Found bits) n = EndsAfter (formula N permit r) budget (Found bits) n
Asks N permit r budget (Undecided spent) n = EndsAfter (formula N permit r) budget (Undecided spent) n

-- so it is with the end of a trial, unless it was stopped
abbrev pub IfEnded : Trial → (Ended → Type 0) → Type 0
IfEnded (trial.Ended end) Is = Is end
IfEnded trial.Stopped Is = ⊤

-- what an end shows of its ratio: one that is refuted is so by its refutation, and has no legal layout; the bits of
-- one that is found are true
abbrev pub Shows : Network → PermitTest → Ratio → Ended → Type 0
Shows N permit r (Refuted proof) = IsRefutedBy N permit r proof × LacksLayout N permit r
Shows N permit r (Found bits) = AreTrue N permit r bits
Shows N permit r (Undecided spent) = ⊤
