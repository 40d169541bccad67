-- What a verdict shows: no legal layout, or the bits of one.
use Rattle.std.proofs.Common.{◌≡◌, ℕ, Bool, List, Some, None, Result, Ok, Err, IfOk, subst}
use Rattle.bx_bounds.specs.Precedes.{IsFirst}
use Rattle.bx_bounds.specs.Refutes.{Refutes}
use Rattle.bx_cnf.specs.Formulas.{Formula, IsFormula}
use Rattle.bx_decode.specs.Meaning.{AreTrue, Means}
use Rattle.bx_decode.proofs.Legal.{legal}
use Rattle.bx_decode.proofs.Reading.{means-some}
use Rattle.bx_encode.specs.Formula.{formula}
use Rattle.bx_grid.specs.declared.count.CountProof.{CountProof}
use Rattle.bx_grid.specs.declared.ratio.Ratio.{Ratio}
use Rattle.bx_grid.specs.Tiles.{IsGrid}
use Rattle.bx_layout.specs.declared.layout.Layout.{Layout}
use Rattle.bx_layout.specs.Legal.{IsLegal}
use Rattle.bx_layout.specs.Permits.{PermitTest}
use Rattle.bx_network.specs.Networks.{Network, IsNetwork}
use Rattle.bx_proof.specs.declared.refutation.Refutation.{Refutation}
use Rattle.bx_proof.specs.declared.refutation.Refutation.TheVariants.{Count, Clauses}
use Rattle.bx_refutes.proofs.Lacking.{lacks}
use Rattle.bx_refutes.specs.Refutations.{IsRefutedBy}
use Rattle.bx_search.proofs.Accepting.{log-accepted}
use Rattle.bx_search.proofs.Values.{search-solves}
use Rattle.bx_verdict.specs.Verdicts.{EndsAfter, IfEnded, IsEndOf, IsVerdict, Shows}
use Rattle.bx_verdict.specs.declared.verdict.Ended.{Ended}
use Rattle.bx_verdict.specs.declared.verdict.Ended.TheVariants.{Refuted, Found, Undecided}
use Rattle.bx_verdict.specs.declared.verdict.Trial.{Trial}
use Rattle.bx_verdict.specs.declared.verdict.Trial.TheVariants as trial

module _ (N : Network) (permit : PermitTest) (r : Ratio) where
  pub verdict-refutes : (budget : ℕ) (proof : Refutation) → IsFormula (formula N permit r) → IsVerdict N permit r budget (Refuted proof) → IsRefutedBy N permit r proof
  verdict-refutes budget (Count proof) formed first = first.0
  verdict-refutes budget (Clauses steps) formed (none, (learned, finds)) = log-accepted (formula N permit r) budget learned steps formed finds

  pub found-true : (budget : ℕ) (bits : List Bool) → IsFormula (formula N permit r) → IsVerdict N permit r budget (Found bits) → AreTrue N permit r bits
  found-true budget bits formed (none, (learned, finds)) = (search-solves (formula N permit r) budget learned bits formed finds).1

  pub found-legal : (budget : ℕ) (bits : List Bool) → IsNetwork N → IsGrid r → IsFormula (formula N permit r) → IsVerdict N permit r budget (Found bits)
      → (L : Layout) × (L.ratio ≡ r) × Means N r bits L × IsLegal N permit L
  found-legal budget bits network grid formed found =
      let all = found-true budget bits formed found in
      let (L, means) = means-some N permit r bits all in
      (L, means.ratio, means, legal N permit r bits L network grid all means)

  module _ (network : IsNetwork N) where
    verdict-shows : (budget : ℕ) (end : Ended) → IsFormula (formula N permit r) → IsVerdict N permit r budget end → Shows N permit r end
    verdict-shows budget (Refuted proof) formed is = let refutes = verdict-refutes budget proof formed is in (refutes, lacks N permit r proof network refutes)
    verdict-shows budget (Found bits) formed is = found-true budget bits formed is
    verdict-shows budget (Undecided spent) formed is = tt

    pub count-shows : (proof : CountProof) → IsFirst (Refutes N r) (Some proof) → Shows N permit r (Refuted (Count proof))
    count-shows proof first = (first.0, lacks N permit r (Count proof) network first.0)

  -- ---- what a search answers, where no count refutes the ratio

  ended-is : (budget : ℕ) (end : Ended) → IsFirst (Refutes N r) None → IsEndOf (formula N permit r) budget end → IsVerdict N permit r budget end
  ended-is budget (Refuted (Count c)) none ends = absurd ends
  ended-is budget (Refuted (Clauses steps)) none ends = (none, ends)
  ended-is budget (Found bits) none ends = (none, ends)
  ended-is budget (Undecided spent) none ends = (none, ends)

  module _ (budget : ℕ) (f : Formula) (same : f ≡ formula N permit r) (none : IsFirst (Refutes N r) None) where
    ends : (end : Ended) (n : ℕ) → EndsAfter f budget end n → IsEndOf f budget end
    ends (Refuted (Count c)) n found = found
    ends (Refuted (Clauses steps)) n found = (n, found)
    ends (Found bits) n found = (n, found)
    ends (Undecided spent) n found = (n, found)

    moved : (end : Ended) (n : ℕ) → EndsAfter f budget end n → IsVerdict N permit r budget end
    moved end n found = ended-is budget end none (subst (λ (g : Formula). IsEndOf g budget end) same (ends end n found))

    pub answer-shows : {E : Type 0} (answer : Result Trial E) → IsNetwork N → IsFormula f → (Asked : ℕ → Type 0)
        → IfOk answer (λ t. IfEnded t (λ end. (n : ℕ) × EndsAfter f budget end n × Asked n)) → IfOk answer (λ t. IfEnded t (Shows N permit r))
    answer-shows (Ok (trial.Ended end)) network formed Asked (n, found, asked) = verdict-shows network budget end (subst IsFormula same formed) (moved end n found)
    answer-shows (Ok trial.Stopped) network formed Asked given = tt
    answer-shows (Err e) network formed Asked given = tt
