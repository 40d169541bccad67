-- The look before an index is tried, and those of the search of its verdict, make up for its result.
use Rattle.std.proofs.Common.{◌≡◌, ℕ, ◌+◌, [], ◌∷◌, Some, refl, sym, subst, arith}
use Rattle.std.specs.Prelude.{slice_get}
use Rattle.bx_grid.specs.declared.ratio.Ratio.{Ratio}
use Rattle.bx_layout.specs.Permits.{test_of}
use Rattle.bx_verdict.specs.Verdicts.{Asks, IsVerdict}
use Rattle.bx_verdict.specs.declared.verdict.Ended.{Ended as Verdict}
use Rattle.bx_verdict.specs.declared.verdict.Ended.TheVariants as verdict
use Rattle.bx_workers.specs.Results.{ended_of}
use Rattle.bx_workers.specs.Working.{due_for, LookedFor}
use Rattle.bx_workers.specs.declared.problem.Problem.{Problem}
use Rattle.bx_workers.specs.declared.results.Ended.{Ended}

known-due : (due : ℕ → ℕ) (k : ℕ) (v : Verdict) → due_for due (record { index = k; ended = ended_of v }) ≡ due k
known-due due k (verdict.Refuted proof) = refl
known-due due k (verdict.Found bits) = refl
known-due due k (verdict.Undecided spent) = refl

pub looked-for : (p : Problem) (k n before after : ℕ) (r : Ratio) (v : Verdict) (e : Ended) → slice_get p.ratios.now k ≡ Some r → IsVerdict p.net.now (test_of p.permit.now) r p.budget v
    → Asks p.net.now (test_of p.permit.now) r p.budget v n → e ≡ ended_of v → after ≡ before + 1 + n → LookedFor p (record { index = k; ended = e } ∷ []) before after
looked-for p k n before after r v e at is asks same total = λ due counts.
    let own : due k ≡ n + 1 = counts k (n + 1) (record { end = v; ratio = r; asked = n; at = at; is = is; asks = asks; count = refl }) in
    let one : due_for due (record { index = k; ended = e }) ≡ due k = subst (λ (x : Ended). due_for due (record { index = k; ended = x }) ≡ due k) (sym same) (known-due due k v) in
    omega (arith, own, one, total)
