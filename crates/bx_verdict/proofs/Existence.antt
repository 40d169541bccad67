-- A ratio of which it is known whether a count refutes it has a verdict, and so are ratios in order settled.
use Rattle.std.proofs.Common.{◌≡◌, ℕ, zero, suc, List, [], ◌∷◌, Option, Some, None, inl, inr, refl, ap, subst}
use Rattle.std.proofs.lemmas.Option.{same_Some, none-some}
use Rattle.std.specs.Prelude.{slice_get}
use Rattle.bx_bounds.specs.Precedes.{IsFirst}
use Rattle.bx_bounds.specs.Refutes.{Refutes}
use Rattle.bx_cnf.specs.Formulas.{IsFormula}
use Rattle.bx_encode.specs.Formula.{formula}
use Rattle.bx_grid.specs.declared.count.CountProof.{CountProof}
use Rattle.bx_grid.specs.declared.ratio.Ratio.{Ratio}
use Rattle.bx_layout.specs.Permits.{PermitTest}
use Rattle.bx_logic.proofs.Members.{Member}
use Rattle.bx_network.specs.Networks.{Network}
use Rattle.bx_proof.specs.declared.refutation.Refutation.{Refutation}
use Rattle.bx_proof.specs.declared.refutation.Refutation.TheVariants.{Count, Clauses}
use Rattle.bx_search.proofs.Ends.{search-ends}
use Rattle.bx_search.specs.Searching.{IsSearch}
use Rattle.bx_search.specs.declared.outcome.Outcome.{Outcome}
use Rattle.bx_search.specs.declared.outcome.Outcome.TheVariants as outcome
use Rattle.bx_verdict.specs.Verdicts.{IsVerdict}
use Rattle.bx_verdict.specs.Settling.{HasVerdict, AreSettled, IsLastAt}
use Rattle.bx_verdict.specs.declared.settled.Last.{Last}
use Rattle.bx_verdict.specs.declared.settled.Last.TheVariants.{Found, Undecided, NoneWithin}
use Rattle.bx_verdict.specs.declared.verdict.Ended.{Ended}
use Rattle.bx_verdict.specs.declared.verdict.Ended.TheVariants as ended

module _ (N : Network) (permit : PermitTest) (budget : ℕ) where
  pub some-verdict : (r : Ratio) (first : Option CountProof) → IsFirst (Refutes N r) first → IsFormula (formula N permit r) → (end : Ended) × IsVerdict N permit r budget end
  some-verdict r (Some c) first formed = (ended.Refuted (Count c), first)
  some-verdict r None none formed = let (end, learned, search) = search-ends (formula N permit r) budget formed in by end learned search where
    by : (end : Outcome) (learned : ℕ) → IsSearch (formula N permit r) budget end learned → (e : Ended) × IsVerdict N permit r budget e
    by (outcome.Sat bits) learned search = (ended.Found bits, (none, (learned, search)))
    by (outcome.Unsat steps) learned search = (ended.Refuted (Clauses steps), (none, (learned, search)))
    by (outcome.Undecided spent) learned search = (ended.Undecided spent, (none, (learned, search)))
    by outcome.Stopped learned search = absurd search.ends

  -- ---- ratios in order

  behind : (r : Ratio) (ratios : List Ratio) (k : ℕ) (end : Ended) → HasVerdict N permit budget ratios k end → HasVerdict N permit budget (r ∷ ratios) (suc k) end
  behind r ratios k end has = record { ratio = has.ratio; at = has.at; is = has.is }

  last-behind : (r : Ratio) (ratios : List Ratio) (k : ℕ) (last : Last) → IsLastAt N permit budget ratios k last → IsLastAt N permit budget (r ∷ ratios) (suc k) last
  last-behind r ratios k (Found bits) is = behind r ratios k (ended.Found bits) is
  last-behind r ratios k (Undecided spent) is = behind r ratios k (ended.Undecided spent) is
  last-behind r ratios k NoneWithin is = ap suc is

  abbrev AreSome : List Ratio → Type 0
  AreSome ratios = (proofs : List Refutation) × (last : Last) × AreSettled N permit budget ratios proofs last

  at-once : (r : Ratio) (ratios : List Ratio) (last : Last) → IsLastAt N permit budget (r ∷ ratios) 0 last → AreSome (r ∷ ratios)
  at-once r ratios last is = ([], last, record { refuted = λ k p at. absurd (none-some p at); last_at = is })

  later : (r : Ratio) (ratios : List Ratio) (p : Refutation) → IsVerdict N permit r budget (ended.Refuted p) → AreSome ratios → AreSome (r ∷ ratios)
  later r ratios p verdict (proofs, last, settled) = (p ∷ proofs, last, record { refuted = each; last_at = last-behind r ratios _ last settled.last_at }) where
    each : (k : ℕ) (q : Refutation) → slice_get (p ∷ proofs) k ≡ Some q → HasVerdict N permit budget (r ∷ ratios) k (ended.Refuted q)
    each zero q at = record { ratio = r; at = refl; is = subst (λ (x : Refutation). IsVerdict N permit r budget (ended.Refuted x)) (same_Some p q at) verdict }
    each (suc k) q at = behind r ratios k (ended.Refuted q) (settled.refuted k q at)

  next : (r : Ratio) (ratios : List Ratio) (end : Ended) → IsVerdict N permit r budget end → AreSome ratios → AreSome (r ∷ ratios)
  next r ratios (ended.Refuted p) verdict rest = later r ratios p verdict rest
  next r ratios (ended.Found bits) verdict rest = at-once r ratios (Found bits) (record { ratio = r; at = refl; is = verdict })
  next r ratios (ended.Undecided spent) verdict rest = at-once r ratios (Undecided spent) (record { ratio = r; at = refl; is = verdict })

  pub some-settled : (ratios : List Ratio) → ((r : Ratio) → Member r ratios → (end : Ended) × IsVerdict N permit r budget end) → AreSome ratios
  some-settled [] each = ([], NoneWithin, record { refuted = λ k p at. absurd (none-some p at); last_at = refl })
  some-settled (r ∷ ratios) each =
      let own = each r (inl refl) in
      next r ratios own.0 own.1 (some-settled ratios (λ q on. each q (inr on)))
