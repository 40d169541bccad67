-- Permits that allow the same of the table's forms: their formulas are the same, and so are their verdicts and
-- solutions, and the layouts that are legal under them.
use Rattle.std.proofs.Common.{◌≡◌, ℕ, ◌<◌, Bool, not, List, [], ◌∷◌, ◌++◌, length, filter, Option, inl, inr, refl, ap, ap₂, subst, cond}
use Rattle.std.specs.List.{range_with_len}
use Rattle.std.specs.Prelude.{flat_map}
use Rattle.bx_logic.proofs.Members.{Member, Contains-from_member}
use Rattle.bx_cert.specs.Certs.{Certificate}
use Rattle.bx_cnf.specs.Formulas.{Formula}
use Rattle.bx_encode.specs.Families.{Clause, tiles, bars, is_permitted}
use Rattle.bx_encode.specs.Formula.{formula, place_clauses, border_clauses, way_clauses}
use Rattle.bx_encode.specs.Variables.{variable_count}
use Rattle.bx_encode.proofs.Truths.{range-within}
use Rattle.bx_forms.specs.declared.table.TheConstants.{FORMS}
use Rattle.bx_grid.specs.Orders.{order}
use Rattle.bx_grid.specs.declared.ratio.Limits.{Limits}
use Rattle.bx_grid.specs.declared.ratio.Ratio.{Ratio}
use Rattle.bx_layout.specs.Permits.{PermitTest}
use Rattle.bx_network.specs.Networks.{Network}
use Rattle.bx_proof.specs.declared.refutation.Refutation.TheVariants.{Count, Clauses}
use Rattle.bx_verdict.specs.Settling.{HasVerdict, IsLastAt}
use Rattle.bx_verdict.specs.Verdicts.{IsEndOf, IsVerdict}
use Rattle.bx_verdict.specs.declared.settled.Last.{Last}
use Rattle.bx_verdict.specs.declared.settled.Last.TheVariants as last
use Rattle.bx_verdict.specs.declared.verdict.Ended.{Ended}
use Rattle.bx_verdict.specs.declared.verdict.Ended.TheVariants.{Refuted, Found, Undecided}
use Rattle.bx_design.specs.declared.solution.LaidOut.{LaidOut}
use Rattle.bx_design.specs.Solutions.{IsSolution}

-- the permits allow the same of the table's forms
abbrev pub Agree : PermitTest → PermitTest → Type 0
Agree permit other = (r : Ratio) (t form : ℕ) → form < length FORMS → permit r t form ≡ other r t form

flat-same : {X Y : Type 0} (f g : X → List Y) (xs : List X) → ((x : X) → f x ≡ g x) → flat_map f xs ≡ flat_map g xs
flat-same f g [] same = refl
flat-same {X} {Y} f g (x ∷ xs) same = ap₂ (λ (ys zs : List Y). ys ++ zs) (same x) (flat-same f g xs same)

filter-same : {X : Type 0} (p q : X → Bool) (xs : List X) → ((x : X) → Member x xs → p x ≡ q x) → filter p xs ≡ filter q xs
filter-same p q [] same = refl
filter-same {X} p q (x ∷ xs) same = ap₂ (λ (b : Bool) (ys : List X). cond b (x ∷ ys) ys) (same x (inl refl)) (filter-same p q xs (λ y on. same y (inr on)))

module _ (N : Network) (permit other : PermitTest) (agree : Agree permit other) where
  permitted-same : (r : Ratio) → is_permitted N r permit ≡ is_permitted N r other
  unfolding is_permitted
  permitted-same r = flat-same (each permit) (each other) (tiles N r) (λ t. ap (flat_map (bars N r t)) (filter-same (bar permit t) (bar other t) (range_with_len 0 (length FORMS)) (λ form on. ap not (agree r t form (range-within (length FORMS) form (Contains-from_member form (range_with_len 0 (length FORMS)) on))))))
    where
      bar : PermitTest → ℕ → ℕ → Bool
      bar p t form = not (p r t form)

      each : PermitTest → ℕ → List Clause
      each p t = flat_map (bars N r t) (filter (bar p t) (range_with_len 0 (length FORMS)))

  pub formula-same : (r : Ratio) → formula N permit r ≡ formula N other r
  unfolding formula
  formula-same r = ap (λ (cs : List Clause). record { vars = variable_count N r; clauses = place_clauses N r ++ border_clauses N r ++ way_clauses N r ++ cs }) (permitted-same r)

  ended : (r : Ratio) (budget : ℕ) (verdict : Ended) → IsEndOf (formula N permit r) budget verdict → IsEndOf (formula N other r) budget verdict
  ended r budget verdict ends = subst (λ (f : Formula). IsEndOf f budget verdict) (formula-same r) ends

  verdict-same : (r : Ratio) (budget : ℕ) (verdict : Ended) → IsVerdict N permit r budget verdict → IsVerdict N other r budget verdict
  verdict-same r budget (Refuted (Count proof)) is = is
  verdict-same r budget (Refuted (Clauses steps)) is = (is.0, ended r budget (Refuted (Clauses steps)) is.1)
  verdict-same r budget (Found bits) is = (is.0, ended r budget (Found bits) is.1)
  verdict-same r budget (Undecided spent) is = (is.0, ended r budget (Undecided spent) is.1)

  has-same : (budget : ℕ) (ratios : List Ratio) (k : ℕ) (end : Ended) → HasVerdict N permit budget ratios k end → HasVerdict N other budget ratios k end
  has-same budget ratios k end has = record { ratio = has.ratio; at = has.at; is = verdict-same has.ratio budget end has.is }

  last-same : (budget : ℕ) (ratios : List Ratio) (k : ℕ) (last : Last) → IsLastAt N permit budget ratios k last → IsLastAt N other budget ratios k last
  last-same budget ratios k (last.Found bits) has = has-same budget ratios k (Found bits) has
  last-same budget ratios k (last.Undecided spent) has = has-same budget ratios k (Undecided spent) has
  last-same budget ratios k last.NoneWithin is = is

  pub solution-same : (limits : Limits) (budget : ℕ) (cert : Certificate) (found : Option LaidOut) → IsSolution N permit limits budget cert found → IsSolution N other limits budget cert found
  solution-same limits budget cert found is = record {
    proofs = is.proofs;
    last = is.last;
    settled = record {
      refuted = λ k proof at. has-same budget (order limits) k (Refuted proof) (is.settled.refuted k proof at);
      last_at = last-same budget (order limits) (length is.proofs) is.last is.settled.last_at;
    };
    tells = is.tells;
    certified = is.certified;
  }
