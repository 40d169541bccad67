-- A step of the search for components: what is still to come stays among the nets, and grows less.
use Rattle.std.proofs.Common.{◌≡◌, ℕ, ◌+◌, ◌<◌, Bool, false, true, List, [], ◌∷◌, ◌++◌, length, map, get_or, set, ap, sym, subst, arith, refl, ◌∙◌, Some}
use Rattle.std.specs.List.{All, Contains, range_with_len}
use Rattle.std.proofs.lemmas.List.FromFn.{length-map-range_with_len, get_or-map-range_with_len}
use Rattle.std.specs.Prelude.{IsTrue, Option, None, unwrap_or, min, ◌≤◌, ◌⊎◌}
use Rattle.std.proofs.Common.{inl, inr, take}
use Rattle.std.proofs.lemmas.Bool.{cases_Bool, cases_lt}
use Rattle.std.proofs.lemmas.List.{length-append, length-map, take_more}
use Rattle.std.proofs.lemmas.List.Elements.{All-from_get_or, All-append, All-cons, All-map, All-pop, Contains-append_left, Contains-push, Contains-push_cases}
use Rattle.bx_logic.specs.declared.driver.Driver.{Driver}
use Rattle.bx_logic.specs.declared.components.Step.{Step}
use Rattle.bx_logic.specs.declared.components.Step.TheVariants.{Enter, Leave}
use Rattle.bx_logic.specs.Nets.{arguments_of, driver_at}
use Rattle.bx_logic.specs.Components.{net_of, place_of, was_seen, AreSteps, IsLowestPlace}
use Rattle.bx_logic.proofs.Cycles.{unseen_cost, unseen_cost-falls}

pub steps-entered : (nets : ℕ) (rest after : List Step) (n : ℕ) (args : List ℕ) → after ≡ rest ++ (Leave n ∷ map Enter args) → n < nets →
    All (λ m. m < nets) args → AreSteps nets rest → AreSteps nets after
steps-entered nets rest after n args is_after h all steps =
    subst (λ (xs : List Step). AreSteps nets xs) (sym is_after)
    (All-append (λ (s : Step). net_of s < nets) rest (Leave n ∷ map Enter args) steps
    (All-cons (λ (s : Step). net_of s < nets) (Leave n) (map Enter args) h (All-map (λ (s : Step). net_of s < nets) Enter args all)))

-- entering a net leaves less to do: it is new, or a step less is left
pub steps-less : (drivers : List Driver) (seen seen' : List Bool) (steps rest after : List Step) (s : Step) (n : ℕ) (args : List ℕ) →
    steps ≡ rest ++ s ∷ [] → args ≡ arguments_of (driver_at drivers n) → n < length seen → n < length drivers →
    (IsTrue (was_seen seen n) → (seen' ≡ seen) × (after ≡ rest)) → (was_seen seen n ≡ false → seen' ≡ set seen n true) →
    (was_seen seen n ≡ false → after ≡ rest ++ (Leave n ∷ map Enter args)) →
    length after + unseen_cost (λ t. t) seen' drivers < length steps + unseen_cost (λ t. t) seen drivers
steps-less drivers seen seen' steps rest after s n args is_steps is_args l h again seen_is after_is =
    elim (cases_Bool (was_seen seen n)) [
      | inl t ↦
          let kept = again t in
          rw (is_steps, kept.0, kept.1, length-append) (omega arith)
      | inr f ↦
          let less = unseen_cost-falls (λ t. t) seen drivers n true false l h f refl in
          let same = ap length is_args in
          rw (is_steps, seen_is f, after_is f, length-append, length-append, length-map) (omega (arith, less, same))
    ]

-- the last step is of a net too
pub steps-popped : (nets : ℕ) (steps rest : List Step) (s : Step) → steps ≡ rest ++ s ∷ [] → AreSteps nets steps → AreSteps nets rest × (net_of s < nets)
steps-popped nets steps rest s e all = All-pop (λ (t : Step). net_of t < nets) steps rest (Some s) e all

lowest-is : (o : Option ℕ) (low next : ℕ) → next ≡ min low (unwrap_or o low) →
    (next ≤ low) × ((p : ℕ) → o ≡ Some p → next ≤ p) × ((next ≡ low) ⊎ (o ≡ Some next))
lowest-is None low next e = (omega (arith, e), λ p f. cc, inl (omega (arith, e)))
lowest-is (Some q) low next e = (
  omega (arith, e),
  λ p f. let same : q ≡ p = cc in omega (arith, e),
  elim (cases_lt q low) [ inl h ↦ inr (let same : q ≡ next = omega (arith, e) in ap Some same) | inr h ↦ inl (omega (arith, e)) ],
)

-- one net more
pub lowest-more : (places : List (Option ℕ)) (nets : List ℕ) (i place low next : ℕ) → i < length nets →
    next ≡ min low (unwrap_or (place_of places (get_or nets i 0)) low) → IsLowestPlace places (take i nets) place low →
    IsLowestPlace places (take (i + 1) nets) place next
lowest-more places nets i place low next h e is =
    let n = get_or nets i 0 in
    let more : take (i + 1) nets ≡ take i nets ++ n ∷ [] = take_more nets i 0 h in
    let step = lowest-is (place_of places n) low next e in
    record {
      at_most = omega (arith, step.0, is.at_most);
      below = λ m p c f. elim (Contains-push_cases (take i nets) n m (subst (λ (xs : List ℕ). Contains xs m) more c)) [
        | inl old ↦ let a = is.below m p old f in omega (arith, a, step.0)
        | inr same ↦ step.1 p (ap (place_of places) same ∙ f)
      ];
      attained = elim step.2 [
        | inl kept ↦ elim is.attained [
          | inl start ↦ inl (kept ∙ start)
          | inr at ↦ inr (at.0, subst (λ (xs : List ℕ). Contains xs at.0) (sym more) (Contains-append_left (take i nets) (n ∷ []) at.0 at.1), at.2 ∙ ap Some (sym kept))
        ]
        | inr new ↦ inr (n, subst (λ (xs : List ℕ). Contains xs n) (sym more) (Contains-push (take i nets) n), new)
      ];
    }

pub steps-begun : (nets : ℕ) (steps : List Step) → steps ≡ map Enter (range_with_len 0 nets) → AreSteps nets steps
steps-begun nets steps e =
    subst (λ (xs : List Step). AreSteps nets xs) (sym e)
    (All-from_get_or (λ (s : Step). net_of s < nets) (map Enter (range_with_len 0 nets)) (Enter 0)
    (λ i h. let l = length-map-range_with_len Enter 0 nets in let below : i < nets = omega (arith, h, l) in
    subst (λ (s : Step). net_of s < nets) (sym (get_or-map-range_with_len Enter 0 nets i i (Enter 0) below (omega arith))) below))
