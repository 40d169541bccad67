-- A budget that is enough: no learned clause but an empty one equals an earlier one, there are few clauses, and
-- each step costs little.
use Rattle.std.proofs.Common.{◌≡◌, ◌≢◌, ℕ, zero, suc, ◌+◌, ◌-◌, ◌*◌, ◌^◌, ◌<◌, ◌≤◌, inl, inr, ◌==◌, List, [], ◌∷◌, ◌++◌, length, get_or, map, reverse, Option, Some, None, slice_get, refl, sym, ◌∙◌, ap, subst, arith, length-append}
use Rattle.std.specs.Prelude.{Contains, nat_le, option_to_list}
use Rattle.std.proofs.Math.Nat.{mul-le-mul_right}
use Rattle.std.proofs.lemmas.Bool.{cases_eq, eq-eqb, eqb-true}
use Rattle.std.proofs.lemmas.Option.{slice_get-get_or}
use Rattle.std.proofs.lemmas.List.{length-map, length-reverse, map-append}
use Rattle.std.proofs.lemmas.List.Elements.{All-nil, All-contains}
use Rattle.bx_logic.specs.Lists.{AreDistinct}
use Rattle.bx_logic.proofs.Lists.{Some-same, all-push}
use Rattle.bx_logic.proofs.Members.{Member, Member-map, Member-map_cases, Member-append_cases, Member-append_right, Member-filter, Member-filter_cases, Contains-from_member, Member-from_contains, AllByRecursion-from_member}
use Rattle.bx_logic.proofs.Ordered.{Member-get_or}
use Rattle.bx_cnf.specs.Literals.{Literal, negated}
use Rattle.bx_cnf.specs.Formulas.{Formula, IsFormula, AscendAbove, IsClause}
use Rattle.bx_cnf.specs.Assignments.{IsFalse, IsActive}
use Rattle.bx_cnf.proofs.Propagation.{negated-negated}
use Rattle.bx_proof.specs.Steps.{Step}
use Rattle.bx_search.specs.declared.outcome.Outcome.{Outcome}
use Rattle.bx_search.specs.declared.outcome.Outcome.TheVariants.{Undecided}
use Rattle.bx_search.specs.States.{Assigned, State, clauses_of, literals_of, current_level}
use Rattle.bx_search.specs.Learning.{IsLearned, of_level, treated, treated_from, variables, reason_variables, is_marked, is_replaced, keeping, replacing}
use Rattle.bx_search.specs.Searching.{Goes, After, IsSearch, IsConflict, up_to, cost, enough}
use Rattle.bx_search.specs.Searching.Goes.{Propagates, Decides, Learns}
use Rattle.bx_search.proofs.Kept.{by_treatment, nothing_of_level_0}
use Rattle.bx_search.proofs.Rising.{rises-after, one_of_the_current_level}
use Rattle.bx_search.proofs.OneEnd.{above}
use Rattle.bx_search.proofs.Leading.{kept-within, in-clause}
use Rattle.bx_search.proofs.Following.{from-reversed, backed-after}
use Rattle.bx_search.proofs.Accepting.{within-after, learned-within}
use Rattle.bx_search.proofs.Walking.{apart-backed}
use Rattle.bx_search.proofs.Tallies.{Apart}
use Rattle.bx_search.proofs.Ends.{short-after}
use Rattle.bx_search.proofs.Codes.{few-clauses}
use Rattle.bx_search.proofs.QuietBelow.{le-true, rises-top, not-yet, quiet_below-after}

-- ---- a learned clause is active one level below the conflict

-- a literal stands at one place of literals that ascend
one-place : (low : ℕ) (ls : List Literal) (i j : ℕ) (l : Literal) → AscendAbove low ls → slice_get ls i ≡ Some l → slice_get ls j ≡ Some l → i ≡ j
one-place low [] i j l a at too = absurd (none l at) where
  none : (x : Literal) → None ≡ Some x → ⊥
  none x e = cc
one-place low (m ∷ ls) zero zero l a at too = refl
one-place low (m ∷ ls) zero (suc j) l a at too =
    let behind = above m.var ls l a.1 (in-clause ls j l too) in
    absurd (omega (arith, behind, ap (λ (x : Literal). x.var) (Some-same m l at)))
one-place low (m ∷ ls) (suc i) zero l a at too =
    let behind = above m.var ls l a.1 (in-clause ls i l at) in
    absurd (omega (arith, behind, ap (λ (x : Literal). x.var) (Some-same m l too)))
one-place low (m ∷ ls) (suc i) (suc j) l a at too = ap suc (one-place m.var ls i j l a.1 at too)

module _ (clauses : List (List Literal)) (trail : List Assigned) (id : ℕ) (step : Step) (learns : IsLearned clauses trail id step) where
  -- the entry that a literal of the step negates
  entry-of : (l : Literal) → Member l step.literals → (a : Assigned) × Member a (treated_from clauses trail id).kept × (negated a.literal ≡ l)
  entry-of l h = Member-map_cases (λ (z : Assigned). negated z.literal) l (treated_from clauses trail id).kept
      (Member-from_contains l (map (λ (z : Assigned). negated z.literal) (treated_from clauses trail id).kept) ((learns.kept l).0 (Contains-from_member l step.literals h)))

  literal-of : (a : Assigned) → Member a (treated_from clauses trail id).kept → Member (negated a.literal) step.literals
  literal-of a h = Member-from_contains (negated a.literal) step.literals ((learns.kept (negated a.literal)).1
      (Contains-from_member (negated a.literal) (map (λ (z : Assigned). negated z.literal) (treated_from clauses trail id).kept) (Member-map (λ (z : Assigned). negated z.literal) a (treated_from clauses trail id).kept h)))

  on-trail : (a : Assigned) → Member a (treated_from clauses trail id).kept → Member a trail
  on-trail a h = from-reversed trail a (kept-within clauses (current_level trail) (variables clauses id) (reverse trail) a h)

  -- the negation of an entry is false where the entry stands
  fails-low : (level : ℕ) (a : Assigned) (l : Literal) → Member a (treated_from clauses trail id).kept → negated a.literal ≡ l → a.level ≤ level → IsFalse (literals_of (up_to level trail)) l
  fails-low level a l keeps is low =
      let stands : Member a (up_to level trail) = Member-filter (λ (z : Assigned). nat_le z.level level) a trail (le-true a.level level low) (on-trail a keeps) in
      let same : a.literal ≡ negated l = sym (negated-negated a.literal) ∙ ap negated is in
      Contains-from_member (negated l) (literals_of (up_to level trail)) (subst (λ (x : Literal). Member x (literals_of (up_to level trail))) same (Member-map (λ (z : Assigned). z.literal) a (up_to level trail) stands))

  module _ (apart : Apart (reverse trail)) (top : (a : Assigned) → Member a trail → a.level ≤ current_level trail) (level : ℕ) (next : level + 1 ≡ current_level trail) where
    -- where nothing of the current level is kept, the clause is false
    none-left : of_level (current_level trail) (treated_from clauses trail id).kept ≡ [] → IsActive (literals_of (up_to level trail)) step.literals
    none-left none = inl (λ k d below. fails (get_or step.literals k d) (Member-get_or step.literals k d below)) where
      fails : (l : Literal) → Member l step.literals → IsFalse (literals_of (up_to level trail)) l
      fails l h =
          let (a, keeps, is) = entry-of l h in
          elim (cases_eq a.level (current_level trail)) [
            | inl same ↦ absurd (subst (Member a) none (Member-filter (λ (z : Assigned). z.level == current_level trail) a (treated_from clauses trail id).kept (eq-eqb a.level (current_level trail) same) keeps))
            | inr other ↦ fails-low level a l keeps is (omega (arith, top a (on-trail a keeps), other, next))
          ]

    -- where one is, the clause is unit
    one-left : (b : Assigned) → of_level (current_level trail) (treated_from clauses trail id).kept ≡ b ∷ [] → IsActive (literals_of (up_to level trail)) step.literals
    one-left b one =
        let (in_kept, is_level) = Member-filter_cases (λ (z : Assigned). z.level == current_level trail) b (treated_from clauses trail id).kept (subst (Member b) (sym one) (inl refl)) in
        let high : b.level ≡ current_level trail = eqb-true b.level (current_level trail) is_level in
        let (place, below, at) = Contains-from_member (negated b.literal) step.literals (literal-of b in_kept) in
        let stands : slice_get step.literals place ≡ Some (negated b.literal) = slice_get-get_or step.literals place (negated b.literal) below ∙ ap Some at in
        let free : (l : Literal) → l.var ≡ b.literal.var → Contains (literals_of (up_to level trail)) l → ⊥ = λ l. not-yet level trail b l apart (on-trail b in_kept) (omega (arith, high, next)) in
        inr (
          negated b.literal,
          (
            record {
              place = place;
              stands = stands;
              this = free (negated (negated b.literal)) refl;
              others = λ k m is other.
                  let (a, keeps, negates) = entry-of m (in-clause step.literals k m is) in
                  elim (cases_eq a.level (current_level trail)) [
                    | inl same ↦ absurd (other (one-place 0 step.literals k place (negated b.literal) learns.ascending (is ∙ ap Some (sym negates ∙ ap (λ (z : Assigned). negated z.literal) (only a keeps same))) stands))
                    | inr less ↦ fails-low level a m keeps negates (omega (arith, top a (on-trail a keeps), less, next))
                  ];
            },
            (free (negated b.literal) refl, free (negated (negated b.literal)) refl),
          ),
        ) where
          only : (a : Assigned) → Member a (treated_from clauses trail id).kept → a.level ≡ current_level trail → a ≡ b
          only a keeps same = elim (subst (Member a) one (Member-filter (λ (z : Assigned). z.level == current_level trail) a (treated_from clauses trail id).kept (eq-eqb a.level (current_level trail) same) keeps)) [
            | inl e ↦ sym e
            | inr none ↦ absurd none
          ]

    active-below : length (of_level (current_level trail) (treated_from clauses trail id).kept) ≤ 1 → IsActive (literals_of (up_to level trail)) step.literals
    active-below few = cases (of_level (current_level trail) (treated_from clauses trail id).kept) refl few where
      cases : (those : List Assigned) → of_level (current_level trail) (treated_from clauses trail id).kept ≡ those → length those ≤ 1 → IsActive (literals_of (up_to level trail)) step.literals
      cases [] is few = none-left is
      cases (b ∷ []) is few = one-left b is
      cases (b ∷ c ∷ those) is few = absurd (omega (arith, few))

  -- where the clause isn't empty the conflict is above level 0
  above-0 : ((a : Assigned) → Member a trail → a.level ≤ current_level trail) → step.literals ≢ [] → 0 < current_level trail
  above-0 top some = cases step.literals refl where
    cases : (ls : List Literal) → step.literals ≡ ls → 0 < current_level trail
    cases [] is = absurd (some is)
    cases (l ∷ ls) is =
        let (a, keeps, negates) = entry-of l (subst (Member l) (sym is) (inl refl)) in
        let low = All-contains (λ (z : Assigned). 0 < z.level) (treated_from clauses trail id).kept a (nothing_of_level_0 clauses trail id) (Contains-from_member a (treated_from clauses trail id).kept keeps) in
        omega (arith, low, top a (on-trail a keeps))

-- a learned clause that isn't empty is none of those before it
pub learned-new : (formula : Formula) (budget events : ℕ) (s : State) (id : ℕ) (step : Step) → After formula budget events s → IsConflict formula s id step → step.literals ≢ []
    → Contains (clauses_of formula s) step.literals → ⊥
learned-new formula budget events s id step after conflict some has =
    let level : ℕ = current_level s.trail - 1 in
    let top : (a : Assigned) → Member a s.trail → a.level ≤ current_level s.trail = λ a h. rises-top 0 s.trail a (rises-after formula budget events s after) h in
    let positive = above-0 (clauses_of formula s) s.trail id step conflict.learned top some in
    let active : IsActive (literals_of (up_to level s.trail)) step.literals =
    active-below (clauses_of formula s) s.trail id step conflict.learned (apart-backed (clauses_of formula s) (reverse s.trail) (backed-after formula budget events s after)) top level
    (omega (arith, positive)) (one_of_the_current_level formula budget events s id after) in
    All-contains (λ (c : List Literal). IsActive (literals_of (up_to level s.trail)) c → ⊥) (clauses_of formula s) step.literals
    (quiet_below-after formula budget events s after level (omega (arith, positive))) has active

-- ---- what a step costs

reasons-few : (clauses : List (List Literal)) (current : ℕ) (marked : List ℕ) (trail : List Assigned) → length (treated clauses current marked trail).reasons ≤ length trail
reasons-few clauses current marked [] = omega arith
reasons-few clauses current marked (a ∷ before) =
    by_treatment (λ t. length t.reasons ≤ length (a ∷ before)) (is_marked marked a) (is_replaced current marked before a)
    (replacing a (treated clauses current (marked ++ reason_variables clauses a.reason) before)) (keeping a (treated clauses current marked before)) (treated clauses current marked before)
    (λ m r. omega (arith, one a.reason, length-append (treated clauses current (marked ++ reason_variables clauses a.reason) before).reasons (option_to_list a.reason), reasons-few clauses current (marked ++ reason_variables clauses a.reason) before))
    (λ m r. omega (arith, reasons-few clauses current marked before))
    (λ m. omega (arith, reasons-few clauses current marked before))
  where
    one : (r : Option ℕ) → length (option_to_list r) ≤ 1
    one None = omega arith
    one (Some id) = omega arith

ascending-few : (vars low : ℕ) (ls : List Literal) → low ≤ vars → AscendAbove low ls → ((l : Literal) → Member l ls → l.var ≤ vars) → low + length ls ≤ vars
ascending-few vars low [] l a within = omega (arith, l)
ascending-few vars low (m ∷ ls) l a within = omega (arith, a.0, ascending-few vars m.var ls (within m (inl refl)) a.1 (λ x h. within x (inr h)))

pub step-cheap : (formula : Formula) (budget events : ℕ) (s : State) (id : ℕ) (step : Step) → IsFormula formula → After formula budget events s → IsConflict formula s id step
    → cost step ≤ 2 * formula.vars + 1
step-cheap formula budget events s id step formed after conflict =
    let clauses : List (List Literal) = clauses_of formula s in
    let within = learned-within clauses formula.vars s.trail id step conflict.learned (within-after formula budget events s formed after).trail in
    let literals = ascending-few formula.vars 0 step.literals (omega arith) conflict.learned.ascending within in
    let reasons = reasons-few clauses (current_level s.trail) (variables clauses id) (reverse s.trail) in
    let hints = ap (λ (hs : List ℕ). length hs) conflict.learned.hints in
    let size = length-append (treated_from clauses s.trail id).reasons (id ∷ []) in
    omega (arith, literals, reasons, hints, size, length-reverse s.trail, short-after formula budget events s formed after)

-- ---- few steps, and each is cheap

-- the clauses of steps
abbrev pub learned_by : List Step → List (List Literal)
learned_by steps = map (λ (x : Step). x.literals) steps

pub record AreFew (formula : Formula) (s : State) : Type 0 where
  pub distinct : AreDistinct (learned_by s.steps)
  pub each : (step : Step) → Member step s.steps → IsClause formula.vars step.literals
  pub spent : s.spent ≤ length s.steps * (2 * formula.vars + 1)

distinct-push : (xs : List (List Literal)) (y : List Literal) → AreDistinct xs → (Member y xs → ⊥) → AreDistinct (xs ++ y ∷ [])
distinct-push [] y d new = (tt, tt)
distinct-push (x ∷ xs) y d new = (
  all-push (λ z. z ≢ x) xs y d.0 (λ e. new (inl (sym e))),
  distinct-push xs y d.1 (λ h. new (inr h)),
)

-- one step more
few-more : (formula : Formula) (budget events : ℕ) (s : State) (id : ℕ) (step : Step) → IsFormula formula → After formula budget events s → IsConflict formula s id step
    → (Member step.literals (learned_by s.steps) → ⊥) → AreFew formula s → AreFew formula (record s { steps = s.steps ++ step ∷ []; spent = s.spent + cost step })
few-more formula budget events s id step formed after conflict new few = record {
  distinct = subst AreDistinct (sym (map-append (λ (x : Step). x.literals) s.steps (step ∷ []))) (distinct-push (learned_by s.steps) step.literals few.distinct new);
  each = λ other h. elim (Member-append_cases other s.steps (step ∷ []) h) [
    | inl on ↦ few.each other on
    | inr last ↦ elim last [ inl e ↦ subst (λ (x : Step). IsClause formula.vars x.literals) e clause | inr none ↦ absurd none ]
  ];
  spent =
      let size : length (s.steps ++ step ∷ []) ≡ length s.steps + 1 = length-append s.steps (step ∷ []) in
      let grown = more (length (s.steps ++ step ∷ [])) (length s.steps) (2 * formula.vars + 1) size in
      omega (arith, few.spent, step-cheap formula budget events s id step formed after conflict, grown);
} where
  more : (m n k : ℕ) → m ≡ n + 1 → m * k ≡ n * k + k
  more m n k e = let one : (n + 1) * k ≡ n * k + k = omega arith in ap (λ x. x * k) e ∙ one

  clause : IsClause formula.vars step.literals
  clause = record {
    ascending = conflict.learned.ascending;
    within = λ k d below. learned-within (clauses_of formula s) formula.vars s.trail id step conflict.learned (within-after formula budget events s formed after).trail
        (get_or step.literals k d) (Member-get_or step.literals k d below);
  }

new-step : (formula : Formula) (budget events : ℕ) (s : State) (id : ℕ) (step : Step) → After formula budget events s → IsConflict formula s id step → step.literals ≢ []
    → Member step.literals (learned_by s.steps) → ⊥
new-step formula budget events s id step after conflict some h =
    learned-new formula budget events s id step after conflict some
    (Contains-from_member step.literals (clauses_of formula s) (Member-append_right step.literals formula.clauses (learned_by s.steps) h))

few-goes : (formula : Formula) (budget events : ℕ) (s t : State) → IsFormula formula → After formula budget events s → Goes formula budget s t → AreFew formula s → AreFew formula t
few-goes formula budget events s t formed after (Propagates id l least next) few = subst (AreFew formula) (sym next) (record { distinct = few.distinct; each = few.each; spent = few.spent })
few-goes formula budget events s t formed after (Decides var quiet first next) few = subst (AreFew formula) (sym next) (record { distinct = few.distinct; each = few.each; spent = few.spent })
few-goes formula budget events s t formed after (Learns id step conflict within some next) few =
    let more = few-more formula budget events s id step formed after conflict (new-step formula budget events s id step after conflict some) few in
    subst (AreFew formula) (sym next) (record { distinct = more.distinct; each = more.each; spent = more.spent })

pub few-after : (formula : Formula) (budget events : ℕ) (s : State) → IsFormula formula → After formula budget events s → AreFew formula s
few-after formula budget zero s formed is = subst (AreFew formula) (sym is) (record { distinct = tt; each = λ step h. absurd h; spent = omega arith })
few-after formula budget (suc events) s formed (before, after, goes) = few-goes formula budget events before s formed after goes (few-after formula budget events before formed after)

-- the learned clauses, and the empty one, are different clauses over the variables
pub steps-few : (formula : Formula) (budget events : ℕ) (s : State) → IsFormula formula → After formula budget events s → length s.steps < 3 ^ formula.vars
steps-few formula budget events s formed after =
    let few : AreFew formula s = few-after formula budget events s formed after in
    let low = few-clauses formula.vars ([] ∷ learned_by s.steps) clause (AllByRecursion-from_member (λ (c : List Literal). c ≢ []) (learned_by s.steps) some, few.distinct) in
    omega (arith, low, length-map s.steps (λ (x : Step). x.literals))
  where
    clause : (c : List Literal) → Member c ([] ∷ learned_by s.steps) → IsClause formula.vars c
    clause c (inl e) = subst (IsClause formula.vars) e (record { ascending = tt; within = All-nil (λ (l : Literal). l.var ≤ formula.vars) })
    clause c (inr h) =
        let (step, on, is) = Member-map_cases (λ (x : Step). x.literals) c s.steps h in
        subst (IsClause formula.vars) is ((few-after formula budget events s formed after).each step on)

    some : (c : List Literal) → Member c (learned_by s.steps) → c ≢ []
    some c h none =
        let (step, on, is) = Member-map_cases (λ (x : Step). x.literals) c s.steps h in
        (within-after formula budget events s formed after).some step on (is ∙ none)

pub search-few : (formula : Formula) (budget count : ℕ) (end : Outcome) → IsFormula formula → IsSearch formula budget end count → count < 3 ^ formula.vars
search-few formula budget count end formed found = omega (arith, found.count, steps-few formula budget found.events found.last formed found.after)

-- a budget that pays for each of them is never passed
pub decided-within : (formula : Formula) (budget count spent : ℕ) → IsFormula formula → enough formula.vars ≤ budget → IsSearch formula budget (Undecided spent) count → ⊥
decided-within formula budget count spent formed pays found =
    let (id, step, conflict, beyond, is) = found.ends in
    let s : State = found.last in
    let price : ℕ = 2 * formula.vars + 1 in
    let few = few-after formula budget found.events s formed found.after in
    let cheap = step-cheap formula budget found.events s id step formed found.after conflict in
    let fits : (length s.steps + 1) * price ≤ 3 ^ formula.vars * price =
    mul-le-mul_right price (omega (arith, steps-few formula budget found.events s formed found.after)) in
    let last : (length s.steps + 1) * price ≡ length s.steps * price + price = omega arith in
    omega (arith, beyond, few.spent, cheap, fits, last, pays)
