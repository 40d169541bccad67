-- Each step on a race's words keeps its rule.
use Rattle.std.proofs.Common.{◌≡◌, ◌⊎◌, ℕ, zero, suc, ◌+◌, ◌%◌, ◌^◌, ◌<◌, ◌≤◌, List, [], ◌∷◌, ◌++◌, map, set, length, length-set, inl, inr, refl, sym, ap, ◌∙◌, subst, arith}
use Rattle.std.specs.Prelude.{sum_by, min, None, Some, option_to_list}
use Rattle.std.specs.List.{AllByRecursion}
use Rattle.std.proofs.lemmas.Bool.{cases_lt}
use Rattle.std.proofs.lemmas.List.{map-set, map-append}
use Rattle.std.proofs.lemmas.List.Sums.{sum_by-cons, sum_by-append}
use mathlib.Core.Option.{some, none, some-injective, some-ne-none}
use lib.ListN.{get_elem?}
use Rattle.atomic_table.specs.Table.{Me, step, keeps, Allows, Splits, Joins}
use Rattle.atomic_table.proofs.Lists.{at_map, set_again, set_else}
use Rattle.bx_race.specs.declared.view.Draws.{Draws}
use Rattle.bx_race.specs.declared.view.View.{View}
use Rattle.bx_race.specs.declared.view.Course.{Course}
use Rattle.bx_race.specs.Draws.{times, indices, no_draws, claiming, looking}
use Rattle.bx_race.specs.Fair.{once_below, times_past, RespectsLeast, IsFair}
use Rattle.bx_race.specs.Rule.{claim_word, least_word, draws_of, spent, StandsFor, IsRaced, Rule, after_claim, after_offer, after_look, without_seat, one_seat, joint, claims, offers, looks, closes}
use Rattle.bx_race.proofs.Counts.{sum_by-set, at-le-sum_by, All-set, All-at, All-append, times-append}
use Rattle.bx_race.proofs.FairSteps.{times-indices, claim_is_fair, offer_is_fair, look_is_fair, dropping_respects, look_cases, once_below-in, once_below-out, claim_cases}

-- the words after a step
set_claim_word : (ws : List ℕ) (x : ℕ) → length ws ≡ 2 → claim_word (set ws 0 x) ≡ x
set_claim_word [] x two = absurd (omega arith)
set_claim_word (a ∷ ws) x two = refl

least_word_kept : (ws : List ℕ) (x : ℕ) → least_word (set ws 0 x) ≡ least_word ws
least_word_kept [] x = refl
least_word_kept (a ∷ ws) x = refl

set_least_word : (ws : List ℕ) (x : ℕ) → length ws ≡ 2 → least_word (set ws 1 x) ≡ x
set_least_word [] x two = absurd (omega arith)
set_least_word (a ∷ []) x two = absurd (omega arith)
set_least_word (a ∷ b ∷ ws) x two = refl

claim_word_kept : (ws : List ℕ) (x : ℕ) → claim_word (set ws 1 x) ≡ claim_word ws
claim_word_kept [] x = refl
claim_word_kept (a ∷ ws) x = refl

-- a view that stands for a seat isn't spent
pub stands_for : (n : ℕ) (v : View) → 1 ≤ v.stands → StandsFor n v ⊎ (v ≡ spent) → StandsFor n v
stands_for n v some_seat (inl s) = s
stands_for n v some_seat (inr is) = absurd (omega (arith, ap (λ u. u.stands) is))

module _ (c : Course) (words : List ℕ) (views : List View) (r : IsRaced c words views) (id : ℕ) (v : View) (at : get_elem? views id ≡ some v) (some_seat : 1 ≤ v.stands) where
  pub of_view : StandsFor c.n v
  of_view = stands_for c.n v some_seat (All-at (λ u. StandsFor c.n u ⊎ (u ≡ spent)) views id v r.each at)

  draws_at : get_elem? (map draws_of views) id ≡ some v.draws
  draws_at = at_map draws_of views id v at

  -- a step of one seat, which goes on standing for as many
  stepped : (next least : ℕ) (w : View) → w.stands ≡ v.stands → w.draws.past ≤ w.stands → w.n ≡ v.n → IsFair c.n next least (set (map draws_of views) id w.draws) → (now : List ℕ) → length now ≡ 2 → claim_word now ≡ next → least_word now ≡ least → IsRaced c now (set views id w)
  stepped next least w same past same_n f now two is_next is_least = record {
    two_words = two;
    fair = subst (λ ws. IsFair c.n (claim_word now) (least_word now) ws) (sym (map-set draws_of views id w))
        (subst (λ k. IsFair c.n k (least_word now) (set (map draws_of views) id w.draws)) (sym is_next)
        (subst (λ k. IsFair c.n next k (set (map draws_of views) id w.draws)) (sym is_least) f));
    each = All-set (λ u. StandsFor c.n u ⊎ (u ≡ spent)) views id w r.each (inl record { some_seat = omega arith; past = past; same_n = same_n ∙ of_view.same_n });
    all_seats = omega (arith, sum_by-set (λ u. u.stands) views id v w at, r.all_seats);
  }

past_within : (n : ℕ) (views : List View) → AllByRecursion (λ v. StandsFor n v ⊎ (v ≡ spent)) views → times_past (map draws_of views) ≤ sum_by (λ v. v.stands) views
past_within n [] each = omega arith
past_within n (v ∷ vs) each =
    let here : v.draws.past ≤ v.stands = elim each.0 [ inl s ↦ s.past | inr is ↦ omega (arith, ap (λ u. u.draws.past) is, ap (λ u. u.stands) is) ] in
    omega (arith, sum_by-cons (λ d. d.past) v.draws (map draws_of vs), sum_by-cons (λ u. u.stands) v vs, past_within n vs each.1)

-- the claim word is at most the number of indices and of seats
pub few_claims : (c : Course) (words : List ℕ) (views : List View) → IsRaced c words views → claim_word words ≤ c.n + c.seats
few_claims c words views r = omega (arith, r.fair.counted, past_within c.n views r.each, r.all_seats)

once_below-least : (n k i : ℕ) → once_below (min n k) i ≤ once_below n i
once_below-least n k i =
    elim (cases_lt i (min n k)) [
      | inl l ↦ omega (arith, once_below-in (min n k) i l, once_below-in n i (omega arith))
      | inr l ↦ omega (arith, once_below-out (min n k) i l)
    ]

pub claim_keeps : (c : Course) (slots id : ℕ) (me : Me (Unit {0}) View) → c.n + c.seats < 100000 → 1 ≤ me.0.stands → me.0.draws.past ≡ 0 → Allows (Rule c) slots id me 0 (λ x. (x + 1) % 2 ^ 64) (claims (step slots 0 1 0 none) me)
claim_keeps c slots id me small some_seat fresh_past s r sized at range =
    let v = me.0 in
    let x : ℕ = claim_word s.words in
    let bound : x ≤ c.n + c.seats = few_claims c s.words s.views r in
    let here = of_view c s.words s.views r id v at some_seat in
    let there = draws_at c s.words s.views r id v at some_seat in
    let same = here.same_n in
    let w = after_claim x v in
    let e = claiming c.n x v.draws in
    let is : w.draws ≡ e = ap (λ n. claiming n x v.draws) same in
    let f = claim_is_fair c.n x (least_word s.words) (map draws_of s.views) id v.draws r.fair there in
    let sum = λ (i : ℕ). sum_by-set (λ d. times i (indices d)) (map draws_of s.views) id v.draws e there in
    let one : w.draws.past ≤ w.stands = elim (claim_cases v.n x) [ inl (_, _, p) ↦ omega arith | inr (_, _, p) ↦ omega arith ] in (
      w,
      keeps,
      tt,
      stepped c s.words s.views r id v at some_seat (x + 1) (least_word s.words) w refl one refl
          (subst (λ d. IsFair c.n (x + 1) (least_word s.words) (set (map draws_of s.views) id d)) (sym is) f)
          (set s.words 0 ((x + 1) % 2 ^ 64)) (length-set s.words 0 ((x + 1) % 2 ^ 64) ∙ r.two_words)
          (set_claim_word s.words ((x + 1) % 2 ^ 64) r.two_words ∙ (omega arith)) (least_word_kept s.words ((x + 1) % 2 ^ 64)),
      (
        refl,
        refl,
        λ i. subst (λ d. times i (indices d) ≤ once_below v.n i) (sym is)
            (subst (λ n. times i (indices e) ≤ once_below n i) (sym same)
            (omega (arith, sum i, f.once i, once_below-least c.n (x + 1) i, at-le-sum_by (λ d. times i (indices d)) (map draws_of s.views) id v.draws there))),
      ),
    )

pub offer_keeps : (c : Course) (slots id k : ℕ) (me : Me (Unit {0}) View) → 1 ≤ me.0.stands → me.0.draws.current ≡ Some k → Allows (Rule c) slots id me 1 (λ x. min x k) (offers (step slots 1 k 0 none) me)
offer_keeps c slots id k me some_seat current s r sized at range =
    let v = me.0 in
    let least : ℕ = least_word s.words in
    let here = of_view c s.words s.views r id v at some_seat in
    let there = draws_at c s.words s.views r id v at some_seat in
    let w = after_offer v in (
      w,
      keeps,
      tt,
      stepped c s.words s.views r id v at some_seat (claim_word s.words) (min least k) w refl here.past refl
          (offer_is_fair c.n (claim_word s.words) least k (map draws_of s.views) id v.draws current r.fair there)
          (set s.words 1 (min least k)) (length-set s.words 1 (min least k) ∙ r.two_words)
          (claim_word_kept s.words (min least k)) (set_least_word s.words (min least k) r.two_words),
      (refl, refl),
    )

looked-past : (least : ℕ) (d : Draws) → (looking least d).past ≡ d.past
looked-past least d =
    elim (look_cases least d) [
      | inl (_, _, _, drops) ↦ ap (λ u. u.past) drops
      | inr stays ↦ ap (λ u. u.past) stays
    ]

look_respects : (least : ℕ) (d : Draws) → RespectsLeast least d → RespectsLeast least (looking least d)
look_respects least d r =
    elim (look_cases least d) [
      | inl (i, is, l, drops) ↦ subst (RespectsLeast least) (sym drops) (dropping_respects least i d is l r)
      | inr stays ↦ subst (RespectsLeast least) (sym stays) r
    ]

pub look_keeps : (c : Course) (slots id : ℕ) (me : Me (Unit {0}) View) → 1 ≤ me.0.stands → Allows (Rule c) slots id me 1 (λ x. x) (looks (step slots 1 0 0 none) me)
look_keeps c slots id me some_seat s r sized at range =
    let v = me.0 in
    let least : ℕ = least_word s.words in
    let here = of_view c s.words s.views r id v at some_seat in
    let there = draws_at c s.words s.views r id v at some_seat in
    let w = after_look least v in (
      w,
      keeps,
      tt,
      stepped c s.words s.views r id v at some_seat (claim_word s.words) least w refl (omega (arith, looked-past least v.draws, here.past)) refl
          (look_is_fair c.n (claim_word s.words) least (map draws_of s.views) id v.draws r.fair there)
          (set s.words 1 least) (length-set s.words 1 least ∙ r.two_words)
          (claim_word_kept s.words least) (set_least_word s.words least r.two_words),
      (refl, refl, look_respects least v.draws (All-at (RespectsLeast least) (map draws_of s.views) id v.draws r.fair.respected there)),
    )

-- a worker more, that has drawn nothing
fair_with_new : (n next least : ℕ) (ws : List Draws) → IsFair n next least ws → IsFair n next least (ws ++ no_draws ∷ [])
fair_with_new n next least ws f = record {
  once = λ i. omega (arith, sum_by-append (λ d. times i (indices d)) ws (no_draws ∷ []), sum_by-cons (λ d. times i (indices d)) no_draws [], f.once i);
  counted = omega (arith, sum_by-append (λ d. d.past) ws (no_draws ∷ []), sum_by-cons (λ d. d.past) no_draws [], f.counted);
  respected = All-append (RespectsLeast least) ws (no_draws ∷ []) f.respected ((tt, tt), tt);
  offered = elim f.offered [ inl all ↦ inl all | inr some_one ↦ inr (omega (arith, sum_by-append (λ d. times least d.offered) ws (no_draws ∷ []))) ];
}

pub split_keeps : (c : Course) (id : ℕ) (v : View) → 2 ≤ v.stands → v.draws ≡ no_draws → Splits (Rule c) id v (without_seat v) (one_seat v)
split_keeps c id v more unused s r at =
    let here = of_view c s.words s.views r id v at (omega arith) in
    let there = draws_at c s.words s.views r id v at (omega arith) in
    let left = without_seat v in
    let right = one_seat v in
    let views = set s.views id left in
    let same : map draws_of views ≡ map draws_of s.views = map-set draws_of s.views id left ∙ set_again (map draws_of s.views) id v.draws there in
    record {
      two_words = r.two_words;
      fair = subst (IsFair c.n (claim_word s.words) (least_word s.words)) (sym (map-append draws_of views (right ∷ []) ∙ ap (λ ws. ws ++ no_draws ∷ []) same))
          (fair_with_new c.n (claim_word s.words) (least_word s.words) (map draws_of s.views) r.fair);
      each = All-append (λ u. StandsFor c.n u ⊎ (u ≡ spent)) views (right ∷ [])
          (All-set (λ u. StandsFor c.n u ⊎ (u ≡ spent)) s.views id left r.each (inl record { some_seat = omega arith; past = omega (arith, ap (λ d. d.past) unused); same_n = here.same_n }))
          (inl record { some_seat = omega arith; past = omega arith; same_n = here.same_n }, tt);
      all_seats = omega (arith, sum_by-append (λ u. u.stands) views (right ∷ []), sum_by-cons (λ (u : View). u.stands) right [], sum_by-set (λ u. u.stands) s.views id v left at, r.all_seats);
    }

-- two workers without a current index become one, and the other is as if it had drawn nothing
abbrev both : Draws → Draws → Draws
both d e = record { current = None; done = d.done ++ e.done; offered = d.offered ++ e.offered; dropped = d.dropped ++ e.dropped; past = d.past + e.past }

times-both : (i : ℕ) (d e : Draws) → d.current ≡ None → e.current ≡ None → times i (indices (both d e)) ≡ times i (indices d) + times i (indices e)
times-both i d e idle idle_too =
    omega (arith, times-indices i d, times-indices i e, times-indices i (both d e), ap (λ c. times i (option_to_list c)) idle, ap (λ c. times i (option_to_list c)) idle_too, times-append i d.done e.done, times-append i d.offered e.offered, times-append i d.dropped e.dropped)

-- what is added up of both stays the same
sum_by-join : (g : Draws → ℕ) (ws : List Draws) (a b : ℕ) (d e : Draws) → get_elem? ws a ≡ some d → get_elem? (set ws a (both d e)) b ≡ some e → g (both d e) ≡ g d + g e → g no_draws ≡ 0 → sum_by g (set (set ws a (both d e)) b no_draws) ≡ sum_by g ws
sum_by-join g ws a b d e at there adds idle = omega (arith, sum_by-set g ws a d (both d e) at, sum_by-set g (set ws a (both d e)) b e no_draws there, adds, idle)

join_is_fair : (n next least : ℕ) (ws : List Draws) (a b : ℕ) (d e : Draws) → IsFair n next least ws → get_elem? ws a ≡ some d → get_elem? (set ws a (both d e)) b ≡ some e → d.current ≡ None → e.current ≡ None → RespectsLeast least e → IsFair n next least (set (set ws a (both d e)) b no_draws)
join_is_fair n next least ws a b d e f at there idle idle_too respects =
    let mine = All-at (RespectsLeast least) ws a d f.respected at in
    record {
      once = λ i. sum_by-join (λ u. times i (indices u)) ws a b d e at there (times-both i d e idle idle_too) refl ∙ f.once i;
      counted = omega (arith, sum_by-join (λ u. u.past) ws a b d e at there refl refl, f.counted);
      respected = All-set (RespectsLeast least) (set ws a (both d e)) b no_draws
          (All-set (RespectsLeast least) ws a (both d e) f.respected
          (All-append (λ i. least < i) d.dropped e.dropped mine.0 respects.0, All-append (λ i. least ≤ i) d.offered e.offered mine.1 respects.1))
          (tt, tt);
      offered = elim f.offered [
        | inl all ↦ inl all
        | inr some_one ↦ inr (omega (arith, sum_by-join (λ u. times least u.offered) ws a b d e at there (times-append least d.offered e.offered) refl))
      ];
    }

pub join_keeps : (c : Course) (id : ℕ) (v : View) (other : ℕ) (w : View) → 1 ≤ v.stands → v.draws.current ≡ None → w.draws.current ≡ None → Joins (Rule c) id v other w (joint v w) spent
join_keeps c id v other w some_seat idle idle_too s r at apart there =
    let here = of_view c s.words s.views r id v at some_seat in
    let P : View → Type 0 = λ u. StandsFor c.n u ⊎ (u ≡ spent) in
    let was : get_elem? s.views other ≡ some w = sym (set_else s.views id other (joint v w) apart) ∙ there in
    let theirs : P w = All-at P s.views other w r.each was in
    let past : w.draws.past ≤ w.stands = elim theirs [ inl t ↦ t.past | inr is ↦ omega (arith, ap (λ u. u.draws.past) is, ap (λ u. u.stands) is) ] in
    let ws = map draws_of s.views in
    let at' = at_map draws_of s.views id v at in
    let was' = at_map draws_of s.views other w was in
    let there' : get_elem? (set ws id (both v.draws w.draws)) other ≡ some w.draws = set_else ws id other (both v.draws w.draws) apart ∙ was' in
    let same : map draws_of (set (set s.views id (joint v w)) other spent) ≡ set (set ws id (both v.draws w.draws)) other no_draws =
    map-set draws_of (set s.views id (joint v w)) other spent ∙ ap (λ us. set us other no_draws) (map-set draws_of s.views id (joint v w)) in
    record {
      two_words = r.two_words;
      fair = subst (IsFair c.n (claim_word s.words) (least_word s.words)) (sym same)
          (join_is_fair c.n (claim_word s.words) (least_word s.words) ws id other v.draws w.draws r.fair at' there' idle idle_too (All-at (RespectsLeast (least_word s.words)) ws other w.draws r.fair.respected was'));
      each = All-set P (set s.views id (joint v w)) other spent
          (All-set P s.views id (joint v w) r.each (inl record { some_seat = omega arith; past = omega (arith, here.past); same_n = here.same_n }))
          (inr refl);
      all_seats = omega (arith, sum_by-set (λ u. u.stands) s.views id v (joint v w) at, sum_by-set (λ u. u.stands) (set s.views id (joint v w)) other w spent there, r.all_seats);
    }

-- where one view stands for all seats, what is added up over all is its own
alone : (n : ℕ) (g : Draws → ℕ) (views : List View) (id : ℕ) (v : View) → g no_draws ≡ 0 → get_elem? views id ≡ some v → AllByRecursion (λ u. StandsFor n u ⊎ (u ≡ spent)) views → sum_by (λ u. u.stands) views ≡ v.stands → sum_by g (map draws_of views) ≡ g v.draws
alone n g [] id v idle at each all = absurd (some-ne-none v (sym at))
alone n g (u ∷ us) zero v idle at each all =
    let is = some-injective u v at in
    omega (arith, sum_by-cons (λ (x : View). x.stands) u us, sum_by-cons g u.draws (map draws_of us), ap (λ x. g x.draws) is, ap (λ x. x.stands) is, nobody us each.1 (omega (arith, sum_by-cons (λ (x : View). x.stands) u us, ap (λ x. x.stands) is)))
  where
    nobody : (vs : List View) → AllByRecursion (λ x. StandsFor n x ⊎ (x ≡ spent)) vs → sum_by (λ x. x.stands) vs ≡ 0 → sum_by g (map draws_of vs) ≡ 0
    nobody [] each all = refl
    nobody (x ∷ xs) each all =
        let gone : x ≡ spent = elim each.0 [ inl s ↦ absurd (omega (arith, s.some_seat, sum_by-cons (λ (y : View). y.stands) x xs)) | inr is ↦ is ] in
        omega (arith, sum_by-cons g x.draws (map draws_of xs), ap (λ y. g y.draws) gone, idle, nobody xs each.1 (omega (arith, sum_by-cons (λ (y : View). y.stands) x xs)))
alone n g (u ∷ us) (suc id) v idle at each all =
    let gone : u ≡ spent = elim each.0 [ inl s ↦ absurd (omega (arith, s.some_seat, sum_by-cons (λ (y : View). y.stands) u us, at-le-sum_by (λ y. y.stands) us id v at)) | inr is ↦ is ] in
    omega (arith, sum_by-cons g u.draws (map draws_of us), ap (λ y. g y.draws) gone, idle, alone n g us id v idle at each.1 (omega (arith, sum_by-cons (λ (y : View). y.stands) u us, ap (λ y. y.stands) gone)))

pub close_keeps : (c : Course) (slots id : ℕ) (me : Me (Unit {0}) View) → 1 ≤ me.0.stands → me.0.stands ≡ c.seats → Allows (Rule c) slots id me 1 (λ x. x) (closes (step slots 1 0 0 none) me)
close_keeps c slots id me some_seat all s r sized at range =
    let v = me.0 in
    let least : ℕ = least_word s.words in
    let here = of_view c s.words s.views r id v at some_seat in
    let sum = λ (g : Draws → ℕ) (zero_of : g no_draws ≡ 0). alone c.n g s.views id v zero_of at r.each (r.all_seats ∙ sym all) in
    let f : IsFair c.n (claim_word s.words) least (v.draws ∷ []) = record {
      once = λ i. omega (arith, sum_by-cons (λ d. times i (indices d)) v.draws [], sum (λ d. times i (indices d)) refl, r.fair.once i);
      counted = omega (arith, sum_by-cons (λ d. d.past) v.draws [], sum (λ d. d.past) refl, r.fair.counted);
      respected = (All-at (RespectsLeast least) (map draws_of s.views) id v.draws r.fair.respected (at_map draws_of s.views id v at), tt);
      offered = elim r.fair.offered [ inl all' ↦ inl all' | inr some_one ↦ inr (omega (arith, sum_by-cons (λ d. times least d.offered) v.draws [], sum (λ d. times least d.offered) refl)) ];
    } in (
      v,
      keeps,
      tt,
      stepped c s.words s.views r id v at some_seat (claim_word s.words) least v refl here.past refl
          (subst (IsFair c.n (claim_word s.words) least) (sym (set_again (map draws_of s.views) id v.draws (at_map draws_of s.views id v at))) r.fair)
          (set s.words 1 least) (length-set s.words 1 least ∙ r.two_words)
          (claim_word_kept s.words least) (set_least_word s.words least r.two_words),
      (refl, (claim_word s.words, subst (λ n. IsFair n (claim_word s.words) least (v.draws ∷ [])) (sym here.same_n) f)),
    )
