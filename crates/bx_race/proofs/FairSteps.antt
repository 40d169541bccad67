-- Each step of a worker keeps the race fair.
use Rattle.std.proofs.Common.{◌≡◌, ◌⊎◌, ℕ, ◌+◌, ◌<◌, ◌≤◌, cond, eqb, ltb, List, [], ◌∷◌, ◌++◌, set, inl, inr, refl, sym, ap, ◌∙◌, subst, arith}
use Rattle.std.specs.Prelude.{min, Option, None, Some, option_to_list}
use Rattle.std.specs.List.{AllByRecursion}
use mathlib.Core.Option.{some}
use lib.ListN.{get_elem?}
use Rattle.std.proofs.lemmas.Bool.{lt-ltb, le-ltb, cases_lt}
use Rattle.std.proofs.lemmas.Bool.Decides.{eqb_tells}
use Rattle.atomic_table.proofs.Lists.{set_again}
use Rattle.bx_race.specs.declared.view.Draws.{Draws}
use Rattle.bx_race.specs.Draws.{times, indices, index_below, claiming, offering, dropping, is_above, looking}
use Rattle.bx_race.specs.Core.{times_offered}
use Rattle.bx_race.specs.Fair.{once_below, times_drawn, times_past, RespectsLeast, IsFair}
use Rattle.bx_race.proofs.Counts.{sum_by-set, All-set, All-at, All-append, All-from, times-append, times-cons, times-same}

-- all draws, list by list
pub times-indices : (i : ℕ) (d : Draws) → times i (indices d) ≡ times i (option_to_list d.current) + times i d.done + times i d.offered + times i d.dropped
times-indices i d =
    let c = option_to_list d.current in
    omega (arith, times-append i (c ++ d.done ++ d.offered) d.dropped, times-append i (c ++ d.done) d.offered, times-append i c d.done)

-- drawing x adds it, where it is an index, and takes nothing away
pub times-claimed : (n x i : ℕ) (d : Draws) → times i (indices (claiming n x d)) ≡ times i (option_to_list (index_below n x)) + times i (indices d)
times-claimed n x i d = omega (arith, times-indices i d, times-indices i (claiming n x d), times-append i d.done (option_to_list d.current))

pub times-offering : (i : ℕ) (d : Draws) → times i (indices (offering d)) ≡ times i (indices d)
times-offering i d = omega (arith, times-indices i d, times-indices i (offering d), times-append i d.offered (option_to_list d.current))

pub times-dropping : (i : ℕ) (d : Draws) → times i (indices (dropping d)) ≡ times i (indices d)
times-dropping i d = omega (arith, times-indices i d, times-indices i (dropping d), times-append i d.dropped (option_to_list d.current))

-- the sums over all workers, where one of them changes
module _ (ws : List Draws) (w : ℕ) (d e : Draws) (there : get_elem? ws w ≡ some d) where
  pub times_drawn-set : (i : ℕ) → times_drawn i (set ws w e) + times i (indices d) ≡ times_drawn i ws + times i (indices e)
  times_drawn-set i = sum_by-set (λ u. times i (indices u)) ws w d e there

  pub times_past-set : times_past (set ws w e) + d.past ≡ times_past ws + e.past
  times_past-set = sum_by-set (λ u. u.past) ws w d e there

  pub times_offered-set : (i : ℕ) → times_offered i (set ws w e) + times i d.offered ≡ times_offered i ws + times i e.offered
  times_offered-set i = sum_by-set (λ u. times i u.offered) ws w d e there

pub once_below-in : (k i : ℕ) → i < k → once_below k i ≡ 1
once_below-in k i l = ap {B = ℕ} (λ b. cond b 1 0) (lt-ltb i k l)

pub once_below-out : (k i : ℕ) → k ≤ i → once_below k i ≡ 0
once_below-out k i l = ap {B = ℕ} (λ b. cond b 1 0) (le-ltb i k l)

times-one : (i j : ℕ) → times i (j ∷ []) ≡ cond (eqb j i) 1 0
times-one i j = omega (arith, times-cons i j [])

-- the numbers below k, and k
once_below-next : (k i : ℕ) → times i (k ∷ []) + once_below k i ≡ once_below (k + 1) i
once_below-next k i =
    elim (eqb_tells k i) [
      | inl (same, e) ↦ omega (arith, times-one i k, ap {B = ℕ} (λ b. cond b 1 0) same, once_below-out k i (omega arith), once_below-in (k + 1) i (omega arith))
      | inr (off, apart) ↦ elim (cases_lt i k) [
        | inl l ↦ omega (arith, times-one i k, ap {B = ℕ} (λ b. cond b 1 0) off, once_below-in k i l, once_below-in (k + 1) i (omega arith))
        | inr l ↦ omega (arith, times-one i k, ap {B = ℕ} (λ b. cond b 1 0) off, once_below-out k i l, once_below-out (k + 1) i (omega arith))
      ]
    ]

abbrev pub past_step : ℕ → ℕ → ℕ
past_step n x = cond (ltb x n) 0 1

-- a claim draws an index, or is past them
pub claim_cases : (n x : ℕ) → ((x < n) × (index_below n x ≡ Some x) × (past_step n x ≡ 0)) ⊎ ((n ≤ x) × (index_below n x ≡ None) × (past_step n x ≡ 1))
claim_cases n x =
    elim (cases_lt x n) [
      | inl l ↦ inl (l, ap (λ b. cond b (Some x) None) (lt-ltb x n l), ap {B = ℕ} (λ b. cond b 0 1) (lt-ltb x n l))
      | inr l ↦ inr (l, ap (λ b. cond b (Some x) None) (le-ltb x n l), ap {B = ℕ} (λ b. cond b 0 1) (le-ltb x n l))
    ]

once_below-claim : (n next i : ℕ) → times i (option_to_list (index_below n next)) + once_below (min n next) i ≡ once_below (min n (next + 1)) i
once_below-claim n next i =
    elim (claim_cases n next) [
      | inl (l, is, _) ↦ omega (arith, ap (λ o. times i (option_to_list o)) is, ap (λ k. once_below k i) (min_is n next next (omega arith)), ap (λ k. once_below k i) (min_is n (next + 1) (next + 1) (omega arith)), once_below-next next i)
      | inr (l, is, _) ↦ omega (arith, ap (λ o. times i (option_to_list o)) is, ap (λ k. once_below k i) (min_is n next n (omega arith)), ap (λ k. once_below k i) (min_is n (next + 1) n (omega arith)))
    ]
  where
    min_is : (a b m : ℕ) → min a b ≡ m → min a b ≡ m
    min_is a b m e = e

counted-claim : (n next past : ℕ) → next ≡ min n next + past → next + 1 ≡ min n (next + 1) + (past + past_step n next)
counted-claim n next past e =
    elim (claim_cases n next) [
      | inl (l, _, is) ↦ omega arith
      | inr (l, _, is) ↦ omega arith
    ]

pub claim_is_fair : (n next least : ℕ) (ws : List Draws) (w : ℕ) (d : Draws) → IsFair n next least ws → get_elem? ws w ≡ some d → IsFair n (next + 1) least (set ws w (claiming n next d))
claim_is_fair n next least ws w d f there =
    let e = claiming n next d in
    record {
      once = λ i. omega (arith, times_drawn-set ws w d e there i, times-claimed n next i d, f.once i, once_below-claim n next i);
      counted = omega (arith, times_past-set ws w d e there, counted-claim n next (times_past ws) f.counted);
      respected = All-set (RespectsLeast least) ws w e f.respected (All-at (RespectsLeast least) ws w d f.respected there);
      offered = elim f.offered [ inl all ↦ inl all | inr some_one ↦ inr (omega (arith, times_offered-set ws w d e there least)) ];
    }

-- an index that is current joins a list
joint : (P : ℕ → Type 0) (o : Option ℕ) (i : ℕ) → o ≡ Some i → P i → AllByRecursion P (option_to_list o)
joint P o i is p = subst (λ c. AllByRecursion P (option_to_list c)) (sym is) (p, tt)

lowered : (least i : ℕ) (d : Draws) → RespectsLeast least d → RespectsLeast (min least i) d
lowered least i d r = (All-from (λ j. least < j) (λ j. min least i < j) d.dropped (λ j l. omega arith) r.0, All-from (λ j. least ≤ j) (λ j. min least i ≤ j) d.offered (λ j l. omega arith) r.1)

offering_respects : (least i : ℕ) (d : Draws) → d.current ≡ Some i → RespectsLeast least d → RespectsLeast (min least i) (offering d)
offering_respects least i d is r =
    let below = lowered least i d r in
    (below.0, All-append (λ j. min least i ≤ j) d.offered (option_to_list d.current) below.1 (joint (λ j. min least i ≤ j) d.current i is (omega arith)))

times-joined : (o : Option ℕ) (i : ℕ) → o ≡ Some i → times i (option_to_list o) ≡ 1
times-joined o i is = ap (λ c. times i (option_to_list c)) is ∙ times-same i

pub offer_is_fair : (n next least i : ℕ) (ws : List Draws) (w : ℕ) (d : Draws) → d.current ≡ Some i → IsFair n next least ws → get_elem? ws w ≡ some d → IsFair n next (min least i) (set ws w (offering d))
offer_is_fair n next least i ws w d is f there =
    let e = offering d in
    record {
      once = λ j. omega (arith, times_drawn-set ws w d e there j, times-offering j d, f.once j);
      counted = omega (arith, times_past-set ws w d e there, f.counted);
      respected = All-set (RespectsLeast (min least i)) ws w e (All-from (RespectsLeast least) (RespectsLeast (min least i)) ws (λ u r. lowered least i u r) f.respected)
          (offering_respects least i d is (All-at (RespectsLeast least) ws w d f.respected there));
      offered = elim (cases_lt i least) [
        | inl l ↦ inr (subst (λ m. 0 < times_offered m (set ws w e)) (lesser least i l) (omega (arith, times_offered-set ws w d e there i, times-append i d.offered (option_to_list d.current), times-joined d.current i is)))
        | inr l ↦ subst (λ m. (m ≡ n) ⊎ (0 < times_offered m (set ws w e))) (same least i l)
            (elim f.offered [ inl all ↦ inl all | inr some_one ↦ inr (omega (arith, times_offered-set ws w d e there least, times-append least d.offered (option_to_list d.current))) ])
      ];
    }
  where
    lesser : (a b : ℕ) → b < a → b ≡ min a b
    lesser a b l = omega arith

    same : (a b : ℕ) → a ≤ b → a ≡ min a b
    same a b l = omega arith

-- a look drops the current index where the least is below it, and else leaves all
pub look_cases : (least : ℕ) (d : Draws) → ((i : ℕ) × (d.current ≡ Some i) × (least < i) × (looking least d ≡ dropping d)) ⊎ (looking least d ≡ d)
look_cases least d = cases d.current refl
  where
    cases : (o : Option ℕ) → d.current ≡ o → ((i : ℕ) × (d.current ≡ Some i) × (least < i) × (looking least d ≡ dropping d)) ⊎ (looking least d ≡ d)
    cases None is = inr (ap (λ c. cond (is_above least c) (dropping d) d) is)
    cases (Some i) is = elim (cases_lt least i) [
      | inl l ↦ inl (i, is, l, ap (λ c. cond (is_above least c) (dropping d) d) is ∙ ap (λ b. cond b (dropping d) d) (lt-ltb least i l))
      | inr l ↦ inr (ap (λ c. cond (is_above least c) (dropping d) d) is ∙ ap (λ b. cond b (dropping d) d) (le-ltb least i l))
    ]

pub dropping_respects : (least i : ℕ) (d : Draws) → d.current ≡ Some i → least < i → RespectsLeast least d → RespectsLeast least (dropping d)
dropping_respects least i d is l r = (All-append (λ j. least < j) d.dropped (option_to_list d.current) r.0 (joint (λ j. least < j) d.current i is l), r.1)

drop_is_fair : (n next least i : ℕ) (ws : List Draws) (w : ℕ) (d : Draws) → d.current ≡ Some i → least < i → IsFair n next least ws → get_elem? ws w ≡ some d → IsFair n next least (set ws w (dropping d))
drop_is_fair n next least i ws w d is l f there =
    let e = dropping d in
    let r = All-at (RespectsLeast least) ws w d f.respected there in
    record {
      once = λ j. omega (arith, times_drawn-set ws w d e there j, times-dropping j d, f.once j);
      counted = omega (arith, times_past-set ws w d e there, f.counted);
      respected = All-set (RespectsLeast least) ws w e f.respected (dropping_respects least i d is l r);
      offered = elim f.offered [ inl all ↦ inl all | inr some_one ↦ inr (omega (arith, times_offered-set ws w d e there least)) ];
    }

pub look_is_fair : (n next least : ℕ) (ws : List Draws) (w : ℕ) (d : Draws) → IsFair n next least ws → get_elem? ws w ≡ some d → IsFair n next least (set ws w (looking least d))
look_is_fair n next least ws w d f there =
    elim (look_cases least d) [
      | inl (i, is, l, drops) ↦ subst (λ e. IsFair n next least (set ws w e)) (sym drops) (drop_is_fair n next least i ws w d is l f there)
      | inr stays ↦ subst (λ e. IsFair n next least (set ws w e)) (sym stays) (subst (IsFair n next least) (sym (set_again ws w d there)) f)
    ]
