-- What every event of a race keeps, and so what a race comes to.
use Rattle.std.proofs.Common.{◌≡◌, ℕ, zero, suc, ◌+◌, ◌<◌, ◌≤◌, Bool, true, false, true≢false, cond, ltb, not, ◌&&◌, List, [], ◌∷◌, set, length, length-set, inl, inr, refl, sym, ap, ◌∙◌, subst, arith}
use Rattle.std.specs.Prelude.{min, replicate, Option, None, Some, is_some, option_to_list, unwrap_or, fold, IsTrue}
use Rattle.std.specs.List.{AllByRecursion}
use Rattle.std.proofs.lemmas.Bool.{cases_lt, lt-ltb, le-ltb}
use mathlib.Core.Option.{some}
use lib.ListN.{get_elem?}
use Rattle.bx_race.specs.declared.view.Draws.{Draws}
use Rattle.bx_race.specs.Draws.{no_draws, times, indices, has_ended, claiming, offering, looking}
use Rattle.bx_race.specs.Core.{Standing, Event, Claim, Offer, Look, worker_of, draws_at, is_settled, allows, effect, after, start, run, AllEnded, IsRefuted, Settles}
use Rattle.bx_race.specs.Fair.{RespectsLeast, IsFair}
use Rattle.bx_race.proofs.Counts.{All-set, All-at, All-append, All-lists, All-replicate, sum_by-zeros, at_place}
use Rattle.bx_race.proofs.FairSteps.{claim_cases, past_step, look_cases, once_below-out, claim_is_fair, offer_is_fair, look_is_fair}
use Rattle.bx_race.proofs.Ends.{offered_below, all_done}

-- how much shows that a worker has ended
abbrev ends : Draws → ℕ
ends d = length d.offered + length d.dropped + d.past

pub has_ended-positive : (d : Draws) → has_ended d ≡ true → 0 < ends d
has_ended-positive d is =
    elim (cases_lt 0 (ends d)) [
      | inl l ↦ l
      | inr l ↦ absurd (true≢false (sym is ∙ le-ltb 0 (ends d) l))
    ]

running-none : (d : Draws) → not (has_ended d) ≡ true → ends d ≤ 0
running-none d is =
    elim (cases_lt 0 (ends d)) [
      | inl l ↦ absurd (true≢false (sym is ∙ ap not (lt-ltb 0 (ends d) l)))
      | inr l ↦ l
    ]

-- a worker that has ended has no current index
abbrev pub IsIdleAtEnd : Draws → Type 0
IsIdleAtEnd d = has_ended d ≡ true → d.current ≡ None

pub record Keeps (table : List Bool) (s : Standing) : Type 0 where
  pub fair : IsFair (length table) s.next s.least s.workers
  pub refuted : AllByRecursion (λ d. AllByRecursion (IsRefuted table) d.done) s.workers
  pub idle : AllByRecursion IsIdleAtEnd s.workers

pub starts_fair : (n workers : ℕ) → IsFair n 0 n (replicate workers no_draws)
starts_fair n workers = record {
  once = λ i. omega (arith, sum_by-zeros (λ d. times i (indices d)) (replicate workers no_draws) (All-replicate (λ d. times i (indices d) ≡ 0) workers no_draws refl), once_below-out (min n 0) i (omega arith));
  counted = omega (arith, sum_by-zeros (λ d. d.past) (replicate workers no_draws) (All-replicate (λ d. d.past ≡ 0) workers no_draws refl));
  respected = All-replicate (RespectsLeast n) workers no_draws (tt, tt);
  offered = inl refl;
}

starts : (table : List Bool) (workers : ℕ) → Keeps table (start (length table) workers)
starts table workers = record {
  fair = starts_fair (length table) workers;
  refuted = All-replicate (λ d. AllByRecursion (IsRefuted table) d.done) workers no_draws tt;
  idle = All-replicate IsIdleAtEnd workers no_draws (λ _. refl);
}

settled_list : (table : List Bool) (o : Option ℕ) → is_settled table o ≡ true → AllByRecursion (IsRefuted table) (option_to_list o)
settled_list table None is = tt
settled_list table (Some i) is = (is, tt)

claimed_idle : (n x : ℕ) (d : Draws) → not (has_ended d) ≡ true → IsIdleAtEnd (claiming n x d)
claimed_idle n x d running ended =
    elim (claim_cases n x) [
      | inl (_, _, same) ↦ (let more : 0 < length d.offered + length d.dropped + (d.past + past_step n x) = has_ended-positive (claiming n x d) ended in absurd (omega (arith, running-none d running)))
      | inr (_, none, _) ↦ none
    ]

is_some-some : (o : Option ℕ) → is_some o ≡ true → (i : ℕ) × (o ≡ Some i)
is_some-some None is = absurd (true≢false (sym is))
is_some-some (Some i) is = (i, refl)

looked_idle : (least : ℕ) (d : Draws) → IsIdleAtEnd d → IsIdleAtEnd (looking least d)
looked_idle least d idle =
    elim (look_cases least d) [
      | inl (_, _, _, drops) ↦ subst IsIdleAtEnd (sym drops) (λ _. refl)
      | inr stays ↦ subst IsIdleAtEnd (sym stays) idle
    ]

looked_done : (least : ℕ) (d : Draws) → (looking least d).done ≡ d.done
looked_done least d =
    elim (look_cases least d) [
      | inl (_, _, _, drops) ↦ ap (λ u. u.done) drops
      | inr stays ↦ ap (λ u. u.done) stays
    ]

both_true : (a b : Bool) → (a && b) ≡ true → (a ≡ true) × (b ≡ true)
both_true true b is = (refl, is)
both_true false b is = absurd (true≢false (sym is))

module _ (table : List Bool) (s : Standing) (k : Keeps table s) where
  kept : (e : Event) (d : Draws) → get_elem? s.workers (worker_of e) ≡ some d → allows table e d ≡ true → Keeps table (effect (length table) e d s)
  kept (Claim w) d there may =
      let (running, settled) = both_true (not (has_ended d)) (is_settled table d.current) may in
      record {
        fair = claim_is_fair (length table) s.next s.least s.workers w d k.fair there;
        refuted = All-set (λ u. AllByRecursion (IsRefuted table) u.done) s.workers w (claiming (length table) s.next d) k.refuted
            (All-append (IsRefuted table) d.done (option_to_list d.current) (All-at (λ u. AllByRecursion (IsRefuted table) u.done) s.workers w d k.refuted there) (settled_list table d.current settled));
        idle = All-set IsIdleAtEnd s.workers w (claiming (length table) s.next d) k.idle (claimed_idle (length table) s.next d running);
      }
  kept (Offer w) d there may =
      let (i, is) = is_some-some d.current may in
      record {
        fair = subst (λ m. IsFair (length table) s.next m (set s.workers w (offering d))) (ap (λ o. min s.least (unwrap_or o s.least)) (sym is)) (offer_is_fair (length table) s.next s.least i s.workers w d is k.fair there);
        refuted = All-set (λ u. AllByRecursion (IsRefuted table) u.done) s.workers w (offering d) k.refuted (All-at (λ u. AllByRecursion (IsRefuted table) u.done) s.workers w d k.refuted there);
        idle = All-set IsIdleAtEnd s.workers w (offering d) k.idle (λ _. refl);
      }
  kept (Look w) d there may = record {
    fair = look_is_fair (length table) s.next s.least s.workers w d k.fair there;
    refuted = All-set (λ u. AllByRecursion (IsRefuted table) u.done) s.workers w (looking s.least d) k.refuted
        (subst (AllByRecursion (IsRefuted table)) (sym (looked_done s.least d)) (All-at (λ u. AllByRecursion (IsRefuted table) u.done) s.workers w d k.refuted there));
    idle = All-set IsIdleAtEnd s.workers w (looking s.least d) k.idle (looked_idle s.least d (All-at IsIdleAtEnd s.workers w d k.idle there));
  }

  by_choice : (e : Event) (d : Draws) (b : Bool) → (b ≡ true → Keeps table (effect (length table) e d s)) → Keeps table (cond b (effect (length table) e d s) s)
  by_choice e d true step = step refl
  by_choice e d false step = k

  pub steps : (e : Event) → Keeps table (after table s e)
  steps e =
      let w : ℕ = worker_of e in
      let d : Draws = draws_at s.workers w in
      by_choice e d (ltb w (length s.workers) && allows table e d) (λ chosen.
      let (within, may) = both_true (ltb w (length s.workers)) (allows table e d) chosen in
      elim (cases_lt w (length s.workers)) [
        | inl l ↦ kept e d (at_place s.workers w no_draws l) may
        | inr l ↦ absurd (true≢false (sym within ∙ le-ltb w (length s.workers) l))
      ])

pub runs : (table : List Bool) (events : List Event) (s : Standing) → Keeps table s → Keeps table (fold (after table) s events)
runs table [] s k = k
runs table (e ∷ es) s k = runs table es (after table s e) (steps table s k e)

same_workers : (table : List Bool) (s : Standing) (e : Event) → length (after table s e).workers ≡ length s.workers
same_workers table s e = by_choice (ltb (worker_of e) (length s.workers) && allows table e (draws_at s.workers (worker_of e)))
  where
    by_event : (e : Event) (d : Draws) → length (effect (length table) e d s).workers ≡ length s.workers
    by_event (Claim w) d = length-set s.workers w (claiming (length table) s.next d)
    by_event (Offer w) d = length-set s.workers w (offering d)
    by_event (Look w) d = length-set s.workers w (looking s.least d)

    by_choice : (b : Bool) → length (cond b (effect (length table) e (draws_at s.workers (worker_of e)) s) s).workers ≡ length s.workers
    by_choice true = by_event e (draws_at s.workers (worker_of e))
    by_choice false = refl

as_many_workers : (table : List Bool) (events : List Event) (s : Standing) → length (fold (after table) s events).workers ≡ length s.workers
as_many_workers table [] s = refl
as_many_workers table (e ∷ es) s = as_many_workers table es (after table s e) ∙ same_workers table s e

length-replicate : (n : ℕ) → length (replicate n no_draws) ≡ n
length-replicate zero = refl
length-replicate (suc n) = omega (arith, length-replicate n)

all_idle : (ws : List Draws) → AllByRecursion IsIdleAtEnd ws → AllByRecursion (λ d. IsTrue (has_ended d)) ws → AllByRecursion (λ d. d.current ≡ None) ws
all_idle [] idle ended = tt
all_idle (d ∷ ds) idle ended = (idle.0 ended.0, all_idle ds idle.1 ended.1)

pub settles : (table : List Bool) (s : Standing) → Keeps table s → 0 < length s.workers → AllEnded s → Settles table s
settles table s k some_worker ended =
    let d : Draws = draws_at s.workers 0 in
    let there = at_place s.workers 0 no_draws some_worker in
    let positive = has_ended-positive d (All-at (λ u. IsTrue (has_ended u)) s.workers 0 d ended there) in
    let done = all_done (length table) s.next s.least s.workers k.fair (all_idle s.workers k.idle ended) 0 d there positive in
    let refuted : (i : ℕ) → i < s.least → IsRefuted table i = λ i l. All-lists (IsRefuted table) (λ u. u.done) i s.workers k.refuted (omega (arith, done i l)) in
    record {
      refuted = refuted;
      done = done;
      least = k.fair.offered;
      first = λ some_one unrefuted. record {
        within = (let below = offered_below (length table) s.next s.least s.workers k.fair s.least some_one in omega arith);
        unrefuted = unrefuted;
        before = refuted;
      };
    }

pub a_race_settles : (table : List Bool) (workers : ℕ) (events : List Event) → 1 ≤ workers → AllEnded (run table workers events) → Settles table (run table workers events)
a_race_settles table workers events some_worker =
    settles table (run table workers events) (runs table events (start (length table) workers) (starts table workers))
    (omega (arith, as_many_workers table events (start (length table) workers), length-replicate workers))
