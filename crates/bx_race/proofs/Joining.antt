-- What the one seat knows that all seats became.
use Rattle.std.proofs.Common.{◌≡◌, ◌⊎◌, ℕ, suc, ◌+◌, ◌<◌, ◌≤◌, cond, List, [], ◌∷◌, ◌++◌, length, length-append, Contains, inl, inr, refl, sym, ap, ◌∙◌, subst, arith, append_assoc}
use Rattle.std.specs.Prelude.{sum_by, flat_map, None, Some, All, IsTrue}
use Rattle.std.proofs.lemmas.Bool.Decides.{eqb_tells}
use Rattle.std.proofs.lemmas.List.{append-nil}
use Rattle.std.proofs.lemmas.List.Elements.{All-head, All-pop}
use Rattle.std.proofs.lemmas.List.Sums.{sum_by-cons}
use Rattle.bx_race.specs.declared.seat.RaceSeat.{RaceSeat}
use Rattle.bx_race.specs.declared.view.View.{View}
use Rattle.bx_race.specs.Draws.{times, has_ended}
use Rattle.bx_race.specs.Fair.{IsFair}
use Rattle.bx_race.specs.Rule.{joint}
use Rattle.bx_race.specs.Seats.{draws, looks, stands}
use Rattle.bx_race.specs.Finished.{IsTogether, HaveEnded}
use Rattle.bx_race.proofs.Counts.{times-cons}
use Rattle.bx_race.proofs.Ends.{all_done}
use Rattle.bx_race.proofs.CoreSteps.{has_ended-positive}

pub together_one : (s : RaceSeat) → IsTogether (s ∷ []) s.seat.me.0
together_one s = record {
  done = sym (append-nil (draws s).done);
  offered = sym (append-nil (draws s).offered);
  dropped = sym (append-nil (draws s).dropped);
  past = omega (arith, sum_by-cons (λ u. (draws u).past) s []);
  looks = omega (arith, sum_by-cons looks s []);
  stands = omega (arith, sum_by-cons stands s []);
}

pub together_more : (s : RaceSeat) (taken : List RaceSeat) (v : View) → IsTogether taken v → IsTogether (s ∷ taken) (joint s.seat.me.0 v)
together_more s taken v t = record {
  done = ap (λ xs. (draws s).done ++ xs) t.done;
  offered = ap (λ xs. (draws s).offered ++ xs) t.offered;
  dropped = ap (λ xs. (draws s).dropped ++ xs) t.dropped;
  past = omega (arith, sum_by-cons (λ u. (draws u).past) s taken, t.past);
  looks = omega (arith, sum_by-cons looks s taken, t.looks);
  stands = omega (arith, sum_by-cons stands s taken, t.stands);
}

contains_times : (i : ℕ) (xs : List ℕ) → 0 < times i xs → Contains xs i
contains_times i [] there = absurd (omega arith)
contains_times i (x ∷ xs) there =
    elim (eqb_tells x i) [
      | inl (_, e) ↦ (0, omega arith, e)
      | inr (off, _) ↦ (let (k, l, e) = contains_times i xs (omega (arith, times-cons i x xs, ap {B = ℕ} (λ b. cond b 1 0) off)) in (suc k, omega arith, e))
    ]

pub least_of_all : (n next least : ℕ) (v now : View) → now ≡ v → v.n ≡ n → IsFair v.n next least (v.draws ∷ []) → (least ≡ n) ⊎ Contains now.draws.offered least
least_of_all n next least v now same same_n f =
    subst (λ (u : View). (least ≡ n) ⊎ Contains u.draws.offered least) (sym same)
    (elim f.offered [
      | inl all ↦ inl (all ∙ same_n)
      | inr some_one ↦ inr (contains_times least v.draws.offered (omega (arith, sum_by-cons (λ u. times least u.offered) v.draws [])))
    ])

-- where the first of the seats has ended, so have they together
together_ended : (seats : List RaceSeat) (v : View) → 1 ≤ sum_by stands seats → HaveEnded seats → IsTogether seats v → 0 < length v.draws.offered + length v.draws.dropped + v.draws.past
together_ended [] v some_seat ended t = absurd (omega arith)
together_ended (s ∷ ss) v some_seat ended t =
    let here = has_ended-positive (draws s) (All-head (λ u. IsTrue (has_ended (draws u))) s ss ended) in
    omega (
      arith,
      ap (λ xs. length xs) t.offered,
      ap (λ xs. length xs) t.dropped,
      length-append (draws s).offered (flat_map (λ u. (draws u).offered) ss),
      length-append (draws s).dropped (flat_map (λ u. (draws u).dropped) ss),
      t.past,
      sum_by-cons (λ u. (draws u).past) s ss,
    )

pub all_below_done : (next least : ℕ) (seats : List RaceSeat) (v now : View) → now ≡ v → 1 ≤ sum_by stands seats → IsTogether seats v → v.draws.current ≡ None → IsFair v.n next least (v.draws ∷ []) → HaveEnded seats → (i : ℕ) → i < least → times i now.draws.done ≡ 1
all_below_done next least seats v now same some_seat t idle f ended i l =
    let done = all_done v.n next least (v.draws ∷ []) f (idle, tt) 0 v.draws refl (together_ended seats v some_seat ended t) i l in
    omega (arith, ap (λ (u : View). times i u.draws.done) same, sum_by-cons (λ u. times i u.done) v.draws [], done)

-- what holds of all holds of those before the last, and of the last
pub front_and_last : (P : RaceSeat → Type 0) (seats front : List RaceSeat) (last : RaceSeat) → seats ≡ front ++ last ∷ [] → All P seats → All P front × P last
front_and_last P seats front last is all = All-pop P seats front (Some last) is all

-- one more is taken off the end
pub taken_off : (seats rest front taken : List RaceSeat) (last : RaceSeat) → seats ≡ rest ++ taken → rest ≡ front ++ last ∷ [] → seats ≡ front ++ last ∷ taken
taken_off seats rest front taken last is more = is ∙ ap (λ xs. xs ++ taken) more ∙ append_assoc front (last ∷ []) taken
