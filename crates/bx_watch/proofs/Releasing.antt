-- How far the clauses that were parked at a literal were put back.
use Rattle.std.proofs.Common.{◌≡◌, ℕ, ◌+◌, ◌<◌, ◌≤◌, Bool, true, List, length, slice_get, Some, refl, subst, inl, inr, arith}
use Rattle.std.proofs.lemmas.Bool.{cases_lt}
use Rattle.std.proofs.lemmas.Option.{slice_get_within}
use Rattle.bx_cnf.specs.Literals.{Literal}
use Rattle.bx_least_set.specs.Numbers.{has}
use Rattle.bx_watch.specs.declared.lists.Entry.{Entry}
use Rattle.bx_watch.specs.Lists.{list_of, Clears}
use Rattle.bx_watch.specs.Keeping.{Tables, IsMore, Releases}
use Rattle.bx_watch.proofs.Keeps.{one-at, at-of, IsMore-same, IsMore-on}

pub record IsReleasing (entries : List Entry) (old t : Tables) (at : ℕ) : Type 0 where
  pub lists_stay : t.lists ≡ old.lists
  pub pairs_stay : t.pairs ≡ old.pairs
  pub more : IsMore old.pending t.pending
  pub woken : (i : ℕ) (entry : Entry) → i < at → slice_get entries i ≡ Some entry → has t.pending entry.clause ≡ true

pub releasing-none : (entries : List Entry) (t : Tables) → IsReleasing entries t t 0
releasing-none entries t = record { lists_stay = refl; pairs_stay = refl; more = IsMore-same t.pending; woken = λ i entry below. absurd (omega (arith, below)) }

pub releasing-more : (entries : List Entry) (old t : Tables) (at : ℕ) (entry : Entry) (pending : List Bool) → IsReleasing entries old t at → slice_get entries at ≡ Some entry
    → IsMore t.pending pending → has pending entry.clause ≡ true → IsReleasing entries old (record t { pending = pending }) (at + 1)
releasing-more entries old t at entry pending is stands more here = record {
  lists_stay = is.lists_stay;
  pairs_stay = is.pairs_stay;
  more = IsMore-on old.pending t.pending pending is.more more;
  woken = λ i e below at_i. elim (cases_lt i at) [
    | inl before ↦ more.stays e.clause (is.woken i e before at_i)
    | inr past ↦ subst (λ (d : Entry). has pending d.clause ≡ true) (one-at entries at entry e stands (subst (λ (n : ℕ). slice_get entries n ≡ Some e) (place i below past) at_i)) here
  ];
} where
  place : (i : ℕ) → i < at + 1 → at ≤ i → i ≡ at
  place i below past = omega (arith, below, past)

pub releasing-all : (l : Literal) (old t : Tables) (at : ℕ) (parked left : List (List Entry)) → IsReleasing (list_of parked l) old t at → length (list_of parked l) ≤ at → Clears parked left l
    → Releases l old t parked left
releasing-all l old t at parked left is whole clears = record {
  lists_stay = is.lists_stay;
  pairs_stay = is.pairs_stay;
  more = is.more;
  woken = λ entry listed.
      let (i, at_i) = at-of (list_of parked l) entry listed in
      is.woken i entry (omega (arith, slice_get_within (list_of parked l) i entry at_i, whole)) at_i;
  clears = clears;
}
