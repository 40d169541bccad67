-- What the watches of clauses keep at all times, and what each event makes of them.
use Rattle.std.specs.Prelude.{◌≡◌, ◌⊎◌, ℕ, ◌*◌, ◌<◌, Bool, true, false, List, [], ◌++◌, Some, Contains, slice_get, length, take}
use Rattle.bx_cnf.specs.Literals.{Literal}
use Rattle.bx_cnf.specs.Formulas.{Formula, IsFormula}
use Rattle.bx_cnf.specs.Assignments.{IsActive}
use Rattle.bx_least_set.specs.Numbers.{has, IsLeast}
use Rattle.bx_watch.specs.declared.lists.Entry.{Entry}
use Rattle.bx_watch.specs.declared.reading.Reading.{Reading}
use Rattle.bx_watch.specs.declared.reading.Reading.TheVariants.{Met}
use Rattle.bx_watch.specs.declared.watches.Pair.{Pair}
use Rattle.bx_watch.specs.declared.watches.Watches.{Watches}
use Rattle.bx_watch.specs.Watching.{Watch, IsOver}
use Rattle.bx_watch.specs.Readings.{Assigned, IsTrail}
use Rattle.bx_watch.specs.Lists.{list_of, HasEntry, Clears}
use Rattle.bx_watch.specs.Watches.{IsOf, OthersFail, SomeHolds, IsWatching}

-- the lists of the literals, the watches of the clauses, and the set of the clauses that may be active
pub record Tables : Type 0 where
  pub lists : List (List Entry)
  pub pairs : List Pair
  pub pending : List Bool

abbrev pub tables_of : Watches → Tables
tables_of w = record { lists = w.lists; pairs = w.pairs.items; pending = w.pending }

-- the clause of a number stands in the list of each literal that it watches
abbrev pub IsListed : List (List Entry) → ℕ → Pair → Type 0
IsListed lists k pair = (l : Literal) → IsOf pair l → HasEntry lists l k

-- an entry's clause is one of these, and its blocker a literal of that one
abbrev pub IsEntry : List (List Literal) → Entry → Type 0
IsEntry clauses entry = (clause : List Literal) × (slice_get clauses entry.clause ≡ Some clause) × Contains clause entry.blocker

-- each clause but an empty one has its watches, which lead to it, and no list leads anywhere else
pub record IsKept (f : Formula) (trail : List Literal) (t : Tables) : Type 0 where
  pub sized : length t.pairs ≡ length f.clauses
  pub room : length t.pending ≡ length f.clauses
  pub lists_sized : length t.lists ≡ 2 * f.vars
  pub watches : (k : ℕ) (clause : List Literal) (pair : Pair) → slice_get f.clauses k ≡ Some clause → slice_get t.pairs k ≡ Some pair
      → (clause ≡ []) ⊎ (IsWatching trail clause pair × IsListed t.lists k pair)
  pub entries : (l : Literal) (entry : Entry) → IsOver f.vars l → Contains (list_of t.lists l) entry → IsEntry f.clauses entry

-- each active clause is in the set
abbrev pub AreIn : Formula → List Literal → List Bool → Type 0
AreIn f trail pending = (k : ℕ) (clause : List Literal) → slice_get f.clauses k ≡ Some clause → IsActive trail clause → has pending k ≡ true

-- the clauses that are parked at literals are some of so many
abbrev pub AreWithin : ℕ → List (List Entry) → Type 0
AreWithin count parked = (l : Literal) (entry : Entry) → Contains (list_of parked l) entry → entry.clause < count

-- each literal has a list of its own, of the clauses that are parked at it
pub record AreParked (f : Formula) (parked : List (List Entry)) : Type 0 where
  pub sized : length parked ≡ 2 * f.vars
  pub within : AreWithin (length f.clauses) parked

-- a clause is parked at one of these literals
abbrev pub IsParked : List (List Entry) → List Literal → ℕ → Type 0
IsParked parked literals k = (l : Literal) × Contains literals l × HasEntry parked l k

-- A clause is active under a front of the trail: it is so once the literals behind that are freed, be it none
-- of them.
abbrev pub MayWake : List Literal → List Literal → Type 0
MayWake trail clause = (front : List Literal) × (back : List Literal) × (trail ≡ front ++ back) × IsActive front clause

-- a clause that is active under a front of the trail is in the set, or parked at a literal behind that
abbrev pub ArePending : Formula → List Literal → List Bool → List (List Entry) → Type 0
ArePending f trail pending parked = (front back : List Literal) (k : ℕ) (clause : List Literal) → trail ≡ front ++ back
    → slice_get f.clauses k ≡ Some clause → IsActive front clause → (has pending k ≡ true) ⊎ IsParked parked back k

-- the least clause of the set, if there is one, is active
abbrev pub IsClean : Formula → List Literal → List Bool → Type 0
IsClean f trail pending = (k : ℕ) (clause : List Literal) → IsLeast pending k → slice_get f.clauses k ≡ Some clause → IsActive trail clause

-- all that is kept between two calls
pub record IsWhole (f : Formula) (a : Assigned) (t : Tables) (parked : List (List Entry)) : Type 0 where
  pub formed : IsFormula f
  pub trail : IsTrail a
  pub one_size : a.vars ≡ f.vars
  pub kept : IsKept f a.literals t
  pub parking : AreParked f parked
  pub pending : ArePending f a.literals t.pending parked
  pub clean : IsClean f a.literals t.pending

-- what stands for a whole one, and for one that is only to be dropped
abbrev pub watch_of : Bool → Formula → Assigned → Watch
watch_of true f a = record { vars = f.vars; clauses = f.clauses; trail = a.literals }
watch_of false f a = record { vars = 0; clauses = []; trail = [] }

-- the first clauses
abbrev pub up_to : ℕ → Formula → Formula
up_to n f = record f { clauses = take n f.clauses }

-- no number was taken out of a set
pub record IsMore (old new : List Bool) : Type 0 where
  pub sized : length new ≡ length old
  pub stays : (k : ℕ) → has old k ≡ true → has new k ≡ true

-- a clause, not empty, that watches a literal, which is about to be false, has a true literal, or all but its watches
-- are false and it is in the set
abbrev pub IsSettled : Formula → List Literal → Literal → Tables → ℕ → Type 0
IsSettled f trail l t k = (clause : List Literal) (pair : Pair) → slice_get f.clauses k ≡ Some clause → slice_get t.pairs k ≡ Some pair → IsOf pair l → (clause ≡ [] → ⊥)
    → SomeHolds trail clause ⊎ (OthersFail trail clause pair × (has t.pending k ≡ true))

-- The clause of one entry in the list of a literal was looked at. Where it doesn't stay, it watches the
-- literal no longer.
pub record Visits (f : Formula) (trail : List Literal) (l : Literal) (k : ℕ) (old new : Tables) (stays : Bool) : Type 0 where
  pub kept : IsKept f trail new
  pub list_stays : list_of new.lists l ≡ list_of old.lists l
  pub more : IsMore old.pending new.pending
  pub settled : IsSettled f trail l new k
  pub stable : (j : ℕ) → IsSettled f trail l old j → IsSettled f trail l new j
  pub leaves : stays ≡ false → (pair : Pair) → slice_get new.pairs k ≡ Some pair → IsOf pair l → ⊥

-- all clauses that watch a literal are settled
pub record Falsifies (f : Formula) (trail : List Literal) (l : Literal) (old new : Tables) : Type 0 where
  pub kept : IsKept f trail new
  pub more : IsMore old.pending new.pending
  pub settled : (k : ℕ) → IsSettled f trail l new k

-- the clauses that were parked at a literal are in the set again
pub record Releases (l : Literal) (old new : Tables) (parked left : List (List Entry)) : Type 0 where
  pub lists_stay : new.lists ≡ old.lists
  pub pairs_stay : new.pairs ≡ old.pairs
  pub more : IsMore old.pending new.pending
  pub woken : (entry : Entry) → Contains (list_of parked l) entry → has new.pending entry.clause ≡ true
  pub clears : Clears parked left l

-- a clause was parked at the literal that alone meets it, if there is one
pub record Parks (old new : List (List Entry)) (reading : Reading) (k : ℕ) : Type 0 where
  pub sized : length new ≡ length old
  pub stays : (l : Literal) (entry : Entry) → Contains (list_of old l) entry → Contains (list_of new l) entry
  pub met : (l : Literal) → reading ≡ Met l → HasEntry new l k
  pub none_other : (l : Literal) (entry : Entry) → Contains (list_of new l) entry → Contains (list_of old l) entry ⊎ (entry.clause ≡ k)

-- the set was cleaned, and what was taken out of it is parked where it will be active again
pub record Cleans (f : Formula) (trail : List Literal) (old new : Tables) (parked : List (List Entry)) : Type 0 where
  pub lists_stay : new.lists ≡ old.lists
  pub pairs_stay : new.pairs ≡ old.pairs
  pub sized : length new.pending ≡ length old.pending
  pub parking : AreParked f parked
  pub pending : ArePending f trail new.pending parked
  pub clean : IsClean f trail new.pending

-- the watches of the first clauses, with each active one in the set
pub record IsReady (f : Formula) (trail : List Literal) (t : Tables) : Type 0 where
  pub kept : IsKept f trail t
  pub pending : AreIn f trail t.pending

-- entries that lead to a clause, if it isn't empty, were put into the lists of its watches
pub record Enters (old new : List (List Entry)) (k : ℕ) (clause : List Literal) (pair : Pair) : Type 0 where
  pub sized : length new ≡ length old
  pub listed : (clause ≡ [] → ⊥) → IsListed new k pair
  pub stays : (l : Literal) (entry : Entry) → Contains (list_of old l) entry → Contains (list_of new l) entry
  pub none_other : (l : Literal) (entry : Entry) → Contains (list_of new l) entry → Contains (list_of old l) entry ⊎ ((clause ≡ [] → ⊥) × (entry.clause ≡ k) × IsOf pair entry.blocker)
