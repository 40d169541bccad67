-- Slots by name: where one is found, and what a list of them has after one was changed or added.
use Rattle.std.proofs.Common.{◌≡◌, ℕ, ◌+◌, ◌-◌, ◌<◌, Bool, true, false, List, [], ◌∷◌, ◌++◌, length, get_or, set, Option, Some, None, sym, ◌∙◌, ap, refl, subst, arith, zero, suc}
use Rattle.std.proofs.lemmas.Slice.Eq.{bytes_eq-Decides}
use Rattle.std.specs.Prelude.{if◌then◌else◌, string_bytes, option_map, option_and_then}
use Rattle.std.specs.Option.{ForSome}
use Rattle.std.specs.Str.{bytes_eq}
use std.Path.{fun_ext}
use Rattle.bx_desk.specs.Slots.{SlotState, empty_slot, with_slot, file_slot, place_slot, started_slot, added_slot, room_of, room_left, with_added}
use Rattle.bx_desk.specs.Shelves.{file_state, slot_state, slot_at, index_from, name_at}
use Rattle.bx_desk.specs.declared.memory.shelf.Slot.{Slot}
use Rattle.bx_desk.specs.declared.memory.shelf.Space.{Space}

equal : (a b : List ℕ) → bytes_eq a b ≡ true → a ≡ b
equal a b = (bytes_eq-Decides a b).0

differs : (a b c : List ℕ) → bytes_eq a b ≡ true → bytes_eq a c ≡ false → bytes_eq c b ≡ false
differs a b c ab ac = by_test (bytes_eq c b) refl where
  by_test : (t : Bool) → bytes_eq c b ≡ t → t ≡ false
  by_test false e = refl
  by_test true e = let no : true ≡ false = sym ((bytes_eq-Decides a c).1 (equal a b ab ∙ sym (equal c b e))) ∙ ac in cc

pub record Sets (name q : List ℕ) (change : SlotState → SlotState) (y d : Slot) (xs : List Slot) (k : ℕ) : Type 0 where
  pub sets : string_bytes y.name ≡ string_bytes (get_or xs k d).name → slot_state y ≡ change (slot_state (get_or xs k d)) → slot_at (set xs k y) q ≡ with_slot name change (slot_at xs) q

sets_here : (name q : List ℕ) (change : SlotState → SlotState) (x y d : Slot) (xs : List Slot) → bytes_eq (string_bytes x.name) name ≡ true → Sets name q change y d (x ∷ xs) 0
sets_here name q change x y d xs here = record {
  sets = λ named state.
      let x_is : string_bytes x.name ≡ name = equal (string_bytes x.name) name here in
      let goal : (n : List ℕ) (m : List ℕ) → n ≡ name → m ≡ name → (if bytes_eq n q then slot_state y else slot_at xs q) ≡ (if bytes_eq name q then change (if bytes_eq m q then slot_state x else slot_at xs q) else (if bytes_eq m q then slot_state x else slot_at xs q)) = λ n m n_is m_is. subst (λ (n : List ℕ). (if bytes_eq n q then slot_state y else slot_at xs q) ≡ (if bytes_eq name q then change (if bytes_eq m q then slot_state x else slot_at xs q) else (if bytes_eq m q then slot_state x else slot_at xs q))) (sym n_is) (subst (λ (m : List ℕ). (if bytes_eq name q then slot_state y else slot_at xs q) ≡ (if bytes_eq name q then change (if bytes_eq m q then slot_state x else slot_at xs q) else (if bytes_eq m q then slot_state x else slot_at xs q))) (sym m_is) (by_test (bytes_eq name q) state)) in
      goal (string_bytes y.name) (string_bytes x.name) (named ∙ x_is) x_is;
} where
  by_test : (t : Bool) → slot_state y ≡ change (slot_state x) → (if t then slot_state y else slot_at xs q) ≡ (if t then change (if t then slot_state x else slot_at xs q) else (if t then slot_state x else slot_at xs q))
  by_test true e = e
  by_test false e = refl

sets_later : (name q : List ℕ) (change : SlotState → SlotState) (x y d : Slot) (xs : List Slot) (k : ℕ) → bytes_eq (string_bytes x.name) name ≡ false → Sets name q change y d xs k → Sets name q change y d (x ∷ xs) (suc k)
sets_later name q change x y d xs k other later = record { sets = λ named state. by_test (bytes_eq (string_bytes x.name) q) refl (later.sets named state) } where
  by_test : (t : Bool) → bytes_eq (string_bytes x.name) q ≡ t → slot_at (set xs k y) q ≡ with_slot name change (slot_at xs) q → (if t then slot_state x else slot_at (set xs k y) q) ≡ (if bytes_eq name q then change (if t then slot_state x else slot_at xs q) else (if t then slot_state x else slot_at xs q))
  by_test false e h = h
  by_test true e h = ap (λ (t : Bool). if t then change (slot_state x) else slot_state x) (sym (differs (string_bytes x.name) q name e other))

-- the first slot of this name, at this index
pub record IsAt (name : List ℕ) (xs : List Slot) (k : ℕ) : Type 0 where
  pub in_range : k < length xs
  pub named : (d : Slot) → string_bytes (get_or xs k d).name ≡ name
  pub found : (d : Slot) → slot_at xs name ≡ slot_state (get_or xs k d)
  pub listed : name_at xs k ≡ name
  pub sets : (q : List ℕ) (change : SlotState → SlotState) (y d : Slot) → Sets name q change y d xs k

at_here : (name : List ℕ) (x : Slot) (xs : List Slot) → bytes_eq (string_bytes x.name) name ≡ true → IsAt name (x ∷ xs) 0
at_here name x xs here = record {
  in_range = omega arith;
  named = λ d. equal (string_bytes x.name) name here;
  found = λ d. ap (λ (t : Bool). if t then slot_state x else slot_at xs name) here;
  listed = equal (string_bytes x.name) name here;
  sets = λ q change y d. sets_here name q change x y d xs here;
}

at_later : (name : List ℕ) (x : Slot) (xs : List Slot) (k : ℕ) → bytes_eq (string_bytes x.name) name ≡ false → IsAt name xs k → IsAt name (x ∷ xs) (suc k)
at_later name x xs k other at = record {
  in_range = let lt : k < length xs = at.in_range in omega arith;
  named = at.named;
  found = λ d. ap (λ (t : Bool). if t then slot_state x else slot_at xs name) other ∙ at.found d;
  listed = at.listed;
  sets = λ q change y d. sets_later name q change x y d xs k other (at.sets q change y d);
}

at_from : (o i : ℕ) (name : List ℕ) (xs : List Slot) → index_from o name xs ≡ Some i → (k : ℕ) × (i ≡ o + k) × IsAt name xs k
at_from o i name [] e = cc
at_from o i name (x ∷ xs) e = by_test (bytes_eq (string_bytes x.name) name) refl e (λ later. at_from (o + 1) i name xs later) where
  by_test : (t : Bool) → bytes_eq (string_bytes x.name) name ≡ t → (if t then Some o else index_from (o + 1) name xs) ≡ Some i → (index_from (o + 1) name xs ≡ Some i → (k : ℕ) × (i ≡ (o + 1) + k) × IsAt name xs k) → (k : ℕ) × (i ≡ o + k) × IsAt name (x ∷ xs) k
  by_test true here e later = let same : o ≡ i = cc in (0, omega arith, at_here name x xs here)
  by_test false other e later = let l = later e in (suc l.0, (let is : i ≡ (o + 1) + l.0 = l.1 in omega arith), at_later name x xs l.0 other l.2)

-- where the index is found, the slot is
pub is_at : (i : ℕ) (name : List ℕ) (xs : List Slot) → index_from 0 name xs ≡ Some i → IsAt name xs i
is_at i name xs e = let l = at_from 0 i name xs e in subst (IsAt name xs) (let is : i ≡ 0 + l.0 = l.1 in let e : l.0 ≡ i = omega arith in e) l.2

-- a slot is changed
pub set_slot : (change : SlotState → SlotState) (i : ℕ) (name : List ℕ) (xs : List Slot) (x y : Slot) (before : List ℕ → SlotState) → index_from 0 name xs ≡ Some i → x ≡ get_or xs i x → string_bytes y.name ≡ string_bytes x.name → slot_state y ≡ change (slot_state x) → slot_at xs ≡ before → slot_at (set xs i y) ≡ with_slot name change before
set_slot change i name xs x y before e item named state same =
    fun_ext (λ q. ((is_at i name xs e).sets q change y x).sets (named ∙ ap (λ (s : Slot). string_bytes s.name) item) (state ∙ ap (λ (s : Slot). change (slot_state s)) item))
    ∙ ap (with_slot name change) same

-- no slot has the name
pub missing : (o : ℕ) (name : List ℕ) (xs : List Slot) → index_from o name xs ≡ None → slot_at xs name ≡ empty_slot
missing o name [] e = refl
missing o name (x ∷ xs) e = by_test (bytes_eq (string_bytes x.name) name) e (λ later. missing (o + 1) name xs later) where
  by_test : (t : Bool) → (if t then Some o else index_from (o + 1) name xs) ≡ None → (index_from (o + 1) name xs ≡ None → slot_at xs name ≡ empty_slot) → (if t then slot_state x else slot_at xs name) ≡ empty_slot
  by_test true e later = cc
  by_test false e later = later e

-- an empty slot is added
pub push_slot : (xs : List Slot) (y : Slot) → slot_state y ≡ empty_slot → slot_at (xs ++ y ∷ []) ≡ slot_at xs
push_slot xs y empty = fun_ext (λ q. pushed xs q) where
  last : (t : Bool) → (if t then slot_state y else empty_slot) ≡ empty_slot
  last true = empty
  last false = refl

  pushed : (xs : List Slot) (q : List ℕ) → slot_at (xs ++ y ∷ []) q ≡ slot_at xs q
  pushed [] q = last (bytes_eq (string_bytes y.name) q)
  pushed (x ∷ xs) q = ap (λ (s : SlotState). if bytes_eq (string_bytes x.name) q then slot_state x else s) (pushed xs q)

pub push_index : (o : ℕ) (name : List ℕ) (xs : List Slot) (y : Slot) → index_from o name xs ≡ None → string_bytes y.name ≡ name → index_from o name (xs ++ y ∷ []) ≡ Some (o + length xs)
push_index o name [] y e named = ap (λ (t : Bool). if t then Some o else None) ((bytes_eq-Decides (string_bytes y.name) name).1 named) ∙ ap Some (omega arith)
push_index o name (x ∷ xs) y e named = by_test (bytes_eq (string_bytes x.name) name) e (λ later. push_index (o + 1) name xs y later named) where
  by_test : (t : Bool) → (if t then Some o else index_from (o + 1) name xs) ≡ None → (index_from (o + 1) name xs ≡ None → index_from (o + 1) name (xs ++ y ∷ []) ≡ Some (o + 1 + length xs)) → (if t then Some o else index_from (o + 1) name (xs ++ y ∷ [])) ≡ Some (o + length (x ∷ xs))
  by_test true e later = cc
  by_test false e later = later e ∙ ap Some (omega arith)

-- names stay where they are
pub push_name : (xs : List Slot) (y : Slot) (at : ℕ) → at < length xs → name_at (xs ++ y ∷ []) at ≡ name_at xs at
push_name [] y at lt = absurd (omega arith)
push_name (x ∷ xs) y zero lt = refl
push_name (x ∷ xs) y (suc at) lt = push_name xs y at (omega arith)

pub set_name : (xs : List Slot) (i : ℕ) (y d : Slot) (at : ℕ) → string_bytes y.name ≡ string_bytes (get_or xs i d).name → name_at (set xs i y) at ≡ name_at xs at
set_name [] i y d at named = refl
set_name (x ∷ xs) zero y d zero named = named
set_name (x ∷ xs) zero y d (suc at) named = refl
set_name (x ∷ xs) (suc i) y d zero named = refl
set_name (x ∷ xs) (suc i) y d (suc at) named = set_name xs i y d at named

-- the name at an index is that of its slot
pub listed_name : (xs : List Slot) (at : ℕ) (d : Slot) → at < length xs → name_at xs at ≡ string_bytes (get_or xs at d).name
listed_name [] at d lt = absurd (omega arith)
listed_name (x ∷ xs) zero d lt = refl
listed_name (x ∷ xs) (suc at) d lt = listed_name xs at d (omega arith)

-- the slot of the started file, as it is found by its name
abbrev pub started_index : Option (List ℕ) → List Slot → Option ℕ
started_index started xs = option_and_then (λ name. index_from 0 name xs) started

pub started_found : (started at : Option ℕ) (xs : List Slot) (x : Slot) (n : ℕ) (name : List ℕ) → started ≡ Some n → n < length xs → x ≡ get_or xs n x → name ≡ string_bytes x.name → at ≡ index_from 0 name xs → at ≡ started_index (option_map (name_at xs) started) xs
started_found started at xs x n name is lt item named found =
    found ∙ ap (λ m. index_from 0 m xs) (named ∙ ap (λ (s : Slot). string_bytes s.name) item ∙ sym (listed_name xs n x lt))
    ∙ sym (ap (λ s. started_index (option_map (name_at xs) s) xs) is)

-- the room of the started file
pub room_found : (started : Option (List ℕ)) (xs : List Slot) (at : ℕ) (x : Slot) → Some at ≡ started_index started xs → x ≡ get_or xs at x → room_left (slot_at xs) started ≡ room_of (slot_state x).file
room_found None xs at x e item = cc
room_found (Some name) xs at x e item = ap (λ (s : SlotState). room_of s.file) ((is_at at name xs (sym e)).found x ∙ ap slot_state (sym item))

pub room_missing : (started : Option (List ℕ)) (xs : List Slot) → None ≡ started_index started xs → 0 ≡ room_left (slot_at xs) started
room_missing None xs e = refl
room_missing (Some name) xs e = sym (ap (λ (s : SlotState). room_of s.file) (missing 0 name xs (sym e)))

-- bytes are added to the started file
pub add_found : (started : Option (List ℕ)) (bytes : List ℕ) (xs : List Slot) (at : ℕ) (x y : Slot) → Some at ≡ started_index started xs → x ≡ get_or xs at x → string_bytes y.name ≡ string_bytes x.name → slot_state y ≡ added_slot bytes (slot_state x) → slot_at (set xs at y) ≡ with_added started bytes (slot_at xs)
add_found None bytes xs at x y e item named state = cc
add_found (Some name) bytes xs at x y e item named state = set_slot (added_slot bytes) at name xs x y (slot_at xs) (sym e) item named state refl

pub add_missing : (started : Option (List ℕ)) (bytes : List ℕ) (xs : List Slot) → None ≡ started_index started xs → slot_at xs ≡ with_added started bytes (slot_at xs)
add_missing None bytes xs e = refl
add_missing (Some name) bytes xs e = fun_ext (λ q. by_test q (bytes_eq name q) refl) where
  none : (q : List ℕ) → name ≡ q → slot_at xs q ≡ empty_slot
  none q same = subst (λ (n : List ℕ). slot_at xs n ≡ empty_slot) same (missing 0 name xs (sym e))

  by_test : (q : List ℕ) (t : Bool) → bytes_eq name q ≡ t → slot_at xs q ≡ (if t then added_slot bytes (slot_at xs q) else slot_at xs q)
  by_test q false is = refl
  by_test q true is = let n : slot_at xs q ≡ empty_slot = none q (equal name q is) in n ∙ sym (ap (added_slot bytes) n)

-- what is in a slot that was changed
pub held_state : (x : Slot) (space : Space) (bytes : List ℕ) → space.bytes.items ≡ bytes → space.room ≡ 0 → slot_state (record { name = x.name; file = Some space; place = x.place }) ≡ file_slot bytes (slot_state x)
held_state x space bytes held_bytes room =
    ap (λ (b : List ℕ). with_file b space.room) held_bytes ∙ ap (λ (r : ℕ). with_file bytes r) room where
      with_file : List ℕ → ℕ → SlotState
      with_file b r = record { file = Some (record { bytes = b; room = r }); place = (slot_state x).place }

pub kept_state : (x : Slot) (space : Space) (size : ℕ) → space.room ≡ size → slot_state (record { name = x.name; file = x.file; place = Some space }) ≡ place_slot size (slot_state x)
kept_state x space size room = ap (λ (r : ℕ). record (slot_state x) { place = Some r }) room

pub added_state : (x : Slot) (old new : Space) (bytes : List ℕ) → x.file ≡ Some old → new.bytes.items ≡ old.bytes.items ++ bytes → new.room ≡ old.room - length bytes → slot_state (record { name = x.name; file = Some new; place = x.place }) ≡ added_slot bytes (slot_state x)
added_state x old new bytes was added room =
    ap (λ (b : List ℕ). with_file b new.room) added ∙ ap (λ (r : ℕ). with_file (old.bytes.items ++ bytes) r) room
    ∙ sym (ap (λ (f : Option Space). added_slot bytes (record { file = option_map file_state f; place = (slot_state x).place })) was) where
      with_file : List ℕ → ℕ → SlotState
      with_file b r = record { file = Some (record { bytes = b; room = r }); place = (slot_state x).place }

pub started_state : (x : Slot) (old new : Space) → x.place ≡ Some old → new.bytes.items ≡ [] → new.room ≡ old.room → slot_state (record { name = x.name; file = Some new; place = None }) ≡ started_slot (slot_state x)
started_state x old new was empty room =
    ap (λ (b : List ℕ). with_file b new.room) empty ∙ ap (λ (r : ℕ). with_file [] r) room
    ∙ sym (ap (λ (p : Option Space). started_slot (record { file = (slot_state x).file; place = option_map (λ space. space.room) p })) was) where
      with_file : List ℕ → ℕ → SlotState
      with_file b r = record { file = Some (record { bytes = b; room = r }); place = None }

-- the started file is the same after a change of a slot
pub started_set : (started : Option ℕ) (xs : List Slot) (at : ℕ) (x y : Slot) → x ≡ get_or xs at x → string_bytes y.name ≡ string_bytes x.name → option_map (name_at (set xs at y)) started ≡ option_map (name_at xs) started
started_set None xs at x y item named = refl
started_set (Some n) xs at x y item named = ap Some (set_name xs at y x n (named ∙ ap (λ (s : Slot). string_bytes s.name) item))

pub started_push : (started : Option ℕ) (xs : List Slot) (y : Slot) → ForSome started (λ at. at < length xs) → option_map (name_at (xs ++ y ∷ [])) started ≡ option_map (name_at xs) started
started_push None xs y lt = refl
started_push (Some n) xs y lt = ap Some (push_name xs y n (lt n refl))

pub unadded_state : (x : Slot) (bytes : List ℕ) → x.file ≡ None → slot_state x ≡ added_slot bytes (slot_state x)
unadded_state x bytes none =
    let state : Option Space → SlotState = λ f. record { file = option_map file_state f; place = (slot_state x).place } in
    ap state none ∙ sym (ap (λ (f : Option Space). added_slot bytes (state f)) none)
