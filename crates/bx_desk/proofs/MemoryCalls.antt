-- What the clauses of a desk in memory say, from what each call leaves.
use Rattle.std.proofs.Common.{◌≡◌, ℕ, ◌+◌, ◌-◌, ◌≤◌, arith, Bool, true, false, cond, List, [], ◌++◌, length, drop, min, Option, Some, None, Result, Ok, Err, sym, ◌∙◌, ap, subst, refl}
use Rattle.std.proofs.lemmas.List.{append-nil, take-append-drop}
use Rattle.std.proofs.lemmas.Bool.{le-ltb, lt-ltb}
use Rattle.std.proofs.lemmas.Slice.Eq.{bytes_eq-Decides}
use Rattle.std.specs.Bool.{IsTrue}
use Rattle.std.specs.Option.{is_some, is_none, option_map}
use Rattle.std.specs.Prelude.{nat_lt, ◌||◌, if◌then◌else◌, ◌↔◌, IsErrOf, OnOk}
use Rattle.std.specs.Str.{bytes_eq}
use std.Path.{fun_ext}
use Rattle.bx_desk.specs.declared.desk.LoadFault.{LoadFault}
use Rattle.bx_desk.specs.declared.desk.LoadFault.TheVariants.{Failed, TooLong, NoMemory}
use Rattle.bx_desk.specs.Desk.{Files, Counts, DeskState, LoadAnswers, load_answer, FailsToLoad, Starts, FailsToStart, with_file, with_written, Writes, WritesFront, Says, SaysFront}
use Rattle.bx_desk.specs.Loads.{LoadsFile}
use Rattle.bx_desk.specs.Plans.{kept_of}
use Rattle.bx_desk.specs.Slots.{SlotState, FileState, file_bytes, with_slot, started_slot, added_slot, room_left, with_added}
use Rattle.bx_desk.specs.Memory.{State, desk_of, next_count, next_count_if, found, cannot_load, cannot_start, cannot_append, cannot_say, next_kept, after_load, after_start, after_append, after_say}

same : (n : ℕ) → n ≤ n
same n = omega arith

-- what is kept of a piece is a front of it, and all of it where the call doesn't fail
pub kept_front : (kept : Option ℕ) (room : ℕ) (piece : List ℕ) → (rest : List ℕ) × (kept_of kept room piece ++ rest ≡ piece)
kept_front (Some kept) room piece = (drop (min kept room) piece, take-append-drop (min kept room) piece)
kept_front None room piece =
    elim (nat_lt room (length piece)) as (λ b. (rest : List ℕ) × ((if b then [] else piece) ++ rest ≡ piece)) [ true ↦ (piece, refl) | false ↦ ([], append-nil piece) ]

kept_all : (kept : Option ℕ) (room : ℕ) (piece : List ℕ) → (is_some kept || nat_lt room (length piece)) ≡ false → kept_of kept room piece ≡ piece
kept_all None room piece e = ap (λ (b : Bool). if b then [] else piece) e
kept_all (Some kept) room piece e = cc

-- what a load finds, from what was looked up
pub found_is : (s t : State) (name : List ℕ) (plan : Option ℕ) (looked_up : Option (List ℕ)) → plan ≡ next_kept s → t ≡ record s { calls = next_count s.calls } → looked_up ≡ (if is_some plan then None else file_bytes (t.slots name)) → found s name ≡ looked_up
found_is s t name plan looked_up kept calls e =
    sym (e ∙ ap (λ (p : Option ℕ). if is_some p then None else file_bytes (t.slots name)) kept ∙ ap (λ (u : State). if is_some (next_kept s) then None else file_bytes (u.slots name)) calls)

-- what a load leaves where it finds a file, and where it finds none
pub load_found : (s t : State) (name bytes : List ℕ) → t ≡ record s { calls = next_count s.calls } → found s name ≡ Some bytes → t ≡ after_load s name
load_found s t name bytes e h = e ∙ ap (λ (x : Option (List ℕ)). record s { calls = next_count s.calls; faults = record s.faults { load = next_count_if (is_none x) s.faults.load } }) (sym h)

pub load_missing : (s t u : State) (name : List ℕ) → t ≡ record s { calls = next_count s.calls } → u ≡ record t { faults = record t.faults { load = next_count t.faults.load } } → found s name ≡ None → u ≡ after_load s name
load_missing s t u name first second h =
    second ∙ ap (λ (v : State). record v { faults = record v.faults { load = next_count v.faults.load } }) first
    ∙ ap (λ (x : Option (List ℕ)). record s { calls = next_count s.calls; faults = record s.faults { load = next_count_if (is_none x) s.faults.load } }) (sym h)

pub load_failed : (s t u : State) → t ≡ record s { calls = next_count s.calls } → u ≡ record t { faults = record t.faults { load = next_count t.faults.load } } → t.faults.load ≤ u.faults.load → FailsToLoad (desk_of s) (desk_of u)
load_failed s t u first second le =
    let after : u ≡ record s { calls = next_count s.calls; faults = record s.faults { load = next_count s.faults.load } } = second ∙ ap (λ (v : State). record v { faults = record v.faults { load = next_count v.faults.load } }) first in
    let count : u.faults.load ≡ next_count s.faults.load = ap (λ (v : State). v.faults.load) after in
    record {
      kept = ap desk_of after ∙ ap (λ (n : ℕ). record (desk_of s) { faults = record s.faults { load = n } }) (sym count);
      rose = subst (λ (n : ℕ). next_count s.faults.load ≤ n) (sym count) (same (next_count s.faults.load));
      no_fall = subst (λ (v : State). v.faults.load ≤ u.faults.load) first le;
    }

-- what a load finds is the file of this name
pub file-found : (s : State) (name bytes : List ℕ) → found s name ≡ Some bytes → file_bytes (s.slots name) ≡ Some bytes
file-found s name bytes e = by_plan (next_kept s) (file_bytes (s.slots name)) e where
  by_plan : (k : Option ℕ) (file : Option (List ℕ)) → (if is_some k then None else file) ≡ Some bytes → file ≡ Some bytes
  by_plan None file e = e
  by_plan (Some k) file e = cc

pub whole : (r : Result (Unit {0}) LoadFault) (file : Option (List ℕ)) (bytes into : List ℕ) (limit : ℕ) → file ≡ Some bytes → LoadsFile bytes limit r into → OnOk r (file ≡ Some into)
whole (Ok u) file bytes into limit e h = e ∙ ap Some (sym h.0)
whole (Err d) file bytes into limit e h = tt

pub front : (r : Result (Unit {0}) LoadFault) (file : Option (List ℕ)) (bytes into : List ℕ) (limit : ℕ) → file ≡ Some bytes → LoadsFile bytes limit r into → IsErrOf r TooLong → (rest : List ℕ) × (file ≡ Some (into ++ rest))
front (Ok u) file bytes into limit e h is = cc
front (Err TooLong) file bytes into limit e h is = (drop (limit + 1) bytes, e ∙ ap Some (sym (ap (λ xs. xs ++ drop (limit + 1) bytes) h.0 ∙ take-append-drop (limit + 1) bytes)))
front (Err NoMemory) file bytes into limit e h is = cc
front (Err Failed) file bytes into limit e h is = absurd h

pub answer : (r : Result (Unit {0}) LoadFault) (before now : Counts) (file : Option (List ℕ)) (bytes into : List ℕ) (limit : ℕ) → file ≡ Some bytes → LoadsFile bytes limit r into → LoadAnswers before now (load_answer limit file) r
answer (Ok u) before now file bytes into limit e h =
    ap (load_answer limit) e ∙ ap (λ (b : Bool). cond {A = Result (Unit {0}) LoadFault} b (Err TooLong) (Ok tt)) (le-ltb limit (length bytes) h.1)
answer (Err TooLong) before now file bytes into limit e h =
    ap (load_answer limit) e ∙ ap (λ (b : Bool). cond {A = Result (Unit {0}) LoadFault} b (Err TooLong) (Ok tt)) (lt-ltb limit (length bytes) h.1)
answer (Err NoMemory) before now file bytes into limit e h = tt
answer (Err Failed) before now file bytes into limit e h = absurd h

pub fails_found : (r : Result (Unit {0}) LoadFault) (s : State) (name bytes into : List ℕ) (limit : ℕ) → found s name ≡ Some bytes → LoadsFile bytes limit r into → IsErrOf r Failed ↔ IsTrue (cannot_load s name)
fails_found r s name bytes into limit e h =
    let to : IsErrOf r Failed → IsTrue (cannot_load s name) = λ is. absurd (subst (λ (q : Result (Unit {0}) LoadFault). LoadsFile bytes limit q into) is h) in
    let from : IsTrue (cannot_load s name) → IsErrOf r Failed = λ cannot. let no : IsTrue (is_none (Some bytes)) = subst (λ (x : Option (List ℕ)). IsTrue (is_none x)) e cannot in cc in
    (to, from)

-- the files after a start
started_files : (name : List ℕ) (slots : List ℕ → SlotState) → is_none (slots name).place ≡ false → (λ q. file_bytes (with_slot name started_slot slots q)) ≡ with_file name [] (λ q. file_bytes (slots q))
started_files name slots has = fun_ext (λ q. by_test q (bytes_eq name q) refl) where
  by_place : (place : Option ℕ) → is_none place ≡ false → option_map (λ (file : FileState). file.bytes) (option_map (λ size. let file : FileState = record { bytes = []; room = size } in file) place) ≡ Some []
  by_place None e = cc
  by_place (Some size) e = refl

  by_test : (q : List ℕ) (t : Bool) → bytes_eq name q ≡ t → file_bytes (if t then started_slot (slots q) else slots q) ≡ (if t then Some [] else file_bytes (slots q))
  by_test q false e = refl
  by_test q true e = by_place (slots q).place (subst (λ (n : List ℕ). is_none (slots n).place ≡ false) ((bytes_eq-Decides name q).0 e) has)

pub start_ok : (s u : State) (name : List ℕ) → u ≡ after_start s name → cannot_start s name ≡ false → Starts (desk_of s) (desk_of u) name
start_ok s u name after can =
    let has : is_none (s.slots name).place ≡ false = by_plan (next_kept s) (is_none (s.slots name).place) can in
    ap desk_of after
    ∙ ap (λ (b : Bool). desk_of (record s { slots = if b then s.slots else with_slot name started_slot s.slots; started = if b then None else Some name; calls = next_count s.calls; faults = record s.faults { write = next_count_if b s.faults.write } })) can
    ∙ ap (λ (files : Files). record (desk_of s) { files = Some files; started = Some (Some name) }) (started_files name s.slots has) where
      by_plan : (k : Option ℕ) (b : Bool) → (is_some k || b) ≡ false → b ≡ false
      by_plan None b e = e
      by_plan (Some k) b e = cc

pub start_err : (s u : State) (name : List ℕ) → u ≡ after_start s name → cannot_start s name ≡ true → s.faults.write ≤ u.faults.write → FailsToStart (desk_of s) (desk_of u) name
start_err s u name after cannot le =
    let failed : u ≡ record s { started = None; calls = next_count s.calls; faults = record s.faults { write = next_count s.faults.write } } = after ∙ ap (λ (b : Bool). record s { slots = if b then s.slots else with_slot name started_slot s.slots; started = if b then None else Some name; calls = next_count s.calls; faults = record s.faults { write = next_count_if b s.faults.write } }) cannot in
    let count : u.faults.write ≡ next_count s.faults.write = ap (λ (v : State). v.faults.write) failed in
    record {
      is_emptied = false;
      kept = ap desk_of failed ∙ ap (λ (n : ℕ). record (desk_of s) { started = None; faults = record s.faults { write = n } }) (sym count);
      rose = subst (λ (n : ℕ). next_count s.faults.write ≤ n) (sym count) (same (next_count s.faults.write));
      no_fall = le;
    }

-- what a start leaves
pub start_after_ok : (s t u : State) (name : List ℕ) → t ≡ record s { calls = next_count s.calls } → u ≡ record t { slots = with_slot name started_slot t.slots; started = Some name } → cannot_start s name ≡ false → u ≡ after_start s name
start_after_ok s t u name first second can =
    second ∙ ap (λ (v : State). record v { slots = with_slot name started_slot v.slots; started = Some name }) first
    ∙ ap (λ (b : Bool). record s { slots = if b then s.slots else with_slot name started_slot s.slots; started = if b then None else Some name; calls = next_count s.calls; faults = record s.faults { write = next_count_if b s.faults.write } }) (sym can)

pub start_after_err : (s t u : State) (name : List ℕ) → t ≡ record s { calls = next_count s.calls } → u ≡ record t { started = None; faults = record t.faults { write = next_count t.faults.write } } → cannot_start s name ≡ true → u ≡ after_start s name
start_after_err s t u name first second cannot =
    second ∙ ap (λ (v : State). record v { started = None; faults = record v.faults { write = next_count v.faults.write } }) first
    ∙ ap (λ (b : Bool). record s { slots = if b then s.slots else with_slot name started_slot s.slots; started = if b then None else Some name; calls = next_count s.calls; faults = record s.faults { write = next_count_if b s.faults.write } }) (sym cannot)

-- the files after bytes were added to the started one
added_files : (started : Option (List ℕ)) (bytes : List ℕ) (slots : List ℕ → SlotState) → (λ q. file_bytes (with_added started bytes slots q)) ≡ with_written (option_map Some started) bytes (λ q. file_bytes (slots q))
added_files None bytes slots = refl
added_files (Some name) bytes slots = fun_ext (λ q. by_test (bytes_eq name q) (slots q).file (slots q) refl) where
  by_file : (file : Option FileState) → option_map (λ (f : FileState). f.bytes) (option_map (λ (f : FileState). let g : FileState = record { bytes = f.bytes ++ bytes; room = f.room - length bytes } in g) file) ≡ option_map (λ b. b ++ bytes) (option_map (λ (f : FileState). f.bytes) file)
  by_file None = refl
  by_file (Some f) = refl

  by_test : (t : Bool) (file : Option FileState) (slot : SlotState) → slot.file ≡ file → file_bytes (if t then added_slot bytes slot else slot) ≡ (if t then option_map (λ b. b ++ bytes) (file_bytes slot) else file_bytes slot)
  by_test false file slot e = refl
  by_test true file slot e = by_file slot.file

pub append_after : (s t u : State) (piece : List ℕ) → t ≡ record s { calls = next_count s.calls } → u ≡ record t { slots = with_added t.started (kept_of (next_kept s) (room_left t.slots t.started) piece) t.slots; faults = record t.faults { write = next_count_if (cannot_append s piece) t.faults.write } } → u ≡ after_append s piece
append_after s t u piece first second =
    second ∙ ap (λ (v : State). record v { slots = with_added v.started (kept_of (next_kept s) (room_left v.slots v.started) piece) v.slots; faults = record v.faults { write = next_count_if (cannot_append s piece) v.faults.write } }) first

pub append_ok : (s u : State) (piece : List ℕ) → u ≡ after_append s piece → cannot_append s piece ≡ false → Writes (desk_of s) (desk_of u) piece
append_ok s u piece after can =
    ap desk_of after
    ∙ ap (λ (b : Bool). desk_of (record s { slots = with_added s.started (kept_of (next_kept s) (room_left s.slots s.started) piece) s.slots; calls = next_count s.calls; faults = record s.faults { write = next_count_if b s.faults.write } })) can
    ∙ ap (λ (kept : List ℕ). desk_of (record s { slots = with_added s.started kept s.slots; calls = next_count s.calls })) (kept_all (next_kept s) (room_left s.slots s.started) piece can)
    ∙ ap (λ (files : Files). record (desk_of s) { files = Some files }) (added_files s.started piece s.slots)

pub append_err : (s u : State) (piece : List ℕ) → u ≡ after_append s piece → cannot_append s piece ≡ true → s.faults.write ≤ u.faults.write → WritesFront (desk_of s) (desk_of u) piece
append_err s u piece after cannot le =
    let kept : List ℕ = kept_of (next_kept s) (room_left s.slots s.started) piece in
    let front = kept_front (next_kept s) (room_left s.slots s.started) piece in
    let failed : u ≡ record s { slots = with_added s.started kept s.slots; calls = next_count s.calls; faults = record s.faults { write = next_count s.faults.write } } = after ∙ ap (λ (b : Bool). record s { slots = with_added s.started kept s.slots; calls = next_count s.calls; faults = record s.faults { write = next_count_if b s.faults.write } }) cannot in
    let count : u.faults.write ≡ next_count s.faults.write = ap (λ (v : State). v.faults.write) failed in
    record {
      front = kept;
      rest = front.0;
      split = front.1;
      kept = ap desk_of failed ∙ ap (λ (files : Files). record (desk_of s) { files = Some files; faults = record s.faults { write = next_count s.faults.write } }) (added_files s.started kept s.slots) ∙ ap (λ (n : ℕ). record (desk_of s) { files = Some (with_written (option_map Some s.started) kept (λ q. file_bytes (s.slots q))); faults = record s.faults { write = n } }) (sym count);
      rose = subst (λ (n : ℕ). next_count s.faults.write ≤ n) (sym count) (same (next_count s.faults.write));
      no_fall = le;
    }

pub say_after : (s t u : State) (piece : List ℕ) → t ≡ record s { calls = next_count s.calls } → u ≡ record t { said = t.said ++ kept_of (next_kept s) t.room piece; room = t.room - length (kept_of (next_kept s) t.room piece); faults = record t.faults { say = next_count_if (cannot_say s piece) t.faults.say } } → u ≡ after_say s piece
say_after s t u piece first second =
    second ∙ ap (λ (v : State). record v { said = v.said ++ kept_of (next_kept s) v.room piece; room = v.room - length (kept_of (next_kept s) v.room piece); faults = record v.faults { say = next_count_if (cannot_say s piece) v.faults.say } }) first

pub say_ok : (s u : State) (piece : List ℕ) → u ≡ after_say s piece → cannot_say s piece ≡ false → Says (desk_of s) (desk_of u) piece
say_ok s u piece after can =
    ap desk_of after
    ∙ ap (λ (b : Bool). record (desk_of s) { said = Some (s.said ++ kept_of (next_kept s) s.room piece); faults = record s.faults { say = next_count_if b s.faults.say } }) can
    ∙ ap (λ (kept : List ℕ). record (desk_of s) { said = Some (s.said ++ kept) }) (kept_all (next_kept s) s.room piece can)

pub say_err : (s u : State) (piece : List ℕ) → u ≡ after_say s piece → cannot_say s piece ≡ true → s.faults.say ≤ u.faults.say → SaysFront (desk_of s) (desk_of u) piece
say_err s u piece after cannot le =
    let kept : List ℕ = kept_of (next_kept s) s.room piece in
    let front = kept_front (next_kept s) s.room piece in
    let failed : desk_of u ≡ record (desk_of s) { said = Some (s.said ++ kept); faults = record s.faults { say = next_count s.faults.say } } = ap desk_of after ∙ ap (λ (b : Bool). record (desk_of s) { said = Some (s.said ++ kept); faults = record s.faults { say = next_count_if b s.faults.say } }) cannot in
    let count : u.faults.say ≡ next_count s.faults.say = ap (λ (v : DeskState). v.faults.say) failed in
    record {
      front = kept;
      rest = front.0;
      split = front.1;
      kept = failed ∙ ap (λ (n : ℕ). record (desk_of s) { said = Some (s.said ++ kept); faults = record s.faults { say = n } }) (sym count);
      rose = subst (λ (n : ℕ). next_count s.faults.say ≤ n) (sym count) (same (next_count s.faults.say));
      no_fall = le;
    }

-- whether a piece is refused, as it was computed
pub say_refused : (s t : State) (plan : Option ℕ) (room : ℕ) (piece : List ℕ) (r : Bool) → plan ≡ next_kept s → t ≡ record s { calls = next_count s.calls } → room ≡ t.room → r ≡ (is_some plan || nat_lt room (length piece)) → cannot_say s piece ≡ r
say_refused s t plan room piece r kept calls has e =
    sym (e ∙ ap (λ (p : Option ℕ). is_some p || nat_lt room (length piece)) kept ∙ ap (λ (n : ℕ). is_some (next_kept s) || nat_lt n (length piece)) (has ∙ ap (λ (v : State). v.room) calls))

pub append_refused : (s t : State) (plan : Option ℕ) (room : ℕ) (piece : List ℕ) (r : Bool) → plan ≡ next_kept s → t ≡ record s { calls = next_count s.calls } → room ≡ room_left t.slots t.started → r ≡ (is_some plan || nat_lt room (length piece)) → cannot_append s piece ≡ r
append_refused s t plan room piece r kept calls has e =
    sym (e ∙ ap (λ (p : Option ℕ). is_some p || nat_lt room (length piece)) kept ∙ ap (λ (n : ℕ). is_some (next_kept s) || nat_lt n (length piece)) (has ∙ ap (λ (v : State). room_left v.slots v.started) calls))

-- what a call of say or append leaves, step by step
kept_is : (s : State) (plan : Option ℕ) (room left : ℕ) (piece kept : List ℕ) → plan ≡ next_kept s → room ≡ left → kept ≡ kept_of plan room piece → kept ≡ kept_of (next_kept s) left piece
kept_is s plan room left piece kept planned has e = e ∙ ap (λ (p : Option ℕ). kept_of p room piece) planned ∙ ap (λ (n : ℕ). kept_of (next_kept s) n piece) has

pub say_steps : (s t u : State) (plan : Option ℕ) (room : ℕ) (piece kept said : List ℕ) (left : ℕ) (r : Bool) → plan ≡ next_kept s → t ≡ record s { calls = next_count s.calls } → room ≡ t.room → kept ≡ kept_of plan room piece → said ≡ t.said ++ kept → left ≡ t.room - length kept → cannot_say s piece ≡ r → u ≡ record t { said = said; room = left; faults = record t.faults { say = next_count_if r t.faults.say } } → u ≡ after_say s piece
say_steps s t u plan room piece kept said left r planned calls has front says leaves refused e =
    let is : kept ≡ kept_of (next_kept s) t.room piece = kept_is s plan room t.room piece kept planned has front in
    say_after s t u piece calls (e
    ∙ ap (λ (xs : List ℕ). record t { said = xs; room = left; faults = record t.faults { say = next_count_if r t.faults.say } }) (says ∙ ap (λ xs. t.said ++ xs) is)
    ∙ ap (λ (n : ℕ). record t { said = t.said ++ kept_of (next_kept s) t.room piece; room = n; faults = record t.faults { say = next_count_if r t.faults.say } }) (leaves ∙ ap (λ (xs : List ℕ). t.room - length xs) is)
    ∙ ap (λ (b : Bool). record t { said = t.said ++ kept_of (next_kept s) t.room piece; room = t.room - length (kept_of (next_kept s) t.room piece); faults = record t.faults { say = next_count_if b t.faults.say } }) (sym refused))

pub append_steps : (s t u : State) (plan : Option ℕ) (room : ℕ) (piece kept : List ℕ) (slots : List ℕ → SlotState) (started : Option (List ℕ)) (r : Bool) → plan ≡ next_kept s → t ≡ record s { calls = next_count s.calls } → room ≡ room_left t.slots t.started → kept ≡ kept_of plan room piece → slots ≡ with_added t.started kept t.slots → started ≡ t.started → cannot_append s piece ≡ r → u ≡ record t { slots = slots; started = started; faults = record t.faults { write = next_count_if r t.faults.write } } → u ≡ after_append s piece
append_steps s t u plan room piece kept slots started r planned calls has front adds started_same refused e =
    let is : kept ≡ kept_of (next_kept s) (room_left t.slots t.started) piece = kept_is s plan room (room_left t.slots t.started) piece kept planned has front in
    append_after s t u piece calls (e
    ∙ ap (λ (xs : List ℕ → SlotState). record t { slots = xs; started = started; faults = record t.faults { write = next_count_if r t.faults.write } }) (adds ∙ ap (λ (xs : List ℕ). with_added t.started xs t.slots) is)
    ∙ ap (λ (n : Option (List ℕ)). record t { slots = with_added t.started (kept_of (next_kept s) (room_left t.slots t.started) piece) t.slots; started = n; faults = record t.faults { write = next_count_if r t.faults.write } }) started_same
    ∙ ap (λ (b : Bool). record t { slots = with_added t.started (kept_of (next_kept s) (room_left t.slots t.started) piece) t.slots; faults = record t.faults { write = next_count_if b t.faults.write } }) (sym refused))

-- whether a start is refused, as it was found
pub start_planned : (s : State) (name : List ℕ) → is_some (next_kept s) ≡ true → cannot_start s name ≡ true
start_planned s name e = ap (λ (b : Bool). b || is_none (s.slots name).place) e

pub start_placed : (s t : State) (name : List ℕ) (r : Bool) → is_some (next_kept s) ≡ false → t ≡ record s { calls = next_count s.calls } → r ≡ is_some (t.slots name).place → cannot_start s name ≡ is_none (t.slots name).place
start_placed s t name r none calls e = ap (λ (b : Bool). b || is_none (s.slots name).place) none ∙ sym (ap (λ (v : State). is_none (v.slots name).place) calls)

pub none_where_not_some : (x : Option ℕ) (b c : Bool) → b ≡ is_some x → b ≡ c → is_none x ≡ (if c then false else true)
none_where_not_some None b c e f = let g : false ≡ c = sym e ∙ f in ap (λ (t : Bool). if t then false else true) g
none_where_not_some (Some n) b c e f = let g : true ≡ c = sym e ∙ f in ap (λ (t : Bool). if t then false else true) g
