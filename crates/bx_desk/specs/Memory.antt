-- A desk in memory: what it shows, which of its calls fail, and what each call leaves.
use Rattle.std.specs.Prelude.{ℕ, ◌+◌, ◌-◌, ◌^◌, min, Bool, ◌||◌, List, [], ◌∷◌, ◌++◌, length, Option, None, Some, is_some, is_none, option_map, nat_lt, if◌then◌else◌}
use Rattle.bx_desk.specs.Desk.{Counts, DeskState}
use Rattle.bx_desk.specs.Plans.{kept_at, kept_of}
use Rattle.bx_desk.specs.Slots.{SlotState, file_bytes, with_slot, file_slot, place_slot, started_slot, room_left, with_added}
use Rattle.bx_desk.specs.Shelves.{slots_of, started_of}
use Rattle.bx_desk.specs.declared.memory.MemDesk.{MemDesk}

-- slots: the file and the place of each name; started: the name of the started file; room: how many more
-- bytes may be said; fails: numbers of calls that are to fail, each with how many bytes such a call keeps;
-- calls: the number of the last call
pub record State : Type 0 where
  pub slots : List ℕ → SlotState
  pub started : Option (List ℕ)
  pub said : List ℕ
  pub room : ℕ
  pub fails : List (ℕ × ℕ)
  pub calls : ℕ
  pub faults : Counts

abbrev pub state_of : MemDesk → State
state_of d = record {
  slots = slots_of d.shelf;
  started = started_of d.shelf;
  said = d.said.bytes.items;
  room = d.said.room;
  fails = d.fails.items;
  calls = d.calls;
  faults = record { load = d.load_faults; write = d.write_faults; say = d.say_faults };
}

-- it tells everything
abbrev pub desk_of : State → DeskState
desk_of s = record {
  files = Some (λ name. file_bytes (s.slots name));
  started = option_map Some s.started;
  said = Some s.said;
  faults = s.faults;
}

-- what it shows as a desk
abbrev pub view_of : MemDesk → DeskState
view_of d = desk_of (state_of d)

-- one more, but at its type's end a number stays
abbrev pub next_count : ℕ → ℕ
next_count n = min (n + 1) (2 ^ 64 - 1)

abbrev pub next_count_if : Bool → ℕ → ℕ
next_count_if b n = if b then next_count n else n

-- what a call leaves that sets the desk up
abbrev pub after_put : State → List ℕ → List ℕ → State
after_put s name bytes = record s { slots = with_slot name (file_slot bytes) s.slots }

abbrev pub after_make_room : State → List ℕ → ℕ → State
after_make_room s name size = record s { slots = with_slot name (place_slot size) s.slots }

abbrev pub after_fail_at : State → ℕ → ℕ → State
after_fail_at s call kept = record s { fails = s.fails ++ (call, kept) ∷ [] }

abbrev pub after_say_room : State → ℕ → State
after_say_room s size = record s { room = s.room + size }

-- the number of one more call, and one more failure of each kind
abbrev pub after_call : State → State
after_call s = record s { calls = next_count s.calls }

abbrev pub after_load_fault : State → State
after_load_fault s = record s { faults = record s.faults { load = next_count s.faults.load } }

abbrev pub after_write_fault : State → State
after_write_fault s = record s { faults = record s.faults { write = next_count s.faults.write } }

abbrev pub after_start_fault : State → State
after_start_fault s = record s { started = None; faults = record s.faults { write = next_count s.faults.write } }

abbrev pub after_say_fault : State → State
after_say_fault s = record s { faults = record s.faults { say = next_count s.faults.say } }

-- how much the next call keeps, where it is to fail
abbrev pub next_kept : State → Option ℕ
next_kept s = kept_at s.fails (next_count s.calls)

-- what the next load finds: the file of this name, but nothing where it is to fail
abbrev pub found : State → List ℕ → Option (List ℕ)
found s name = if is_some (next_kept s) then None else file_bytes (s.slots name)

-- a load fails where it is to fail, and where there is no such file
abbrev pub cannot_load : State → List ℕ → Bool
cannot_load s name = is_none (found s name)

-- a start fails where it is to fail, and where the name has no place
abbrev pub cannot_start : State → List ℕ → Bool
cannot_start s name = is_some (next_kept s) || is_none (s.slots name).place

-- a call of append or say fails where it is to fail, and where there is no room for all of the piece
abbrev pub cannot_append : State → List ℕ → Bool
cannot_append s piece = is_some (next_kept s) || nat_lt (room_left s.slots s.started) (length piece)

abbrev pub cannot_say : State → List ℕ → Bool
cannot_say s piece = is_some (next_kept s) || nat_lt s.room (length piece)

abbrev pub after_load : State → List ℕ → State
after_load s name = record s {
  calls = next_count s.calls;
  faults = record s.faults { load = next_count_if (cannot_load s name) s.faults.load };
}

abbrev pub after_start : State → List ℕ → State
after_start s name = let fails = cannot_start s name in record s {
  slots = if fails then s.slots else with_slot name started_slot s.slots;
  started = if fails then None else Some name;
  calls = next_count s.calls;
  faults = record s.faults { write = next_count_if fails s.faults.write };
}

abbrev pub after_append : State → List ℕ → State
after_append s piece = record s {
  slots = with_added s.started (kept_of (next_kept s) (room_left s.slots s.started) piece) s.slots;
  calls = next_count s.calls;
  faults = record s.faults { write = next_count_if (cannot_append s piece) s.faults.write };
}

abbrev pub after_say : State → List ℕ → State
after_say s piece = let kept = kept_of (next_kept s) s.room piece in record s {
  said = s.said ++ kept;
  room = s.room - length kept;
  calls = next_count s.calls;
  faults = record s.faults { say = next_count_if (cannot_say s piece) s.faults.say };
}
