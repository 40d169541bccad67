-- What a name has on a desk in memory: a file, with room for more bytes, and a place for the next file of that
-- name that is started.
use Rattle.std.specs.Prelude.{ℕ, ◌-◌, List, [], ◌++◌, length, Option, Some, None, option_map, if◌then◌else◌}
use Rattle.std.specs.Str.{bytes_eq}

pub record FileState : Type 0 where
  pub bytes : List ℕ
  pub room : ℕ

pub record SlotState : Type 0 where
  pub file : Option FileState
  pub place : Option ℕ

-- a name that has nothing
abbrev pub empty_slot : SlotState
empty_slot = record { file = None; place = None }

abbrev pub file_bytes : SlotState → Option (List ℕ)
file_bytes slot = option_map (λ file. file.bytes) slot.file

-- how many more bytes a file takes
abbrev pub room_of : Option FileState → ℕ
room_of None = 0
room_of (Some file) = file.room

-- the slots, with that of this name changed
abbrev pub with_slot : List ℕ → (SlotState → SlotState) → (List ℕ → SlotState) → List ℕ → SlotState
with_slot name change slots q = if bytes_eq name q then change (slots q) else slots q

-- it holds these bytes
abbrev pub file_slot : List ℕ → SlotState → SlotState
file_slot bytes slot = record slot { file = Some (record { bytes = bytes; room = 0 }) }

-- it keeps a place of this size
abbrev pub place_slot : ℕ → SlotState → SlotState
place_slot size slot = record slot { place = Some size }

-- an empty file uses its place up
abbrev pub started_slot : SlotState → SlotState
started_slot slot = record { file = option_map (λ size. record { bytes = []; room = size }) slot.place; place = None }

-- these bytes went behind those of its file
abbrev pub added_slot : List ℕ → SlotState → SlotState
added_slot bytes slot = record slot { file = option_map (λ file. record { bytes = file.bytes ++ bytes; room = file.room - length bytes }) slot.file }

-- how many more bytes the started file takes
abbrev pub room_left : (List ℕ → SlotState) → Option (List ℕ) → ℕ
room_left slots None = 0
room_left slots (Some name) = room_of (slots name).file

-- the slots, with these bytes behind those of the started file
abbrev pub with_added : Option (List ℕ) → List ℕ → (List ℕ → SlotState) → List ℕ → SlotState
with_added None bytes slots = slots
with_added (Some name) bytes slots = with_slot name (added_slot bytes) slots
