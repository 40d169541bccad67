-- What a shelf has under each name.
use Rattle.std.specs.Prelude.{ℕ, zero, suc, ◌+◌, List, [], ◌∷◌, Option, Some, None, option_map, string_bytes, if◌then◌else◌}
use Rattle.std.specs.Str.{bytes_eq}
use Rattle.bx_desk.specs.Slots.{FileState, SlotState}
use Rattle.bx_desk.specs.declared.memory.shelf.Space.{Space}
use Rattle.bx_desk.specs.declared.memory.shelf.Slot.{Slot}
use Rattle.bx_desk.specs.declared.memory.shelf.Shelf.{Shelf}

abbrev pub file_state : Space → FileState
file_state space = record { bytes = space.bytes.items; room = space.room }

abbrev pub slot_state : Slot → SlotState
slot_state slot = record { file = option_map file_state slot.file; place = option_map (λ space. space.room) slot.place }

-- the first slot of this name
abbrev pub slot_at : List Slot → List ℕ → SlotState
slot_at [] name = record { file = None; place = None }
slot_at (slot ∷ slots) name = if bytes_eq (string_bytes slot.name) name then slot_state slot else slot_at slots name

-- its index, counted from this number
abbrev pub index_from : ℕ → List ℕ → List Slot → Option ℕ
index_from at name [] = None
index_from at name (slot ∷ slots) = if bytes_eq (string_bytes slot.name) name then Some at else index_from (at + 1) name slots

abbrev pub name_at : List Slot → ℕ → List ℕ
name_at [] at = []
name_at (slot ∷ slots) zero = string_bytes slot.name
name_at (slot ∷ slots) (suc at) = name_at slots at

abbrev pub slots_of : Shelf → List ℕ → SlotState
slots_of shelf = slot_at shelf.slots.items

-- the name of the started file
abbrev pub started_of : Shelf → Option (List ℕ)
started_of shelf = option_map (name_at shelf.slots.items) shelf.started
