use Rattle.std.proofs.Common.{◌≡◌, ◌∙◌, Option, Some, None, sym, ap}
use Rattle.std.specs.Prelude.{option_map}
use Rattle.bx_desk.specs.Slots.{room_of}
use Rattle.bx_desk.specs.Shelves.{file_state, started_of}
use Rattle.bx_desk.specs.declared.memory.shelf.Space.{Space}
use Rattle.bx_desk.proofs.Slotted.{started_index, room_found, room_missing}
use Rattle.bx_desk.proofs.memory.shelf.Shelf.room.Goals as goal

pub returns-in_default : goal.returns-in_default
returns-in_default c =
    let e : None ≡ started_index (started_of c.args.self.now) c.args.self.now.slots.items = sym c.in_default.is ∙ c.started_at.ensures.found in
    room_missing (started_of c.args.self.now) c.args.self.now.slots.items e

pub returns-in-Some-file : goal.returns-in-Some-file
returns-in-Some-file c =
    let e : Some c.in-Some.at ≡ started_index (started_of c.args.self.now) c.args.self.now.slots.items = sym c.in-Some.is ∙ c.started_at.ensures.found in
    c.room.ensures ∙ ap (λ (f : Option Space). room_of (option_map file_state f)) (sym c.in-Some-file.is) ∙ sym (room_found (started_of c.args.self.now) c.args.self.now.slots.items c.in-Some.at c.index.result.now e c.index.ensures)

pub returns-in-None : goal.returns-in-None
returns-in-None c =
    let e : Some c.in-Some.at ≡ started_index (started_of c.args.self.now) c.args.self.now.slots.items = sym c.in-Some.is ∙ c.started_at.ensures.found in
    ap (λ (f : Option Space). room_of (option_map file_state f)) (sym c.in-None.is) ∙ sym (room_found (started_of c.args.self.now) c.args.self.now.slots.items c.in-Some.at c.index.result.now e c.index.ensures)
