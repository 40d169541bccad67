use Rattle.std.proofs.Common.{◌≡◌, ◌∙◌, ℕ, ◌≤◌, length, Option, Some, None, refl, sym, ap, subst, rules}
use Rattle.std.specs.Prelude.{option_map}
use Rattle.bx_desk.specs.Slots.{room_of, room_left}
use Rattle.bx_desk.specs.Shelves.{file_state, slots_of, started_of}
use Rattle.bx_desk.specs.declared.memory.shelf.Slot.{Slot}
use Rattle.bx_desk.specs.declared.memory.shelf.Space.{Space}
use Rattle.bx_desk.proofs.Slotted.{started_index, room_found, add_found, add_missing, added_state, unadded_state, started_set}
use Rattle.bx_desk.proofs.memory.shelf.Shelf.add.Goals as goal

pub returns-in_default-clause-slots : goal.returns-in_default-clause-slots
returns-in_default-clause-slots c =
    let e : None ≡ started_index (started_of c.args.self.now) c.args.self.now.slots.items = sym c.in_default.is ∙ c.started_at.ensures.found in
    add_missing (started_of c.args.self.now) c.args.bytes.now c.args.self.now.slots.items e

pub add-requires : goal.add-requires
add-requires c =
    let e : Some c.in-Some.at ≡ started_index (started_of c.args.self.now) c.args.self.now.slots.items = sym c.in-Some.is ∙ c.started_at.ensures.found in
    let room : room_left (slots_of c.args.self.now) (started_of c.args.self.now) ≡ c.in-Some-file.file.room = room_found (started_of c.args.self.now) c.args.self.now.slots.items c.in-Some.at c.index_mut.result.now e c.index_mut.ensures.value ∙ ap (λ (f : Option Space). room_of (option_map file_state f)) c.in-Some-file.is in
    subst (λ (n : ℕ). length c.args.bytes.now ≤ n) room c.requires

pub returns-in-Some-file-clause-slots : goal.returns-in-Some-file-clause-slots
returns-in-Some-file-clause-slots c =
    let e : Some c.in-Some.at ≡ started_index (started_of c.args.self.now) c.args.self.now.slots.items = sym c.in-Some.is ∙ c.started_at.ensures.found in
    let x : Slot = c.index_mut.result.now in
    add_found (started_of c.args.self.now) c.args.bytes.now c.args.self.now.slots.items c.in-Some.at x (record { name = x.name; file = Some c.add.new.self; place = x.place }) e c.index_mut.ensures.value refl (added_state x c.in-Some-file.file c.add.new.self c.args.bytes.now c.in-Some-file.is c.add.ensures.bytes c.add.ensures.room)

pub returns-in-Some-file-clause-started : goal.returns-in-Some-file-clause-started
returns-in-Some-file-clause-started c =
    let x : Slot = c.index_mut.result.now in
    started_set c.args.self.now.started c.args.self.now.slots.items c.in-Some.at x (record { name = x.name; file = Some c.add.new.self; place = x.place }) c.index_mut.ensures.value refl

pub returns-in_default-file-clause-slots : goal.returns-in_default-file-clause-slots
returns-in_default-file-clause-slots c =
    let e : Some c.in-Some.at ≡ started_index (started_of c.args.self.now) c.args.self.now.slots.items = sym c.in-Some.is ∙ c.started_at.ensures.found in
    let x : Slot = c.index_mut.result.now in
    let none : x.file ≡ None = search rules in
    add_found (started_of c.args.self.now) c.args.bytes.now c.args.self.now.slots.items c.in-Some.at x x e c.index_mut.ensures.value refl (unadded_state x c.args.bytes.now none)
