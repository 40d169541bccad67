use Rattle.std.proofs.Common.{◌≡◌, ◌∙◌, refl, rules, Some}
use Rattle.bx_desk.specs.Slots.{file_slot}
use Rattle.bx_desk.specs.Shelves.{slots_of}
use Rattle.bx_desk.specs.declared.memory.shelf.Slot.{Slot}
use Rattle.bx_desk.proofs.Slotted.{set_slot, held_state, started_set}
use Rattle.bx_desk.proofs.memory.shelf.Shelf.put.Goals as goal

new_slot : (c : goal.Joined-index_mut) → Slot
new_slot c = let x : Slot = c.index_mut.result.now in record { name = x.name; file = Some c.of-file.result; place = x.place }

pub returns-clause-ok : goal.returns-clause-ok
unfolding new_slot
returns-clause-ok c =
    let bytes : c.of-file.result.bytes.items ≡ c.args.bytes.now = search rules in
    let x : Slot = c.index_mut.result.now in
    set_slot (file_slot c.args.bytes.now) c.in_ok-at.at c.args.name.now c.slot.new.self.slots.items x (new_slot c) (slots_of c.args.self.now) c.in_ok-at.ensures.found c.index_mut.ensures.value refl (held_state x c.of-file.result c.args.bytes.now bytes c.of-file.ensures.room) c.slot.ensures.slots

pub returns-clause-started : goal.returns-clause-started
unfolding new_slot
returns-clause-started c =
    started_set c.slot.new.self.started c.slot.new.self.slots.items c.in_ok-at.at c.index_mut.result.now (new_slot c) c.index_mut.ensures.value refl ∙ c.slot.ensures.started
