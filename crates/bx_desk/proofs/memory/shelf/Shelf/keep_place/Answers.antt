use Rattle.std.proofs.Common.{◌≡◌, ◌∙◌, refl, arith, Some}
use Rattle.bx_desk.specs.Slots.{place_slot}
use Rattle.bx_desk.specs.Shelves.{slots_of}
use Rattle.bx_desk.specs.declared.memory.shelf.Slot.{Slot}
use Rattle.bx_desk.proofs.Slotted.{set_slot, kept_state, started_set}
use Rattle.bx_desk.proofs.memory.shelf.Shelf.keep_place.Goals as goal

new_slot : (c : goal.Joined-index_mut) → Slot
new_slot c = let x : Slot = c.index_mut.result.now in record { name = x.name; file = x.file; place = Some c.make_room.new.self }

pub returns-clause-ok : goal.returns-clause-ok
unfolding new_slot
returns-clause-ok c =
    let room : c.make_room.new.self.room ≡ c.args.size = omega (arith, c.in_ok-make_room.ensures.ok) in
    let x : Slot = c.index_mut.result.now in
    set_slot (place_slot c.args.size) c.in_ok-at.at c.args.name.now c.slot.new.self.slots.items x (new_slot c) (slots_of c.args.self.now) c.in_ok-at.ensures.found c.index_mut.ensures.value refl (kept_state x c.make_room.new.self c.args.size room) c.slot.ensures.slots

pub returns-clause-started : goal.returns-clause-started
unfolding new_slot
returns-clause-started c =
    started_set c.slot.new.self.started c.slot.new.self.slots.items c.in_ok-at.at c.index_mut.result.now (new_slot c) c.index_mut.ensures.value refl ∙ c.slot.ensures.started
