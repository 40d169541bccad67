use Rattle.std.proofs.Common.{◌≡◌, ◌∙◌, Option, Some, Bool, refl, sym, ap}
use Rattle.std.specs.Option.{is_some}
use Rattle.std.specs.Prelude.{option_map, string_bytes}
use Rattle.bx_desk.specs.Slots.{SlotState, started_slot}
use Rattle.bx_desk.specs.Shelves.{slot_state, slots_of, index_from}
use Rattle.bx_desk.specs.declared.memory.shelf.Slot.{Slot}
use Rattle.bx_desk.specs.declared.memory.shelf.Space.{Space}
use Rattle.bx_desk.proofs.Slotted.{is_at, missing, set_slot, set_name, started_state}
use Rattle.bx_desk.proofs.memory.shelf.Shelf.start.Goals as goal

has_place : Option Space → Bool
has_place place = is_some (option_map (λ space. space.room) place)

pub returns-in_default-clause-answer : goal.returns-in_default-clause-answer
returns-in_default-clause-answer c =
    sym (ap (λ (s : SlotState). is_some s.place) (missing 0 c.args.name.now c.args.self.now.slots.items (sym c.find.ensures.found ∙ c.in_default.is)))

pub returns-in_default-take-clause-answer : goal.returns-in_default-take-clause-answer
unfolding has_place
returns-in_default-take-clause-answer c =
    let x : Slot = c.index_mut-slot.result.now in
    let found : slots_of c.args.self.now c.args.name.now ≡ slot_state x = (is_at c.in-Some.at c.args.name.now c.args.self.now.slots.items (sym c.find.ensures.found ∙ c.in-Some.is)).found x ∙ ap slot_state (sym c.index_mut-slot.ensures.value) in
    sym (ap (λ (s : SlotState). is_some s.place) found ∙ ap has_place (sym c.take.ensures.value ∙ c.in_default-take.is))

pub returns-clause-answer : goal.returns-clause-answer
unfolding has_place
returns-clause-answer c =
    let x : Slot = c.index_mut-slot.result.now in
    let found : slots_of c.args.self.now c.args.name.now ≡ slot_state x = (is_at c.in-Some.at c.args.name.now c.args.self.now.slots.items (sym c.find.ensures.found ∙ c.in-Some.is)).found x ∙ ap slot_state (sym c.index_mut-slot.ensures.value) in
    sym (ap (λ (s : SlotState). is_some s.place) found ∙ ap has_place (sym c.take.ensures.value ∙ c.in-Some-take.is))

pub returns-clause-slots : goal.returns-clause-slots
returns-clause-slots c = λ _.
    let x : Slot = c.index_mut-slot.result.now in
    let e : index_from 0 c.args.name.now c.args.self.now.slots.items ≡ Some c.in-Some.at = sym c.find.ensures.found ∙ c.in-Some.is in
    let place : x.place ≡ Some c.in-Some-take.space = sym c.take.ensures.value ∙ c.in-Some-take.is in
    set_slot started_slot c.in-Some.at c.args.name.now c.args.self.now.slots.items x (record { name = x.name; file = Some c.clear.new.self; place = c.take.new.self }) (slots_of c.args.self.now) e c.index_mut-slot.ensures.value refl (ap (λ (p : Option Space). slot_state (record { name = x.name; file = Some c.clear.new.self; place = p })) c.take.ensures.after ∙ started_state x c.in-Some-take.space c.clear.new.self place c.clear.ensures.bytes c.clear.ensures.room) refl

pub returns-clause-started : goal.returns-clause-started
returns-clause-started c = λ _.
    let x : Slot = c.index_mut-slot.result.now in
    let e : index_from 0 c.args.name.now c.args.self.now.slots.items ≡ Some c.in-Some.at = sym c.find.ensures.found ∙ c.in-Some.is in
    ap Some (set_name c.args.self.now.slots.items c.in-Some.at (record { name = x.name; file = Some c.clear.new.self; place = c.take.new.self }) x c.in-Some.at (ap (λ (s : Slot). string_bytes s.name) c.index_mut-slot.ensures.value) ∙ (is_at c.in-Some.at c.args.name.now c.args.self.now.slots.items e).listed)
