use Rattle.std.proofs.Common.{◌≡◌, ◌∙◌, ◌+◌, ◌<◌, List, length, Some, None, refl, ap, sym, arith, vec_len}
use Rattle.std.specs.Prelude.{option_map}
use Rattle.bx_desk.specs.Shelves.{slot_at, index_from, name_at}
use Rattle.bx_desk.specs.declared.memory.shelf.Slot.{Slot}
use Rattle.bx_desk.proofs.Slotted.{push_slot, push_index, started_push}
use Rattle.bx_desk.proofs.memory.shelf.Shelf.slot.Goals as goal

pub returns-clause-found : goal.returns-clause-found
returns-clause-found c =
    let len : 0 + length c.args.self.now.slots.items ≡ c.len-at.result = omega (arith, c.args.self.now.slots.ok.0, c.len-at.ensures) in
    ap (index_from 0 c.args.name.now) c.in_ok-push.ensures.items
    ∙ push_index 0 c.args.name.now c.args.self.now.slots.items (record { name = c.in_ok-from_str.field-0; file = None; place = None }) (sym c.find.ensures.found ∙ c.in_default.is) c.in_ok-from_str.ensures.ok
    ∙ ap Some len

pub returns-clause-slots : goal.returns-clause-slots
returns-clause-slots c =
    ap slot_at c.in_ok-push.ensures.items ∙ push_slot c.args.self.now.slots.items (record { name = c.in_ok-from_str.field-0; file = None; place = None }) refl

pub returns-clause-started : goal.returns-clause-started
returns-clause-started c =
    ap (λ (xs : List Slot). option_map (name_at xs) c.args.self.now.started) c.in_ok-push.ensures.items
    ∙ started_push c.args.self.now.started c.args.self.now.slots.items (record { name = c.in_ok-from_str.field-0; file = None; place = None }) (λ at is. let lt : at < vec_len c.args.self.now.slots = c.args.self.now.in_range at is in omega (arith, c.args.self.now.slots.ok.0))
