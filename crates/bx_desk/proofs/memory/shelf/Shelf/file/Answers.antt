use Rattle.std.proofs.Common.{◌≡◌, ◌∙◌, ℕ, List, Option, Some, sym, ap, Bor}
use Rattle.std.specs.Prelude.{option_map}
use Rattle.bx_desk.specs.Slots.{file_bytes}
use Rattle.bx_desk.specs.Shelves.{slot_state, slots_of, file_state}
use Rattle.bx_desk.specs.declared.memory.shelf.Space.{Space}
use Rattle.bx_desk.proofs.Slotted.{is_at, missing}
use Rattle.bx_desk.proofs.memory.shelf.Shelf.file.Goals as goal

bytes_of : Option Space → Option (List ℕ)
bytes_of file = option_map (λ file. file.bytes) (option_map file_state file)

pub returns-in_err-at : goal.returns-in_err-at
returns-in_err-at c =
    ap (λ (f : Option (Bor (List ℕ))). option_map (λ file. file.now) f) c.from_residual.ensures
    ∙ sym (ap file_bytes (missing 0 c.args.name.now c.args.self.now.slots.items (sym c.find.ensures.found ∙ c.in_err-at.was)))

pub returns-in_err-space : goal.returns-in_err-space
unfolding bytes_of
returns-in_err-space c =
    let found : slots_of c.args.self.now c.args.name.now ≡ slot_state c.index.result.now = (is_at c.in_ok-at.at c.args.name.now c.args.self.now.slots.items (sym c.find.ensures.found ∙ c.in_ok-at.was)).found c.index.result.now ∙ ap slot_state (sym c.index.ensures) in
    ap (λ (f : Option (Bor (List ℕ))). option_map (λ file. file.now) f) c.from_residual-in_err-space.ensures
    ∙ ap bytes_of c.in_err-space.ensures.value ∙ sym (ap file_bytes found)

pub returns : goal.returns
unfolding bytes_of
returns c =
    let found : slots_of c.args.self.now c.args.name.now ≡ slot_state c.index.result.now = (is_at c.in_ok-at.at c.args.name.now c.args.self.now.slots.items (sym c.find.ensures.found ∙ c.in_ok-at.was)).found c.index.result.now ∙ ap slot_state (sym c.index.ensures) in
    ap Some c.bytes.ensures ∙ ap bytes_of c.in_ok-space.ensures.value ∙ sym (ap file_bytes found)
