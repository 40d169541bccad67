use Rattle.std.proofs.Common.{◌≡◌, ◌∙◌, ℕ, ◌≤◌, List, Option, None, true, false, subst, sym, ap, refl}
use Rattle.std.specs.Option.{is_some}
use Rattle.bx_desk.specs.Slots.{SlotState, with_slot, started_slot}
use Rattle.bx_desk.specs.Shelves.{slots_of, started_of}
use Rattle.bx_desk.specs.Memory.{State, state_of, next_count, cannot_start, after_start}
use Rattle.bx_desk.proofs.MemoryCalls.{start_planned, start_placed, none_where_not_some, start_after_ok, start_after_err, start_ok, start_err}
use Rattle.bx_desk.proofs.memory.MemDeskDesk.start.Goals as goal

-- the call was to fail
planned : (c : goal.After-fail_start) → cannot_start (state_of c.args.self.now) c.args.name.now ≡ true
planned c = start_planned (state_of c.args.self.now) c.args.name.now (ap is_some (sym c.next_call.ensures.kept) ∙ sym c.is_some.ensures ∙ c.if-is_some.true)

left_planned : (c : goal.After-fail_start) → state_of c.fail_start.new.self ≡ after_start (state_of c.args.self.now) c.args.name.now
left_planned c = start_after_err (state_of c.args.self.now) (state_of c.next_call.new.self) (state_of c.fail_start.new.self) c.args.name.now c.next_call.ensures.calls c.fail_start.ensures.after (planned c)

pub returns-then-is_some-clause-err : goal.returns-then-is_some-clause-err
returns-then-is_some-clause-err c =
    start_err (state_of c.args.self.now) (state_of c.fail_start.new.self) c.args.name.now (left_planned c) (planned c) (subst (λ (v : State). v.faults.write ≤ (state_of c.fail_start.new.self).faults.write) c.next_call.ensures.calls c.fail_start.ensures.no_fall)

pub returns-then-is_some-clause-after : goal.returns-then-is_some-clause-after
returns-then-is_some-clause-after c = left_planned c

-- the name has no place
unplaced : (c : goal.After-fail_start-then-not-start) → cannot_start (state_of c.args.self.now) c.args.name.now ≡ true
unplaced c =
    start_placed (state_of c.args.self.now) (state_of c.next_call.new.self) c.args.name.now c.start.result (ap is_some (sym c.next_call.ensures.kept) ∙ sym c.is_some.ensures ∙ c.if-is_some.false) c.next_call.ensures.calls c.start.ensures.answer
    ∙ none_where_not_some ((state_of c.next_call.new.self).slots c.args.name.now).place c.start.result false c.start.ensures.answer c.if-not-start.true

left_unplaced : (c : goal.After-fail_start-then-not-start) → state_of c.fail_start-then-not-start.new.self ≡ after_start (state_of c.args.self.now) c.args.name.now
left_unplaced c =
    let t : State = state_of c.next_call.new.self in
    let stays : slots_of c.start.new.self ≡ t.slots = (c.start.ensures.stays c.if-not-start.true).0 in
    start_after_err (state_of c.args.self.now) t (state_of c.fail_start-then-not-start.new.self) c.args.name.now c.next_call.ensures.calls (c.fail_start-then-not-start.ensures.after ∙ ap (λ (xs : List ℕ → SlotState). record t { slots = xs; started = None; faults = record t.faults { write = next_count t.faults.write } }) stays) (unplaced c)

pub returns-then-not-start-clause-err : goal.returns-then-not-start-clause-err
returns-then-not-start-clause-err c =
    start_err (state_of c.args.self.now) (state_of c.fail_start-then-not-start.new.self) c.args.name.now (left_unplaced c) (unplaced c) (subst (λ (v : State). v.faults.write ≤ (state_of c.fail_start-then-not-start.new.self).faults.write) c.next_call.ensures.calls c.fail_start-then-not-start.ensures.no_fall)

pub returns-then-not-start-clause-fails_exactly : goal.returns-then-not-start-clause-fails_exactly
returns-then-not-start-clause-fails_exactly c = ((λ _. unplaced c), (λ _. refl))

pub returns-then-not-start-clause-after : goal.returns-then-not-start-clause-after
returns-then-not-start-clause-after c = left_unplaced c

-- the call succeeds
taken : (c : goal.Else-not-start) → cannot_start (state_of c.args.self.now) c.args.name.now ≡ false
taken c =
    start_placed (state_of c.args.self.now) (state_of c.next_call.new.self) c.args.name.now c.start.result (ap is_some (sym c.next_call.ensures.kept) ∙ sym c.is_some.ensures ∙ c.if-is_some.false) c.next_call.ensures.calls c.start.ensures.answer
    ∙ none_where_not_some ((state_of c.next_call.new.self).slots c.args.name.now).place c.start.result true c.start.ensures.answer c.if-not-start.false

left : (c : goal.Else-not-start) → State
left c = record (state_of c.next_call.new.self) { slots = slots_of c.start.new.self; started = started_of c.start.new.self }

left_taken : (c : goal.Else-not-start) → left c ≡ after_start (state_of c.args.self.now) c.args.name.now
unfolding left
left_taken c =
    let t : State = state_of c.next_call.new.self in
    start_after_ok (state_of c.args.self.now) t (left c) c.args.name.now c.next_call.ensures.calls (ap (λ (xs : List ℕ → SlotState). record t { slots = xs; started = started_of c.start.new.self }) (c.start.ensures.slots c.if-not-start.false) ∙ ap (λ (n : Option (List ℕ)). record t { slots = with_slot c.args.name.now started_slot t.slots; started = n }) (c.start.ensures.started c.if-not-start.false)) (taken c)

pub returns-clause-ok : goal.returns-clause-ok
unfolding left
returns-clause-ok c = start_ok (state_of c.args.self.now) (left c) c.args.name.now (left_taken c) (taken c)

pub returns-clause-fails_exactly : goal.returns-clause-fails_exactly
returns-clause-fails_exactly c = ((λ e. taken c ∙ e), (λ h. sym (taken c) ∙ h))

pub returns-clause-after : goal.returns-clause-after
unfolding left
returns-clause-after c = left_taken c
