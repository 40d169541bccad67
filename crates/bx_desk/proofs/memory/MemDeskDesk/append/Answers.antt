use Rattle.std.proofs.Common.{◌≡◌, ◌∙◌, ◌≤◌, true, false, subst, refl}
use Rattle.bx_desk.specs.Shelves.{slots_of, started_of}
use Rattle.bx_desk.specs.Memory.{State, state_of, cannot_append, after_append}
use Rattle.bx_desk.proofs.MemoryCalls.{append_refused, append_steps, append_ok, append_err}
use Rattle.bx_desk.proofs.memory.MemDeskDesk.append.Goals as goal

refused : (c : goal.After-fault_write) → cannot_append (state_of c.args.self.now) c.args.piece.now ≡ true
refused c = append_refused (state_of c.args.self.now) (state_of c.next_call-plan.new.self) c.next_call-plan.result c.room-room.result c.args.piece.now c.is_refused.result c.next_call-plan.ensures.kept c.next_call-plan.ensures.calls c.room-room.ensures c.is_refused.ensures ∙ c.if-is_refused.true

left : (c : goal.After-fault_write) → state_of c.fault_write.new.self ≡ after_append (state_of c.args.self.now) c.args.piece.now
left c = append_steps (state_of c.args.self.now) (state_of c.next_call-plan.new.self) (state_of c.fault_write.new.self) c.next_call-plan.result c.room-room.result c.args.piece.now c.kept_front.result.now (slots_of c.add.new.self) (started_of c.add.new.self) true c.next_call-plan.ensures.kept c.next_call-plan.ensures.calls c.room-room.ensures c.kept_front.ensures.front c.add.ensures.slots c.add.ensures.started (refused c) c.fault_write.ensures.faults

pub returns-then-is_refused-clause-err : goal.returns-then-is_refused-clause-err
returns-then-is_refused-clause-err c =
    append_err (state_of c.args.self.now) (state_of c.fault_write.new.self) c.args.piece.now (left c) (refused c) (subst (λ (v : State). v.faults.write ≤ (state_of c.fault_write.new.self).faults.write) c.next_call-plan.ensures.calls c.fault_write.ensures.no_fall)

pub returns-then-is_refused-clause-after : goal.returns-then-is_refused-clause-after
returns-then-is_refused-clause-after c = left c

pub returns-clause-ok : goal.returns-clause-ok
returns-clause-ok c =
    let s : State = state_of c.args.self.now in
    let t : State = state_of c.next_call-plan.new.self in
    let u : State = record t { slots = slots_of c.add.new.self; started = started_of c.add.new.self } in
    let taken : cannot_append s c.args.piece.now ≡ false = append_refused s t c.next_call-plan.result c.room-room.result c.args.piece.now c.is_refused.result c.next_call-plan.ensures.kept c.next_call-plan.ensures.calls c.room-room.ensures c.is_refused.ensures ∙ c.if-is_refused.false in
    let after : u ≡ after_append s c.args.piece.now = append_steps s t u c.next_call-plan.result c.room-room.result c.args.piece.now c.kept_front.result.now (slots_of c.add.new.self) (started_of c.add.new.self) false c.next_call-plan.ensures.kept c.next_call-plan.ensures.calls c.room-room.ensures c.kept_front.ensures.front c.add.ensures.slots c.add.ensures.started taken refl in
    append_ok s u c.args.piece.now after taken

pub returns-clause-after : goal.returns-clause-after
returns-clause-after c =
    let s : State = state_of c.args.self.now in
    let t : State = state_of c.next_call-plan.new.self in
    let u : State = record t { slots = slots_of c.add.new.self; started = started_of c.add.new.self } in
    let taken : cannot_append s c.args.piece.now ≡ false = append_refused s t c.next_call-plan.result c.room-room.result c.args.piece.now c.is_refused.result c.next_call-plan.ensures.kept c.next_call-plan.ensures.calls c.room-room.ensures c.is_refused.ensures ∙ c.if-is_refused.false in
    append_steps s t u c.next_call-plan.result c.room-room.result c.args.piece.now c.kept_front.result.now (slots_of c.add.new.self) (started_of c.add.new.self) false c.next_call-plan.ensures.kept c.next_call-plan.ensures.calls c.room-room.ensures c.kept_front.ensures.front c.add.ensures.slots c.add.ensures.started taken refl
