use Rattle.std.proofs.Common.{◌≡◌, ◌∙◌, ◌≤◌, true, false, subst, refl}
use Rattle.bx_desk.specs.Memory.{State, state_of, cannot_say, after_say}
use Rattle.bx_desk.proofs.MemoryCalls.{say_refused, say_steps, say_ok, say_err}
use Rattle.bx_desk.proofs.memory.MemDeskDesk.say.Goals as goal

pub returns-then-is_refused-clause-err : goal.returns-then-is_refused-clause-err
returns-then-is_refused-clause-err c =
    let s : State = state_of c.args.self.now in
    let t : State = state_of c.next_call-plan.new.self in
    let refused : cannot_say s c.args.piece.now ≡ true = say_refused s t c.next_call-plan.result c.room-room.result c.args.piece.now c.is_refused.result c.next_call-plan.ensures.kept c.next_call-plan.ensures.calls c.room-room.ensures c.is_refused.ensures ∙ c.if-is_refused.true in
    let after : state_of c.fault_say.new.self ≡ after_say s c.args.piece.now = say_steps s t (state_of c.fault_say.new.self) c.next_call-plan.result c.room-room.result c.args.piece.now c.kept_front.result.now c.add.new.self.bytes.items c.add.new.self.room true c.next_call-plan.ensures.kept c.next_call-plan.ensures.calls c.room-room.ensures c.kept_front.ensures.front c.add.ensures.bytes c.add.ensures.room refused c.fault_say.ensures.faults in
    say_err s (state_of c.fault_say.new.self) c.args.piece.now after refused (subst (λ (v : State). v.faults.say ≤ (state_of c.fault_say.new.self).faults.say) c.next_call-plan.ensures.calls c.fault_say.ensures.no_fall)

pub returns-clause-ok : goal.returns-clause-ok
returns-clause-ok c =
    let s : State = state_of c.args.self.now in
    let t : State = state_of c.next_call-plan.new.self in
    let u : State = record t { said = c.add.new.self.bytes.items; room = c.add.new.self.room } in
    let taken : cannot_say s c.args.piece.now ≡ false = say_refused s t c.next_call-plan.result c.room-room.result c.args.piece.now c.is_refused.result c.next_call-plan.ensures.kept c.next_call-plan.ensures.calls c.room-room.ensures c.is_refused.ensures ∙ c.if-is_refused.false in
    let after : u ≡ after_say s c.args.piece.now = say_steps s t u c.next_call-plan.result c.room-room.result c.args.piece.now c.kept_front.result.now c.add.new.self.bytes.items c.add.new.self.room false c.next_call-plan.ensures.kept c.next_call-plan.ensures.calls c.room-room.ensures c.kept_front.ensures.front c.add.ensures.bytes c.add.ensures.room taken refl in
    say_ok s u c.args.piece.now after taken
