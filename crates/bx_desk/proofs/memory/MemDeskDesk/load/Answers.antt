use Rattle.std.proofs.Common.{◌≡◌, Result, Ok, Err, refl, ap, subst, sym, Option, List, ℕ, None, Some}
use Rattle.std.specs.Bool.{IsTrue}
use Rattle.std.specs.Option.{is_none}
use Rattle.std.specs.Prelude.{OnOk}
use Rattle.bx_desk.specs.Memory.{state_of, desk_of, found}
use Rattle.bx_desk.specs.Slots.{file_bytes}
use Rattle.bx_desk.proofs.MemoryCalls.{found_is, load_failed, load_found, load_missing, file-found, whole, front, answer, fails_found}
use Rattle.bx_desk.proofs.memory.MemDeskDesk.load.Goals as goal

on_ok : {T E P : Type 0} (r : Result T E) → P → OnOk r P
on_ok (Ok u) p = p
on_ok (Err e) p = tt

found_file : (c : goal.After-copy_within) → found (state_of c.args.self.now) c.args.name.now ≡ Some c.in-Some.file.now
found_file c = found_is (state_of c.args.self.now) (state_of c.next_call-plan.new.self) c.args.name.now c.next_call-plan.result _ c.next_call-plan.ensures.kept c.next_call-plan.ensures.calls c.in-Some.ensures

found_none : (c : goal.After-fault_load) → found (state_of c.args.self.now) c.args.name.now ≡ None
found_none c = found_is (state_of c.args.self.now) (state_of c.next_call-plan.new.self) c.args.name.now c.next_call-plan.result _ c.next_call-plan.ensures.kept c.next_call-plan.ensures.calls c.in-None.ensures

holds : (c : goal.After-copy_within) → file_bytes ((state_of c.args.self.now).slots c.args.name.now) ≡ Some c.in-Some.file.now
holds c = file-found (state_of c.args.self.now) c.args.name.now c.in-Some.file.now (found_file c)

pub returns-in-Some-clause-whole : goal.returns-in-Some-clause-whole
returns-in-Some-clause-whole c = whole c.copy_within.result _ c.in-Some.file.now c.copy_within.new.into.items c.args.limit (holds c) c.copy_within.ensures.answer

pub returns-in-Some-clause-too_long_front : goal.returns-in-Some-clause-too_long_front
returns-in-Some-clause-too_long_front c = front c.copy_within.result _ c.in-Some.file.now c.copy_within.new.into.items c.args.limit (holds c) c.copy_within.ensures.answer

pub returns-in-Some-clause-answer : goal.returns-in-Some-clause-answer
returns-in-Some-clause-answer c = answer c.copy_within.result (state_of c.args.self.now).faults (state_of c.next_call-plan.new.self).faults _ c.in-Some.file.now c.copy_within.new.into.items c.args.limit (holds c) c.copy_within.ensures.answer

pub returns-in-Some-clause-ok_stays : goal.returns-in-Some-clause-ok_stays
returns-in-Some-clause-ok_stays c = on_ok c.copy_within.result (ap desk_of c.next_call-plan.ensures.calls)

pub returns-in-Some-clause-too_long_stays : goal.returns-in-Some-clause-too_long_stays
returns-in-Some-clause-too_long_stays c = λ _. ap desk_of c.next_call-plan.ensures.calls

pub returns-in-Some-clause-no_memory_stays : goal.returns-in-Some-clause-no_memory_stays
returns-in-Some-clause-no_memory_stays c = λ _. ap desk_of c.next_call-plan.ensures.calls

pub returns-in-Some-clause-fails_exactly : goal.returns-in-Some-clause-fails_exactly
returns-in-Some-clause-fails_exactly c = fails_found c.copy_within.result (state_of c.args.self.now) c.args.name.now c.in-Some.file.now c.copy_within.new.into.items c.args.limit (found_file c) c.copy_within.ensures.answer

pub returns-in-Some-clause-after : goal.returns-in-Some-clause-after
returns-in-Some-clause-after c = load_found (state_of c.args.self.now) (state_of c.next_call-plan.new.self) c.args.name.now c.in-Some.file.now c.next_call-plan.ensures.calls (found_file c)

pub returns-in-None-clause-failed : goal.returns-in-None-clause-failed
returns-in-None-clause-failed c = λ _. load_failed (state_of c.args.self.now) (state_of c.next_call-plan.new.self) (state_of c.fault_load.new.self) c.next_call-plan.ensures.calls c.fault_load.ensures.faults c.fault_load.ensures.no_fall

pub returns-in-None-clause-fails_exactly : goal.returns-in-None-clause-fails_exactly
returns-in-None-clause-fails_exactly c =
    ((λ _. subst (λ (x : Option (List ℕ)). IsTrue (is_none x)) (sym (found_none c)) refl), (λ _. refl))

pub returns-in-None-clause-after : goal.returns-in-None-clause-after
returns-in-None-clause-after c =
    load_missing (state_of c.args.self.now) (state_of c.next_call-plan.new.self) (state_of c.fault_load.new.self) c.args.name.now c.next_call-plan.ensures.calls c.fault_load.ensures.faults (found_none c)
