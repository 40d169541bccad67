use Rattle.std.proofs.Common.{◌≡◌, false, true≢false, Result, Ok, Err, OnOk, Some, sym, ◌∙◌, subst}
use Rattle.std.specs.Prelude.{is_err}
use Rattle.bx_cnf.specs.Assignments.{IsFalse}
use Rattle.bx_check.specs.Valued.{Sets}
use Rattle.bx_check.proofs.Taking.{values_taken}
use Rattle.bx_check.proofs.assignment.Assignment.take.Goals as goal

-- what holds where there is no error, where there is none
kept : {T E : Type 0} (r : Result T E) (P : Type 0) → is_err r ≡ false → OnOk r P → P
kept (Ok x) P none h = h
kept (Err e) P none h = absurd (true≢false none)

pub invariant_of-self-else-is_err : goal.invariant_of-self-else-is_err
invariant_of-self-else-is_err c =
    let set = kept c.set-room.result (Sets c.self.inside.values c.set-room.new.self c.var.result (Some c.is_positive.result)) (sym c.is_err.ensures.value ∙ c.if-is_err.false) c.set-room.ensures.ok in
    values_taken c.self.inside.values c.set-room.new.self c.self.inside.taken.items c.push.new.self.items c.args.lit c.self.invariant (λ has. c.requires (subst (λ ts. IsFalse ts c.args.lit) c.self.view_is has))
    (subst (λ var. Sets c.self.inside.values c.set-room.new.self var (Some c.args.lit.positive)) c.var.ensures.var (subst (λ sign. Sets c.self.inside.values c.set-room.new.self c.var.result (Some sign)) c.is_positive.ensures set))
    c.in_ok-push.ensures.items
