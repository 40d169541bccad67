use Rattle.std.proofs.Common.{◌∙◌, None, refl, sym, subst}
use Rattle.bx_desk.specs.Desk.{DeskState}
use Rattle.bx_sat.specs.Commands.{name_of}
use Rattle.bx_sat.specs.Runs.{EndsFast, FailsToKeep, solved, unkept, no_formula, refused}
use Rattle.bx_sat.proofs.Endings.{kept, unkept_is, moved_in}
use Rattle.bx_sat.proofs.run.solve_file_fast.Goals as goal

pub returns-in-Err : goal.returns-in-Err
returns-in-Err g c = no_formula (c.say_unread.ensures None (g.D.Desk.state c.args.desk.now) c.in-Err.ensures.err)

pub returns : goal.returns
returns g c =
    subst (λ (s : DeskState). EndsFast c.args.formula.now (name_of c.args.proof) s (g.D.Desk.state c.say_answer.new.desk) c.say_answer.result) c.in-Ok.ensures.ok_stays
    (solved (g.D.Desk.state c.keep_proof.new.desk) c.in-Ok.read c.in-Ok-decide_fast.answer (moved_in _ _ _ _ (sym c.in-Ok.ensures.ok_stays) c.in-Ok.ensures.said) c.in-Ok.ensures.declared c.in-Ok-decide_fast.ensures.found (kept _ _ (sym c.is_err.ensures.value ∙ c.if-is_err.false) c.keep_proof.ensures.ok) c.say_answer.ensures)

pub returns-in-Err-decide_fast : goal.returns-in-Err-decide_fast
returns-in-Err-decide_fast g c = no_formula (refused c.in-Ok.ensures.ok_stays refl)

pub returns-then-is_err : goal.returns-then-is_err
returns-then-is_err g c =
    unkept c.in-Ok.read c.in-Ok-decide_fast.answer c.in-Ok.ensures.said c.in-Ok-decide_fast.ensures.found
    (subst (λ (s : DeskState). FailsToKeep s (g.D.Desk.state c.keep_proof.new.desk) c.in-Ok-decide_fast.answer (name_of c.args.proof)) c.in-Ok.ensures.ok_stays (unkept_is _ _ (sym c.is_err.ensures.value ∙ c.if-is_err.true) c.keep_proof.ensures.err)) refl
