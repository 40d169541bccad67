use Rattle.std.proofs.Common.{◌∙◌, Some, None, refl, sym, subst}
use Rattle.bx_desk.specs.Desk.{DeskState}
use Rattle.bx_sat.specs.Files.{LeavesUnread, IsProofIn}
use Rattle.bx_sat.specs.Runs.{EndsCheck, checked, no_formula, no_proof, refused}
use Rattle.bx_sat.proofs.Endings.{moved_in}
use Rattle.bx_sat.proofs.run.check_files.Goals as goal

pub returns-in-Err : goal.returns-in-Err
returns-in-Err g c = no_formula (c.say_unread.ensures None (g.D.Desk.state c.args.desk.now) c.in-Err.ensures.err)

pub returns-in-Err-load_proof : goal.returns-in-Err-load_proof
returns-in-Err-load_proof g c = no_proof c.in-Ok.read c.in-Ok.ensures.said (c.say_unread-in-Err-load_proof.ensures (Some c.in-Ok.read.clauses) (g.D.Desk.state c.args.desk.now) (subst (λ (s : DeskState). LeavesUnread (Some c.in-Ok.read.clauses) s (g.D.Desk.state c.load_proof.new.desk) c.args.proof.now c.in-Err-load_proof.fault) c.in-Ok.ensures.ok_stays c.in-Err-load_proof.ensures.err))

pub returns-in-Ok-verify : goal.returns-in-Ok-verify
returns-in-Ok-verify g c =
    subst (λ (s : DeskState). EndsCheck c.args.formula.now c.args.proof.now s (g.D.Desk.state c.say_finding.new.desk) c.say_finding.result) (c.in-Ok-load_proof.ensures.ok_stays ∙ c.in-Ok.ensures.ok_stays)
    (checked c.in-Ok.read c.in-Ok-load_proof.steps c.in-Ok-verify.finding (moved_in _ _ _ _ (sym (c.in-Ok-load_proof.ensures.ok_stays ∙ c.in-Ok.ensures.ok_stays)) c.in-Ok.ensures.said)
    (subst (λ (s : DeskState). IsProofIn c.in-Ok.read.clauses s c.args.proof.now c.in-Ok-load_proof.steps) (sym c.in-Ok-load_proof.ensures.ok_stays) c.in-Ok-load_proof.ensures.said) c.in-Ok-verify.ensures.finding c.say_finding.ensures)

pub returns : goal.returns
returns g c = no_formula (refused (c.in-Ok-load_proof.ensures.ok_stays ∙ c.in-Ok.ensures.ok_stays) refl)
