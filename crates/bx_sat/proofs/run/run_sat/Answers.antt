use Rattle.std.proofs.Common.{◌∙◌, Option, Some, ap, sym, subst}
use Rattle.bx_sat.specs.Commands.{request_by}
use Rattle.bx_sat.specs.Runs.{EndsRun}
use Rattle.bx_sat.specs.Words.{Request}
use Rattle.bx_sat.proofs.run.run_sat.Goals as goal

pub returns-in-Some-Check : goal.returns-in-Some-Check
returns-in-Some-Check g c =
    subst (λ (asks : Option Request). EndsRun asks (g.D.Desk.state c.args.desk.now) (g.D.Desk.state c.check_files.new.desk) c.check_files.result) (sym (ap (λ x. Some (request_by x)) c.in-Some-Check.field-0-is) ∙ c.in-Some-Check.ensures) c.check_files.ensures

pub returns-in-Some-Solve : goal.returns-in-Some-Solve
returns-in-Some-Solve g c =
    subst (λ (asks : Option Request). EndsRun asks (g.D.Desk.state c.args.desk.now) (g.D.Desk.state c.solve_file.new.desk) c.solve_file.result) (sym (ap (λ x. Some (request_by x)) c.in-Some-Solve.field-0-is) ∙ c.in-Some-Solve.ensures) c.solve_file.ensures

pub returns-in-None : goal.returns-in-None
returns-in-None g c =
    subst (λ (asks : Option Request). EndsRun asks (g.D.Desk.state c.args.desk.now) (g.D.Desk.state c.say.new.desk) c.say.result) c.in-None.ensures c.say.ensures

pub returns-in-Some-SolveFast : goal.returns-in-Some-SolveFast
returns-in-Some-SolveFast g c =
    subst (λ (asks : Option Request). EndsRun asks (g.D.Desk.state c.args.desk.now) (g.D.Desk.state c.solve_file_fast.new.desk) c.solve_file_fast.result) (sym (ap (λ x. Some (request_by x)) c.in-Some-SolveFast.field-0-is) ∙ c.in-Some-SolveFast.ensures) c.solve_file_fast.ensures
