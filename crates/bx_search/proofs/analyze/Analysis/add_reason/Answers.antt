use Rattle.std.proofs.Common.{◌≡◌, ℕ, List, Option, Some, map, sym, ◌∙◌, ap}
use Rattle.bx_cnf.specs.Literals.{Literal}
use Rattle.bx_proof.specs.Accepted.{with_steps}
use Rattle.bx_search.specs.Learning.{reason_variables}
use Rattle.bx_search.specs.Marks.{with_marks}
use Rattle.bx_search.proofs.Numbered.{variables-of}
use Rattle.bx_search.proofs.analyze.Analysis.add_reason.Goals as goal

pub mark_all-requires-clause-assigned : goal.mark_all-requires-clause-assigned
mark_all-requires-clause-assigned c =
    let reason : c.args.entry.reason ≡ Some c.in-Some.id = cc in
    c.requires.assigned c.in-Some.id c.clause_of.result.now reason c.clause_of.ensures

pub returns-in_ok-push-clause-marks : goal.returns-in_ok-push-clause-marks
returns-in_ok-push-clause-marks c =
    let clauses : List (List Literal) = with_steps c.args.clauses.now.clauses c.args.steps.now.steps in
    let reason : c.args.entry.reason ≡ Some c.in-Some.id = cc in
    let same : reason_variables clauses c.args.entry.reason ≡ map (λ (l : Literal). l.var) c.clause_of.result.now =
    ap (λ (o : Option ℕ). reason_variables clauses o) reason ∙ variables-of clauses c.in-Some.id c.clause_of.result.now c.clause_of.ensures in
    c.mark_all.ensures ∙ ap (λ (vs : List ℕ). with_marks c.args.trail.now.entries vs c.args.self.now.marks) (sym same)
