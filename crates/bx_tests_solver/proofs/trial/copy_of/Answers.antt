use Rattle.std.proofs.Common.{◌≡◌, ◌∙◌, ◌++◌, [], ◌∷◌, List, Some, slice_get, ap, sym, arith}
use Rattle.bx_cnf.specs.Literals.{Literal}
use Rattle.bx_cnf.specs.Formulas.{Formula}
use Rattle.bx_watch.proofs.Firsts.{take-with}
use Rattle.bx_tests_solver.proofs.trial.copy_of.Goals as goal

pub loop-before-preserved : goal.loop-before-preserved
loop-before-preserved c =
    let read : slice_get c.args.clauses.now.clauses c.loop-before.before ≡ Some c.clause.result.now = ap (slice_get c.args.clauses.now.clauses) (omega arith) ∙ c.clause.ensures.value in
    c.in_ok-push.ensures.ok
    ∙ (ap (λ (f : Formula). record f { clauses = f.clauses ++ c.clause.result.now ∷ [] }) c.loop-before.invariant
    ∙ ap (λ (cs : List (List Literal)). record { vars = c.args.clauses.now.vars; clauses = cs }) (sym (take-with c.args.clauses.now.clauses c.loop-before.before c.clause.result.now read)))
