use Rattle.std.proofs.Common.{List, [], ◌∷◌, ◌++◌, sym, ap, ◌∙◌}
use Rattle.bx_cnf.specs.Literals.{Literal}
use Rattle.bx_cnf.specs.Formulas.{Formula}
use Rattle.bx_dimacs.proofs.Lists.{take_next}
use Rattle.bx_dimacs.proofs.draft.copied.Goals as goal

pub loop-k-preserved : goal.loop-k-preserved
loop-k-preserved c =
    let with : List (List Literal) → Formula = λ clauses. record { vars = c.args.vars; clauses = clauses } in
    c.in_ok-push.ensures.ok
    ∙ ap (λ (f : Formula). let more : Formula = record { vars = f.vars; clauses = f.clauses ++ c.list.result.now ∷ [] } in more) c.loop-k.invariant
    ∙ ap with (sym (take_next c.args.lists.now c.loop-k.k c.list.result.now c.list.ensures))
