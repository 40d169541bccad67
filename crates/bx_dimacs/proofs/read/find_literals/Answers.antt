use Rattle.std.proofs.Common.{◌≡◌, ◌∙◌, ap, sym, subst}
use Rattle.bx_cnf.specs.Formulas.{IsClause}
use Rattle.bx_dimacs.specs.Keeping.{AreInOrder}
use Rattle.bx_dimacs.specs.ProofTexts.{is_clause_over}
use Rattle.bx_dimacs.proofs.Stepping.{clause_test}
use Rattle.bx_dimacs.proofs.read.find_literals.Goals as goal

pub returns-clause-exact : goal.returns-clause-exact
returns-clause-exact c =
    let positive = c.in_ok-put_literals.ensures.positive c.if-not-branch.false in
    clause_test c.args.vars c.put_literals.new.literals.items c.put_in_order.new.literals.items c.is_clause.result positive
    (c.put_in_order.ensures.same positive) (λ plain. c.put_in_order.ensures.ascending plain positive) (λ tautology up. c.put_in_order.ensures.twice tautology positive up)
    (λ h. subst (IsClause c.args.vars) c.deref.ensures.value (c.is_clause.ensures.0 h))
    (λ clause. c.is_clause.ensures.1 (subst (IsClause c.args.vars) (sym c.deref.ensures.value) clause))
    ∙ ap (is_clause_over c.args.vars) (c.in_ok-put_literals.ensures.found c.if-not-branch.false)

pub returns-clause-ordered : goal.returns-clause-ordered
returns-clause-ordered c = λ is.
    let positive = c.in_ok-put_literals.ensures.positive c.if-not-branch.false in
    let clause : IsClause c.args.vars c.put_in_order.new.literals.items = subst (IsClause c.args.vars) c.deref.ensures.value (c.is_clause.ensures.0 is) in
    let ordered : AreInOrder c.put_literals.new.literals.items c.put_in_order.new.literals.items = record { ascending = clause.ascending; same = c.put_in_order.ensures.same positive } in
    subst (λ ls. AreInOrder ls c.put_in_order.new.literals.items) (c.in_ok-put_literals.ensures.found c.if-not-branch.false) ordered
