use Rattle.std.proofs.Common.{◌≡◌, true, false, [], ◌∷◌, ◌++◌, sym, ◌∙◌, ap, refl, arith}
use Rattle.bx_cnf.specs.Formulas.{Formula, IsClause}
use Rattle.bx_dimacs.specs.declared.formula.Reading.{Reading}
use Rattle.bx_dimacs.proofs.Showing.{plain_shown, own_shown, none_left, ordered_by, clause_of, clause_back}
use Rattle.bx_dimacs.proofs.formula.Reading.end_clause.Goals as goal

pub returns-then-is_clause : goal.returns-then-is_clause
returns-then-is_clause c = λ text shows.
    let in_order = ordered_by c.args.self.now text c.put_in_order.new.literals.items shows c.put_in_order.ensures.same c.put_in_order.ensures.ascending c.put_in_order.ensures.twice in
    let clause : IsClause c.args.self.now.draft.vars c.put_in_order.new.literals.items =
    clause_of c.vars.result c.args.self.now.draft.vars c.deref.result.now c.put_in_order.new.literals.items c.vars.ensures.vars c.deref.ensures.value (c.is_clause.ensures.0 c.if-is_clause.true)
    in
    let new : Reading = record { header = c.args.self.now.header; draft = c.push.new.self; literals = c.clear.new.self } in
    plain_shown c.args.self.now new text c.put_in_order.new.literals.items shows in_order clause c.vars.ensures.formed refl
    (c.in_ok-push.ensures.ok ∙ ap (λ ls. let f : Formula = record { vars = c.args.self.now.draft.vars; clauses = c.args.self.now.draft.clauses ++ ls ∷ [] } in f) c.deref-then-is_clause.ensures.value)
    c.clear.ensures.items

pub returns-then-vars : goal.returns-then-vars
returns-then-vars c = λ text shows.
    let in_order = ordered_by c.args.self.now text c.put_in_order.new.literals.items shows c.put_in_order.ensures.same c.put_in_order.ensures.ascending c.put_in_order.ensures.twice in
    let new : Reading = record { header = c.args.self.now.header; draft = c.args.self.now.draft; literals = c.put_in_order.new.literals } in
    none_left c.args.self.now new text c.put_in_order.new.literals.items shows in_order
    (λ clause. let clash : false ≡ true = sym c.if-is_clause.false ∙ c.is_clause.ensures.1 (clause_back c.vars.result c.args.self.now.draft.vars c.deref.result.now c.put_in_order.new.literals.items c.vars.ensures.vars c.deref.ensures.value clause) in (cc))
    (omega arith)

pub returns : goal.returns
returns c = λ text shows.
    let in_order = ordered_by c.args.self.now text c.put_in_order.new.literals.items shows c.put_in_order.ensures.same c.put_in_order.ensures.ascending c.put_in_order.ensures.twice in
    let new : Reading = record { header = c.args.self.now.header; draft = c.push_apart.new.self; literals = c.clear-2.new.self } in
    own_shown c.args.self.now new text c.put_in_order.new.literals.items shows in_order
    (λ clause. let clash : false ≡ true = sym c.if-is_clause.false ∙ c.is_clause.ensures.1 (clause_back c.vars.result c.args.self.now.draft.vars c.deref.result.now c.put_in_order.new.literals.items c.vars.ensures.vars c.deref.ensures.value clause) in (cc))
    (omega arith) refl (ap (λ (f : Formula). f.vars) c.in_ok-push_apart.ensures.ok) (ap (λ (f : Formula). f.clauses) c.in_ok-push_apart.ensures.ok) c.clear-2.ensures.items
