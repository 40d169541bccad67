use Rattle.std.proofs.Common.{◌≡◌, ◌++◌, ◌∷◌, [], ◌<◌, List, length, sym, ◌∙◌, ap, subst, append_assoc}
use Rattle.bx_cnf.specs.Literals.{Literal}
use Rattle.bx_cnf.specs.Formulas.{Formula, IsClause, IsFormula}
use Rattle.bx_watch.proofs.Keeps.{IsFormula-push}
use Rattle.bx_watch.proofs.store.Store.push.Goals as goal

formed : (c : goal.In_ok-push) → IsFormula (record { vars = c.self.inside.formula.now.vars; clauses = c.self.inside.formula.now.clauses ++ c.push.new.self.clauses })
formed c =
    let own = c.self.inside.formula.now.clauses in
    let learned = c.self.inside.learned.clauses in
    let clause : IsClause c.self.inside.formula.now.vars c.args.literals.now = subst (λ (f : Formula). IsClause f.vars c.args.literals.now) (sym c.self.view_is) c.requires.clause in
    let room : length (own ++ learned) < 4294967295 = subst (λ (f : Formula). length f.clauses < 4294967295) (sym c.self.view_is) c.requires.room in
    let same : c.push.new.self.clauses ≡ learned ++ c.args.literals.now ∷ [] = ap (λ (f : Formula). f.clauses) c.in_ok-push.ensures.ok in
    subst (λ (cs : List (List Literal)). IsFormula (record { vars = c.self.inside.formula.now.vars; clauses = cs })) (append_assoc own learned (c.args.literals.now ∷ []) ∙ ap (λ (cs : List (List Literal)). own ++ cs) (sym same))
    (IsFormula-push c.self.inside.formula.now.vars (own ++ learned) c.args.literals.now c.self.invariant.0 clause room)

pub invariant_of-self-2 : goal.invariant_of-self-2
invariant_of-self-2 c = (formed c, ap (λ (f : Formula). f.vars) c.in_ok-push.ensures.ok ∙ c.self.invariant.1)

pub returns-clause-formed : goal.returns-clause-formed
returns-clause-formed c =
    let own = c.self.inside.formula.now.clauses in
    let learned = c.self.inside.learned.clauses in
    let clause : IsClause c.self.inside.formula.now.vars c.args.literals.now = subst (λ (f : Formula). IsClause f.vars c.args.literals.now) (sym c.self.view_is) c.requires.clause in
    let room : length (own ++ learned) < 4294967295 = subst (λ (f : Formula). length f.clauses < 4294967295) (sym c.self.view_is) c.requires.room in
    let same : c.push.new.self.clauses ≡ learned ++ c.args.literals.now ∷ [] = ap (λ (f : Formula). f.clauses) c.in_ok-push.ensures.ok in
    subst (λ (cs : List (List Literal)). IsFormula (record { vars = c.self.inside.formula.now.vars; clauses = cs })) (append_assoc own learned (c.args.literals.now ∷ []) ∙ ap (λ (cs : List (List Literal)). own ++ cs) (sym same))
    (IsFormula-push c.self.inside.formula.now.vars (own ++ learned) c.args.literals.now c.self.invariant.0 clause room)
