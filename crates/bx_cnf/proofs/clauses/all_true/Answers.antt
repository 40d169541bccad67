use Rattle.std.proofs.Common.{◌≡◌, true, arith, rules, ap, ◌∙◌, Some}
use Rattle.std.specs.Prelude.{slice_get}
use Rattle.bx_cnf.specs.Formulas.{IsClauseTrue}
use Rattle.bx_cnf.proofs.Formulas.{true_at, true_more, true_all}
use Rattle.bx_cnf.proofs.clauses.all_true.Goals as goal

pub returns-then-not-is_clause_true : goal.returns-then-not-is_clause_true
returns-then-not-is_clause_true c =
    let read : slice_get c.args.clauses.now.clauses c.loop-k.k ≡ Some c.clause.result.now = ap (slice_get c.args.clauses.now.clauses) (omega arith) ∙ c.clause.ensures.value in
    let no : IsClauseTrue c.args.bits.now c.clause.result.now → ⊥ = λ h. let yes : c.is_clause_true.result ≡ true = c.is_clause_true.ensures.1 h in cc in
    (λ wrong. let never : ⊥ = cc in absurd never, λ all. absurd (no (true_at _ _ _ _ read all)))

pub loop-k-preserved : goal.loop-k-preserved
loop-k-preserved c =
    let read : slice_get c.args.clauses.now.clauses c.loop-k.k ≡ Some c.clause.result.now = ap (slice_get c.args.clauses.now.clauses) (omega arith) ∙ c.clause.ensures.value in
    true_more _ _ _ _ read c.loop-k.invariant (c.is_clause_true.ensures.0 c.if-not-is_clause_true.false)

pub returns : goal.returns
returns c = (λ _. true_all c.args.bits.now c.args.clauses.now.clauses c.loop-k.k (omega (arith, c.len-k-end.ensures.count)) c.loop-k.invariant, λ _. search rules)
