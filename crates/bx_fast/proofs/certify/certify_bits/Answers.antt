use Rattle.std.proofs.Common.{◌≡◌, List, Bool, length, subst}
use Rattle.bx_cnf.specs.Formulas.{AllTrue}
use Rattle.bx_fast.proofs.certify.certify_bits.Goals as goal

-- the row that was looked at is the one that is given
pub returns-then-all_true-clause-certified : goal.returns-then-all_true-clause-certified
returns-then-all_true-clause-certified c =
    let clauses = c.args.clauses.now in
    let count : length c.as_slice-row.result.now ≡ clauses.vars = cc (c.if-row-vars.true, c.vars.ensures.vars) in
    subst (λ (row : List Bool). (length row ≡ clauses.vars) × AllTrue row clauses.clauses) c.as_slice-row.ensures
    (count, c.all_true.ensures.0 c.if-all_true.true)
