use Rattle.std.proofs.Common.{◌≡◌, ◌+◌, true, false, take, MatchOption, sym, ◌∙◌, subst, arith}
use Rattle.bx_cnf.specs.Assignments.{IsFalse, IsClauseFalse, LeavesOne}
use Rattle.bx_check.proofs.Lefts.{false_more, one_first, one_more, more_left, false_all}
use Rattle.bx_check.proofs.Clauses.{some_of, none_of, match_both}
use Rattle.bx_check.proofs.left.left_of.Goals as goal
use Rattle.bx_check.proofs.left.left_of.Goals.{then-not-is_false+else-is_some, else-not-is_false}

pub returns-then-is_some : goal.returns-then-is_some
returns-then-is_some c =
    let trues = c.args.assignment.now in
    let clause = c.args.clause.now in
    let i = c.loop-lit.lit-index in
    let one = some_of c.loop-lit.left (IsClauseFalse trues (take i clause)) (λ x. LeavesOne trues (take i clause) x) c.loop-lit.invariant (sym c.is_some.ensures ∙ c.if-is_some.true) in
    let free : IsFalse trues c.lit-item.result → ⊥ = λ h. let e : c.is_false.result ≡ true = c.is_false.ensures.1 h in cc in
    more_left trues clause i c.lit-item.result one.0 (omega arith) c.lit-item.is one.1 free

pub loop-lit-preserved : goal.loop-lit-preserved
loop-lit-preserved c =
    let trues = c.args.assignment.now in
    let clause = c.args.clause.now in
    let i = c.loop-lit.lit-index in
    elim c.if-not-is_false.branch [
      | then-not-is_false+else-is_some w ↦
          let free : IsFalse trues c.lit-item.result → ⊥ = λ h. let e : c.is_false.result ≡ true = c.is_false.ensures.1 h in let f : c.is_false.result ≡ false = w.if-not-is_false.true in cc in
          let none = none_of c.loop-lit.left (IsClauseFalse trues (take i clause)) (λ x. LeavesOne trues (take i clause) x) c.loop-lit.invariant (sym w.is_some.ensures ∙ w.if-is_some.false) in
          subst (λ o. MatchOption o (IsClauseFalse trues (take (i + 1) clause)) (λ x. LeavesOne trues (take (i + 1) clause) x)) (sym w.left-is) (one_first trues clause i c.lit-item.result (omega arith) c.lit-item.is none free)
      | else-not-is_false w ↦
          let closed : IsFalse trues c.lit-item.result = c.is_false.ensures.0 w.if-not-is_false.false in
          subst (λ o. MatchOption o (IsClauseFalse trues (take (i + 1) clause)) (λ x. LeavesOne trues (take (i + 1) clause) x)) (sym w.left-is)
          (match_both c.loop-lit.left (IsClauseFalse trues (take i clause)) (IsClauseFalse trues (take (i + 1) clause)) (λ x. LeavesOne trues (take i clause) x) (λ x. LeavesOne trues (take (i + 1) clause) x) c.loop-lit.invariant
          (λ all. false_more trues clause i c.lit-item.result (omega arith) c.lit-item.is all closed)
          (λ x one. one_more trues clause i c.lit-item.result x (omega arith) c.lit-item.is one closed))
    ]

pub returns-in-None : goal.returns-in-None
returns-in-None c =
    let trues = c.args.assignment.now in
    let clause = c.args.clause.now in
    let i = c.loop-lit.lit-index in
    false_all trues clause i (omega arith) (subst (λ o. MatchOption o (IsClauseFalse trues (take i clause)) (λ x. LeavesOne trues (take i clause) x)) c.in-None.is c.loop-lit.invariant)
