use Rattle.std.proofs.Common.{◌≢◌, List, refl, subst, rules}
use Rattle.std.specs.Prelude.{All}
use Rattle.std.proofs.lemmas.List.{take_all}
use Rattle.std.proofs.lemmas.List.Elements.{All-contains}
use Rattle.bx_cnf.specs.Literals.{Literal, negated}
use Rattle.bx_cnf.specs.Assignments.{IsFree}
use Rattle.bx_tests_solver.proofs.trial.is_free.Goals as goal

free : (trail : List Literal) (l : Literal) → All (λ m. m.var ≢ l.var) trail → IsFree trail l
free trail l others = (
  λ has. All-contains (λ m. m.var ≢ l.var) trail l others has refl,
  λ has. All-contains (λ m. m.var ≢ l.var) trail (negated l) others has refl,
)

pub returns : goal.returns
returns c _ = free c.args.trail.now c.args.lit (subst (All (λ (m : Literal). m.var ≢ c.args.lit.var)) (take_all c.loop-other.other-index c.args.trail.now (search rules)) c.loop-other.invariant)
