use Rattle.std.proofs.Common.{ℕ, arith}
use borrow.Author.Count.{below_more}
use Rattle.bx_grid.specs.declared.count.CountProof.TheVariants.{Pair}
use Rattle.bx_bounds.specs.Refutes.{Refutes}
use Rattle.bx_bounds.proofs.pair.first_pair_with.Goals as goal

pub returns-then-is_pair : goal.returns-then-is_pair
returns-then-is_pair c = (c.is_pair.ensures.0 c.if-is_pair.true, c.loop-two.invariant)

pub loop-two-preserved : goal.loop-two-preserved
loop-two-preserved c = below_more (λ (v : ℕ). Refutes c.args.net.now c.args.ratio (Pair c.args.one v) → ⊥) c.loop-two.two c.loop-two.invariant (λ h. let yes = c.is_pair.ensures.1 h in let no = c.if-is_pair.false in cc)

pub returns : goal.returns
returns c = λ v h. let low = h.1 in c.loop-two.invariant v (omega arith) h
