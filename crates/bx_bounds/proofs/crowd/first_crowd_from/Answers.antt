use Rattle.std.proofs.Common.{ℕ, arith}
use borrow.Author.Count.{below_more}
use Rattle.bx_grid.specs.declared.count.CountProof.TheVariants.{Crowd}
use Rattle.bx_bounds.specs.Refutes.{Refutes}
use Rattle.bx_bounds.proofs.crowd.first_crowd_from.Goals as goal

pub returns-then-is_crowd : goal.returns-then-is_crowd
returns-then-is_crowd c = (c.is_crowd.ensures.0 c.if-is_crowd.true, c.loop-last.invariant)

pub loop-last-preserved : goal.loop-last-preserved
loop-last-preserved c = below_more (λ (b : ℕ). Refutes c.args.net.now c.args.ratio (Crowd c.args.first b) → ⊥) c.loop-last.last c.loop-last.invariant (λ h. let yes = c.is_crowd.ensures.1 h in let no = c.if-is_crowd.false in cc)

pub returns : goal.returns
returns c = λ b h. let low = h.1 in c.loop-last.invariant b (omega arith) h
