use Rattle.std.proofs.Common.{ℕ, arith}
use borrow.Author.Count.{below_more}
use Rattle.bx_bounds.specs.Refutes.{IsLate}
use Rattle.bx_bounds.proofs.Firsts.{late-first, late-none}
use Rattle.bx_bounds.proofs.late.first_late.Goals as goal

pub returns-then-is_late : goal.returns-then-is_late
returns-then-is_late c = late-first c.args.net.now c.args.ratio c.loop-node.node (c.is_late.ensures.0 c.if-is_late.true) c.loop-node.invariant

pub loop-node-preserved : goal.loop-node-preserved
loop-node-preserved c = below_more (λ (v : ℕ). IsLate c.args.net.now c.args.ratio.h v → ⊥) c.loop-node.node c.loop-node.invariant (λ late. let yes = c.is_late.ensures.1 late in let no = c.if-is_late.false in cc)

pub returns : goal.returns
returns c = late-none c.args.net.now c.args.ratio (λ v late. let low = late.within in c.loop-node.invariant v (omega arith) late)
