use Rattle.std.proofs.Common.{ℕ, arith}
use borrow.Author.Count.{below_more}
use Rattle.bx_grid.specs.declared.count.CountProof.TheVariants.{Cut}
use Rattle.bx_bounds.specs.Refutes.{Refutes}
use Rattle.bx_bounds.proofs.Firsts.{cut-first, cut-none}
use Rattle.bx_bounds.proofs.cut.first_cut.Goals as goal

pub returns-then-is_cut : goal.returns-then-is_cut
returns-then-is_cut c = cut-first c.args.net.now c.args.ratio c.loop-row.row (c.is_cut.ensures.0 c.if-is_cut.true) c.loop-row.invariant

pub loop-row-preserved : goal.loop-row-preserved
loop-row-preserved c = below_more (λ (a : ℕ). Refutes c.args.net.now c.args.ratio (Cut a) → ⊥) c.loop-row.row c.loop-row.invariant (λ h. let yes = c.is_cut.ensures.1 h in let no = c.if-is_cut.false in cc)

pub returns : goal.returns
returns c = cut-none c.args.net.now c.args.ratio (λ a h. let low = h.0 in c.loop-row.invariant a (omega arith) h)
