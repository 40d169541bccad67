use Rattle.std.proofs.Common.{ℕ, ◌+◌, arith, subst, sym}
use Rattle.bx_network.proofs.Lists.{got-within}
use Rattle.bx_bounds.specs.Numbers.{IsCount, IsBelow}
use Rattle.bx_bounds.specs.Refutes.{IsCutAt}
use Rattle.bx_bounds.proofs.Tallied.{count-none, count-step, count-stay, count-whole}
use Rattle.bx_bounds.proofs.cut.cut_at.Goals as goal
use Rattle.bx_bounds.proofs.cut.cut_at.Goals.{then-is_cut_at, else-is_cut_at}

pub loop-e-init : goal.loop-e-init
loop-e-init c = (count-none (IsCutAt c.args.net.now c.args.height c.args.row), omega arith)

pub loop-e-preserved : goal.loop-e-preserved
loop-e-preserved c =
    let P = IsCutAt c.args.net.now c.args.height c.args.row in
    let counted = λ (n : ℕ). IsCount (IsBelow (c.loop-e.e + 1) P) n in
    elim c.if-is_cut_at.branch [
      | then-is_cut_at w ↦ (
        subst counted (sym w.count-is) (count-step P c.loop-e.e c.loop-e.count c.is_cut_at.result c.is_cut_at.ensures c.loop-e.invariant.0 w.if-is_cut_at.true),
        omega arith,
      )
      | else-is_cut_at w ↦ (
        subst counted (sym w.count-is) (count-stay P c.loop-e.e c.loop-e.count c.is_cut_at.result c.is_cut_at.ensures c.loop-e.invariant.0 w.if-is_cut_at.false),
        omega arith,
      )
    ]

pub returns : goal.returns
returns c =
    count-whole (IsCutAt c.args.net.now c.args.height c.args.row) c.loop-e.e c.loop-e.count
    (λ e cut. let low = got-within c.args.net.now.edges e cut.edge cut.is in omega arith) c.loop-e.invariant.0
