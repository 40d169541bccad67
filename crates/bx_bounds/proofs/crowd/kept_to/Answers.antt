use Rattle.std.proofs.Common.{ℕ, ◌+◌, arith, subst, sym}
use Rattle.bx_network.proofs.Networks.{kind-within}
use Rattle.bx_bounds.specs.Numbers.{IsCount, IsBelow}
use Rattle.bx_bounds.specs.Refutes.{IsKeptTo}
use Rattle.bx_bounds.proofs.Tallied.{count-none, count-step, count-stay, count-whole}
use Rattle.bx_bounds.proofs.crowd.kept_to.Goals as goal
use Rattle.bx_bounds.proofs.crowd.kept_to.Goals.{then-is_kept_to, else-is_kept_to}

pub loop-v-init : goal.loop-v-init
loop-v-init c = (count-none (IsKeptTo c.args.net.now c.args.height c.args.first c.args.last), omega arith)

pub loop-v-preserved : goal.loop-v-preserved
loop-v-preserved c =
    let P = IsKeptTo c.args.net.now c.args.height c.args.first c.args.last in
    let counted = λ (n : ℕ). IsCount (IsBelow (c.loop-v.v + 1) P) n in
    elim c.if-is_kept_to.branch [
      | then-is_kept_to w ↦ (
        subst counted (sym w.count-is) (count-step P c.loop-v.v c.loop-v.count c.is_kept_to.result c.is_kept_to.ensures c.loop-v.invariant.0 w.if-is_kept_to.true),
        omega arith,
      )
      | else-is_kept_to w ↦ (
        subst counted (sym w.count-is) (count-stay P c.loop-v.v c.loop-v.count c.is_kept_to.result c.is_kept_to.ensures c.loop-v.invariant.0 w.if-is_kept_to.false),
        omega arith,
      )
    ]

pub returns : goal.returns
returns c =
    count-whole (IsKeptTo c.args.net.now c.args.height c.args.first c.args.last) c.loop-v.v c.loop-v.count
    (λ m kept. let low = kind-within c.args.net.now m kept.latest.kind kept.latest.is_kind in omega arith) c.loop-v.invariant.0
