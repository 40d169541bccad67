use Rattle.std.proofs.Common.{◌≡◌, ◌∙◌, ◌+◌, ◌-◌, ◌<◌, Bool, List, ℕ, length, ap, subst, arith}
use Rattle.bx_logic.proofs.Cycles.{read-at}
use Rattle.bx_map.specs.Cells.{cell_net}
use Rattle.bx_map.specs.Marks.{with_marks}
use Rattle.bx_map.proofs.Staying.{IsMarking, marking-begin, marking-wants, marking-lacks, marking-end}
use Rattle.bx_map.proofs.keep.marks_of.Goals as goal

pub loop-i-init : goal.loop-i-init
loop-i-init c =
    marking-begin (cell_net c.args.cells.now c.args.outputs.now) c.requires c.mark_all.new.marks.items
    (c.mark_all.ensures ∙ ap (λ (ms : List Bool). with_marks ms c.args.outputs.now) (c.in_ok-marks.ensures.items_if_clones_equal (λ y e. e)))

pub loop-i-preserved-then-index : goal.loop-i-preserved-then-index
loop-i-preserved-then-index c =
    let i : ℕ = c.loop-i.i - 1 in
    let l : i < length c.args.cells.now = omega arith in
    let whole = c.loop-i.invariant.whole in
    let up : c.loop-i.i ≡ i + 1 = omega arith in
    marking-wants (cell_net c.args.cells.now c.args.outputs.now) c.requires i c.loop-i.marks.items c.mark_operands.new.marks.items l
    (subst (λ (k : ℕ). IsMarking (cell_net c.args.cells.now c.args.outputs.now) k c.loop-i.marks.items) up c.loop-i.invariant)
    (read-at c.loop-i.marks.items i c.index.result.now (omega (arith, l, whole)) c.index.ensures ∙ c.if-index.true) c.mark_operands.ensures

pub loop-i-preserved : goal.loop-i-preserved
loop-i-preserved c =
    let i : ℕ = c.loop-i.i - 1 in
    let l : i < length c.args.cells.now = omega arith in
    let whole = c.loop-i.invariant.whole in
    let up : c.loop-i.i ≡ i + 1 = omega arith in
    marking-lacks (cell_net c.args.cells.now c.args.outputs.now) c.requires i c.loop-i.marks.items
    (subst (λ (k : ℕ). IsMarking (cell_net c.args.cells.now c.args.outputs.now) k c.loop-i.marks.items) up c.loop-i.invariant)
    (read-at c.loop-i.marks.items i c.index.result.now (omega (arith, l, whole)) c.index.ensures ∙ c.if-index.false)

pub returns : goal.returns
returns c =
    marking-end (cell_net c.args.cells.now c.args.outputs.now) c.requires c.loop-i.marks.items
    (subst (λ (i : ℕ). IsMarking (cell_net c.args.cells.now c.args.outputs.now) i c.loop-i.marks.items) (omega arith) c.loop-i.invariant)
