use Rattle.std.proofs.Common.{◌+◌, ◌^◌, ◌≤◌, length, refl, arith}
use Rattle.std.specs.Prelude.{Result, Ok, Err, OnErr}
use Rattle.bx_map.specs.Numbers.{numbering_of}
use Rattle.bx_map.proofs.Counts.{counted-more, counted-most, counted-all}
use Rattle.bx_map.proofs.nodes.count_nodes.Goals as goal

pub loop-cell-preserved : goal.loop-cell-preserved
loop-cell-preserved c = counted-more _ _ _ _ _ _ _ c.loop-cell-test.true refl c.operand_count.ensures c.in_ok-count-2.ensures.sum c.loop-cell.invariant

on_err : {T E : Type 0} (P : Type 0) (r : Result T E) → P → OnErr r P
on_err P (Ok x) p = tt
on_err P (Err e) p = p

pub returns-in_err-count-2-clause-past : goal.returns-in_err-count-2-clause-past
returns-in_err-count-2-clause-past c =
    let outputs = length c.args.net.now.outputs in
    let after = c.loop-cell.count + c.operand_count.result in
    let counted = counted-more c.cells-cells.result.now outputs c.loop-cell.cell-index c.loop-cell.count c.operand_count.result after _ c.loop-cell-test.true refl c.operand_count.ensures refl c.loop-cell.invariant in
    let most = counted-most c.args.net.now c.cells-cells.result.now outputs (c.loop-cell.cell-index + 1) after c.requires c.cells-cells.ensures refl counted in
    on_err (2 ^ 64 ≤ length (numbering_of c.args.net.now).nodes) c.from_residual-in_err-count-2.result (omega (arith, most, c.in_err-count-2.ensures.past))

pub returns-clause-count : goal.returns-clause-count
returns-clause-count c = counted-all _ _ _ c.loop-cell.cell-index c.loop-cell.count c.requires c.cells-cells.ensures refl (omega arith) c.loop-cell.invariant
