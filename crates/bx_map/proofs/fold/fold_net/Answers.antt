use Rattle.std.proofs.Common.{◌≡◌, ◌∙◌, List, ℕ, length, get_or, set, replicate, map, false, refl, ap, arith}
use Rattle.std.specs.List.{range_with_len}
use Rattle.std.proofs.lemmas.List.{length-replicate, length-set}
use Rattle.bx_map.specs.declared.cell.Cell.TheVariants as cell
use Rattle.bx_map.specs.declared.cell.Value.{Value}
use Rattle.bx_map.specs.declared.cell.Value.TheVariants.{Constant}
use Rattle.bx_map.specs.Folds.{Folding, driver_fold}
use Rattle.bx_map.proofs.FoldSteps.{arguments-valued, folding-begin, folding-next, folding-end}
use Rattle.bx_map.proofs.fold.fold_net.Goals as goal

pub loop-n-init : goal.loop-n-init
loop-n-init c =
    let net = c.args.net.now in
    let values : c.in_ok-values.values.items ≡ replicate (length net.drivers) (Constant false) =
    c.in_ok-values.ensures.items_if_clones_equal (λ y e. e) ∙ ap (λ (k : ℕ). replicate k (Constant false)) c.len.ensures.count in
    record {
      whole = ap length values ∙ length-replicate (length net.drivers) (Constant false);
      folds = folding-begin net c.len.ensures.net c.in_ok-values.values.items c.in_ok-cells.cells.items c.deref-n-items.result.now values
          (c.in_ok-cells.ensures ∙ ap (λ (k : ℕ). map cell.Input (range_with_len 0 k)) c.input_count.ensures.count)
          (c.deref-n-items.ensures.value ∙ c.in_ok-order.ensures.order);
    }

pub driver_value-requires : goal.driver_value-requires
driver_value-requires c =
    let values = c.deref.ensures.value in
    arguments-valued c.args.net.now c.len.ensures.net c.deref.result.now c.driver.result.now (get_or c.deref-n-items.result.now c.loop-n.n-index 0)
    (ap length values ∙ c.loop-n.invariant.whole) c.driver.ensures

pub loop-n-preserved : goal.loop-n-preserved
loop-n-preserved c =
    let net = c.args.net.now in
    let n : ℕ = get_or c.deref-n-items.result.now c.loop-n.n-index 0 in
    record {
      whole = length-set c.loop-n.values.items n c.in_ok-values-2.field-0 ∙ c.loop-n.invariant.whole;
      folds = folding-next net c.len.ensures.net c.loop-n.values.items (set c.loop-n.values.items n c.in_ok-values-2.field-0) c.loop-n.cells.items c.driver_value.new.cells.items
          c.deref-n-items.result.now c.loop-n.n-index n c.in_ok-values-2.field-0 c.driver.result.now c.loop-n-test.true refl c.driver.ensures
          (c.in_ok-values-2.ensures ∙ ap (λ (vs : List Value). driver_fold vs c.loop-n.cells.items c.driver.result.now) c.deref.ensures.value) refl
          c.loop-n.invariant.folds;
    }

pub returns-clause-values : goal.returns-clause-values
returns-clause-values c =
    ap (λ (f : Folding). f.values)
    (folding-end c.args.net.now c.len.ensures.net c.loop-n.values.items c.loop-n.cells.items c.deref-n-items.result.now c.loop-n.n-index (omega arith) c.loop-n.invariant.folds)

pub returns-clause-cells : goal.returns-clause-cells
returns-clause-cells c =
    ap (λ (f : Folding). f.cells)
    (folding-end c.args.net.now c.len.ensures.net c.loop-n.values.items c.loop-n.cells.items c.deref-n-items.result.now c.loop-n.n-index (omega arith) c.loop-n.invariant.folds)
