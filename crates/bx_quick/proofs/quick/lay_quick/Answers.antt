use Rattle.std.proofs.Common.{◌≡◌, ◌∙◌, ◌+◌, ◌*◌, ◌<◌, ◌≤◌, ℕ, length, ap, subst, arith}
use Rattle.bx_quick.specs.Faults.{IsFirstMissingIn, AreAllIn}
use Rattle.bx_quick.specs.Grids.{height_of}
use Rattle.bx_quick.specs.LaneStates.{State, width_of}
use Rattle.bx_quick.proofs.Steps.{grid-tiles, match-none, past-tiles, within-tiles}
use Rattle.bx_quick.proofs.quick.lay_quick.Goals as goal

pub returns-then-rows-from-clause-fault : goal.returns-then-rows-from-clause-fault
returns-then-rows-from-clause-fault c =
    let N = c.args.net.now in
    let w = c.width_of-columns.result in
    let is = c.width_of-columns.ensures.is in
    let rows = 2 * c.len.result + 2 in
    let operations = ap (λ (st : State). length st.operations) (c.state.view_is ∙ c.in_ok-state.ensures.is) in
    let some = c.width_of-columns.ensures.some c.requires.some_nodes in
    let past : 4194304 < w * rows = past-tiles w rows some (omega arith) in (
      omega (arith, is),
      omega (arith, operations, c.state.inside.operations.ok.0),
      omega (arith, past, ap (λ (n : ℕ). n * rows) is),
    )

pub returns-in-Some-clause-fault : goal.returns-in-Some-clause-fault
returns-in-Some-clause-fault c =
    let N = c.args.net.now in
    let w = c.width_of-columns.result in
    let is = c.width_of-columns.ensures.is in
    let rows = 2 * c.len.result + 2 in
    let last = c.state.view_is ∙ c.in_ok-state.ensures.is in
    let operations = ap (λ (st : State). length st.operations) last in
    let lanes = ap (λ (st : State). length st.lanes) last in
    let some = c.width_of-columns.ensures.some c.requires.some_nodes in
    let within : w * rows ≤ 4194304 = within-tiles w rows some (omega arith) in
    let high : rows ≡ height_of N = omega (arith, operations, c.state.inside.operations.ok.0) in
    let tiles = grid-tiles N w c.len-left.result c.deref.result.now c.in_ok-tiles.tiles.items is (omega (arith, lanes, c.state.inside.lanes.ok.0))
    (c.deref.ensures.value ∙ ap (λ (st : State). st.operations) last) c.in_ok-tiles.ensures in (
      record {
        narrow = omega (arith, is);
        few_tiles = omega (arith, within, ap (λ (n : ℕ). n * rows) is, ap (λ (n : ℕ). width_of N * n) high);
      },
      subst (λ ts. IsFirstMissingIn ts c.args.forms c.in-Some.form) (c.deref-2.ensures.value ∙ tiles) c.in-Some.ensures,
    )

pub returns-clause-permitted : goal.returns-clause-permitted
returns-clause-permitted c =
    let N = c.args.net.now in
    let w = c.width_of-columns.result in
    let is = c.width_of-columns.ensures.is in
    let rows = 2 * c.len.result + 2 in
    let last = c.state.view_is ∙ c.in_ok-state.ensures.is in
    let operations = ap (λ (st : State). length st.operations) last in
    let lanes = ap (λ (st : State). length st.lanes) last in
    let some = c.width_of-columns.ensures.some c.requires.some_nodes in
    let within : w * rows ≤ 4194304 = within-tiles w rows some (omega arith) in
    let high : rows ≡ height_of N = omega (arith, operations, c.state.inside.operations.ok.0) in
    let tiles = grid-tiles N w c.len-left.result c.deref.result.now c.in_ok-tiles.tiles.items is (omega (arith, lanes, c.state.inside.lanes.ok.0))
    (c.deref.ensures.value ∙ ap (λ (st : State). st.operations) last) c.in_ok-tiles.ensures in
    record {
      fits = record {
        narrow = omega (arith, is);
        few_tiles = omega (arith, within, ap (λ (n : ℕ). n * rows) is, ap (λ (n : ℕ). width_of N * n) high);
      };
      offered =
          subst (λ ts. AreAllIn ts c.args.forms) (c.deref-2.ensures.value ∙ tiles)
          (match-none c.first_missing.result _ _ c.in_default.not-Some c.first_missing.ensures);
    }
