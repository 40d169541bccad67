use Rattle.std.proofs.Common.{◌≡◌, ◌<◌, ℕ, true, is_some, length, get_or, slice_get, None, Some, sym, ap, ◌∙◌, arith, length-set}
use Rattle.std.proofs.lemmas.List.{get_or_default}
use Rattle.std.proofs.lemmas.Option.{slice_get-get_or}
use Rattle.bx_layout.proofs.OnTiles.{none-of}
use Rattle.bx_trace.specs.Known.{entry}
use Rattle.bx_trace.proofs.Standing.{node-more, node-twice, node-off, nodes-all}
use Rattle.bx_trace.proofs.nodes.nodes_at.Goals as goal
use Rattle.bx_trace.proofs.nodes.nodes_at.Goals.{then-tile-len-via-then-tile-len, then-tile-len-via-else-tile-len+then-is_some}

pub returns-then-tile-len-clause-none : goal.returns-then-tile-len-clause-none
returns-then-tile-len-clause-none c = λ none apart.
    let v : ℕ = c.loop-v.v in
    let tile : ℕ = get_or c.args.places.now v 0 in
    let at : slice_get c.args.places.now v ≡ Some tile = slice_get-get_or c.args.places.now v 0 (omega arith) in
    let whole = c.loop-v.invariant.whole in
    let items = c.loop-v.nodes.ok.0 in
    elim c.then-tile-len.branch [
      | then-tile-len-via-then-tile-len w ↦ (
          let past = w.if-tile-len.true in
          node-off c.args.places.now c.args.tiles v tile at (omega (arith, past, whole, items, c.len.ensures)) apart)
      | then-tile-len-via-else-tile-len+then-is_some w ↦ (
          let within = w.if-tile-len.false in
          let low : tile < length c.loop-v.nodes.items = omega (arith, within, items, c.len.ensures) in
          let taken : is_some (entry c.loop-v.nodes.items tile) ≡ true =
          ap is_some (get_or_default c.loop-v.nodes.items tile None w.index.result.now low ∙ sym w.index.ensures) ∙ sym w.is_some.ensures ∙ w.if-is_some.true in
          node-twice c.args.places.now c.loop-v.nodes.items c.args.tiles v tile at taken c.loop-v.invariant.each apart)
    ]

pub loop-v-preserved : goal.loop-v-preserved
loop-v-preserved c =
    let v : ℕ = c.loop-v.v in
    let tile : ℕ = get_or c.args.places.now v 0 in
    let within = c.if-tile-len.false in
    let items = c.loop-v.nodes.ok.0 in
    let low : tile < length c.loop-v.nodes.items = omega (arith, within, items, c.len.ensures) in
    record {
      whole = length-set c.loop-v.nodes.items tile (Some v) ∙ c.loop-v.invariant.whole;
      each =
          node-more c.args.places.now c.loop-v.nodes.items v tile (slice_get-get_or c.args.places.now v 0 (omega arith))
          (get_or_default c.loop-v.nodes.items tile None c.index.result.now low ∙ sym c.index.ensures ∙ none-of c.index.result.now (sym c.is_some.ensures ∙ c.if-is_some.false))
          low c.loop-v.invariant.each;
    }

pub returns-clause-some : goal.returns-clause-some
returns-clause-some c = nodes-all c.args.places.now c.loop-v.nodes.items c.loop-v.v (omega arith) c.loop-v.invariant.each
