-- It stands on some tile.
use Rattle.std.proofs.Common.{sym, ◌∙◌, arith}
use Rattle.std.proofs.lemmas.Bool.{false≢true}
use Rattle.bx_decode.proofs.read.tile_of.Goals as goal

pub unreachable-requires : goal.unreachable-requires
unreachable-requires c =
    let (t, ((node, tile), on)) = c.requires.stand c.args.v c.requires.node in
    false≢true (sym (c.loop-t.invariant t (omega (arith, c.tiles_of-t-end.ensures.is))) ∙ on)
