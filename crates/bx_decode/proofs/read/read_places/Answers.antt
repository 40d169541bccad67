-- One place more.
use Rattle.std.proofs.Common.{sym, subst}
use Rattle.bx_decode.specs.Reading.{ArePlaces}
use Rattle.bx_decode.proofs.Reading.{places-none, places-more}
use Rattle.bx_decode.proofs.read.read_places.Goals as goal

pub loop-v-init : goal.loop-v-init
loop-v-init c = subst (ArePlaces c.args.net.now c.args.ratio c.args.bits.now 0) (sym c.new-places.ensures.items) (places-none c.args.net.now c.args.ratio c.args.bits.now)

pub loop-v-preserved : goal.loop-v-preserved
loop-v-preserved c =
    places-more c.args.net.now c.args.ratio c.args.bits.now c.loop-v.v c.tile_of.result c.loop-v.places.items c.push.new.self.items
    c.in_ok-push.ensures.items c.loop-v.invariant c.tile_of.ensures
