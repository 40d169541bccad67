-- One border more.
use Rattle.std.proofs.Common.{sym, subst}
use Rattle.bx_decode.specs.Reading.{AreBorders}
use Rattle.bx_decode.proofs.Reading.{borders-none, borders-more}
use Rattle.bx_decode.proofs.read.read_borders.Goals as goal

pub loop-b-init : goal.loop-b-init
loop-b-init c = subst (AreBorders c.args.net.now c.args.ratio c.args.bits.now 0) (sym c.new-borders.ensures.items) (borders-none c.args.net.now c.args.ratio c.args.bits.now)

pub loop-b-preserved : goal.loop-b-preserved
loop-b-preserved c =
    borders-more c.args.net.now c.args.ratio c.args.bits.now c.loop-b.b c.edge_on.result c.loop-b.borders.items c.push.new.self.items
    c.in_ok-push.ensures.items c.loop-b.invariant c.edge_on.ensures
