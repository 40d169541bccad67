use Rattle.std.proofs.Common.{sym}
use Rattle.bx_verilog.proofs.Sorting.{mention-more}
use Rattle.bx_verilog.proofs.names.Names.of.Goals as goal

pub loop-mention-preserved : goal.loop-mention-preserved
loop-mention-preserved c =
    let step = mention-more c.args.mentions.now _ _ c.loop-mention.mention-index _ _ c.loop-mention.places.keys c.insert.new.self.keys
    (sym c.sorted.view_is) c.place.ensures.distinct c.in_ok-sorted.ensures c.loop-mention-test.true c.place.ensures.place
    c.loop-mention.invariant.within c.loop-mention.invariant.named c.in_ok-insert.ensures.keys in
    record { within = step.0; named = step.1 }
