-- One literal more.
use Rattle.bx_encode.proofs.Lists.{rise-more}
use Rattle.bx_encode.proofs.literals.add_rising.Goals as goal

pub loop-k-preserved : goal.loop-k-preserved
loop-k-preserved c =
    rise-more c.args.list.now.items c.loop-k.list.items c.push.new.self.items c.args.first c.args.step c.args.positive c.loop-k.k c.literal.result
    c.loop-k.invariant c.in_ok-push.ensures.items c.literal.ensures
