use Rattle.bx_verify.proofs.Meanings.{means}
use Rattle.bx_verify.proofs.judge.answer.Goals as goal

pub returns-clause-means : goal.returns-clause-means
returns-clause-means g c = means c.args.net.now c.args.library.now c.args.design.now c.args.cert.now c.in_ok-network.network c.in_ok-judge.field-0
    c.in_ok-network.ensures.mapped (c.in_ok-network.ensures.network, c.in_ok-network.ensures.behaviour) c.in_ok-judge.ensures.shown
