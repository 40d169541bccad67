use Rattle.bx_siqad.proofs.Order.{follows_last, last_follows}
use Rattle.bx_siqad.proofs.read.may_follow.Goals as goal

pub returns-in-Some : goal.returns-in-Some
returns-in-Some c = (
  λ before. follows_last c.args.dots.now c.in-Some.last.now c.args.dot c.in-Some.ensures.value c.requires (c.is_before.ensures.0 before),
  λ ascending. c.is_before.ensures.1 (last_follows c.args.dots.now c.in-Some.last.now c.args.dot c.in-Some.ensures.value ascending),
)
