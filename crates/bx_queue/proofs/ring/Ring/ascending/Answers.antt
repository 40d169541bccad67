use Rattle.bx_queue.proofs.Rings.{ring-ascending, ring-itself, linked_list-is}
use Rattle.bx_queue.proofs.ring.Ring.ascending.Goals as goal

pub invariant_of-result : goal.invariant_of-result
invariant_of-result c = rw (c.in_ok-next.ensures, c.in_ok-previous.ensures) (ring-itself _ _ _ (ring-ascending c.args.count))

pub returns : goal.returns
returns c = rw c.in_ok-next.ensures (linked_list-is _ _ _ (ring-ascending c.args.count))
