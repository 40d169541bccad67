use Rattle.bx_queue.proofs.Places.{searched-taken, variable-inside}
use Rattle.bx_queue.proofs.queue.MoveFront.assigned.Goals as goal

pub invariant_of-self : goal.invariant_of-self
invariant_of-self c = searched-taken _ _ _ _ c.args.var c.self.invariant (variable-inside _ _ _ c.args.var c.self.view_is c.requires.within)
