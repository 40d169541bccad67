use Rattle.std.proofs.Common.{◌≡◌, take}
use Rattle.bx_search.specs.Searching.{moved_in_turn}
use Rattle.bx_search.proofs.learn.move_to_front.Given as goal

abbrev pub invariant-loop-lit : goal.invariant-loop-lit
invariant-loop-lit l = l.queue ≡ record l.initial.queue { order = moved_in_turn (take l.lit-index l.literals) l.initial.queue.order }
