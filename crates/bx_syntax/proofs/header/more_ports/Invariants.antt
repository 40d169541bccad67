use Rattle.std.proofs.Common.{◌≡◌, [], ◌∷◌, length}
use Rattle.bx_syntax.specs.Repeats.{repeated, ahead_of}
use Rattle.bx_syntax.specs.ReadsModules.{port_next, comma_port}
use Rattle.bx_syntax.proofs.header.more_ports.Given as goal

-- What was read, and what is read behind it, is all that is read.
abbrev pub invariant-more : goal.invariant-more
invariant-more l =
    ahead_of l.ports.items (repeated port_next comma_port l.direction l.terminals.items)
    ≡ ahead_of (l.fn.first ∷ []) (repeated port_next comma_port l.fn.first.direction l.initial.terminals.items)

abbrev pub decreases-more : goal.decreases-more
decreases-more l = length l.terminals.items
