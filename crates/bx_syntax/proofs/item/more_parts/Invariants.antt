use Rattle.std.proofs.Common.{◌≡◌, [], ◌∷◌, length, map}
use Rattle.bx_syntax.specs.Parts.{part}
use Rattle.bx_syntax.specs.Repeats.{repeated, ahead_of}
use Rattle.bx_syntax.specs.ReadsModules.{part_at, comma_next, comma_step}
use Rattle.bx_syntax.proofs.item.more_parts.Given as goal

-- What was read, and what is read behind it, is all that is read.
abbrev pub invariant-more : goal.invariant-more
invariant-more l =
    ahead_of (map part l.parts.items) (repeated comma_next (comma_step (part_at 256 l.kind)) tt l.terminals.items)
    ≡ ahead_of (part l.fn.first ∷ []) (repeated comma_next (comma_step (part_at 256 l.kind)) tt l.initial.terminals.items)

abbrev pub decreases-more : goal.decreases-more
decreases-more l = length l.terminals.items
