use Rattle.std.proofs.Common.{◌≡◌, length, map}
use Rattle.bx_syntax.specs.Parts.{parts}
use Rattle.bx_syntax.specs.Repeats.{repeated, ahead_of}
use Rattle.bx_syntax.specs.ReadsModules.{item_next, one_item}
use Rattle.bx_syntax.proofs.item.items.Given as goal

-- What was read, and what is read behind it, is all that is read.
abbrev pub invariant-more : goal.invariant-more
invariant-more l =
    ahead_of (map parts l.items.items) (repeated item_next (one_item 256) tt l.terminals.items) ≡ repeated item_next (one_item 256) tt l.initial.terminals.items

abbrev pub decreases-more : goal.decreases-more
decreases-more l = length l.terminals.items
