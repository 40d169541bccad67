use Rattle.std.proofs.Common.{◌≡◌, [], ◌∷◌, length}
use Rattle.bx_syntax.specs.Trees.{tree}
use Rattle.bx_syntax.specs.Repeats.{repeated, ahead_of}
use Rattle.bx_syntax.specs.ReadsModules.{comma_behind_net, name_and_expression}
use Rattle.bx_syntax.proofs.part.more_names.Given as goal

-- What was read, and what is read behind it, is all that is read.
abbrev pub invariant-more : goal.invariant-more
invariant-more l =
    ahead_of l.names.items (repeated comma_behind_net (name_and_expression 256) (tree l.last) l.terminals.items)
    ≡ ahead_of (l.fn.first ∷ []) (repeated comma_behind_net (name_and_expression 256) (tree l.fn.second) l.initial.terminals.items)

abbrev pub decreases-more : goal.decreases-more
decreases-more l = length l.terminals.items
