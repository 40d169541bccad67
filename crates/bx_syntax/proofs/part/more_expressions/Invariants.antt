use Rattle.std.proofs.Common.{◌≡◌, [], ◌∷◌, length, map}
use Rattle.bx_syntax.specs.Trees.{tree}
use Rattle.bx_syntax.specs.Repeats.{repeated, ahead_of}
use Rattle.bx_syntax.specs.ReadsModules.{expression, comma_next, comma_step}
use Rattle.bx_syntax.proofs.part.more_expressions.Given as goal

-- What was read, and what is read behind it, is all that is read.
abbrev pub invariant-more : goal.invariant-more
invariant-more l =
    ahead_of (map tree l.expressions.items) (repeated comma_next (comma_step (expression 256)) tt l.terminals.items)
    ≡ ahead_of (tree l.fn.first ∷ []) (repeated comma_next (comma_step (expression 256)) tt l.initial.terminals.items)

abbrev pub decreases-more : goal.decreases-more
decreases-more l = length l.terminals.items
