use Rattle.std.proofs.Common.{◌≡◌, length, ◌+◌, ◌*◌}
use Rattle.bx_syntax.specs.Trees.{tail}
use Rattle.bx_syntax.specs.ReadsExpressions.{primary_at, level_at, tail_at}
use Rattle.bx_syntax.proofs.ReadsExpressions.{ahead}
use Rattle.bx_syntax.proofs.expression.+expressions.Given as goal

abbrev pub decreases-group : goal.decreases-group
decreases-group l = l.depth * 1000

abbrev pub decreases-inverse : goal.decreases-inverse
decreases-inverse l = l.depth * 1000

abbrev pub decreases-primary : goal.decreases-primary
decreases-primary l = l.depth * 1000 + 3

abbrev pub decreases-primary_from : goal.decreases-primary_from
decreases-primary_from l = l.depth * 1000 + 2

abbrev pub decreases-nested : goal.decreases-nested
decreases-nested l = l.depth * 1000 + 1

abbrev pub decreases-level : goal.decreases-level
decreases-level l = l.depth * 1000 + 4 + 3 * l.level_number

abbrev pub decreases-chain : goal.decreases-chain
decreases-chain l = l.depth * 1000 + 6 + 3 * l.below

abbrev pub decreases-operands : goal.decreases-operands
decreases-operands l = l.depth * 1000 + 5 + 3 * l.below

-- What was read, and what is read behind it, is what was read at the start.
abbrev pub invariant-operands-loop-operator : goal.invariant-operands-loop-operator
invariant-operands-loop-operator l =
    ahead (tail l.operands.items) (tail_at (level_at (primary_at l.depth) l.below) l.below l.terminals.items)
    ≡ tail_at (level_at (primary_at l.depth) l.below) l.below l.initial.terminals.items

abbrev pub decreases-operands-loop-operator : goal.decreases-operands-loop-operator
decreases-operands-loop-operator l = length l.terminals.items
