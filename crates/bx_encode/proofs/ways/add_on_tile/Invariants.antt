-- The clauses so far.
use Rattle.std.specs.List.{range_with_len}
use Rattle.bx_encode.specs.Families.{each, rule_clauses}
use Rattle.bx_encode.specs.Sizes.{Adds}
use Rattle.bx_encode.proofs.ways.add_on_tile.Given as goal

abbrev pub invariant-loop-e : goal.invariant-loop-e
invariant-loop-e l = Adds l.initial.to.clauses l.to.clauses (each (range_with_len 0 l.e) (rule_clauses l.frame.net.now l.frame.ratio l.rule l.around.tile))
