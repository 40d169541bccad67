-- The clauses so far.
use Rattle.std.specs.List.{range_with_len}
use Rattle.bx_encode.specs.Families.{each, edges, rule_clauses}
use Rattle.bx_encode.specs.Sizes.{Adds}
use Rattle.bx_encode.proofs.ways.add_keeps_rule.Given as goal

abbrev pub invariant-loop-t : goal.invariant-loop-t
invariant-loop-t l = Adds l.initial.to.clauses l.to.clauses (each (range_with_len 0 l.t) (λ t. each (edges l.frame.net.now l.frame.ratio) (rule_clauses l.frame.net.now l.frame.ratio l.rule t)))
