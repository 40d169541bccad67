-- The clauses so far.
use Rattle.std.proofs.Common.{filter}
use Rattle.std.specs.Prelude.{slice_get}
use Rattle.std.specs.List.{range_with_len}
use Rattle.bx_encode.specs.Families.{each, has_kind, bars_node}
use Rattle.bx_encode.specs.Sizes.{Adds}
use Rattle.bx_encode.proofs.permitted.add_bars_nodes.Given as goal

abbrev pub invariant-loop-v : goal.invariant-loop-v
invariant-loop-v l = Adds l.initial.to.clauses l.to.clauses (each (filter (λ v. has_kind l.kind (slice_get l.frame.net.now.nodes v)) (range_with_len 0 l.v)) (bars_node l.frame.net.now l.frame.ratio l.spot.tile l.spot.upper l.spot.lower l.kind))
