use Rattle.std.proofs.Common.{length}
use Rattle.bx_map.specs.Marks.{AreMarks}
use Rattle.bx_map.proofs.Visiting.{IsWay, deep, way_cost}
use Rattle.bx_map.proofs.walk.Visited.visit_from.Given as goal

abbrev pub invariant-loop-frame : goal.invariant-loop-frame
invariant-loop-frame l = record {
  marks : AreMarks (length l.net.drivers) l.self.order.items l.self.left.items;
  way : IsWay l.net.drivers l.self.order.items (deep l.net.drivers l.fn.self.order.items l.first) l.way.items;
}

abbrev pub decreases-loop-frame : goal.decreases-loop-frame
decreases-loop-frame l = way_cost l.net.drivers l.way.items
