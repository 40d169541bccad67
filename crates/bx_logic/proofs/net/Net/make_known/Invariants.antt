use Rattle.bx_logic.specs.Known.{IsRight, KeepsKnown}
use Rattle.bx_logic.proofs.Ways.{IsAwaited, IsWay, way_cost}
use Rattle.bx_logic.proofs.net.Net.make_known.Given as goal

abbrev pub invariant-loop-frame : goal.invariant-loop-frame
invariant-loop-frame l = record {
  way : IsWay l.self.drivers l.known l.way.items;
  awaited : IsAwaited l.known l.way.items l.net;
  right : IsRight l.self.drivers l.bits l.known;
  kept : KeepsKnown l.fn.known l.known;
}

abbrev pub decreases-loop-frame : goal.decreases-loop-frame
decreases-loop-frame l = way_cost l.self.drivers l.way.items
