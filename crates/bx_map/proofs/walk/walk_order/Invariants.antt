use Rattle.std.proofs.Common.{◌≡◌, [], length, take}
use Rattle.std.specs.List.{fold}
use Rattle.bx_logic.specs.Nets.{output_nets}
use Rattle.bx_map.specs.Marks.{AreMarks}
use Rattle.bx_map.proofs.Visiting.{deep}
use Rattle.bx_map.proofs.walk.walk_order.Given as goal

abbrev pub invariant-loop-j : goal.invariant-loop-j
invariant-loop-j l = record {
  marks : AreMarks (length l.net.drivers) l.visited.order.items l.visited.left.items;
  order : l.visited.order.items ≡ fold (deep l.net.drivers) [] (take l.j (output_nets l.net));
}
