use Rattle.std.proofs.Common.{◌≡◌, Bool, List, map, take}
use Rattle.bx_logic.specs.Nets.{output_nets}
use Rattle.bx_logic.specs.Values.{IsNetValuation, value_of}
use Rattle.bx_logic.specs.Known.{IsRight}
use Rattle.bx_logic.proofs.net.Net.read_outputs.Given as goal

abbrev pub invariant-loop-j : goal.invariant-loop-j
invariant-loop-j l = record {
  right : IsRight l.self.drivers l.bits l.known;
  read : (values : List Bool) → IsNetValuation l.self.drivers l.bits values →
      l.out.items ≡ map (value_of values) (take l.j (output_nets l.self));
}
