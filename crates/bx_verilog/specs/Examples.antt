-- A module for each fault, which has it as its first, and modules that show how names and nets are
-- numbered.
use Rattle.std.specs.Prelude.{false, List, [], ◌∷◌, map, codes, Some, None}
use Rattle.bx_logic.specs.declared.op.Op.TheVariants.{And, Not}
use Rattle.bx_logic.specs.declared.driver.Driver.TheVariants.{Input as InputDriver, Constant, Gate}
use Rattle.bx_logic.specs.Nets.{Netlist, netlist}
use Rattle.bx_syntax.specs.declared.tree.Direction.{Direction}
use Rattle.bx_syntax.specs.declared.tree.Direction.TheVariants.{Input, Output}
use Rattle.bx_syntax.specs.declared.tree.Operator.TheVariants.{And as AndSign}
use Rattle.bx_syntax.specs.declared.tree.Port.{Port}
use Rattle.bx_syntax.specs.Trees.{net, inverse, joined, done}
use Rattle.bx_syntax.specs.Parts.{PartTree, declaration, wire, assign, gate, copies, ModuleTree}
use Rattle.bx_verilog.specs.Formulas.{Text}

-- a port of the header without a direction
abbrev bare : Text → Port
bare n = record { name = n; direction = None }

-- ports of these names, and items that say one thing each
abbrev example : List Text → List PartTree → ModuleTree
example ports parts = record { name = codes "m"; ports = map bare ports; items = map (λ part. part ∷ []) parts }

abbrev from_a_to_y : List PartTree → ModuleTree
from_a_to_y parts = example (codes "a" ∷ codes "y" ∷ []) (declaration Input (codes "a") ∷ declaration Output (codes "y") ∷ parts)

-- `module m(a, a); input a; endmodule`
abbrev pub bad_port : ModuleTree
bad_port = example (codes "a" ∷ codes "a" ∷ []) (declaration Input (codes "a") ∷ [])

-- `module m(a); input a; endmodule`
abbrev pub no_output : ModuleTree
no_output = example (codes "a" ∷ []) (declaration Input (codes "a") ∷ [])

-- `module m(a, y); input a; output y; assign y = a; not (y, a); endmodule`
abbrev pub two_drivers : ModuleTree
two_drivers = from_a_to_y (assign (codes "y") (net (codes "a")) ∷ copies Not (codes "y" ∷ []) (net (codes "a")) ∷ [])

-- `module m(a, y); input a; output y; assign y = a & k; endmodule`
abbrev pub no_driver : ModuleTree
no_driver = from_a_to_y (assign (codes "y") (joined (net (codes "a")) AndSign (net (codes "k")) done) ∷ [])

-- `module m(a, y); input a; output y; and (y, a, p); not (p, q); not (q, p); endmodule`
abbrev pub cycle : ModuleTree
cycle = from_a_to_y (
    gate And (codes "y") (net (codes "a") ∷ net (codes "p") ∷ [])
    ∷ copies Not (codes "p" ∷ []) (net (codes "q"))
    ∷ copies Not (codes "q" ∷ []) (net (codes "p"))
    ∷ []
    )

-- a port of the header with a direction
abbrev port_with : Direction → Text → Port
port_with d n = record { name = n; direction = Some d }

-- `module m(output y); wire q; not (y, p); not (p, q); not (q, p); endmodule`: the wire comes before p
abbrev pub cycle_of_wire : ModuleTree
cycle_of_wire = record {
  name = codes "m";
  ports = port_with Output (codes "y") ∷ [];
  items = map (λ part. part ∷ []) (
      wire (codes "q") None
      ∷ copies Not (codes "y" ∷ []) (net (codes "p"))
      ∷ copies Not (codes "p" ∷ []) (net (codes "q"))
      ∷ copies Not (codes "q" ∷ []) (net (codes "p"))
      ∷ []
      );
}

-- `module m(input a, input b, output y); wire w; not (p, y, a & ~b); endmodule`
abbrev pub two_nots : ModuleTree
two_nots = record {
  name = codes "m";
  ports = port_with Input (codes "a") ∷ port_with Input (codes "b") ∷ port_with Output (codes "y") ∷ [];
  items = map (λ part. part ∷ []) (
      wire (codes "w") None
      ∷ copies Not (codes "p" ∷ codes "y" ∷ []) (joined (net (codes "a")) AndSign (inverse (net (codes "b"))) done)
      ∷ []
      );
}

-- Its net: the names a, b, y, w and p are 0 to 4. Behind them `~b` is 5, and `a & ~b`, which both gates read, is 6.
abbrev pub two_nots_net : Netlist
two_nots_net =
    netlist (codes "m") (codes "a" ∷ codes "b" ∷ []) ((codes "y", 2) ∷ [])
    (
    InputDriver 0
    ∷ InputDriver 1
    ∷ Gate Not (6 ∷ [])
    ∷ Constant false
    ∷ Gate Not (6 ∷ [])
    ∷ Gate Not (1 ∷ [])
    ∷ Gate And (0 ∷ 5 ∷ [])
    ∷ []
    )

-- `module m(b, a, y); input a; input b; output y; wire w; assign y = ~q & ~p; endmodule`
abbrev pub port_order : ModuleTree
port_order = example (codes "b" ∷ codes "a" ∷ codes "y" ∷ []) (
    declaration Input (codes "a")
    ∷ declaration Input (codes "b")
    ∷ declaration Output (codes "y")
    ∷ wire (codes "w") None
    ∷ assign (codes "y") (joined (inverse (net (codes "q"))) AndSign (inverse (net (codes "p"))) done)
    ∷ []
    )
