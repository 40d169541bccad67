-- Items, ports and modules, without where they lie in memory, and what the code's are among them.
use Rattle.std.specs.Prelude.{ℕ, List, map, Option, Vec}
use Rattle.std.specs.Option.{option_map}
use Rattle.std.specs.declared.alloc.Global.{Global}
use Rattle.bx_logic.specs.declared.op.Op.{Op}
use Rattle.bx_syntax.specs.declared.tree.Direction.{Direction}
use Rattle.bx_syntax.specs.declared.tree.Port.{Port}
use Rattle.bx_syntax.specs.declared.tree.Part.{Part}
use Rattle.bx_syntax.specs.declared.tree.Part.TheVariants.{Declaration, Wire, Assign, Gate, Copies}
use Rattle.bx_syntax.specs.Trees.{Tree, tree}

-- what an item says between two commas
pub data PartTree : Type 0 where
  declaration : Direction → List ℕ → PartTree
  wire : List ℕ → Option Tree → PartTree
  assign : List ℕ → Tree → PartTree
  gate : Op → List ℕ → List Tree → PartTree
  copies : Op → List (List ℕ) → Tree → PartTree

abbrev pub part : Part → PartTree
part (Declaration d n) = declaration d n
part (Wire n e) = wire n (option_map tree e)
part (Assign n e) = assign n (tree e)
part (Gate op n es) = gate op n (map tree es.items)
part (Copies op ns e) = copies op ns.items (tree e)

abbrev pub parts : Vec Part Global → List PartTree
parts v = map part v.items

pub record ModuleTree : Type 0 where
  pub name : List ℕ
  pub ports : List Port
  pub items : List (List PartTree)

-- the tree of what a module keeps
abbrev pub module_tree : List ℕ → List Port → List (Vec Part Global) → ModuleTree
module_tree name ports items = record { name = name; ports = ports; items = map parts items }
