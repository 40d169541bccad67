-- How large trees are: how many names, operators and bits they have. An operator is `~`, or what
-- stands between two operands.
use Rattle.std.specs.Prelude.{ℕ, ◌+◌, length, sum_by, List, Some, None}
use Rattle.bx_syntax.specs.Trees.{Tree, net, bit, inverse, group, joined, Tail, done, link}
use Rattle.bx_syntax.specs.Parts.{PartTree, declaration, wire, assign, gate, copies, ModuleTree}

abbrev mutual
  pub tree_size : Tree → ℕ
  tree_size (net n) = 1
  tree_size (bit b) = 1
  tree_size (inverse t) = 1 + tree_size t
  tree_size (group t) = tree_size t
  tree_size (joined t o u ts) = tree_size t + 1 + tree_size u + tail_size ts

  pub tail_size : Tail → ℕ
  tail_size done = 0
  tail_size (link o t ts) = 1 + tree_size t + tail_size ts

abbrev pub part_size : PartTree → ℕ
part_size (declaration d n) = 1
part_size (wire n None) = 1
part_size (wire n (Some e)) = 1 + tree_size e
part_size (assign n e) = 1 + tree_size e
part_size (gate op n es) = 1 + sum_by tree_size es
part_size (copies op ns e) = length ns + tree_size e

abbrev pub item_size : List PartTree → ℕ
item_size ps = sum_by part_size ps

-- the module's name, the ports' names, and what the items have
abbrev pub module_size : ModuleTree → ℕ
module_size m = 1 + length m.ports + sum_by item_size m.items
