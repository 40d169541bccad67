-- The clauses of a ratio, in fourteen families. Tiles are t, edges e, nodes v, and borders b; a list runs from
-- the least number on. In each clause the variables ascend. A literal over a border that would enter from off
-- the grid is left out, and a clause that would need its negation isn't there.
use Rattle.std.specs.Prelude.{ℕ, ◌==◌, not, Bool, true, false, List, [], ◌∷◌, ◌++◌, length, map, filter, flat_map, Option, Some, None, is_none, slice_index, slice_get, if◌then◌else◌}
use Rattle.std.specs.List.{range_with_len}
use Rattle.bx_cnf.specs.Literals.{Literal}
use Rattle.bx_forms.specs.declared.kind.Kind.{Kind}
use Rattle.bx_forms.specs.declared.kind.Kind.TheVariants.{Input, Output, Not, Fan, And, Or, Nand, Nor, Xor, Xnor}
use Rattle.bx_forms.specs.declared.side.Side.{Side}
use Rattle.bx_forms.specs.declared.side.Side.TheVariants.{Left, Right}
use Rattle.bx_forms.specs.declared.side.Sides.{Sides}
use Rattle.bx_forms.specs.declared.table.Function.{Function}
use Rattle.bx_forms.specs.declared.table.Function.TheVariants.{Double, Cross}
use Rattle.bx_forms.specs.declared.table.Shape.{Shape}
use Rattle.bx_forms.specs.declared.table.TheConstants.{FORMS}
use Rattle.bx_forms.specs.Forms.{shape_of}
use Rattle.bx_forms.specs.Sides.{opposite}
use Rattle.bx_grid.specs.declared.ratio.Ratio.{Ratio}
use Rattle.bx_grid.specs.Tiles.{tile_count, y_of, below, border, entering}
use Rattle.bx_layout.specs.Permits.{PermitTest}
use Rattle.bx_layout.specs.TileForms.{on_side}
use Rattle.bx_network.specs.declared.node.Node.{Node}
use Rattle.bx_network.specs.Networks.{Network}
use Rattle.bx_encode.specs.declared.rule.Rule.{Rule}
use Rattle.bx_encode.specs.declared.rule.Rule.TheVariants.{ComesFromAbove, GoesOnBelow, JoinsItsEnds, GoesOneWay, KeepsOffNodes}
use Rattle.bx_encode.specs.Variables.{border_count, literal_for, is, isnt}
use Rattle.bx_encode.specs.declared.variable.Variable.TheVariants.{NodeOn, Taken, Used, EdgeOn}
use Rattle.bx_encode.specs.Windows.{in_window}

abbrev pub Clause : Type 0
Clause = List Literal

-- what f makes of each of these, one behind the other
abbrev pub each : {X A : Type 0} → List X → (X → List A) → List A
each xs f = flat_map f xs

-- each item with each later one
abbrev pub pairs : {X : Type 0} → List X → List (List X)
pairs [] = []
pairs (x ∷ xs) = map (λ y. x ∷ y ∷ []) xs ++ pairs xs

-- what is there, as a list of none or one
abbrev pub list_of : {X : Type 0} → Option X → List X
list_of None = []
list_of (Some x) = x ∷ []

-- the kinds have numbers, by which they are told apart
abbrev pub kind_number : Kind → ℕ
kind_number Input = 0
kind_number Output = 1
kind_number Not = 2
kind_number Fan = 3
kind_number And = 4
kind_number Or = 5
kind_number Nand = 6
kind_number Nor = 7
kind_number Xor = 8
kind_number Xnor = 9

abbrev pub has_kind : Kind → Option Node → Bool
has_kind kind None = false
has_kind kind (Some node) = kind_number node.kind == kind_number kind

-- the one side that is used, where one is
abbrev pub used_side : Sides → Side
used_side sides = if sides.left then Left else Right

module _ (N : Network) (r : Ratio) where
  abbrev pub nodes : List ℕ
  nodes = range_with_len 0 (length N.nodes)

  abbrev pub edges : List ℕ
  edges = range_with_len 0 (length N.edges)

  abbrev pub tiles : List ℕ
  tiles = range_with_len 0 (tile_count r)

  abbrev pub borders : List ℕ
  borders = range_with_len 0 (border_count r)

  abbrev pub source : ℕ → ℕ
  source e = slice_index (map (λ edge. edge.source) N.edges) e

  abbrev pub target : ℕ → ℕ
  target e = slice_index (map (λ edge. edge.target) N.edges) e

  -- the borders by which something can enter a tile, and those by which it can leave it
  abbrev pub entries : ℕ → List ℕ
  entries t = list_of (entering r t Left) ++ list_of (entering r t Right)

  abbrev pub exits : ℕ → List ℕ
  exits t = border t Left ∷ border t Right ∷ []

  -- Literals in a row: a node on each tile, each node on a tile, each edge on a border, and an edge on each of
  -- these borders; or the negations of all these.
  abbrev pub on_tiles : Bool → ℕ → Clause
  on_tiles positive v = map (λ t. literal_for N r positive (NodeOn v t)) tiles

  abbrev pub nodes_on : Bool → ℕ → Clause
  nodes_on positive t = map (λ v. literal_for N r positive (NodeOn v t)) nodes

  abbrev pub edges_on : Bool → ℕ → Clause
  edges_on positive b = map (λ e. literal_for N r positive (EdgeOn e b)) edges

  abbrev pub on_borders : Bool → ℕ → List ℕ → Clause
  on_borders positive e bs = map (λ b. literal_for N r positive (EdgeOn e b)) bs

  -- edge e is on one of these borders
  abbrev pub on_some : ℕ → List ℕ → Clause
  on_some e bs = on_borders true e bs

  -- 1. Each node stands somewhere.
  unfoldable pub stands_somewhere : List Clause
  stands_somewhere = map (on_tiles true) nodes

  -- 2. No node stands on two tiles.
  unfoldable pub stands_once : List Clause
  stands_once = each nodes (λ v. pairs (on_tiles false v))

  -- 3. No tile holds two nodes.
  unfoldable pub stands_apart : List Clause
  stands_apart = each tiles (λ t. pairs (nodes_on false t))

  -- 4. A tile with a node is taken.
  abbrev pub takes : ℕ → List Clause
  takes t = map (λ v. isnt N r (NodeOn v t) ∷ is N r (Taken t) ∷ []) nodes

  unfoldable pub takes_its_tile : List Clause
  takes_its_tile = each tiles takes

  -- 5. A node stands in its window.
  abbrev pub is_outside : ℕ → ℕ → Bool
  is_outside v t = not (in_window N v (y_of r t) r.h)

  abbrev pub stays_inside : ℕ → List Clause
  stays_inside v = map (λ t. isnt N r (NodeOn v t) ∷ []) (filter (is_outside v) tiles)

  unfoldable pub keeps_its_window : List Clause
  keeps_its_window = each nodes stays_inside

  -- 6. A border that leads off the grid carries nothing.
  abbrev pub leads_off : ℕ → Side → Bool
  leads_off t side = is_none (below r t side)

  abbrev pub carries_nothing : ℕ → List Clause
  carries_nothing b = map (λ e. isnt N r (EdgeOn e b) ∷ []) edges

  abbrev pub stays_at : ℕ → List Clause
  stays_at t = each (filter (leads_off t) (Left ∷ Right ∷ [])) (λ side. carries_nothing (border t side))

  unfoldable pub stays_on_grid : List Clause
  stays_on_grid = each tiles stays_at

  -- 7. A border carries one edge at most.
  unfoldable pub carries_once : List Clause
  carries_once = each borders (λ b. pairs (edges_on false b))

  -- 8. A border is used exactly if it carries an edge.
  abbrev pub uses : ℕ → List Clause
  uses b = map (λ e. is N r (Used b) ∷ isnt N r (EdgeOn e b) ∷ []) edges

  abbrev pub carries_some : ℕ → Clause
  carries_some b = isnt N r (Used b) ∷ edges_on true b

  unfoldable pub is_used : List Clause
  is_used = each borders (λ b. uses b ++ carries_some b ∷ [])

  -- How edge e may go through tile t.
  unfoldable pub rule_clauses : Rule → ℕ → ℕ → List Clause
  -- 9. An edge that leaves a tile has its source there, or enters the tile.
  rule_clauses ComesFromAbove t e = map (λ x. is N r (NodeOn (source e) t) ∷ on_some e (entries t) ++ isnt N r (EdgeOn e x) ∷ []) (exits t)
  -- 10. An edge that enters a tile has its target there, or leaves the tile.
  rule_clauses GoesOnBelow t e = map (λ x. is N r (NodeOn (target e) t) ∷ isnt N r (EdgeOn e x) ∷ on_some e (exits t)) (entries t)
  -- 11. An edge leaves the tile of its source, and enters that of its target.
  rule_clauses JoinsItsEnds t e = (isnt N r (NodeOn (source e) t) ∷ on_some e (exits t)) ∷ (isnt N r (NodeOn (target e) t) ∷ on_some e (entries t)) ∷ []
  -- 12. An edge leaves a tile once at most, and enters it once at most; it doesn't enter the tile of its
  -- source, and doesn't leave that of its target.
  rule_clauses GoesOneWay t e = pairs (on_borders false e (exits t)) ++ pairs (on_borders false e (entries t))
      ++ map (λ x. isnt N r (NodeOn (source e) t) ∷ isnt N r (EdgeOn e x) ∷ []) (entries t)
      ++ map (λ x. isnt N r (NodeOn (target e) t) ∷ isnt N r (EdgeOn e x) ∷ []) (exits t)
  -- 13. An edge that leaves a taken tile has its source there, and one that enters it its target.
  rule_clauses KeepsOffNodes t e = map (λ x. is N r (NodeOn (source e) t) ∷ isnt N r (Taken t) ∷ isnt N r (EdgeOn e x) ∷ []) (exits t)
      ++ map (λ x. is N r (NodeOn (target e) t) ∷ isnt N r (Taken t) ∷ isnt N r (EdgeOn e x) ∷ []) (entries t)

  abbrev pub keeps_rule_on : Rule → ℕ → List Clause
  keeps_rule_on rule t = each edges (rule_clauses rule t)

  unfoldable pub keeps_rule : Rule → List Clause
  keeps_rule rule = each tiles (keeps_rule_on rule)

  -- 14. No tile has a form that isn't permitted there. Node v doesn't stand on the tile with the form of its
  -- kind that has these sides: an output and a fan are known by the upper one, an input and a gate by the
  -- lower one, and a `not` by both.
  abbrev pub bars_above : ℕ → Side → ℕ → List Clause
  bars_above t upper v = map (λ a. isnt N r (NodeOn v t) ∷ isnt N r (Used a) ∷ []) (list_of (entering r t upper))

  abbrev pub bars_below : ℕ → Side → ℕ → List Clause
  bars_below t lower v = (isnt N r (NodeOn v t) ∷ isnt N r (Used (border t lower)) ∷ []) ∷ []

  abbrev pub bars_both : ℕ → Side → Side → ℕ → List Clause
  bars_both t upper lower v = map (λ a. isnt N r (NodeOn v t) ∷ isnt N r (Used a) ∷ isnt N r (Used (border t lower)) ∷ []) (list_of (entering r t upper))

  abbrev pub bars_node : ℕ → Side → Side → Kind → ℕ → List Clause
  bars_node t upper lower Output v = bars_above t upper v
  bars_node t upper lower Fan v = bars_above t upper v
  bars_node t upper lower Not v = bars_both t upper lower v
  bars_node t upper lower _ v = bars_below t lower v

  -- a border, if there is one, isn't used as told
  abbrev pub used_unlike : Option ℕ → Bool → Clause
  used_unlike b used = map (λ n. literal_for N r (not used) (Used n)) (list_of b)

  -- of the two that are on the left and on the right that on this side is used, and the other, if any, isn't
  abbrev pub not_alone : Side → ℕ → List ℕ → Clause
  not_alone side b others = on_side (isnt N r (Used b) ∷ map (λ o. is N r (Used o)) others) (map (λ o. is N r (Used o)) others ++ isnt N r (Used b) ∷ []) side

  -- a tile that isn't taken has no wire with these sides
  abbrev pub bars_wire : ℕ → Side → Side → List Clause
  bars_wire t upper lower = map (λ a. is N r (Taken t) ∷ not_alone upper a (list_of (entering r t (opposite upper))) ++ not_alone lower (border t lower) (border t (opposite lower) ∷ [])) (list_of (entering r t upper))

  -- where both upper borders are used, no edge goes from the upper left to this lower side
  abbrev pub bars_way : ℕ → ℕ → ℕ → List Clause
  bars_way above beside below = map (λ e. isnt N r (Used beside) ∷ isnt N r (EdgeOn e above) ∷ isnt N r (EdgeOn e below) ∷ []) edges

  abbrev pub bars_two : ℕ → Side → List Clause
  bars_two t lower = each (list_of (entering r t Left)) (λ a. each (list_of (entering r t Right)) (λ b. bars_way a b (border t lower)))

  abbrev pub bars_free : ℕ → Side → Side → Function → List Clause
  bars_free t upper lower Double = bars_two t Left
  bars_free t upper lower Cross = bars_two t Right
  bars_free t upper lower _ = bars_wire t upper lower

  abbrev pub is_of_kind : Kind → ℕ → Bool
  is_of_kind kind v = has_kind kind (slice_get N.nodes v)

  abbrev pub bars_nodes : ℕ → Side → Side → Kind → List Clause
  bars_nodes t upper lower kind = each (filter (is_of_kind kind) nodes) (bars_node t upper lower kind)

  abbrev pub bars_holding : ℕ → Side → Side → Function → Option Kind → List Clause
  bars_holding t upper lower function None = bars_free t upper lower function
  bars_holding t upper lower function (Some kind) = bars_nodes t upper lower kind

  abbrev pub bars_shape : ℕ → Option Shape → List Clause
  bars_shape t None = []
  bars_shape t (Some shape) = bars_holding t (used_side shape.upper) (used_side shape.lower) shape.function shape.node

  unfoldable pub bars : ℕ → ℕ → List Clause
  bars t form = bars_shape t (shape_of form)

  abbrev pub bars_all : PermitTest → ℕ → List Clause
  bars_all permit t = each (filter (λ form. not (permit r t form)) (range_with_len 0 (length FORMS))) (bars t)

  unfoldable pub is_permitted : PermitTest → List Clause
  is_permitted permit = each tiles (bars_all permit)
