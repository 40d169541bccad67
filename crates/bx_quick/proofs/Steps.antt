-- One step of each recursion over a list, as a loop makes it: from what is left at one index to what is
-- left at the next.
use Rattle.std.proofs.Common.{◌≡◌, ℕ, suc, ◌+◌, ◌-◌, ◌*◌, ◌/◌, ◌%◌, ◌<◌, ◌≤◌, ◌==◌, ◌&&◌, Bool, true, false, List, [], ◌∷◌, ◌++◌, length, take, drop, map, filter, get_or, cond, Option, Some, None, MatchOption, slice_get, sym, ap, subst, ◌∙◌, refl, ◌↔◌, ◌⊎◌, inl, inr, Contains, max, append_assoc, append-nil, arith}
use Rattle.std.proofs.lemmas.Bool.Decides.{nat_tests}
use Rattle.std.proofs.lemmas.List.{drop_more, take_more, length-append}
use Rattle.std.proofs.lemmas.List.Elements.{Contains-push, Contains-push_cases, Contains-append_left}
use Rattle.std.proofs.lemmas.List.FromFn.{map-range_with_len_more, length-map-range_with_len}
use Rattle.std.proofs.lemmas.List.Sums.{position_or_len_is}
use Rattle.std.proofs.lemmas.Option.{slice_get_within, get_or_from_slice_get}
use Rattle.std.proofs.Math.ListN.{drop_of_length-le}
use Rattle.std.proofs.Math.Nat.{le-max_left, max-zero, mul-le-mul_left}
use Rattle.std.specs.List.{range_with_len, position_or_len, AllByRecursion}
use Rattle.std.specs.Prelude.{nat_lt}
use Rattle.bx_forms.specs.declared.kind.Kind.TheVariants.{Input, Output, Not, Fan, And, Or, Nand, Nor, Xor, Xnor}
use Rattle.bx_forms.specs.declared.kind.Kind.{Kind}
use Rattle.bx_forms.specs.Kinds.{operands}
use Rattle.bx_network.specs.declared.node.Node.{Node}
use Rattle.bx_network.specs.declared.node.Edge.{Edge}
use Rattle.bx_network.specs.Networks.{Network, IsNetwork, HasSlot, HasOperand, is_output, output_count, enters_by, one_if}
use Rattle.bx_network.specs.Values.{edge_into, edge_out}
use Rattle.bx_layout.specs.Pins.{Pin, pin_tiles}
use Rattle.bx_layout.specs.Valuations.{is_input}
use Rattle.bx_quick.specs.declared.operation.Operation.{Operation}
use Rattle.bx_quick.specs.LaneStates.{State, exchange, move_right, after_node, after_nodes, input_edges, start_of, end_of, lane_of, lanes_after, most_lanes, width_of}
use Rattle.bx_quick.specs.Grids.{lane_tile, operation_tile, output_tile, row_of, rows_of, grid_of, height_of}
use Rattle.bx_layout.specs.Grids.{FormGrid}
use Rattle.bx_grid.specs.declared.ratio.Ratio.{Ratio}
use Rattle.bx_quick.specs.Pins.{pin_at, with_pin, with_inputs, quick_pins, output_tile_of, output_node, is_output_at}

-- what is read past the end
abbrev pub no_pin : Pin
no_pin = record { port = 0; tile = 0 }

abbrev pub no_node : Node
no_node = record { kind = Input; port = 0 }

-- what is left of a list begins with the item at its index
pub drop-at : {X : Type 0} (xs : List X) (i : ℕ) (x : X) → slice_get xs i ≡ Some x → drop i xs ≡ x ∷ drop (i + 1) xs
drop-at xs i x e =
    drop_more xs i x (slice_get_within xs i x e)
    ∙ ap (λ y. y ∷ drop (i + 1) xs) (get_or_from_slice_get xs i x x e)

pub drop-item : {X : Type 0} (xs : List X) (i : ℕ) (x : X) → i < length xs → x ≡ get_or xs i x → drop i xs ≡ x ∷ drop (i + 1) xs
drop-item xs i x lt e = drop_more xs i x lt ∙ ap (λ y. y ∷ drop (i + 1) xs) (sym e)

-- an item is put at the end, and stands no longer in front of what is left
pub put-one : {X : Type 0} (xs ys : List X) (y : X) (rest all : List X) → ys ≡ xs ++ y ∷ [] → xs ++ (y ∷ rest) ≡ all → ys ++ rest ≡ all
put-one xs ys y rest all e h = ap (λ zs. zs ++ rest) e ∙ append_assoc xs (y ∷ []) rest ∙ h

pub put-none : {X : Type 0} (xs all : List X) → xs ++ [] ≡ all → xs ≡ all
put-none xs all h = sym (append-nil xs) ∙ h

-- one tile more in a row
pub row-more : (w : ℕ) (tile : ℕ → Option ℕ) (before xs ys : List (Option ℕ)) → xs ≡ before ++ row_of w tile → ys ≡ xs ++ tile w ∷ [] → ys ≡ before ++ row_of (w + 1) tile
row-more w tile before xs ys h e =
    e ∙ ap (λ zs. zs ++ tile w ∷ []) h ∙ append_assoc before (row_of w tile) (tile w ∷ [])
    ∙ ap (λ zs. before ++ zs) (sym (map-range_with_len_more tile 0 w w (omega arith)))

-- a lane moves one place to the right
pub move_right-next : (state : State) (lane to : ℕ) → lane < to → move_right state lane (to - lane) ≡ move_right (exchange state lane) (lane + 1) (to - (lane + 1))
move_right-next state lane to lt =
    let e : to - lane ≡ suc (to - (lane + 1)) = omega arith in
    ap (λ n. move_right state lane n) e

pub move_right-none : (state : State) (lane to : ℕ) → to ≤ lane → move_right state lane (to - lane) ≡ state
move_right-none state lane to le =
    let e : to - lane ≡ 0 = omega arith in
    ap (λ n. move_right state lane n) e

-- a node is gone by
pub after_nodes-next : (edges : List Edge) (nodes : List Node) (v : ℕ) (node : Node) (state : State) → slice_get nodes v ≡ Some node → after_nodes edges v (drop v nodes) state ≡ after_nodes edges (v + 1) (drop (v + 1) nodes) (after_node edges v node.kind state)
unfolding after_nodes
after_nodes-next edges nodes v node state e = ap (λ rest. after_nodes edges v rest state) (drop-at nodes v node e)

pub after_nodes-none : (edges : List Edge) (nodes : List Node) (v : ℕ) (state : State) → length nodes ≤ v → after_nodes edges v (drop v nodes) state ≡ state
unfolding after_nodes
after_nodes-none edges nodes v state h = ap (λ rest. after_nodes edges v rest state) (drop_of_length-le nodes h)

pub end_of-is : (N : Network) (state : State) → state ≡ start_of N → after_nodes N.edges 0 (drop 0 N.nodes) state ≡ end_of N
unfolding end_of
end_of-is N state e = ap (λ s. after_nodes N.edges 0 N.nodes s) e

-- an input's edge is a lane, and no other node's is
pub input_edges-yes : (edges : List Edge) (nodes : List Node) (v : ℕ) (node : Node) → slice_get nodes v ≡ Some node → is_input node.kind ≡ true → input_edges edges v (drop v nodes) ≡ edge_out edges v 0 ∷ input_edges edges (v + 1) (drop (v + 1) nodes)
unfolding input_edges
input_edges-yes edges nodes v node e h =
    ap (λ rest. input_edges edges v rest) (drop-at nodes v node e)
    ∙ ap (λ b. cond b (edge_out edges v 0 ∷ input_edges edges (v + 1) (drop (v + 1) nodes)) (input_edges edges (v + 1) (drop (v + 1) nodes))) h

pub input_edges-no : (edges : List Edge) (nodes : List Node) (v : ℕ) (node : Node) → slice_get nodes v ≡ Some node → is_input node.kind ≡ false → input_edges edges v (drop v nodes) ≡ input_edges edges (v + 1) (drop (v + 1) nodes)
unfolding input_edges
input_edges-no edges nodes v node e h =
    ap (λ rest. input_edges edges v rest) (drop-at nodes v node e)
    ∙ ap (λ b. cond b (edge_out edges v 0 ∷ input_edges edges (v + 1) (drop (v + 1) nodes)) (input_edges edges (v + 1) (drop (v + 1) nodes))) h

pub input_edges-none : (edges : List Edge) (nodes : List Node) (v : ℕ) → length nodes ≤ v → input_edges edges v (drop v nodes) ≡ []
unfolding input_edges
input_edges-none edges nodes v h = ap (λ rest. input_edges edges v rest) (drop_of_length-le nodes h)

pub start-is : (N : Network) (state : State) → state ≡ record { lanes = input_edges N.edges 0 N.nodes; operations = [] } → state ≡ start_of N
unfolding start_of
start-is N state e = e

pub start-lanes : (N : Network) → (start_of N).lanes ≡ input_edges N.edges 0 N.nodes
unfolding start_of
start-lanes N = refl

-- the largest number of lanes behind a node
max-turn : (s m t : ℕ) → max (max s m) t ≡ max m (max s t)
max-turn s m t = grind arith

pub most_lanes-next : (s : ℕ) (nodes : List Node) (v : ℕ) (node : Node) (most : ℕ) → slice_get nodes v ≡ Some node → max (most_lanes s (drop v nodes)) most ≡ max (most_lanes (lanes_after node.kind s) (drop (v + 1) nodes)) (max s most)
unfolding most_lanes
most_lanes-next s nodes v node most e =
    ap (λ rest. max (most_lanes s rest) most) (drop-at nodes v node e)
    ∙ max-turn s (most_lanes (lanes_after node.kind s) (drop (v + 1) nodes)) most

pub most_lanes-none : (s : ℕ) (nodes : List Node) (v most : ℕ) → length nodes ≤ v → max (most_lanes s (drop v nodes)) most ≡ max s most
unfolding most_lanes
most_lanes-none s nodes v most h = ap (λ rest. max (most_lanes s rest) most) (drop_of_length-le nodes h)

-- an input's pin is put among the others
pub with_inputs-yes : (pins : List Pin) (t : ℕ) (nodes : List Node) (v : ℕ) (node : Node) → slice_get nodes v ≡ Some node → is_input node.kind ≡ true → with_inputs pins t (drop v nodes) ≡ with_inputs (with_pin pins (pin_at node.port t)) (t + 1) (drop (v + 1) nodes)
unfolding with_inputs
with_inputs-yes pins t nodes v node e h =
    ap (λ rest. with_inputs pins t rest) (drop-at nodes v node e)
    ∙ ap (λ b. cond b (with_inputs (with_pin pins (pin_at node.port t)) (t + 1) (drop (v + 1) nodes)) (with_inputs pins t (drop (v + 1) nodes))) h

pub with_inputs-no : (pins : List Pin) (t : ℕ) (nodes : List Node) (v : ℕ) (node : Node) → slice_get nodes v ≡ Some node → is_input node.kind ≡ false → with_inputs pins t (drop v nodes) ≡ with_inputs pins t (drop (v + 1) nodes)
unfolding with_inputs
with_inputs-no pins t nodes v node e h =
    ap (λ rest. with_inputs pins t rest) (drop-at nodes v node e)
    ∙ ap (λ b. cond b (with_inputs (with_pin pins (pin_at node.port t)) (t + 1) (drop (v + 1) nodes)) (with_inputs pins t (drop (v + 1) nodes))) h

pub with_inputs-none : (pins : List Pin) (t : ℕ) (nodes : List Node) (v : ℕ) → length nodes ≤ v → with_inputs pins t (drop v nodes) ≡ pins
unfolding with_inputs
with_inputs-none pins t nodes v h = ap (λ rest. with_inputs pins t rest) (drop_of_length-le nodes h)

-- two rows more, and the last two
pub rows_of-next : (w s : ℕ) (before : Option Operation) (ops : List Operation) (i : ℕ) (op : Operation) (xs all lanes ys : List (Option ℕ)) → i < length ops → op ≡ get_or ops i op → xs ++ rows_of w s before (drop i ops) ≡ all → lanes ≡ xs ++ row_of w (lane_tile before (Some op) op.lanes) → ys ≡ lanes ++ row_of w (operation_tile op) → ys ++ rows_of w s (Some op) (drop (i + 1) ops) ≡ all
unfolding rows_of
rows_of-next w s before ops i op xs all lanes ys lt e h f g =
    let one = row_of w (lane_tile before (Some op) op.lanes) in
    let two = row_of w (operation_tile op) in
    let rest = rows_of w s (Some op) (drop (i + 1) ops) in
    ap (λ zs. zs ++ rest) (g ∙ ap (λ zs. zs ++ two) f ∙ append_assoc xs one two)
    ∙ append_assoc xs (one ++ two) rest
    ∙ sym (ap (λ left. xs ++ rows_of w s before left) (drop-item ops i op lt e)) ∙ h

pub rows_of-none : (w s : ℕ) (before : Option Operation) (ops : List Operation) (i : ℕ) (xs all lanes ys : List (Option ℕ)) → length ops ≤ i → xs ++ rows_of w s before (drop i ops) ≡ all → lanes ≡ xs ++ row_of w (lane_tile before None s) → ys ≡ lanes ++ row_of w (output_tile s) → ys ≡ all
unfolding rows_of
rows_of-none w s before ops i xs all lanes ys le h f g =
    let one = row_of w (lane_tile before None s) in
    let two = row_of w (output_tile s) in
    g ∙ ap (λ zs. zs ++ two) f ∙ append_assoc xs one two
    ∙ sym (ap (λ left. xs ++ rows_of w s before left) (drop_of_length-le ops le)) ∙ h

-- the first lane that holds the edge
no-eq : (a b : ℕ) → (a ≡ b → ⊥) → (a == b) ≡ false
no-eq a b h = grind (arith, nat_tests, h)

yes-eq : (a b : ℕ) → a ≡ b → (a == b) ≡ true
yes-eq a b h = grind (arith, nat_tests, h)

pub lane_of-is : (lanes : List ℕ) (e i : ℕ) → i ≤ length lanes → ((k : ℕ) → k < i → get_or lanes k 0 ≡ e → ⊥) → (i < length lanes → get_or lanes i 0 ≡ e) → i ≡ lane_of lanes e
lane_of-is lanes e i le before here =
    sym (position_or_len_is (λ other. other == e) lanes i 0 le (λ k lt. no-eq (get_or lanes k 0) e (before k lt)) (λ lt. yes-eq (get_or lanes i 0) e (here lt)))

-- an input has a slot, and an output an operand
input-only : (k : Kind) → is_input k ≡ true → k ≡ Input
input-only Input h = refl
input-only Output h = cc
input-only Not h = cc
input-only Fan h = cc
input-only And h = cc
input-only Or h = cc
input-only Nand h = cc
input-only Nor h = cc
input-only Xor h = cc
input-only Xnor h = cc

output-only : (k : Kind) → is_output k ≡ true → k ≡ Output
output-only Output h = refl
output-only Input h = cc
output-only Not h = cc
output-only Fan h = cc
output-only And h = cc
output-only Or h = cc
output-only Nand h = cc
output-only Nor h = cc
output-only Xor h = cc
output-only Xnor h = cc

pub input-slot : (N : Network) (v : ℕ) (node : Node) → slice_get N.nodes v ≡ Some node → is_input node.kind ≡ true → HasSlot N v 0
input-slot N v node e h = (Input, (node, e, input-only node.kind h), omega arith)

pub output-operand : (N : Network) (v : ℕ) (node : Node) → slice_get N.nodes v ≡ Some node → is_output node.kind ≡ true → HasOperand N v 0
output-operand N v node e h = (Output, (node, e, output-only node.kind h), omega arith)

-- the first node of a network is an input
none-enters : (edges : List Edge) → AllByRecursion (λ e. e.source < e.target) edges → length (filter (enters_by 0 0) edges) ≡ 0
none-enters [] h = refl
none-enters (e ∷ es) h =
    let apart : (e.target == 0) ≡ false = no-eq e.target 0 (λ z. absurd (omega (arith, h.0, z))) in
    ap (λ b. length (cond (b && (e.operand == 0)) (e ∷ filter (enters_by 0 0) es) (filter (enters_by 0 0) es))) apart
    ∙ none-enters es h.1

first-kind : (k : Kind) → 0 ≡ one_if (nat_lt 0 (operands k)) → is_input k ≡ true
first-kind Input h = refl
first-kind Output h = absurd (omega (arith, h))
first-kind Not h = absurd (omega (arith, h))
first-kind Fan h = absurd (omega (arith, h))
first-kind And h = absurd (omega (arith, h))
first-kind Or h = absurd (omega (arith, h))
first-kind Nand h = absurd (omega (arith, h))
first-kind Nor h = absurd (omega (arith, h))
first-kind Xor h = absurd (omega (arith, h))
first-kind Xnor h = absurd (omega (arith, h))

least-lanes : (s : ℕ) (nodes : List Node) → s ≤ most_lanes s nodes
unfolding most_lanes
least-lanes s [] = omega arith
least-lanes s (node ∷ nodes) = le-max_left s (most_lanes (lanes_after node.kind s) nodes)

some-start : (edges : List Edge) (node : Node) (nodes : List Node) → is_input node.kind ≡ true → 1 ≤ length (input_edges edges 0 (node ∷ nodes))
some-start edges node nodes h =
    let e = ap (λ (xs : List ℕ). length xs) (input_edges-yes edges (node ∷ nodes) 0 node refl h) in
    omega (arith, e)

some-width : (N : Network) (nodes : List Node) → N.nodes ≡ nodes → IsNetwork N → 1 ≤ length nodes → 1 ≤ length (input_edges N.edges 0 nodes)
some-width N [] e net h = absurd (omega (arith, h))
some-width N (node ∷ nodes) e net h =
    let at : slice_get N.nodes 0 ≡ Some node = ap (λ (xs : List Node). slice_get xs 0) e in
    some-start N.edges node nodes
    (first-kind node.kind (sym (none-enters N.edges net.forward) ∙ net.enters 0 node.kind (node, at, refl) 0))

pub width-is : (N : Network) (s : ℕ) → s ≡ length (start_of N).lanes → max (most_lanes s N.nodes) 0 ≡ width_of N
unfolding width_of
width-is N s e = max-zero (most_lanes s N.nodes) ∙ ap (λ n. most_lanes n N.nodes) e

pub some-lane : (N : Network) → IsNetwork N → 1 ≤ length N.nodes → 1 ≤ width_of N
unfolding width_of
some-lane N net h =
    let some = some-width N N.nodes refl net h in
    let least = least-lanes (length (start_of N).lanes) N.nodes in
    omega (arith, some, least, ap (λ (xs : List ℕ). length xs) (start-lanes N))

-- a row for each operation and one for the lanes before it, and two behind
pub length-rows_of : (w s : ℕ) (before : Option Operation) (ops : List Operation) → length (rows_of w s before ops) ≡ w * (2 * length ops + 2)
unfolding rows_of
length-rows_of w s before [] =
    let one = row_of w (lane_tile before None s) in
    let two = row_of w (output_tile s) in
    omega (arith, length-append one two, length-map-range_with_len (lane_tile before None s) 0 w, length-map-range_with_len (output_tile s) 0 w)
length-rows_of w s before (op ∷ ops) =
    let one = row_of w (lane_tile before (Some op) op.lanes) in
    let two = row_of w (operation_tile op) in
    let rest = rows_of w s (Some op) ops in
    omega (arith, length-append (one ++ two) rest, length-append one two, length-map-range_with_len (lane_tile before (Some op) op.lanes) 0 w, length-map-range_with_len (operation_tile op) 0 w, length-rows_of w s (Some op) ops)

-- the grid
grid_with : ℕ → ℕ → List (Option ℕ) → FormGrid
grid_with w h tiles = record { ratio = record { w = w; h = h }; tiles = tiles }

pub grid-is : (N : Network) (state : State) (ratio : Ratio) (tiles : List (Option ℕ)) (grid : FormGrid) → grid ≡ record { ratio = ratio; tiles = tiles } → state ≡ end_of N → ratio.w ≡ width_of N → ratio.h ≡ height_of N → tiles ≡ rows_of ratio.w (length state.lanes) None state.operations → grid ≡ grid_of N
unfolding grid_of grid_with
grid-is N state ratio tiles grid g s w h t =
    let e = t ∙ ap (λ x. rows_of x (length state.lanes) None state.operations) w ∙ ap (λ (st : State). rows_of (width_of N) (length st.lanes) None st.operations) s in
    g ∙ ap (λ x. grid_with x ratio.h tiles) w ∙ ap (λ y. grid_with (width_of N) y tiles) h ∙ ap (λ z. grid_with (width_of N) (height_of N) z) e

-- the pins
pub inputs-are : (N : Network) → with_inputs [] 0 N.nodes ≡ (quick_pins N).inputs
unfolding quick_pins
inputs-are N = refl

tiles-are : (f : ℕ → ℕ) (ports : List ℕ) → map f ports ≡ pin_tiles (map (λ port. pin_at port (f port)) ports)
tiles-are f [] = refl
tiles-are f (port ∷ ports) = ap (λ rest. f port ∷ rest) (tiles-are f ports)

pub outputs-are : (N : Network) (state : State) (first : ℕ) → state ≡ end_of N → first ≡ (height_of N - 1) * width_of N → map (λ port. first + lane_of state.lanes (edge_into N.edges (output_node N port) 0)) (range_with_len 0 (output_count N)) ≡ pin_tiles (quick_pins N).outputs
unfolding quick_pins
outputs-are N state first s f =
    ap (λ x. map (λ port. x + lane_of state.lanes (edge_into N.edges (output_node N port) 0)) (range_with_len 0 (output_count N))) f
    ∙ ap (λ (st : State). map (λ port. (height_of N - 1) * width_of N + lane_of st.lanes (edge_into N.edges (output_node N port) 0)) (range_with_len 0 (output_count N))) s
    ∙ tiles-are (output_tile_of N) (range_with_len 0 (output_count N))

-- the first pin with a larger port
yes-less : (a b : ℕ) → a < b → nat_lt a b ≡ true
yes-less a b h = grind (arith, nat_tests, h)

no-less : (a b : ℕ) → b ≤ a → nat_lt a b ≡ false
no-less a b h = grind (arith, nat_tests, h)

pub place_of-is : (pins : List Pin) (port i : ℕ) → i ≤ length pins → ((k : ℕ) → k < i → (get_or pins k no_pin).port ≤ port) → (i < length pins → port < (get_or pins i no_pin).port) → i ≡ position_or_len (λ other. nat_lt port other.port) pins
place_of-is pins port i le before here =
    sym (position_or_len_is (λ other. nat_lt port other.port) pins i no_pin le (λ k lt. no-less port (get_or pins k no_pin).port (before k lt)) (λ lt. yes-less port (get_or pins i no_pin).port (here lt)))

-- the node of an output
and-left : (a b : Bool) → (a && b) ≡ true → a ≡ true
and-left true b h = refl
and-left false b h = h

pub output_at-operand : (N : Network) (v : ℕ) (node : Node) (port : ℕ) → slice_get N.nodes v ≡ Some node → is_output_at port node ≡ true → HasOperand N v 0
output_at-operand N v node port e h = output-operand N v node e (and-left (is_output node.kind) (node.port == port) h)

pub output_node-is : (N : Network) (port v : ℕ) (node : Node) → slice_get N.nodes v ≡ Some node → ((k : ℕ) → k < v → is_output_at port (get_or N.nodes k no_node) ≡ false) → is_output_at port node ≡ true → v ≡ output_node N port
output_node-is N port v node e before here =
    let lt = slice_get_within N.nodes v node e in
    sym (position_or_len_is (is_output_at port) N.nodes v no_node (omega (arith, lt)) before (λ _. ap (is_output_at port) (get_or_from_slice_get N.nodes v node no_node e) ∙ here))

pub no-output : (N : Network) (port v : ℕ) → IsNetwork N → port < output_count N → length N.nodes ≤ v → ((k : ℕ) → k < v → is_output_at port (get_or N.nodes k no_node) ≡ false) → ⊥
no-output N port v net lt le before =
    let found = net.outputs_all port lt in
    let u = found.0 in
    let node : Node = record { kind = Output; port = port } in
    let within : u < length N.nodes = slice_get_within N.nodes u node found.1 in
    let no : is_output_at port node ≡ false = sym (ap (is_output_at port) (get_or_from_slice_get N.nodes u node no_node found.1)) ∙ before u (omega (arith, within)) in
    let yes : (port == port) ≡ true = yes-eq port port refl in
    cc

-- how many pass a test
cond-length : {X : Type 0} (b : Bool) (x : X) (xs : List X) → length (cond b (x ∷ xs) xs) ≡ one_if b + length xs
cond-length true x xs = omega arith
cond-length false x xs = omega arith

pub filter-next : (test : Node → Bool) (nodes : List Node) (v : ℕ) (node : Node) → slice_get nodes v ≡ Some node → length (filter test (drop v nodes)) ≡ one_if (test node) + length (filter test (drop (v + 1) nodes))
filter-next test nodes v node e =
    ap (λ rest. length (filter test rest)) (drop-at nodes v node e)
    ∙ cond-length (test node) node (filter test (drop (v + 1) nodes))

-- the forms of one tile more
pub form-next : (tiles : List (Option ℕ)) (i : ℕ) (tile : Option ℕ) (P Q : ℕ → Type 0) → i < length tiles → tile ≡ get_or tiles i tile → ((form : ℕ) → P form ↔ Contains (take i tiles) (Some form)) → ((form : ℕ) → Q form ↔ (P form ⊎ (tile ≡ Some form))) → (form : ℕ) → Q form ↔ Contains (take (i + 1) tiles) (Some form)
form-next tiles i tile P Q lt is before next form =
    let e : take (i + 1) tiles ≡ take i tiles ++ tile ∷ [] = take_more tiles i tile lt ∙ ap (λ t. take i tiles ++ t ∷ []) (sym is) in
    let F : List (Option ℕ) → Type 0 = λ ts. Q form ↔ Contains ts (Some form) in
    subst F (sym e) (
      (λ q. elim ((next form).0 q) [
        | inl p ↦ Contains-append_left (take i tiles) (tile ∷ []) (Some form) ((before form).0 p)
        | inr h ↦ subst (λ t. Contains (take i tiles ++ tile ∷ []) t) h (Contains-push (take i tiles) tile)
      ]),
      (λ has. elim (Contains-push_cases (take i tiles) tile (Some form) has) [
        | inl h ↦ (next form).1 (inl ((before form).1 h))
        | inr h ↦ (next form).1 (inr h)
      ]),
    )

-- the first state, behind all nodes
pub start-end : (N : Network) (state : State) (lanes : List ℕ) (v : ℕ) → length N.nodes ≤ v → lanes ++ input_edges N.edges v (drop v N.nodes) ≡ input_edges N.edges 0 N.nodes → state ≡ record { lanes = lanes; operations = [] } → state ≡ start_of N
unfolding start_of
start-end N state lanes v le all e =
    let with_lanes : List ℕ → State = λ xs. record { lanes = xs; operations = [] } in
    e ∙ ap with_lanes (put-none lanes (input_edges N.edges 0 N.nodes) (sym (ap (λ xs. lanes ++ xs) (input_edges-none N.edges N.nodes v le)) ∙ all))

-- so many tiles
pub past-tiles : (w h : ℕ) → 1 ≤ w → 4194304 / w < h → 4194304 < w * h
past-tiles w h some past =
    let more : 4194304 / w + 1 ≤ h = omega arith in
    let least = mul-le-mul_left w more in
    let rest : 4194304 % w < w = omega arith in
    let whole : w * (4194304 / w) + 4194304 % w ≡ 4194304 = omega arith in
    omega (arith, least, rest, whole)

pub within-tiles : (w h : ℕ) → 1 ≤ w → h ≤ 4194304 / w → w * h ≤ 4194304
within-tiles w h some within =
    let most = mul-le-mul_left w within in
    let whole : w * (4194304 / w) + 4194304 % w ≡ 4194304 = omega arith in
    omega (arith, most, whole)

pub grid-tiles : (N : Network) (w s : ℕ) (ops : List Operation) (tiles : List (Option ℕ)) → w ≡ width_of N → s ≡ length (end_of N).lanes → ops ≡ (end_of N).operations → tiles ≡ rows_of w s None ops → tiles ≡ (grid_of N).tiles
unfolding grid_of
grid-tiles N w s ops tiles e f g t =
    t ∙ ap (λ x. rows_of x s None ops) e ∙ ap (λ x. rows_of (width_of N) x None ops) f
    ∙ ap (λ xs. rows_of (width_of N) (length (end_of N).lanes) None xs) g

pub match-none : {X : Type 0} (o : Option X) (P : Type 0) (Q : X → Type 0) → ((x : X) → o ≡ Some x → ⊥) → MatchOption o P Q → P
match-none None P Q none h = h
match-none (Some x) P Q none h = absurd (none x refl)
