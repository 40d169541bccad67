-- A walk over the nodes finds the tile of the first pin of a port.
use Rattle.std.proofs.Common.{◌≡◌, ℕ, zero, suc, ◌≤◌, Bool, true, false, not, ◌==◌, ◌&&◌, ◌||◌, List, [], ◌∷◌, length, drop, Option, Some, None, if◌then◌else◌, refl, sym, ◌∙◌, ap, arith}
use Rattle.std.specs.Prelude.{cond, option_map, find, slice_get, is_some, is_none}
use Rattle.std.specs.List.{list_any}
use Rattle.std.proofs.lemmas.List.{drop_all}
use Rattle.bx_forms.specs.declared.kind.Kind.{Kind}
use Rattle.bx_network.specs.declared.node.Node.{Node}
use Rattle.bx_network.specs.Networks.{Network}
use Rattle.bx_layout.specs.Valuations.{is_input}
use Rattle.bx_layout.specs.Pins.{Pin, pins_at}
use Rattle.bx_says.specs.Ports.{tile_of, is_unused}

module _ (test : Kind → Bool) (port : ℕ) where
  -- the node is one for this port
  abbrev is_for : Node → Bool
  is_for node = test node.kind && (node.port == port)

  abbrev tile_among : List Node → List ℕ → Option ℕ
  tile_among nodes tiles = tile_of (pins_at test nodes tiles) port

  first_pin : (node : Node) (tile : ℕ) (nodes : List Node) (tiles : List ℕ) → tile_among (node ∷ nodes) (tile ∷ tiles) ≡ (if is_for node then Some tile else tile_among nodes tiles)
  first_pin node tile nodes tiles =
      let pin : Pin = record { port = node.port; tile = tile } in
      let further : List Pin = pins_at test nodes tiles in
      let found : Option Pin = find (λ pin. pin.port == port) further in
      elim (test node.kind) as (λ a. option_map (λ pin. pin.tile) (find (λ pin. pin.port == port) (if a then pin ∷ further else further)) ≡ (if a && (node.port == port) then Some tile else tile_of further port)) [
        | true ↦ elim (node.port == port) as (λ b. option_map (λ pin. pin.tile) (cond b (Some pin) found) ≡ (if b then Some tile else option_map (λ pin. pin.tile) found)) [ true ↦ refl | false ↦ refl ]
        | false ↦ refl
      ]

  -- the walk comes to a node for the port
  pub stands_here : (nodes : List Node) (tiles : List ℕ) (v : ℕ) (node : Node) (tile : ℕ) → slice_get nodes v ≡ Some node → slice_get tiles v ≡ Some tile → is_for node ≡ true
      → tile_among (drop v nodes) (drop v tiles) ≡ Some tile
  stands_here [] tiles v node tile is there here = absurd (cc)
  stands_here (n ∷ nodes) [] v node tile is there here = absurd (cc)
  stands_here (n ∷ nodes) (t ∷ tiles) zero node tile is there here =
      let same : n ≡ node = cc in
      let place : t ≡ tile = cc in
      first_pin n t nodes tiles
      ∙ ap (λ (m : Node). if is_for m then Some t else tile_among nodes tiles) same
      ∙ ap (λ (b : Bool). if b then Some t else tile_among nodes tiles) here
      ∙ ap Some place
  stands_here (n ∷ nodes) (t ∷ tiles) (suc v) node tile is there here = stands_here nodes tiles v node tile is there here

  -- the walk passes over another node
  pub passed_over : (nodes : List Node) (tiles : List ℕ) (v : ℕ) (node : Node) (tile : ℕ) → slice_get nodes v ≡ Some node → slice_get tiles v ≡ Some tile → is_for node ≡ false
      → tile_among (drop v nodes) (drop v tiles) ≡ tile_among (drop (suc v) nodes) (drop (suc v) tiles)
  passed_over [] tiles v node tile is there other = absurd (cc)
  passed_over (n ∷ nodes) [] v node tile is there other = absurd (cc)
  passed_over (n ∷ nodes) (t ∷ tiles) zero node tile is there other =
      let same : n ≡ node = cc in
      first_pin n t nodes tiles
      ∙ ap (λ (m : Node). if is_for m then Some t else tile_among nodes tiles) same
      ∙ ap (λ (b : Bool). if b then Some t else tile_among nodes tiles) other
  passed_over (n ∷ nodes) (t ∷ tiles) (suc v) node tile is there other = passed_over nodes tiles v node tile is there other

  -- behind the last node there is none
  pub none_left : (nodes : List Node) (tiles : List ℕ) (v : ℕ) → length nodes ≤ v → tile_among (drop v nodes) (drop v tiles) ≡ None
  none_left nodes tiles v past = ap (λ (rest : List Node). tile_among rest (drop v tiles)) (drop_all v nodes past)

  -- there is a tile where there is a node for the port
  pub is_some-tile : (nodes : List Node) (tiles : List ℕ) → length tiles ≡ length nodes → is_some (tile_among nodes tiles) ≡ list_any is_for nodes
  is_some-tile [] tiles same = refl
  is_some-tile (n ∷ nodes) [] same = absurd (omega arith)
  is_some-tile (n ∷ nodes) (t ∷ tiles) same =
      ap is_some (first_pin n t nodes tiles)
      ∙ elim (is_for n) as (λ b. is_some (if b then Some t else tile_among nodes tiles) ≡ (b || list_any is_for nodes)) [ true ↦ refl | false ↦ is_some-tile nodes tiles (omega arith) ]

-- an input is unused exactly where no tile is printed for it
pub unused-tile : (N : Network) (tiles : List ℕ) (port : ℕ) → length tiles ≡ length N.nodes → is_unused N port ≡ is_none (tile_of (pins_at is_input N.nodes tiles) port)
unused-tile N tiles port same =
    let found : Option ℕ = tile_of (pins_at is_input N.nodes tiles) port in
    ap not (sym (is_some-tile is_input port N.nodes tiles same)) ∙ elim found as (λ o. not (is_some o) ≡ is_none o) [ None ↦ refl | Some t ↦ refl ]
