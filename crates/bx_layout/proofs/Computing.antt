-- The form grid of a legal layout computes the network, with the pins where its nodes stand.
use Rattle.std.proofs.Common.{◌≡◌, ◌≢◌, ℕ, ◌+◌, ◌*◌, ◌/◌, ◌%◌, ◌<◌, ◌≤◌, ◌↔◌, Bool, true, false, List, get_or, slice_get, Contains, Option, Some, None, inl, inr, refl, sym, ap, ◌∙◌, subst, arith}
use Rattle.std.proofs.lemmas.Nat.{div-add-mod'}
use Rattle.std.proofs.lemmas.List.FromFn.{get_or-map-range_with_len}
use Rattle.bx_logic.specs.Op.{first_value}
use Rattle.bx_logic.specs.Lists.{AreDistinct}
use Rattle.bx_logic.specs.Values.{value_of}
use Rattle.bx_forms.specs.declared.kind.Kind.{Kind}
use Rattle.bx_forms.specs.declared.kind.Kind.TheVariants.{Input, Output, Not, Fan, And, Or, Nand, Nor, Xor, Xnor}
use Rattle.bx_forms.specs.Forms.{form_node}
use Rattle.bx_grid.specs.declared.ratio.Ratio.{Ratio}
use Rattle.bx_grid.specs.Tiles.{IsTile}
use Rattle.bx_logic.proofs.Members.{Member, Member-map, Member-map_cases, Contains-from_member, Member-from_contains}
use Rattle.bx_network.specs.declared.node.Node.{Node}
use Rattle.bx_network.specs.Networks.{Network, IsNetwork, HasPort, is_output}
use Rattle.bx_network.specs.Values.{NetworkGives}
use Rattle.bx_network.proofs.Lists.{got-within}
use Rattle.bx_network.proofs.Valuations.{one-valuation}
use Rattle.bx_layout.specs.declared.layout.Layout.{Layout}
use Rattle.bx_layout.specs.Layouts.{Stands}
use Rattle.bx_layout.specs.Grids.{FormGrid, node_in, Holds}
use Rattle.bx_layout.specs.Valuations.{comes_in, is_input}
use Rattle.bx_layout.specs.Permits.{PermitTest}
use Rattle.bx_layout.specs.Pins.{Pin, Pins, pin_ports, pin_tiles, AreForPorts, ArePins, given_at, given_to, GridGives, Computes, pins_at, pins_of}
use Rattle.bx_layout.specs.TileForms.{HasForm, IsFormGridOf}
use Rattle.bx_layout.specs.Legal.{IsLegal}
use Rattle.bx_layout.proofs.Balances.{place-of}
use Rattle.bx_layout.proofs.PinLists.{pin_of, IsPinOf, pin-says, pin-has, length-pins_at, TellsApart, distinct-pins, distinct-append, given-pin}
use Rattle.bx_layout.proofs.Valuations.{only-valuation}
use Rattle.bx_layout.proofs.Soundness.{grid, grid-cases, held}
use Rattle.bx_layout.proofs.Carried.{carried, carried-valuation, output-reads}

input-says : (kind : Kind) → is_input kind ≡ true → kind ≡ Input
input-says Input e = refl
input-says Output e = absurd (cc)
input-says Not e = absurd (cc)
input-says Fan e = absurd (cc)
input-says And e = absurd (cc)
input-says Or e = absurd (cc)
input-says Nand e = absurd (cc)
input-says Nor e = absurd (cc)
input-says Xor e = absurd (cc)
input-says Xnor e = absurd (cc)

output-says : (kind : Kind) → is_output kind ≡ true → kind ≡ Output
output-says Input e = absurd (cc)
output-says Output e = refl
output-says Not e = absurd (cc)
output-says Fan e = absurd (cc)
output-says And e = absurd (cc)
output-says Or e = absurd (cc)
output-says Nand e = absurd (cc)
output-says Nor e = absurd (cc)
output-says Xor e = absurd (cc)
output-says Xnor e = absurd (cc)

abbrev port-node : Kind → ℕ → Node
port-node kind port = record { kind = kind; port = port }

first-column : (t w : ℕ) → 1 ≤ w → t / w ≡ 0 → t < w
first-column t w some row = let e = ap (λ (q : ℕ). q * w + t % w) (sym row) ∙ div-add-mod' t w in omega arith

module _ (N : Network) (permit : PermitTest) (L : Layout) (network : IsNetwork N) (legal : IsLegal N permit L)
    (tiles : List (Option ℕ)) (each : (t form : ℕ) → IsTile L.ratio t → (get_or tiles t None ≡ Some form) ↔ HasForm N L t form) where
  abbrev the_grid : FormGrid
  the_grid = grid N permit L network legal tiles each

  abbrev the_pins : Pins
  the_pins = pins_of N L

  -- ---- nodes and pins

  -- the node of a pin, where the test tells one kind
  pin-port : (kind : Kind) (test : Kind → Bool) → ((k : Kind) → test k ≡ true → k ≡ kind) → (pin : Pin) (a : IsPinOf test N.nodes L.places pin) → HasPort N a.v kind pin.port
  pin-port kind test says pin a =
      a.is_node ∙ ap (λ (k : Kind). Some (port-node k a.node.port)) (says a.node.kind a.passes) ∙ ap (λ (p : ℕ). Some (port-node kind p)) a.port

  -- the pin of a node
  port-pin : (kind : Kind) (test : Kind → Bool) → test kind ≡ true → (v port : ℕ) → HasPort N v kind port → (t : ℕ) × Stands L v t × Member (pin_of (port-node kind port) t) (pins_at test N.nodes L.places)
  port-pin kind test passes v port is =
      let place = place-of N L network legal.placed legal.balanced v (got-within N.nodes v (port-node kind port) is) in
      (place.item, place.at, pin-has test N.nodes L.places v place.item (port-node kind port) is passes place.at)

  ports : (kind : Kind) (test : Kind → Bool) → test kind ≡ true → ((k : Kind) → test k ≡ true → k ≡ kind) →
      ((u v port : ℕ) → HasPort N u kind port → HasPort N v kind port → u ≡ v) → AreForPorts N kind (pins_at test N.nodes L.places)
  ports kind test passes says apart = record {
    each = λ port. (forth port, back port);
    once = distinct-pins (λ (pin : Pin). pin.port) test N.nodes L.places tells;
  }
    where
      pins : List Pin
      pins = pins_at test N.nodes L.places

      forth : (port : ℕ) → Contains (pin_ports pins) port → (v : ℕ) × HasPort N v kind port
      forth port c =
          let (pin, m, same) = Member-map_cases (λ (pin : Pin). pin.port) port pins (Member-from_contains port (pin_ports pins) c) in
          let a = pin-says test N.nodes L.places pin m in
          (a.v, subst (HasPort N a.v kind) same (pin-port kind test says pin a))

      back : (port : ℕ) → (v : ℕ) × HasPort N v kind port → Contains (pin_ports pins) port
      back port (v, is) =
          let (t, stands, m) = port-pin kind test passes v port is in
          Contains-from_member port (pin_ports pins) (Member-map (λ (pin : Pin). pin.port) (pin_of (port-node kind port) t) pins m)

      tells : TellsApart (λ (pin : Pin). pin.port) test N.nodes L.places
      tells p q a b same = apart a.v b.v q.port (subst (HasPort N a.v kind) same (pin-port kind test says p a)) (pin-port kind test says q b)

  tiles-apart : (test : Kind → Bool) → AreDistinct (pin_tiles (pins_at test N.nodes L.places))
  tiles-apart test = distinct-pins (λ (pin : Pin). pin.tile) test N.nodes L.places tells
    where
      tells : TellsApart (λ (pin : Pin). pin.tile) test N.nodes L.places
      tells p q a b same = legal.placed.apart a.v b.v q.tile (subst (Stands L a.v) same a.stands) b.stands

  -- the tile of a node holds its kind
  holds-kind : (kind : Kind) (v port t : ℕ) → HasPort N v kind port → Stands L v t → Holds the_grid t kind
  holds-kind kind v port t is stands = elim (grid-cases N permit L network legal tiles each t (legal.placed.inside v t stands)) [
    | inl (bare, none) ↦ absurd (bare.free v stands)
    | inr (form, has, at) ↦ ap node_in at ∙ node form has
  ]
    where
      node : (form : ℕ) → HasForm N L t form → form_node form ≡ Some kind
      node form (inl a) =
          let same = legal.placed.apart a.v v t a.stands stands in
          let both : Some a.node ≡ Some (port-node kind port) = sym a.is_node ∙ ap (slice_get N.nodes) same ∙ is in
          let nodes : a.node ≡ port-node kind port = cc in
          a.form_of.uses.node ∙ ap (λ (n : Node). Some n.kind) nodes
      node form (inr b) = absurd (b.free v stands)

  -- the pin with this tile
  tile-pin : (kind : Kind) (test : Kind → Bool) → ((k : Kind) → test k ≡ true → k ≡ kind) → (t : ℕ) → Contains (pin_tiles (pins_at test N.nodes L.places)) t →
      (v port : ℕ) × HasPort N v kind port × Stands L v t
  tile-pin kind test says t c =
      let (pin, m, same) = Member-map_cases (λ (pin : Pin). pin.tile) t (pins_at test N.nodes L.places) (Member-from_contains t (pin_tiles (pins_at test N.nodes L.places)) c) in
      let a = pin-says test N.nodes L.places pin m in
      (a.v, pin.port, pin-port kind test says pin a, subst (Stands L a.v) same a.stands)

  -- the tile that holds a kind has a pin
  held-pin : (kind : Kind) (test : Kind → Bool) → test kind ≡ true → (t : ℕ) → IsTile L.ratio t → Holds the_grid t kind → Contains (pin_tiles (pins_at test N.nodes L.places)) t
  held-pin kind test passes t inside holds =
      let (form, at, a, same) = held N permit L network legal tiles each t kind inside holds in
      let m = pin-has test N.nodes L.places a.v t a.node a.is_node (ap test same ∙ passes) a.stands in
      Contains-from_member t (pin_tiles (pins_at test N.nodes L.places)) (Member-map (λ (pin : Pin). pin.tile) (pin_of a.node t) (pins_at test N.nodes L.places) m)

  pins-fit : ArePins the_grid N the_pins
  pins-fit = record {
    inputs = ports Input is_input refl input-says network.inputs_apart;
    outputs = ports Output is_output refl output-says network.outputs_apart;
    first = λ t c. let (v, port, is, stands) = tile-pin Input is_input input-says t c in
        (legal.placed.inside v t stands, legal.ends v t (port-node Input port) is stands, holds-kind Input v port t is stands);
    last = λ t c. let (v, port, is, stands) = tile-pin Output is_output output-says t c in
        (legal.placed.inside v t stands, legal.ends v t (port-node Output port) is stands, holds-kind Output v port t is stands);
    apart = distinct-append (pin_tiles the_pins.inputs) (pin_tiles the_pins.outputs) (tiles-apart is_input) (tiles-apart is_output) differ;
    no_more_inputs = λ t inside holds. held-pin Input is_input refl t inside holds;
    no_more_outputs = λ t inside holds. held-pin Output is_output refl t inside holds;
  }
    where
      differ : (x y : ℕ) → Member x (pin_tiles the_pins.inputs) → Member y (pin_tiles the_pins.outputs) → y ≢ x
      differ x y m n same =
          let (u, p, input, there) = tile-pin Input is_input input-says x (Contains-from_member x (pin_tiles the_pins.inputs) m) in
          let (v, q, output, here) = tile-pin Output is_output output-says y (Contains-from_member y (pin_tiles the_pins.outputs) n) in
          let one = legal.placed.apart u v x there (subst (Stands L v) same here) in
          let both : Some (port-node Input p) ≡ Some (port-node Output q) = sym input ∙ ap (slice_get N.nodes) one ∙ output in
          let nodes : port-node Input p ≡ port-node Output q = cc in
          let kinds : Input ≡ Output = ap (λ (k : Node). k.kind) nodes in
          cc

  -- ---- values

  given-is : (bits : List Bool) (v t port : ℕ) → Stands L v t → HasPort N v Input port → value_of (given_to the_grid the_pins bits) t ≡ value_of bits port
  given-is bits v t port stands is =
      let row = legal.ends v t (port-node Input port) is stands in
      let wide = legal.grid.wide in
      get_or-map-range_with_len (given_at the_pins.inputs bits) 0 L.ratio.w t t false (first-column t L.ratio.w wide row) (omega arith)
      ∙ given-pin is_input N.nodes L.places bits v t (port-node Input port) is refl stands (λ u e. legal.placed.apart u v t e stands)

  forth : (inputs : ℕ) (bits outputs : List Bool) → GridGives inputs the_grid the_pins bits outputs → NetworkGives inputs N bits outputs
  forth inputs bits outputs h =
      let (values, only) = one-valuation N bits network in
      let there = carried-valuation N permit L network legal tiles each bits (given_to the_grid the_pins bits) values only.is (given-is bits) in
      let same : carried L values ≡ h.borders = h.valuation.only (carried L values) there in
      record {
        given = h.given;
        values = values;
        valuation = only;
        all = h.all ∙ length-pins_at is_output N.nodes L.places legal.placed.places;
        read = λ v port is.
            let (t, stands, m) = port-pin Output is_output refl v port is in
            h.read (pin_of (port-node Output port) t) (Contains-from_member (pin_of (port-node Output port) t) the_pins.outputs m)
            ∙ sym (ap (λ bs. first_value (comes_in the_grid bs t)) same)
            ∙ output-reads N permit L network legal tiles each bits (given_to the_grid the_pins bits) values only.is (given-is bits) v t port is stands;
      }

  back : (inputs : ℕ) (bits outputs : List Bool) → NetworkGives inputs N bits outputs → GridGives inputs the_grid the_pins bits outputs
  back inputs bits outputs n =
      let given = given_to the_grid the_pins bits in
      record {
        given = n.given;
        borders = carried L n.values;
        valuation = only-valuation the_grid given (carried L n.values) (carried-valuation N permit L network legal tiles each bits given n.values n.valuation.is (given-is bits));
        all = n.all ∙ sym (length-pins_at is_output N.nodes L.places legal.placed.places);
        read = λ pin c.
            let a = pin-says is_output N.nodes L.places pin (Member-from_contains pin the_pins.outputs c) in
            let is = pin-port Output is_output output-says pin a in
            n.read a.v pin.port is
            ∙ sym (output-reads N permit L network legal tiles each bits given n.values n.valuation.is (given-is bits) a.v pin.tile pin.port is a.stands);
      }

  pub grid-computes : (inputs : ℕ) → Computes inputs the_grid the_pins N
  grid-computes inputs = record { pins_fit = pins-fit; same = record { forth = forth inputs; back = back inputs } }

pub computes : (N : Network) (permit : PermitTest) (L : Layout) (g : FormGrid) (inputs : ℕ) → IsNetwork N → IsLegal N permit L → IsFormGridOf N L g → Computes inputs g (pins_of N L) N
computes N permit L g inputs network legal of =
    subst (λ (r : Ratio). Computes inputs (record { ratio = r; tiles = g.tiles }) (pins_of N L) N) (sym of.ratio) (grid-computes N permit L network legal g.tiles of.each inputs)
