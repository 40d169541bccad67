-- The values that a network's edges have, put on the borders that carry them, are the valuation of the form
-- grid of a legal layout.
use Rattle.std.proofs.Common.{◌≡◌, ℕ, ◌⊎◌, ◌↔◌, Bool, false, List, [], ◌∷◌, map, get_or, slice_get, Option, Some, None, is_some, if◌then◌else◌, inl, inr, refl, sym, ap, ap₂, ◌∙◌, subst, arith}
use Rattle.std.specs.Prelude.{option_and_then, option_map}
use Rattle.std.proofs.lemmas.List.{length-map}
use Rattle.bx_logic.specs.Op.{first_value}
use Rattle.bx_logic.specs.Values.{value_of}
use Rattle.bx_forms.specs.declared.kind.Kind.{Kind}
use Rattle.bx_forms.specs.declared.kind.Kind.TheVariants.{Input, Output, Not, Fan, And, Or, Nand, Nor, Xor, Xnor}
use Rattle.bx_forms.specs.declared.side.Side.{Side}
use Rattle.bx_forms.specs.declared.side.Side.TheVariants.{Left, Right}
use Rattle.bx_forms.specs.declared.side.Sides.{Sides}
use Rattle.bx_forms.specs.Forms.{form_node, form_upper, form_lower, form_sends, slot_on}
use Rattle.bx_forms.specs.Kinds.{operands, gives}
use Rattle.bx_forms.specs.Sides.{is_used, used_values}
use Rattle.bx_forms.proofs.Lines.{get_or-map}
use Rattle.bx_forms.proofs.Exchange.{exchanged}
use Rattle.bx_grid.specs.Tiles.{IsTile, border, entering}
use Rattle.bx_network.specs.declared.node.Node.{Node}
use Rattle.bx_network.specs.declared.node.Edge.{Edge}
use Rattle.bx_network.specs.Networks.{Network, IsNetwork, HasPort}
use Rattle.bx_network.specs.Values.{edge_into, values_into, node_reads, IsValuation}
use Rattle.bx_network.specs.Values.{operand_values}
use Rattle.bx_network.proofs.Lists.{got-at}
use Rattle.bx_layout.specs.declared.layout.Layout.{Layout}
use Rattle.bx_layout.specs.Layouts.{Stands, edge_on, enters, leaves}
use Rattle.bx_layout.specs.Grids.{FormGrid, form_at, node_in}
use Rattle.bx_layout.specs.Valuations.{value_on, comes_in, is_input, reads_given, reads, sent_value, IsBorderValuation}
use Rattle.bx_layout.specs.Permits.{PermitTest}
use Rattle.bx_layout.specs.TileForms.{upper_sides, lower_sides, slot_of, ComesFrom, on_side, HasNodeForm, HasWireForm, HasForm}
use Rattle.bx_layout.specs.Legal.{IsLegal}
use Rattle.bx_layout.proofs.Balances.{option-cases, leaving-is}
use Rattle.bx_layout.proofs.Spread.{ways, spread-values}
use Rattle.bx_layout.proofs.Edges.{begins-here, entering-spread}
use Rattle.bx_layout.proofs.OnTiles.{comes-leaves}
use Rattle.bx_layout.proofs.Wires.{unused-sends}
use Rattle.bx_layout.proofs.Soundness.{grid, grid-cases, form-upper, form-lower, upper-is}

-- the value of the edge, false where there is none
abbrev pub edge_value : List Bool → Option ℕ → Bool
edge_value values None = false
edge_value values (Some e) = value_of values e

abbrev pub carried : Layout → List Bool → List Bool
carried L values = map (edge_value values) L.borders

carried-on : (L : Layout) (values : List Bool) (b : ℕ) → value_of (carried L values) b ≡ edge_value values (edge_on L b)
carried-on L values b = sym (get_or-map (edge_value values) L.borders b None)

carried-in : (L : Layout) (values : List Bool) (t : ℕ) (side : Side) → value_on (carried L values) (entering L.ratio t side) ≡ edge_value values (enters L t side)
carried-in L values t side = at (entering L.ratio t side)
  where
    at : (o : Option ℕ) → value_on (carried L values) o ≡ edge_value values (option_and_then (edge_on L) o)
    at None = refl
    at (Some b) = carried-on L values b

-- an input reads what is given, and any other node what enters it
read-cases : (kind : Kind) → (kind ≡ Input) ⊎ ((is_input kind ≡ false) × ((given : Bool) (entered : List Bool) → node_reads kind given entered ≡ entered))
read-cases Input = inl refl
read-cases Output = inr (refl, (λ g xs. refl))
read-cases Not = inr (refl, (λ g xs. refl))
read-cases Fan = inr (refl, (λ g xs. refl))
read-cases And = inr (refl, (λ g xs. refl))
read-cases Or = inr (refl, (λ g xs. refl))
read-cases Nand = inr (refl, (λ g xs. refl))
read-cases Nor = inr (refl, (λ g xs. refl))
read-cases Xor = inr (refl, (λ g xs. refl))
read-cases Xnor = inr (refl, (λ g xs. refl))

on-side : (f : Option ℕ → Bool) (L : Layout) (t : ℕ) (side : Side) → on_side (f (enters L t Left)) (f (enters L t Right)) side ≡ f (enters L t side)
on-side f L t Left = refl
on-side f L t Right = refl

module _ (N : Network) (permit : PermitTest) (L : Layout) (network : IsNetwork N) (legal : IsLegal N permit L)
    (tiles : List (Option ℕ)) (each : (t form : ℕ) → IsTile L.ratio t → (get_or tiles t None ≡ Some form) ↔ HasForm N L t form)
    (bits given values : List Bool) (valuation : IsValuation N bits values)
    (given_is : (v t port : ℕ) → Stands L v t → HasPort N v Input port → value_of given t ≡ value_of bits port) where
  abbrev the_grid : FormGrid
  the_grid = grid N permit L network legal tiles each

  -- what comes in are the values of the edges that enter
  comes-in : (t : ℕ) → IsTile L.ratio t → comes_in the_grid (carried L values) t ≡ used_values (upper_sides L t) (edge_value values (enters L t Left)) (edge_value values (enters L t Right))
  comes-in t inside =
      ap (λ (u : Sides). used_values u (value_on (carried L values) (entering L.ratio t Left)) (value_on (carried L values) (entering L.ratio t Right))) (upper-is N permit L network legal tiles each t inside)
      ∙ ap₂ (λ (a b : Bool). used_values (upper_sides L t) a b) (carried-in L values t Left) (carried-in L values t Right)

  -- a node's tile reads what the node reads, or that exchanged, which the node doesn't tell
  pub node-enters : (v t : ℕ) (node : Node) (f : List Bool → Bool) → slice_get N.nodes v ≡ Some node → Stands L v t →
      (operands node.kind ≡ 2 → (a b : Bool) → f (a ∷ b ∷ []) ≡ f (b ∷ a ∷ [])) →
      f (comes_in the_grid (carried L values) t) ≡ f (values_into N.edges values v node.kind)
  node-enters v t node f is stands exchange =
      ap f (comes-in t (legal.placed.inside v t stands))
      ∙ spread-values (edge_into N.edges v) (enters L t) f (edge_value values) (value_of values) (λ e. refl) (operands node.kind) exchange
      (ways (edge_into N.edges v) (enters L t) (operands node.kind) (entering-spread N permit L network legal v node is t stands))

  tile-reads : (v t : ℕ) (node : Node) (slot : ℕ) → slice_get N.nodes v ≡ Some node → Stands L v t →
      gives node.kind (if is_input node.kind then value_of given t ∷ [] else comes_in the_grid (carried L values) t) slot ≡ gives node.kind (operand_values N bits values v node) slot
  tile-reads v t node slot is stands = elim (read-cases node.kind) [
    | inl input ↦ at_input input
    | inr (other, entered) ↦
        ap (λ (b : Bool). gives node.kind (if b then value_of given t ∷ [] else comes_in the_grid (carried L values) t) slot) other
        ∙ node-enters v t node (λ xs. gives node.kind xs slot) is stands (λ two a b. exchanged node.kind a b slot two)
        ∙ sym (ap (λ xs. gives node.kind xs slot) (entered (value_of bits node.port) (values_into N.edges values v node.kind)))
  ]
    where
      at_input : node.kind ≡ Input → gives node.kind (if is_input node.kind then value_of given t ∷ [] else comes_in the_grid (carried L values) t) slot ≡ gives node.kind (operand_values N bits values v node) slot
      at_input input =
          let port : HasPort N v Input node.port = is ∙ ap (λ (k : Kind). Some (port_node k)) input in
          let same = given_is v t node.port stands port in
          ap (λ (k : Kind). gives node.kind (if is_input k then value_of given t ∷ [] else comes_in the_grid (carried L values) t) slot) input
          ∙ ap (λ (b : Bool). gives node.kind (b ∷ []) slot) same
          ∙ sym (ap (λ (k : Kind). gives node.kind (node_reads k (value_of bits node.port) (values_into N.edges values v node.kind)) slot) input)
        where
          port_node : Kind → Node
          port_node k = record { kind = k; port = node.port }

  -- nothing goes out where no edge leaves
  unsent : (t form : ℕ) (read : List Bool) (side : Side) → HasForm N L t form → leaves L t side ≡ None → form_sends form read side ≡ false
  unsent t form read side has none = unused-sends form read side (used side none)
    where
      lower : form_lower form ≡ lower_sides L t
      lower = form-lower N permit L network legal tiles each t form has

      used : (s : Side) → leaves L t s ≡ None → is_used (form_lower form) s ≡ false
      used Left e = ap (λ (u : Sides). u.left) lower ∙ ap is_some e
      used Right e = ap (λ (u : Sides). u.right) lower ∙ ap is_some e

  slot-side : (t e : ℕ) (edge : Edge) (side : Side) → leaves L t side ≡ Some e → slice_get N.edges e ≡ Some edge →
      slot_on (slot_of N (leaves L t Left)) (slot_of N (leaves L t Right)) side ≡ Some edge.slot
  slot-side t e edge Left out is = ap (slot_of N) out ∙ ap (λ (o : Option Edge). option_map (λ d. d.slot) o) is
  slot-side t e edge Right out is = ap (slot_of N) out ∙ ap (λ (o : Option Edge). option_map (λ d. d.slot) o) is

  -- at a node
  node-sent : (t form e : ℕ) (side : Side) (a : HasNodeForm N L t form) → leaves L t side ≡ Some e →
      value_of values e ≡ form_sends form (if is_input a.node.kind then value_of given t ∷ [] else comes_in the_grid (carried L values) t) side
  node-sent t form e side a out =
      let at = got-at N.edges e (leaving-is N L legal.placed t e side out) in
      let source = begins-here N permit L network legal a.v a.node a.is_node t a.stands side e at.item out at.at in
      valuation.each e at.item a.node at.at (ap (slice_get N.nodes) source ∙ a.is_node)
      ∙ ap (λ (u : ℕ). gives a.node.kind (operand_values N bits values u a.node) at.item.slot) source
      ∙ sym (tile-reads a.v t a.node at.item.slot a.is_node a.stands)
      ∙ sym (a.form_of.sends side at.item.slot (slot-side t e at.item side out at.at) (if is_input a.node.kind then value_of given t ∷ [] else comes_in the_grid (carried L values) t))

  -- where the edges go through
  wire-sent : (t form e : ℕ) (side : Side) → IsTile L.ratio t → (b : HasWireForm L t form) → leaves L t side ≡ Some e →
      value_of values e ≡ form_sends form (comes_in the_grid (carried L values) t) side
  wire-sent t form e side inside b out = at (on_side b.left b.right side) refl (from side)
    where
      from : (s : Side) → ComesFrom L t s (on_side b.left b.right s)
      from Left = b.from_left
      from Right = b.from_right

      at : (o : Option Side) → on_side b.left b.right side ≡ o → ComesFrom L t side (on_side b.left b.right side) → value_of values e ≡ form_sends form (comes_in the_grid (carried L values) t) side
      at None q come = let gone : leaves L t side ≡ None = subst (ComesFrom L t side) q come in let both : Some e ≡ None = sym out ∙ gone in absurd (cc)
      at (Some a) q come =
          let (d, leave, enter) = comes-leaves L t side a (subst (ComesFrom L t side) q come) in
          let same : Some d ≡ Some e = sym leave ∙ out in
          let l = edge_value values (enters L t Left) in
          let r = edge_value values (enters L t Right) in
          sym (form_is ∙ b.wire_of.sends side a q l r ∙ on-side (edge_value values) L t a ∙ ap (edge_value values) (enter ∙ same))
        where
          form_is : form_sends form (comes_in the_grid (carried L values) t) side ≡ form_sends form (used_values (form_upper form) (edge_value values (enters L t Left)) (edge_value values (enters L t Right))) side
          form_is =
              ap (λ xs. form_sends form xs side) (comes-in t inside)
              ∙ ap (λ (u : Sides). form_sends form (used_values u (edge_value values (enters L t Left)) (edge_value values (enters L t Right))) side) (sym (form-upper N permit L network legal tiles each t form (inr b)))

  border-each : (t : ℕ) (side : Side) → IsTile L.ratio t → edge_value values (leaves L t side) ≡ sent_value (form_at the_grid t) (reads the_grid given (carried L values) t) side
  border-each t side inside = elim (grid-cases N permit L network legal tiles each t inside) [
    | inl (bare, none) ↦ ap (edge_value values) (bare.out_none side) ∙ sym (ap (λ (o : Option ℕ). sent_value o (reads the_grid given (carried L values) t) side) none)
    | inr (form, has, is) ↦ on form has is ∙ sym (ap (λ (o : Option ℕ). sent_value o (if reads_given (node_in o) then value_of given t ∷ [] else comes_in the_grid (carried L values) t) side) is)
  ]
    where
      on : (form : ℕ) → HasForm N L t form → form_at the_grid t ≡ Some form →
          edge_value values (leaves L t side) ≡ form_sends form (if reads_given (form_node form) then value_of given t ∷ [] else comes_in the_grid (carried L values) t) side
      on form has is = elim (option-cases (leaves L t side)) [
        | inl none ↦ ap (edge_value values) none ∙ sym (unsent t form _ side has none)
        | inr (e, out) ↦ ap (edge_value values) out ∙ by has e out
      ]
        where
          by : HasForm N L t form → (e : ℕ) → leaves L t side ≡ Some e →
              value_of values e ≡ form_sends form (if reads_given (form_node form) then value_of given t ∷ [] else comes_in the_grid (carried L values) t) side
          by (inl a) e out =
              node-sent t form e side a out
              ∙ sym (ap (λ (k : Option Kind). form_sends form (if reads_given k then value_of given t ∷ [] else comes_in the_grid (carried L values) t) side) a.form_of.uses.node)
          by (inr b) e out =
              wire-sent t form e side inside b out
              ∙ sym (ap (λ (k : Option Kind). form_sends form (if reads_given k then value_of given t ∷ [] else comes_in the_grid (carried L values) t) side) b.wire_of.holds_none)

  pub carried-valuation : IsBorderValuation the_grid given (carried L values)
  carried-valuation = record {
    whole = length-map L.borders (edge_value values) ∙ legal.placed.borders;
    each = λ t side inside. carried-on L values (border t side) ∙ border-each t side inside;
  }

  -- an output reads the value of the edge that enters it
  pub output-reads : (v t port : ℕ) → HasPort N v Output port → Stands L v t → first_value (comes_in the_grid (carried L values) t) ≡ value_of values (edge_into N.edges v 0)
  output-reads v t port is stands = node-enters v t (record { kind = Output; port = port }) first_value is stands (λ two a b. absurd (omega arith))
