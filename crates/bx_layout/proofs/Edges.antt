-- The edges of a node in a legal layout: each that enters it comes in on a side of its tile, each that
-- leaves it goes out on one, and nothing else is there.
use Rattle.std.proofs.Common.{◌≡◌, ℕ, ◌<◌, true, slice_get, Some, inl, inr, refl, sym, ap, ap₂, ◌∙◌, subst, arith}
use Rattle.bx_forms.specs.declared.side.Side.{Side}
use Rattle.bx_forms.specs.Kinds.{operands, slots}
use Rattle.bx_grid.specs.Tiles.{IsTile}
use Rattle.bx_network.specs.declared.node.Node.{Node}
use Rattle.bx_network.specs.declared.node.Edge.{Edge}
use Rattle.bx_network.specs.Networks.{Network, IsNetwork, HasKind, enters_by, leaves_by}
use Rattle.bx_network.specs.Values.{edge_into, edge_out}
use Rattle.bx_network.proofs.Lists.{got-at, IsOnly}
use Rattle.bx_network.proofs.Networks.{operands-few, slots-few, edge-enters, edge-leaves, enters-itself, leaves-itself, enters-says, leaves-says, operand-within, slot-within}
use Rattle.bx_layout.specs.declared.layout.Layout.{Layout}
use Rattle.bx_layout.specs.Layouts.{Stands, enters, leaves}
use Rattle.bx_layout.specs.Permits.{PermitTest}
use Rattle.bx_layout.specs.Legal.{IsLegal, IsOf}
use Rattle.bx_layout.proofs.Balances.{in-some, out-some, side-in, side-out, entering-is, leaving-is, at-source, at-target, in-apart, out-apart}
use Rattle.bx_layout.proofs.Spread.{AreSpread}

enters-it : (v operand : ℕ) (edge : Edge) → edge.target ≡ v → edge.operand ≡ operand → enters_by v operand edge ≡ true
enters-it v operand edge e f = ap₂ (λ u o. enters_by u o edge) (sym e) (sym f) ∙ enters-itself edge

leaves-it : (v slot : ℕ) (edge : Edge) → edge.source ≡ v → edge.slot ≡ slot → leaves_by v slot edge ≡ true
leaves-it v slot edge e f = ap₂ (λ u o. leaves_by u o edge) (sym e) (sym f) ∙ leaves-itself edge

-- ---- the edges of a node in its network

module _ (N : Network) (network : IsNetwork N) (v : ℕ) (node : Node) (is_node : slice_get N.nodes v ≡ Some node) where
  kind : HasKind N v node.kind
  kind = (node, is_node, refl)

  -- the one edge that enters by an operand
  pub into : (operand : ℕ) → operand < operands node.kind → IsOnly (enters_by v operand) N.edges
  into operand h = edge-enters N network v node.kind kind operand h

  pub operand-below : (e : ℕ) (edge : Edge) → slice_get N.edges e ≡ Some edge → edge.target ≡ v → edge.operand < operands node.kind
  operand-below e edge is t = operand-within N network e edge is node.kind (subst (λ (u : ℕ). HasKind N u node.kind) (sym t) kind)

  -- the one edge that leaves by a slot
  pub out-of : (slot : ℕ) → slot < slots node.kind → IsOnly (leaves_by v slot) N.edges
  out-of slot h = edge-leaves N network v node.kind kind slot h

  pub slot-below : (e : ℕ) (edge : Edge) → slice_get N.edges e ≡ Some edge → edge.source ≡ v → edge.slot < slots node.kind
  slot-below e edge is s = slot-within N network e edge is node.kind (subst (λ (u : ℕ). HasKind N u node.kind) (sym s) kind)

-- ---- on its tile

module _ (N : Network) (permit : PermitTest) (L : Layout) (network : IsNetwork N) (legal : IsLegal N permit L)
    (v : ℕ) (node : Node) (is_node : slice_get N.nodes v ≡ Some node) (t : ℕ) (stands : Stands L v t) where
  inside : IsTile L.ratio t
  inside = legal.placed.inside v t stands

  here : (u : ℕ) → u ≡ v → Stands L u t
  here u e = subst (λ (w : ℕ). Stands L w t) (sym e) stands

  -- what comes in is of the node, and so ends there
  pub ends-here : (side : Side) (e : ℕ) (edge : Edge) → enters L t side ≡ Some e → slice_get N.edges e ≡ Some edge → edge.target ≡ v
  ends-here side e edge h is = ended (legal.alone v t stands side e edge (inl h) is)
    where
      ended : IsOf edge v → edge.target ≡ v
      ended (inl s) =
          let some = in-some L t e side h in
          let at = at-source N L network legal.placed legal.balanced t e edge is (here edge.source s) in
          let none = at.none_in in
          absurd (omega arith)
      ended (inr g) = g

  pub begins-here : (side : Side) (e : ℕ) (edge : Edge) → leaves L t side ≡ Some e → slice_get N.edges e ≡ Some edge → edge.source ≡ v
  begins-here side e edge h is = begun (legal.alone v t stands side e edge (inr h) is)
    where
      begun : IsOf edge v → edge.source ≡ v
      begun (inl s) = s
      begun (inr g) =
          let some = out-some L t e side h in
          let at = at-target N L network legal.placed legal.balanced t e edge is (here edge.target g) in
          let none = at.none_out in
          absurd (omega arith)

  same-edge : (i j : ℕ) (d e : Edge) → i ≡ j → slice_get N.edges i ≡ Some d → slice_get N.edges j ≡ Some e → d ≡ e
  same-edge i j d e same p q = let both : Some d ≡ Some e = sym p ∙ ap (slice_get N.edges) same ∙ q in cc

  pub entering-spread : AreSpread (operands node.kind) (edge_into N.edges v) (enters L t)
  entering-spread = record {
    few = operands-few node.kind;
    each = λ o l.
        let only = into N network v node is_node o l in
        let parts = enters-says v o only.item only.passes in
        let at = at-target N L network legal.placed legal.balanced t (edge_into N.edges v o) only.item only.at (here only.item.target parts.0) in
        let one = at.one_in in
        side-in L t (edge_into N.edges v o) (omega arith);
    only = λ side e h.
        let at = got-at N.edges e (entering-is N L legal.placed t e side h) in
        let target = ends-here side e at.item h at.at in
        let low = operand-below N network v node is_node e at.item at.at target in
        (at.item.operand, low, (into N network v node is_node at.item.operand low).only e at.item at.at (enters-it v at.item.operand at.item target refl));
    once = λ e l r. in-apart N L network legal.placed legal.balanced t e inside l r;
    different = λ two same.
        let zeroth = into N network v node is_node 0 (omega arith) in
        let first = into N network v node is_node 1 (omega arith) in
        let item = same-edge (edge_into N.edges v 0) (edge_into N.edges v 1) zeroth.item first.item same zeroth.at first.at in
        let p = (enters-says v 0 zeroth.item zeroth.passes).1 in
        let q = (enters-says v 1 first.item first.passes).1 in
        let r : zeroth.item.operand ≡ first.item.operand = ap (λ (d : Edge). d.operand) item in
        omega arith;
  }

  pub leaving-spread : AreSpread (slots node.kind) (edge_out N.edges v) (leaves L t)
  leaving-spread = record {
    few = slots-few node.kind;
    each = λ o l.
        let only = out-of N network v node is_node o l in
        let parts = leaves-says v o only.item only.passes in
        let at = at-source N L network legal.placed legal.balanced t (edge_out N.edges v o) only.item only.at (here only.item.source parts.0) in
        let one = at.one_out in
        side-out L t (edge_out N.edges v o) (omega arith);
    only = λ side e h.
        let at = got-at N.edges e (leaving-is N L legal.placed t e side h) in
        let source = begins-here side e at.item h at.at in
        let low = slot-below N network v node is_node e at.item at.at source in
        (at.item.slot, low, (out-of N network v node is_node at.item.slot low).only e at.item at.at (leaves-it v at.item.slot at.item source refl));
    once = λ e l r. out-apart N L network legal.placed legal.balanced t e inside l r;
    different = λ two same.
        let zeroth = out-of N network v node is_node 0 (omega arith) in
        let first = out-of N network v node is_node 1 (omega arith) in
        let item = same-edge (edge_out N.edges v 0) (edge_out N.edges v 1) zeroth.item first.item same zeroth.at first.at in
        let p = (leaves-says v 0 zeroth.item zeroth.passes).1 in
        let q = (leaves-says v 1 first.item first.passes).1 in
        let r : zeroth.item.slot ≡ first.item.slot = ap (λ (d : Edge). d.slot) item in
        omega arith;
  }
