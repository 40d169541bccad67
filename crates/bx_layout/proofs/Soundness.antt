-- The form grid of a legal layout is sound.
use Rattle.std.proofs.Common.{◌≡◌, ℕ, ◌+◌, ◌*◌, ◌<◌, ◌⊎◌, ◌↔◌, Bool, true, false, List, get_or, Option, Some, None, is_some, inl, inr, refl, sym, ap, ap₂, ◌∙◌, subst, arith}
use Rattle.std.specs.Prelude.{IsTrue, IsSome, option_and_then, option_map, nat_lt, ◌&&◌, if◌then◌else◌}
use Rattle.std.proofs.lemmas.Bool.{le-ltb}
use Rattle.bx_forms.specs.declared.kind.Kind.{Kind}
use Rattle.bx_forms.specs.declared.kind.Kind.TheVariants.{Input, Output}
use Rattle.bx_forms.specs.declared.side.Side.{Side}
use Rattle.bx_forms.specs.declared.side.Side.TheVariants.{Left, Right}
use Rattle.bx_forms.specs.declared.side.Sides.{Sides}
use Rattle.bx_forms.specs.Forms.{form_count, IsForm, form_node, form_upper, form_lower}
use Rattle.bx_forms.specs.Kinds.{operands, slots}
use Rattle.bx_forms.specs.Sides.{opposite, side_count}
use Rattle.bx_forms.proofs.Nodes.{sides-counted}
use Rattle.bx_grid.specs.declared.ratio.Ratio.{Ratio}
use Rattle.bx_grid.specs.Tiles.{IsTile, IsInFirstRow, IsInLastRow, y_of, x_of, is_odd, one_less, column_beside, tile_at, above, below, border}
use Rattle.bx_grid.proofs.Neighbours.{above-less}
use Rattle.bx_network.specs.Networks.{Network, IsNetwork}
use Rattle.bx_network.proofs.Networks.{operands-none, slots-none}
use Rattle.bx_layout.specs.declared.layout.Layout.{Layout}
use Rattle.bx_layout.specs.Layouts.{edge_on, enters, leaves}
use Rattle.bx_layout.specs.Grids.{FormGrid, form_at, node_in, upper_in, lower_in, takes, sends, sends_from, Holds, IsEmpty, IsSound}
use Rattle.bx_layout.specs.Permits.{PermitTest}
use Rattle.bx_layout.specs.TileForms.{upper_sides, lower_sides, ComesFrom, HasNodeForm, HasForm, IsFormGridOf}
use Rattle.bx_layout.specs.Legal.{IsLegal, StandsAtItsEnd}
use Rattle.bx_layout.proofs.Balances.{option-cases, leaving-is}
use Rattle.bx_layout.proofs.OnTiles.{IsBare, slot-some, comes-leaves, some-of, tile-cases, bare-form}
use Rattle.bx_layout.proofs.Wires.{number_of, wire-number}

none-is : (o : Option ℕ) → o ≡ None → is_some o ≡ false
none-is o e = ap is_some e

abbrev sides-of : Bool → Bool → Sides
sides-of a b = record { left = a; right = b }

from-some : (L : Layout) (t : ℕ) (side : Side) (o : Option Side) → ComesFrom L t side o → is_some o ≡ is_some (leaves L t side)
from-some L t side None c = sym (ap is_some c)
from-some L t side (Some a) c = let (e, out, come) = comes-leaves L t side a c in sym (ap is_some out)

-- ---- rows

first-above : (r : Ratio) (t : ℕ) (side : Side) → IsInFirstRow r t → above r t side ≡ None
first-above r t side first =
    ap (λ y. tile_at r (column_beside (is_odd y) side (x_of r t)) (one_less y)) first ∙ off (column_beside false side (x_of r t))
  where
    off : (column : Option ℕ) → tile_at r column None ≡ None
    off None = refl
    off (Some x) = refl

both-false : {X : Type 0} (p q : Bool) (x : X) → q ≡ false → (if p && q then Some x else None) ≡ None
both-false true q x e = rw e refl
both-false false q x e = refl

last-below : (r : Ratio) (t : ℕ) (side : Side) → IsInLastRow r t → below r t side ≡ None
last-below r t side last = off (column_beside (is_odd (y_of r t)) side (x_of r t))
  where
    off : (column : Option ℕ) → tile_at r column (Some (y_of r t + 1)) ≡ None
    off None = refl
    off (Some x) = both-false (nat_lt x r.w) (nat_lt (y_of r t + 1) r.h) ((y_of r t + 1) * r.w + x) (le-ltb (y_of r t + 1) r.h (omega arith))

-- ---- the grid

module _ (N : Network) (permit : PermitTest) (L : Layout) (network : IsNetwork N) (legal : IsLegal N permit L)
    (tiles : List (Option ℕ)) (each : (t form : ℕ) → IsTile L.ratio t → (get_or tiles t None ≡ Some form) ↔ HasForm N L t form) where
  abbrev pub grid : FormGrid
  grid = record { ratio = L.ratio; tiles = tiles }

  -- a tile is bare and empty, or it has its form
  pub grid-cases : (t : ℕ) → IsTile L.ratio t → (IsBare L t × (form_at grid t ≡ None)) ⊎ ((form : ℕ) × HasForm N L t form × (form_at grid t ≡ Some form))
  grid-cases t inside = elim (tile-cases N permit L network legal t inside) [
    | inl bare ↦ elim (option-cases (form_at grid t)) [
      | inl none ↦ inl (bare, none)
      | inr (form, is) ↦ absurd (bare-form N permit L network legal t inside form bare ((each t form inside).0 is))
    ]
    | inr (form, has) ↦ inr (form, has, (each t form inside).1 has)
  ]

  pub form-upper : (t form : ℕ) → HasForm N L t form → form_upper form ≡ upper_sides L t
  form-upper t form (inl a) = a.form_of.uses.upper_sides
  form-upper t form (inr b) = b.wire_of.upper_sides

  pub form-lower : (t form : ℕ) → HasForm N L t form → form_lower form ≡ lower_sides L t
  form-lower t form (inl a) =
      a.form_of.uses.lower_sides
      ∙ ap₂ (λ (p q : Bool). sides-of p q)
      (slot-some N (leaves L t Left) (λ e h. leaving-is N L legal.placed t e Left h))
      (slot-some N (leaves L t Right) (λ e h. leaving-is N L legal.placed t e Right h))
  form-lower t form (inr b) =
      b.wire_of.lower_sides ∙ ap₂ (λ (p q : Bool). sides-of p q) (from-some L t Left b.left b.from_left) (from-some L t Right b.right b.from_right)

  pub upper-is : (t : ℕ) → IsTile L.ratio t → upper_in (form_at grid t) ≡ upper_sides L t
  upper-is t inside = elim (grid-cases t inside) [
    | inl (bare, none) ↦ ap upper_in none ∙ sym (ap₂ (λ (p q : Bool). sides-of p q) (none-is (enters L t Left) (bare.in_none Left)) (none-is (enters L t Right) (bare.in_none Right)))
    | inr (form, has, is) ↦ ap upper_in is ∙ form-upper t form has
  ]

  pub lower-is : (t : ℕ) → IsTile L.ratio t → lower_in (form_at grid t) ≡ lower_sides L t
  lower-is t inside = elim (grid-cases t inside) [
    | inl (bare, none) ↦ ap lower_in none ∙ sym (ap₂ (λ (p q : Bool). sides-of p q) (none-is (leaves L t Left) (bare.out_none Left)) (none-is (leaves L t Right) (bare.out_none Right)))
    | inr (form, has, is) ↦ ap lower_in is ∙ form-lower t form has
  ]

  takes-is : (t : ℕ) (side : Side) → IsTile L.ratio t → takes grid t side ≡ is_some (enters L t side)
  takes-is t Left inside = ap (λ (u : Sides). u.left) (upper-is t inside)
  takes-is t Right inside = ap (λ (u : Sides). u.right) (upper-is t inside)

  sends-is : (t : ℕ) (side : Side) → IsTile L.ratio t → sends grid t side ≡ is_some (leaves L t side)
  sends-is t Left inside = ap (λ (u : Sides). u.left) (lower-is t inside)
  sends-is t Right inside = ap (λ (u : Sides). u.right) (lower-is t inside)

  meets : (t : ℕ) (side : Side) → IsTile L.ratio t → takes grid t side ≡ sends_from grid (above L.ratio t side) (opposite side)
  meets t side inside = takes-is t side inside ∙ met (above L.ratio t side) (λ u e. above-less L.ratio t u side e)
    where
      met : (o : Option ℕ) → ((u : ℕ) → o ≡ Some u → u < t) →
          is_some (option_and_then (edge_on L) (option_map (λ u. border u (opposite side)) o)) ≡ sends_from grid o (opposite side)
      met None less = refl
      met (Some u) less = let l = less u refl in sym (sends-is u (opposite side) (omega arith))

  stays : (t : ℕ) (side : Side) → IsTile L.ratio t → IsTrue (sends grid t side) → IsSome (below L.ratio t side)
  stays t side inside sent = elim (option-cases (below L.ratio t side)) [
    | inl none ↦ (
        let out = some-of (leaves L t side) (sym (sends-is t side inside) ∙ sent) in
        let gone = legal.stays t side inside none in
        let both : Some out.0 ≡ None = sym out.1 ∙ gone in
        absurd (cc))
    | inr (u, is) ↦ ap is_some is
  ]

  -- ---- the node that a form holds

  -- a form that holds a node is that of a node of the network
  pub noded : (t form : ℕ) (kind : Kind) → HasForm N L t form → form_node form ≡ Some kind → (a : HasNodeForm N L t form) × (a.node.kind ≡ kind)
  noded t form kind (inl a) is = (a, (let both : Some a.node.kind ≡ Some kind = sym a.form_of.uses.node ∙ is in cc))
  noded t form kind (inr b) is = let none = b.wire_of.holds_none in absurd (cc)

  pub held : (t : ℕ) (kind : Kind) → IsTile L.ratio t → Holds grid t kind → (form : ℕ) × (form_at grid t ≡ Some form) × (a : HasNodeForm N L t form) × (a.node.kind ≡ kind)
  held t kind inside holds = elim (grid-cases t inside) [
    | inl (bare, none) ↦ (let both : None ≡ Some kind = sym (ap node_in none) ∙ holds in absurd (cc))
    | inr (form, has, is) ↦ (let (a, same) = noded t form kind has (sym (ap node_in is) ∙ holds) in (form, is, a, same))
  ]

  at-end : (t form : ℕ) (kind : Kind) (a : HasNodeForm N L t form) → a.node.kind ≡ kind → StandsAtItsEnd kind L.ratio t
  at-end t form kind a is = subst (λ (k : Kind). StandsAtItsEnd k L.ratio t) is (legal.ends a.v t a.node a.is_node a.stands)

  -- ---- the first row and the last

  first-none : (t : ℕ) (side : Side) → IsInFirstRow L.ratio t → enters L t side ≡ None
  first-none t side first = ap (λ o. option_and_then (edge_on L) (option_map (λ u. border u (opposite side)) o)) (first-above L.ratio t side first)

  first : (t : ℕ) → IsTile L.ratio t → IsInFirstRow L.ratio t → IsEmpty grid t ⊎ Holds grid t Input
  first t inside row = elim (grid-cases t inside) [
    | inl (bare, none) ↦ inl none
    | inr (form, has, is) ↦ inr (ap node_in is ∙ input form has)
  ]
    where
      input : (form : ℕ) → HasForm N L t form → form_node form ≡ Some Input
      input form (inl a) =
          let used : form_upper form ≡ sides-of false false = form-upper t form (inl a) ∙ ap₂ (λ (p q : Bool). sides-of p q) (none-is _ (first-none t Left row)) (none-is _ (first-none t Right row)) in
          let count = (sides-counted form a.node.kind a.form_of.uses.node).0 in
          let zero : operands a.node.kind ≡ 0 = sym count ∙ ap side_count used in
          a.form_of.uses.node ∙ ap Some (operands-none a.node.kind zero)
      input form (inr b) = absurd (sourceless b.left b.right b.from_left b.from_right (wire-number (upper_sides L t) b.left b.right form b.wire_of) b.wire_of.form)
        where
          sourceless : (left right : Option Side) → ComesFrom L t Left left → ComesFrom L t Right right → form ≡ number_of left right → IsForm form → ⊥
          sourceless None None l r number low = let at : form ≡ form_count = number in let lower : form < form_count = low in omega arith
          sourceless (Some a) right l r number low = let (e, out, come) = comes-leaves L t Left a l in let none = first-none t a row in cc
          sourceless None (Some a) l r number low = let (e, out, come) = comes-leaves L t Right a r in let none = first-none t a row in cc

  last-none : (t : ℕ) (side : Side) → IsTile L.ratio t → IsInLastRow L.ratio t → leaves L t side ≡ None
  last-none t side inside last = legal.stays t side inside (last-below L.ratio t side last)

  last : (t : ℕ) → IsTile L.ratio t → IsInLastRow L.ratio t → IsEmpty grid t ⊎ Holds grid t Output
  last t inside row = elim (grid-cases t inside) [
    | inl (bare, none) ↦ inl none
    | inr (form, has, is) ↦ inr (ap node_in is ∙ output form has)
  ]
    where
      output : (form : ℕ) → HasForm N L t form → form_node form ≡ Some Output
      output form (inl a) =
          let used : form_lower form ≡ sides-of false false = form-lower t form (inl a) ∙ ap₂ (λ (p q : Bool). sides-of p q) (none-is _ (last-none t Left inside row)) (none-is _ (last-none t Right inside row)) in
          let count = (sides-counted form a.node.kind a.form_of.uses.node).1 in
          let zero : slots a.node.kind ≡ 0 = sym count ∙ ap side_count used in
          a.form_of.uses.node ∙ ap Some (slots-none a.node.kind zero)
      output form (inr b) = absurd (sourceless b.left b.right b.from_left b.from_right (wire-number (upper_sides L t) b.left b.right form b.wire_of) b.wire_of.form)
        where
          sourceless : (left right : Option Side) → ComesFrom L t Left left → ComesFrom L t Right right → form ≡ number_of left right → IsForm form → ⊥
          sourceless None None l r number low = let at : form ≡ form_count = number in let lower : form < form_count = low in omega arith
          sourceless (Some a) right l r number low = let (e, out, come) = comes-leaves L t Left a l in let none = last-none t Left inside row in cc
          sourceless None (Some a) l r number low = let (e, out, come) = comes-leaves L t Right a r in let none = last-none t Right inside row in cc

  pub grid-sound : IsSound grid
  grid-sound t inside = record {
    meets = λ side. meets t side inside;
    stays = λ side sent. stays t side inside sent;
    row = record {
      input = λ holds. let (form, is, a, kind) = held t Input inside holds in at-end t form Input a kind;
      output = λ holds. let (form, is, a, kind) = held t Output inside holds in at-end t form Output a kind;
      first = first t inside;
      last = last t inside;
    };
  }

pub sound : (N : Network) (permit : PermitTest) (L : Layout) (g : FormGrid) → IsNetwork N → IsLegal N permit L → IsFormGridOf N L g → IsSound g
sound N permit L g network legal of =
    subst (λ (r : Ratio). IsSound (record { ratio = r; tiles = g.tiles })) (sym of.ratio) (grid-sound N permit L network legal g.tiles of.each)
