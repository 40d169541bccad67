-- When a tile of a legal layout has a form: what the clause against the form says of the borders around the tile
-- is enough.
use Rattle.std.proofs.Common.{◌≡◌, ℕ, ◌+◌, ◌*◌, ◌<◌, ◌⊎◌, Bool, true, false, List, [], ◌∷◌, get_or, slice_get, Option, Some, None, is_some, MatchOption, inl, inr, refl, sym, ap, ap₂, ◌∙◌, subst, arith}
use Rattle.std.proofs.lemmas.Bool.{eqb-true, false≢true}
use Rattle.bx_forms.specs.declared.kind.Kind.{Kind}
use Rattle.bx_forms.specs.declared.kind.Kind.TheVariants.{Input, Output, Not, Fan, And, Or, Nand, Nor, Xor, Xnor}
use Rattle.bx_forms.specs.declared.side.Side.{Side}
use Rattle.bx_forms.specs.declared.side.Side.TheVariants.{Left, Right}
use Rattle.bx_forms.specs.declared.side.Sides.{Sides}
use Rattle.bx_forms.specs.FormTable.{place}
use Rattle.bx_forms.specs.Forms.{IsForm, form_node, form_upper, form_lower}
use Rattle.bx_forms.specs.Kinds.{operands, slots}
use Rattle.bx_forms.specs.Sides.{opposite, is_used, side_count}
use Rattle.bx_forms.proofs.Lines.{AllForms, at-form, is-form}
use Rattle.bx_forms.proofs.Nodes.{sides-counted, form-of}
use Rattle.bx_grid.specs.declared.ratio.Ratio.{Ratio}
use Rattle.bx_grid.specs.Tiles.{IsTile}
use Rattle.bx_network.specs.declared.node.Node.{Node}
use Rattle.bx_network.specs.Networks.{Network, IsNetwork}
use Rattle.bx_layout.specs.declared.layout.Layout.{Layout}
use Rattle.bx_layout.specs.Layouts.{Stands, IsFree, enters, leaves}
use Rattle.bx_layout.specs.Legal.{IsLegal}
use Rattle.bx_layout.specs.Permits.{PermitTest}
use Rattle.bx_layout.specs.TileForms.{upper_sides, lower_sides, slot_of, ComesFrom, on_side, upper_from, IsWireOf, HasForm}
use Rattle.bx_layout.proofs.Balances.{leaving-is}
use Rattle.bx_layout.proofs.OnTiles.{slot-some, source-of, source-upper, entered-from, node-form-is, carrying-form}
use Rattle.bx_layout.proofs.Wires.{number_of, number-wire}
use Rattle.bx_encode.specs.Families.{kind_number, has_kind, used_side, bars_wire, bars_two, bars}

-- ---- the kind of a node

kinds : List Kind
kinds = Input ∷ Output ∷ Not ∷ Fan ∷ And ∷ Or ∷ Nand ∷ Nor ∷ Xor ∷ Xnor ∷ []

kind-at : (kind : Kind) → get_or kinds (kind_number kind) Input ≡ kind
unfolding kinds
kind-at Input = refl
kind-at Output = refl
kind-at Not = refl
kind-at Fan = refl
kind-at And = refl
kind-at Or = refl
kind-at Nand = refl
kind-at Nor = refl
kind-at Xor = refl
kind-at Xnor = refl

-- a node that passes the test of its kind is there, and of that kind
pub kind-is : (kind : Kind) (o : Option Node) → has_kind kind o ≡ true → (node : Node) × (o ≡ Some node) × (node.kind ≡ kind)
kind-is kind None h = absurd (false≢true h)
kind-is kind (Some node) h =
    (node, refl, sym (kind-at node.kind) ∙ ap (λ n. get_or kinds n Input) (eqb-true (kind_number node.kind) (kind_number kind) h) ∙ kind-at kind)

-- ---- sides

-- as many sides are the same where that one is used which alone could differ
sides-same : (p q : Sides) → side_count p ≡ side_count q → (side_count p ≡ 1 → is_used q (used_side p) ≡ true) → p ≡ q
sides-same p q count used = same p.left p.right q.left q.right count used
  where
    sides : Bool → Bool → Sides
    sides a b = record { left = a; right = b }

    same : (a b c d : Bool) → side_count (record { left = a; right = b }) ≡ side_count (record { left = c; right = d }) →
        (side_count (record { left = a; right = b }) ≡ 1 → is_used (record { left = c; right = d }) (used_side (record { left = a; right = b })) ≡ true) → sides a b ≡ sides c d
    same true true true true e h = refl
    same true true true false e h = absurd (omega arith)
    same true true false true e h = absurd (omega arith)
    same true true false false e h = absurd (omega arith)
    same true false true true e h = absurd (omega arith)
    same true false true false e h = refl
    same true false false true e h = absurd (false≢true (h refl))
    same true false false false e h = absurd (omega arith)
    same false true true true e h = absurd (omega arith)
    same false true true false e h = absurd (false≢true (h refl))
    same false true false true e h = refl
    same false true false false e h = absurd (omega arith)
    same false false true true e h = absurd (omega arith)
    same false false true false e h = absurd (omega arith)
    same false false false true e h = absurd (omega arith)
    same false false false false e h = refl

side-or : (a b : Side) → (a ≡ b) ⊎ (a ≡ opposite b)
side-or Left Left = inl refl
side-or Left Right = inr refl
side-or Right Left = inr refl
side-or Right Right = inl refl

pub upper-used : (L : Layout) (t : ℕ) (side : Side) → is_used (upper_sides L t) side ≡ is_some (enters L t side)
upper-used L t Left = refl
upper-used L t Right = refl

pub lower-used : (L : Layout) (t : ℕ) (side : Side) → is_used (lower_sides L t) side ≡ is_some (leaves L t side)
lower-used L t Left = refl
lower-used L t Right = refl

module _ (N : Network) (permit : PermitTest) (L : Layout) (network : IsNetwork N) (legal : IsLegal N permit L) (t : ℕ) (inside : IsTile L.ratio t) where
  -- ---- a tile with a node

  -- it has the form of the node's kind of which each side is used that could be another
  pub node-has : (v form : ℕ) (node : Node) → slice_get N.nodes v ≡ Some node → Stands L v t → form_node form ≡ Some node.kind →
      (operands node.kind ≡ 1 → is_used (upper_sides L t) (used_side (form_upper form)) ≡ true) →
      (slots node.kind ≡ 1 → is_used (lower_sides L t) (used_side (form_lower form)) ≡ true) → HasForm N L t form
  node-has v form node is stands holds above below =
      let (other, has) = carrying-form N permit L network legal t inside (inl (v, stands)) in
      let of = (node-form-is N permit L network legal t inside v node is stands other).1 has in
      let (up, down) = sides-counted form node.kind holds in
      let (ups, downs) = sides-counted other node.kind of.uses.node in
      let upper : form_upper form ≡ upper_sides L t =
      sides-same (form_upper form) (upper_sides L t) (up ∙ sym ups ∙ ap side_count of.uses.upper_sides) (λ one. above (sym up ∙ one)) in
      let lower : form_lower form ≡ lower_sides L t =
      sides-same (form_lower form) (lower_sides L t) (down ∙ sym downs ∙ ap side_count (of.uses.lower_sides ∙ slotted)) (λ one. below (sym down ∙ one)) in
      (node-form-is N permit L network legal t inside v node is stands form).0
      (form-of node.kind (upper_sides L t) (slot_of N (leaves L t Left)) (slot_of N (leaves L t Right)) form (record { node = holds; upper_sides = upper; lower_sides = lower ∙ sym slotted }))
    where
      sides : Bool → Bool → Sides
      sides a b = record { left = a; right = b }

      slotted : sides (is_some (slot_of N (leaves L t Left))) (is_some (slot_of N (leaves L t Right))) ≡ lower_sides L t
      slotted = ap₂ sides (slot-some N (leaves L t Left) (λ e h. leaving-is N L legal.placed t e Left h)) (slot-some N (leaves L t Right) (λ e h. leaving-is N L legal.placed t e Right h))

  -- ---- a tile without a node

  module _ (free : IsFree L t) where
    through-has : (left right : Option Side) → ComesFrom L t Left left → ComesFrom L t Right right → IsForm (number_of left right) → HasForm N L t (number_of left right)
    through-has left right l r is = inr (record {
      free = free;
      left = left;
      right = right;
      from_left = l;
      from_right = r;
      wire_of = subst (λ (u : Sides). IsWireOf u left right (number_of left right)) (sym (source-upper N permit L network legal t inside free left right l r)) (number-wire left right is);
    })

    -- the wire, where nothing enters and leaves but on these sides
    pub wire-has : (upper lower : Side) (e : ℕ) → leaves L t lower ≡ Some e → enters L t (opposite upper) ≡ None → leaves L t (opposite lower) ≡ None →
        HasForm N L t (4 + 2 * place upper + place lower)
    wire-has upper lower e out above below = on (entered-from N permit L network legal t inside free lower e out)
      where
        wired : (a b : Side) → enters L t a ≡ Some e → leaves L t b ≡ Some e → leaves L t (opposite b) ≡ None → HasForm N L t (4 + 2 * place a + place b)
        wired Left Left come go none = through-has (Some Left) None (e, go, come) none (is-form 4 refl)
        wired Left Right come go none = through-has None (Some Left) none (e, go, come) (is-form 5 refl)
        wired Right Left come go none = through-has (Some Right) None (e, go, come) none (is-form 6 refl)
        wired Right Right come go none = through-has None (Some Right) none (e, go, come) (is-form 7 refl)

        on : (from : Side) × (enters L t from ≡ Some e) → HasForm N L t (4 + 2 * place upper + place lower)
        on (from, come) = elim (side-or from upper) [
          | inl same ↦ wired upper lower (ap (enters L t) (sym same) ∙ come) out below
          | inr other ↦ absurd (let none : enters L t from ≡ None = ap (enters L t) other ∙ above in cc)
        ]

    -- the double or the cross, where something enters on both sides, and this side has what enters on the left
    pub two-has : (lower : Side) (e f : ℕ) → enters L t Left ≡ Some e → leaves L t lower ≡ Some e → enters L t Right ≡ Some f → HasForm N L t (on_side 26 27 lower)
    two-has Left e f come out other = on (source-of N permit L network legal t inside free Right)
      where
        one : (o : Option Side) → ComesFrom L t Right o → is_some (enters L t Right) ≡ (upper_from (Some Left) o).right
        one o r = ap (λ (s : Sides). s.right) (source-upper N permit L network legal t inside free (Some Left) o (e, out, come) r)

        on : (o : Option Side) × ComesFrom L t Right o → HasForm N L t 26
        on (None, r) = absurd (false≢true (sym (one None r) ∙ ap is_some other))
        on (Some Left, r) = absurd (false≢true (sym (one (Some Left) r) ∙ ap is_some other))
        on (Some Right, r) = through-has (Some Left) (Some Right) (e, out, come) r (is-form 26 refl)
    two-has Right e f come out other = on (source-of N permit L network legal t inside free Left)
      where
        one : (o : Option Side) → ComesFrom L t Left o → is_some (enters L t Right) ≡ (upper_from o (Some Left)).right
        one o l = ap (λ (s : Sides). s.right) (source-upper N permit L network legal t inside free o (Some Left) l (e, out, come))

        on : (o : Option Side) × ComesFrom L t Left o → HasForm N L t 27
        on (None, l) = absurd (false≢true (sym (one None l) ∙ ap is_some other))
        on (Some Left, l) = absurd (false≢true (sym (one (Some Left) l) ∙ ap is_some other))
        on (Some Right, l) = through-has (Some Right) (Some Left) l (e, out, come) (is-form 27 refl)

-- ---- what the table says of the forms without a node

-- the clauses against a wire, and those against the double or the cross
abbrev pub AreBarsOf : Network → Ratio → ℕ → ℕ → Type 0
AreBarsOf N r t form =
    ((upper lower : Side) × (bars N r t form ≡ bars_wire N r t upper lower) × (form ≡ 4 + 2 * place upper + place lower))
    ⊎ ((lower : Side) × (bars N r t form ≡ bars_two N r t lower) × (form ≡ on_side 26 27 lower))

LineIsBarred : Network → Ratio → ℕ → ℕ → Type 0
LineIsBarred N r t form = MatchOption (form_node form) (AreBarsOf N r t form) (λ kind. Unit {0})

lines-barred : (N : Network) (r : Ratio) (t : ℕ) → AllForms (LineIsBarred N r t)
unfolding LineIsBarred bars
lines-barred N r t =
    (tt, (tt, (tt, (tt, (inl (Left, Left, refl, refl), (inl (Left, Right, refl, refl), (inl (Right, Left, refl, refl), (inl (Right, Right, refl, refl), (tt, (tt, (tt, (tt, (tt, (tt, (tt, (tt, (tt, (tt, (tt, (tt, (tt, (tt, (tt, (tt, (tt, (tt, (inr (Left, refl, refl), (inr (Right, refl, refl), tt))))))))))))))))))))))))))))

pub free-bars : (N : Network) (r : Ratio) (t form : ℕ) → IsForm form → form_node form ≡ None → AreBarsOf N r t form
unfolding LineIsBarred
free-bars N r t form inside node =
    let line : LineIsBarred N r t form = at-form (LineIsBarred N r t) (lines-barred N r t) form inside in
    subst (λ (o : Option _). MatchOption o (AreBarsOf N r t form) (λ kind. Unit {0})) node line
