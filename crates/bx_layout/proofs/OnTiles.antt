-- What stands on a tile of a legal layout: a node with its form, one form for the edges that go through, or
-- nothing. It has one form at most.
use Rattle.std.proofs.Common.{◌≡◌, ℕ, ◌<◌, ◌⊎◌, ◌||◌, Bool, true, false, length, slice_get, Option, Some, None, is_some, inl, inr, refl, sym, ap, ap₂, ◌∙◌, subst, arith}
use Rattle.std.specs.Prelude.{option_map, IfSome, IsNone, ◌↔◌}
use Rattle.bx_forms.specs.declared.kind.Kind.{Kind}
use Rattle.bx_forms.specs.declared.side.Side.{Side}
use Rattle.bx_forms.specs.declared.side.Side.TheVariants.{Left, Right}
use Rattle.bx_forms.specs.declared.side.Sides.{Sides}
use Rattle.bx_forms.specs.Forms.{form_count, IsForm, IsFormOf}
use Rattle.bx_forms.specs.Kinds.{operands, slots}
use Rattle.bx_forms.specs.Sides.{side_count}
use Rattle.bx_forms.proofs.Lines.{is-form}
use Rattle.bx_forms.proofs.Nodes.{one-with, some-form}
use Rattle.bx_grid.specs.Tiles.{IsTile}
use Rattle.bx_network.specs.declared.node.Node.{Node}
use Rattle.bx_network.specs.declared.node.Edge.{Edge}
use Rattle.bx_network.specs.Networks.{Network, IsNetwork}
use Rattle.bx_network.specs.Values.{edge_into, edge_out}
use Rattle.bx_network.proofs.Lists.{got-at, got-within}
use Rattle.bx_layout.specs.declared.layout.Layout.{Layout}
use Rattle.bx_layout.specs.Layouts.{Stands, IsFree, enters, leaves, Carries, ways_in, ways_out}
use Rattle.bx_layout.specs.Permits.{PermitTest}
use Rattle.bx_layout.specs.TileForms.{upper_sides, slot_of, ComesFrom, is_from, upper_from, IsWireOf, HasForm}
use Rattle.bx_layout.specs.Legal.{IsLegal}
use Rattle.bx_layout.proofs.Balances.{option-cases, find-place, in-some, out-some, side-in, side-out, entering-is, leaving-is, at-other, in-apart, out-apart}
use Rattle.bx_layout.proofs.Spread.{ways, spread-count}
use Rattle.bx_layout.proofs.Edges.{entering-spread, leaving-spread}
use Rattle.bx_layout.proofs.Verdicts.{found-only}
use Rattle.bx_layout.proofs.Wires.{number_of, wire-number, number-wire}

-- an edge of the network leaves by some slot
pub slot-some : (N : Network) (o : Option ℕ) → ((e : ℕ) → o ≡ Some e → e < length N.edges) → is_some (slot_of N o) ≡ is_some o
slot-some N None h = refl
slot-some N (Some e) h =
    let at = got-at N.edges e (h e refl) in
    ap (λ (o : Option Edge). is_some (option_map (λ edge. edge.slot) o)) at.at

-- ---- sources of what leaves

source-once : (L : Layout) (t : ℕ) (side : Side) (a b : Option Side) → ((e : ℕ) → enters L t Left ≡ Some e → enters L t Right ≡ Some e → ⊥) →
    ComesFrom L t side a → ComesFrom L t side b → a ≡ b
source-once L t side None None apart p q = refl
source-once L t side None (Some b) apart p q = let (e, out, come) = q in absurd (cc)
source-once L t side (Some a) None apart p q = let (e, out, come) = p in absurd (cc)
source-once L t side (Some Left) (Some Left) apart p q = refl
source-once L t side (Some Left) (Some Right) apart p q =
    let (e, out, come) = p in
    let (f, leave, enter) = q in
    let same : e ≡ f = let both : Some e ≡ Some f = sym out ∙ leave in cc in
    absurd (apart e come (enter ∙ ap Some (sym same)))
source-once L t side (Some Right) (Some Left) apart p q =
    let (e, out, come) = p in
    let (f, leave, enter) = q in
    let same : e ≡ f = let both : Some e ≡ Some f = sym out ∙ leave in cc in
    absurd (apart e (enter ∙ ap Some (sym same)) come)
source-once L t side (Some Right) (Some Right) apart p q = refl

pub comes-leaves : (L : Layout) (t : ℕ) (side a : Side) → ComesFrom L t side (Some a) → (e : ℕ) × (leaves L t side ≡ Some e) × (enters L t a ≡ Some e)
comes-leaves L t side a c = c

-- an upper side is a source where an edge enters there, and otherwise isn't
is-from : (a : Side) (o : Option Side) → is_from a o ≡ true → o ≡ Some a
is-from Left None e = absurd (cc)
is-from Left (Some Left) e = refl
is-from Left (Some Right) e = absurd (cc)
is-from Right None e = absurd (cc)
is-from Right (Some Left) e = absurd (cc)
is-from Right (Some Right) e = refl

from-itself : (a : Side) → is_from a (Some a) ≡ true
from-itself Left = refl
from-itself Right = refl

or-cases : (p q : Bool) → (p || q) ≡ true → (p ≡ true) ⊎ (q ≡ true)
or-cases true q e = inl refl
or-cases false true e = inr refl
or-cases false false e = absurd (cc)

or-right : (p : Bool) → (p || true) ≡ true
or-right true = refl
or-right false = refl

-- two tests that say the same
agree : (p q : Bool) → (p ≡ true → q ≡ true) → (q ≡ true → p ≡ true) → p ≡ q
agree true q f g = sym (f refl)
agree false true f g = g refl
agree false false f g = refl

pub some-of : (o : Option ℕ) → is_some o ≡ true → (e : ℕ) × (o ≡ Some e)
some-of None h = absurd (cc)
some-of (Some e) h = (e, refl)

-- ---- a tile without a node

module _ (N : Network) (permit : PermitTest) (L : Layout) (network : IsNetwork N) (legal : IsLegal N permit L) (t : ℕ) (inside : IsTile L.ratio t) (free : IsFree L t) where
  -- as many enter as leave
  through : (e : ℕ) → e < length N.edges → ways_in L t e ≡ ways_out L t e
  through e l =
      let at = got-at N.edges e l in
      (at-other N L network legal.placed legal.balanced t e at.item inside at.at (λ s. free at.item.source s) (λ s. free at.item.target s)).0

  pub source-of : (side : Side) → (o : Option Side) × ComesFrom L t side o
  source-of side = elim (option-cases (leaves L t side)) [
    | inl none ↦ (None, none)
    | inr (e, out) ↦ (
        let some = out-some L t e side out in
        let same = through e (leaving-is N L legal.placed t e side out) in
        let (from, come) = side-in L t e (omega arith) in
        (Some from, (e, out, come)))
  ]

  pub source-upper : (left right : Option Side) → ComesFrom L t Left left → ComesFrom L t Right right → upper_sides L t ≡ upper_from left right
  source-upper left right l r = ap₂ (λ (a b : Bool). sides a b) (upper Left) (upper Right)
    where
      sides : Bool → Bool → Sides
      sides a b = record { left = a; right = b }

      -- what enters leaves on a side that has its source there
      goes : (a side : Side) (e : ℕ) (o : Option Side) → enters L t a ≡ Some e → leaves L t side ≡ Some e → ComesFrom L t side o → is_from a o ≡ true
      goes a side e o come out from =
          let same : o ≡ Some a = source-once L t side o (Some a) (λ d p q. in-apart N L network legal.placed legal.balanced t d inside p q) from (e, out, come) in
          ap (is_from a) same ∙ from-itself a

      used : (a : Side) → is_some (enters L t a) ≡ true → (is_from a left || is_from a right) ≡ true
      used a h =
          let (e, come) = some-of (enters L t a) h in
          let some = in-some L t e a come in
          let same = through e (entering-is N L legal.placed t e a come) in
          let (side, out) = side-out L t e (omega arith) in
          on e side out come
        where
          on : (e : ℕ) (side : Side) → leaves L t side ≡ Some e → enters L t a ≡ Some e → (is_from a left || is_from a right) ≡ true
          on e Left out come = ap (λ p. p || is_from a right) (goes a Left e left come out l)
          on e Right out come = ap (λ p. is_from a left || p) (goes a Right e right come out r) ∙ or-right (is_from a left)

      entered : (a side : Side) (o : Option Side) → is_from a o ≡ true → ComesFrom L t side o → is_some (enters L t a) ≡ true
      entered a side o is from =
          let (e, out, come) = comes-leaves L t side a (subst (ComesFrom L t side) (is-from a o is) from) in
          ap is_some come

      upper : (a : Side) → is_some (enters L t a) ≡ (is_from a left || is_from a right)
      upper a = agree _ _ (used a) (λ h. elim (or-cases (is_from a left) (is_from a right) h) [
        | inl p ↦ entered a Left left p l
        | inr q ↦ entered a Right right q r
      ])

  -- the two lower sides have different sources
  clash : (a : Side) → ComesFrom L t Left (Some a) → ComesFrom L t Right (Some a) → ⊥
  clash a p q =
      let (e, out, come) = comes-leaves L t Left a p in
      let (f, leave, enter) = comes-leaves L t Right a q in
      let same : f ≡ e = let both : Some f ≡ Some e = sym enter ∙ come in cc in
      out-apart N L network legal.placed legal.balanced t e inside out (leave ∙ ap Some same)

  number-form : (left right : Option Side) → ComesFrom L t Left left → ComesFrom L t Right right → ((left ≡ None) × (right ≡ None)) ⊎ IsForm (number_of left right)
  number-form None None l r = inl (refl, refl)
  number-form None (Some Left) l r = inr (is-form 5 refl)
  number-form None (Some Right) l r = inr (is-form 7 refl)
  number-form (Some Left) None l r = inr (is-form 4 refl)
  number-form (Some Right) None l r = inr (is-form 6 refl)
  number-form (Some Left) (Some Right) l r = inr (is-form 26 refl)
  number-form (Some Right) (Some Left) l r = inr (is-form 27 refl)
  number-form (Some Left) (Some Left) l r = absurd (clash Left l r)
  number-form (Some Right) (Some Right) l r = absurd (clash Right l r)

  -- what leaves has entered
  pub entered-from : (side : Side) (e : ℕ) → leaves L t side ≡ Some e → (from : Side) × (enters L t from ≡ Some e)
  entered-from side e out =
      let some = out-some L t e side out in
      let same = through e (leaving-is N L legal.placed t e side out) in
      side-in L t e (omega arith)

  -- no two lower sides have one source
  pub sources-apart : (left right : Option Side) → ComesFrom L t Left left → ComesFrom L t Right right → (from : Side) → left ≡ Some from → right ≡ Some from → ⊥
  sources-apart left right l r from p q = clash from (subst (ComesFrom L t Left) p l) (subst (ComesFrom L t Right) q r)

-- nothing enters the tile or leaves it, and no node stands there
pub record IsBare (L : Layout) (t : ℕ) : Type 0 where
  pub free : IsFree L t
  pub in_none : (side : Side) → enters L t side ≡ None
  pub out_none : (side : Side) → leaves L t side ≡ None

pub none-of : (o : Option ℕ) → is_some o ≡ false → o ≡ None
none-of None h = refl
none-of (Some e) h = absurd (cc)

module _ (N : Network) (permit : PermitTest) (L : Layout) (network : IsNetwork N) (legal : IsLegal N permit L) (t : ℕ) (inside : IsTile L.ratio t) where
  wired : IsFree L t → IsBare L t ⊎ ((form : ℕ) × HasForm N L t form)
  wired free =
      let (left, l) = source-of N permit L network legal t inside free Left in
      let (right, r) = source-of N permit L network legal t inside free Right in
      let upper = source-upper N permit L network legal t inside free left right l r in
      elim (number-form N permit L network legal t inside free left right l r) [
        | inl (p, q) ↦ inl (bare left right p q l r upper)
        | inr is ↦ inr (
          number_of left right,
          inr (record {
            free = free;
            left = left;
            right = right;
            from_left = l;
            from_right = r;
            wire_of = subst (λ (u : Sides). IsWireOf u left right (number_of left right)) (sym upper) (number-wire left right is);
          }),
        )
      ]
    where
      bare : (left right : Option Side) → left ≡ None → right ≡ None → ComesFrom L t Left left → ComesFrom L t Right right → upper_sides L t ≡ upper_from left right → IsBare L t
      bare None None p q l r upper = record {
        free = free;
        in_none = come;
        out_none = go;
      }
        where
          come : (side : Side) → enters L t side ≡ None
          come Left = none-of (enters L t Left) (ap (λ (u : Sides). u.left) upper)
          come Right = none-of (enters L t Right) (ap (λ (u : Sides). u.right) upper)

          go : (side : Side) → leaves L t side ≡ None
          go Left = l
          go Right = r
      bare None (Some b) p q l r upper = absurd (cc)
      bare (Some a) right p q l r upper = absurd (cc)

  noded : (v : ℕ) → Stands L v t → (form : ℕ) × HasForm N L t form
  noded v stands =
      let within : v < length N.nodes = node-within v stands in
      let at = got-at N.nodes v within in
      let up = spread-count (edge_into N.edges v) (enters L t) (operands at.item.kind) (ways (edge_into N.edges v) (enters L t) (operands at.item.kind) (entering-spread N permit L network legal v at.item at.at t stands)) in
      let down = spread-count (edge_out N.edges v) (leaves L t) (slots at.item.kind) (ways (edge_out N.edges v) (leaves L t) (slots at.item.kind) (leaving-spread N permit L network legal v at.item at.at t stands)) in
      let lower = ap₂ (λ (a b : Bool). side_count (record { left = a; right = b })) (slot-some N (leaves L t Left) (λ e h. leaving-is N L legal.placed t e Left h)) (slot-some N (leaves L t Right) (λ e h. leaving-is N L legal.placed t e Right h)) in
      let (form, is) = some-form at.item.kind (upper_sides L t) (slot_of N (leaves L t Left)) (slot_of N (leaves L t Right)) up (lower ∙ down) in
      (form, inl (record { v = v; node = at.item; is_node = at.at; stands = stands; form_of = is }))
    where
      node-within : (u : ℕ) → Stands L u t → u < length N.nodes
      node-within u s = let same = legal.placed.places in let l = got-within L.places u t s in omega arith

  -- the tile is bare, or it has a form
  pub tile-cases : IsBare L t ⊎ ((form : ℕ) × HasForm N L t form)
  tile-cases = elim (find-place L.places t) [
    | inl (v, stands) ↦ inr (noded v stands)
    | inr free ↦ wired free
  ]

  -- it has one form at most
  pub one-form : (f g : ℕ) → HasForm N L t f → HasForm N L t g → f ≡ g
  one-form f g (inl a) (inl b) =
      let same : a.v ≡ b.v = let apart = legal.placed.apart in apart a.v b.v t a.stands b.stands in
      let nodes : a.node ≡ b.node = let both : Some a.node ≡ Some b.node = sym a.is_node ∙ ap (slice_get N.nodes) same ∙ b.is_node in cc in
      let kinds : b.node.kind ≡ a.node.kind = ap (λ (n : Node). n.kind) (sym nodes) in
      let other = subst (λ (k : Kind). IsFormOf k (upper_sides L t) (slot_of N (leaves L t Left)) (slot_of N (leaves L t Right)) g) kinds b.form_of in
      one-with a.node.kind (upper_sides L t) _ f g a.form_of.uses other.uses
  one-form f g (inl a) (inr b) = absurd (b.free a.v a.stands)
  one-form f g (inr a) (inl b) = absurd (a.free b.v b.stands)
  one-form f g (inr a) (inr b) =
      let apart = λ (d : ℕ) (p : enters L t Left ≡ Some d) (q : enters L t Right ≡ Some d). in-apart N L network legal.placed legal.balanced t d inside p q in
      wire-number (upper_sides L t) a.left a.right f a.wire_of
      ∙ ap₂ number_of (source-once L t Left a.left b.left apart a.from_left b.from_left) (source-once L t Right a.right b.right apart a.from_right b.from_right)
      ∙ sym (wire-number (upper_sides L t) b.left b.right g b.wire_of)

  -- a bare tile has none
  pub bare-form : (form : ℕ) → IsBare L t → HasForm N L t form → ⊥
  bare-form form bare (inl a) = bare.free a.v a.stands
  bare-form form bare (inr a) = outside a.left a.right a.from_left a.from_right a.wire_of
    where
      outside : (left right : Option Side) → ComesFrom L t Left left → ComesFrom L t Right right → IsWireOf (upper_sides L t) left right form → ⊥
      outside None None l r is =
          let number : form ≡ form_count = wire-number (upper_sides L t) None None form is in
          let low : form < form_count = is.form in
          omega arith
      outside (Some a) right l r is = let (e, out, come) = comes-leaves L t Left a l in let none = bare.out_none Left in cc
      outside None (Some b) l r is = let (e, out, come) = comes-leaves L t Right b r in let none = bare.out_none Right in cc

  -- ---- forms as they are found

  -- the form of a node's tile
  pub node-form-is : (v : ℕ) (node : Node) → slice_get N.nodes v ≡ Some node → Stands L v t → (form : ℕ) →
      IsFormOf node.kind (upper_sides L t) (slot_of N (leaves L t Left)) (slot_of N (leaves L t Right)) form ↔ HasForm N L t form
  node-form-is v node is stands form =
      ((λ f. inl (record { v = v; node = node; is_node = is; stands = stands; form_of = f })), back)
    where
      back : HasForm N L t form → IsFormOf node.kind (upper_sides L t) (slot_of N (leaves L t Left)) (slot_of N (leaves L t Right)) form
      back (inl a) =
          let same : a.v ≡ v = legal.placed.apart a.v v t a.stands stands in
          let both : Some a.node ≡ Some node = sym a.is_node ∙ ap (slice_get N.nodes) same ∙ is in
          let nodes : a.node ≡ node = cc in
          subst (λ (n : Node). IsFormOf n.kind (upper_sides L t) (slot_of N (leaves L t Left)) (slot_of N (leaves L t Right)) form) nodes a.form_of
      back (inr b) = absurd (b.free v stands)

  pub node-found : (v : ℕ) (node : Node) → slice_get N.nodes v ≡ Some node → Stands L v t → (upper : Sides) (left right found : Option ℕ) →
      upper ≡ upper_sides L t → left ≡ slot_of N (leaves L t Left) → right ≡ slot_of N (leaves L t Right) →
      IfSome found (IsFormOf node.kind upper left right) → (IsNone found → (form : ℕ) → IsFormOf node.kind upper left right form → ⊥) →
      (form : ℕ) → (found ≡ Some form) ↔ HasForm N L t form
  node-found v node is stands upper left right found u l r some none form =
      let one = found-only found (IsFormOf node.kind upper left right) some none (λ f g p q. one-with node.kind upper _ f g p.uses q.uses) form in
      let whole : (found ≡ Some form) ↔ IsFormOf node.kind (upper_sides L t) (slot_of N (leaves L t Left)) (slot_of N (leaves L t Right)) form =
      subst (λ (x : Sides). (found ≡ Some form) ↔ IsFormOf node.kind x (slot_of N (leaves L t Left)) (slot_of N (leaves L t Right)) form) u
      (subst (λ (x : Option ℕ). (found ≡ Some form) ↔ IsFormOf node.kind upper x (slot_of N (leaves L t Right)) form) l
      (subst (λ (x : Option ℕ). (found ≡ Some form) ↔ IsFormOf node.kind upper left x form) r one)) in
      let has = node-form-is v node is stands form in
      ((λ e. has.0 (whole.0 e)), (λ h. whole.1 (has.1 h)))

  -- the form of a tile without a node
  pub wire-found : IsFree L t → (left right : Option Side) (found : Option ℕ) → ComesFrom L t Left left → ComesFrom L t Right right →
      ((form : ℕ) → (found ≡ Some form) ↔ IsWireOf (upper_from left right) left right form) → (form : ℕ) → (found ≡ Some form) ↔ HasForm N L t form
  wire-found free left right found l r wires form = (forth, back)
    where
      upper : upper_sides L t ≡ upper_from left right
      upper = source-upper N permit L network legal t inside free left right l r

      forth : found ≡ Some form → HasForm N L t form
      forth e = inr (record {
        free = free;
        left = left;
        right = right;
        from_left = l;
        from_right = r;
        wire_of = subst (λ (u : Sides). IsWireOf u left right form) (sym upper) ((wires form).0 e);
      })

      back : HasForm N L t form → found ≡ Some form
      back (inl a) = absurd (free a.v a.stands)
      back (inr b) =
          let apart = λ (d : ℕ) (p : enters L t Left ≡ Some d) (q : enters L t Right ≡ Some d). in-apart N L network legal.placed legal.balanced t d inside p q in
          let same_left : b.left ≡ left = source-once L t Left b.left left apart b.from_left l in
          let same_right : b.right ≡ right = source-once L t Right b.right right apart b.from_right r in
          (wires form).1 (subst (λ (u : Sides). IsWireOf u left right form) upper
          (subst (λ (x : Option Side). IsWireOf (upper_sides L t) x right form) same_left (subst (λ (x : Option Side). IsWireOf (upper_sides L t) b.left x form) same_right b.wire_of)))

  -- ---- exactly one, where something is carried

  pub carrying-form : ((v : ℕ) × Stands L v t) ⊎ ((side : Side) × (e : ℕ) × Carries L t side e) → (form : ℕ) × HasForm N L t form
  carrying-form carried = elim tile-cases [
    | inl bare ↦ absurd (busy bare carried)
    | inr has ↦ has
  ]
    where
      busy : IsBare L t → ((v : ℕ) × Stands L v t) ⊎ ((side : Side) × (e : ℕ) × Carries L t side e) → ⊥
      busy bare (inl (v, stands)) = bare.free v stands
      busy bare (inr (side, e, inl come)) = let none = bare.in_none side in cc
      busy bare (inr (side, e, inr out)) = let none = bare.out_none side in cc

  pub idle-form : (form : ℕ) → IsFree L t → ((side : Side) (e : ℕ) → Carries L t side e → ⊥) → HasForm N L t form → ⊥
  idle-form form free idle has = bare-form form (record {
    free = free;
    in_none = λ side. elim (option-cases (enters L t side)) [ inl none ↦ none | inr (e, come) ↦ absurd (idle side e (inl come)) ];
    out_none = λ side. elim (option-cases (leaves L t side)) [ inl none ↦ none | inr (e, out) ↦ absurd (idle side e (inr out)) ];
  }) has
