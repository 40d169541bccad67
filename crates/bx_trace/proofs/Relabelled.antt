-- A layout whose edges have new numbers: where each is exchanged with a twin, it is legal if it was, and has the
-- same forms.
use Rattle.std.proofs.Common.{◌≡◌, ◌↔◌, ℕ, ◌+◌, ◌<◌, ◌⊎◌, Bool, List, map, length, slice_get, Option, Some, None, is_some, inl, inr, refl, sym, ap, ap₂, ◌∙◌, subst, arith}
use Rattle.std.specs.Prelude.{option_and_then, option_map}
use Rattle.std.proofs.lemmas.Bool.{cases_eq}
use Rattle.std.proofs.lemmas.List.{length-map}
use Rattle.bx_forms.specs.declared.side.Side.{Side}
use Rattle.bx_forms.specs.declared.side.Side.TheVariants.{Left, Right}
use Rattle.bx_forms.specs.declared.side.Sides.{Sides}
use Rattle.bx_forms.specs.Forms.{IsFormOf}
use Rattle.bx_forms.proofs.Lines.{get_or-map}
use Rattle.bx_forms.proofs.Nodes.{form-told, told-form}
use Rattle.bx_grid.specs.Tiles.{IsTile, border, entering}
use Rattle.bx_network.specs.declared.node.Edge.{Edge}
use Rattle.bx_network.specs.Networks.{Network}
use Rattle.bx_network.proofs.Lists.{got-within}
use Rattle.bx_logic.proofs.Lists.{get-once}
use Rattle.bx_layout.specs.declared.layout.Layout.{Layout}
use Rattle.bx_layout.specs.Layouts.{Stands, edge_on, enters, leaves, one_if_is, ways_in, ways_out, stands_count}
use Rattle.bx_layout.specs.Legal.{IsOf, IsBalancedAt, IsLegal}
use Rattle.bx_layout.specs.Permits.{all_forms}
use Rattle.bx_layout.specs.TileForms.{upper_sides, slot_of, ComesFrom, IsWireOf, HasForm}
use Rattle.bx_layout.proofs.Balances.{one-is, one-not, entering-is, leaving-is}
use Rattle.bx_layout.proofs.OnTiles.{comes-leaves, slot-some}
use Rattle.bx_trace.specs.Twins.{AreTwins}

abbrev sides_of : Bool → Bool → Sides
sides_of l r = record { left = l; right = r }

some-mapped : (p : ℕ → ℕ) (o : Option ℕ) → is_some (option_map p o) ≡ is_some o
some-mapped p None = refl
some-mapped p (Some x) = refl

pub unmapped : (p : ℕ → ℕ) (o : Option ℕ) (e : ℕ) → option_map p o ≡ Some e → (m : ℕ) × (o ≡ Some m) × (p m ≡ e)
unmapped p None e h = absurd (cc)
unmapped p (Some m) e h = (m, refl, (let same : p m ≡ e = cc in same))

-- ---- the form of a tile doesn't turn on the numbers

module _ (N : Network) (A B : Layout) (p : ℕ → ℕ) (places : B.places ≡ A.places)
    (comes : (t : ℕ) (side : Side) → enters B t side ≡ option_map p (enters A t side))
    (goes : (t : ℕ) (side : Side) → leaves B t side ≡ option_map p (leaves A t side))
    (known : (t e : ℕ) (side : Side) → leaves A t side ≡ Some e → e < length N.edges)
    (known_too : (t e : ℕ) (side : Side) → leaves B t side ≡ Some e → e < length N.edges) where
  stands : (v t : ℕ) → Stands A v t → Stands B v t
  stands v t h = ap (λ (ps : List ℕ). slice_get ps v) places ∙ h

  stood : (v t : ℕ) → Stands B v t → Stands A v t
  stood v t h = ap (λ (ps : List ℕ). slice_get ps v) (sym places) ∙ h

  upper : (t : ℕ) → upper_sides A t ≡ upper_sides B t
  upper t = ap₂ (λ (l r : Bool). sides_of l r) (used Left) (used Right)
    where
      used : (side : Side) → is_some (enters A t side) ≡ is_some (enters B t side)
      used side = sym (ap is_some (comes t side) ∙ some-mapped p (enters A t side))

  slot : (t : ℕ) (side : Side) → is_some (slot_of N (leaves A t side)) ≡ is_some (slot_of N (leaves B t side))
  slot t side =
      slot-some N (leaves A t side) (λ e h. known t e side h)
      ∙ sym (ap is_some (goes t side) ∙ some-mapped p (leaves A t side))
      ∙ sym (slot-some N (leaves B t side) (λ e h. known_too t e side h))

  source : (t : ℕ) (side : Side) (o : Option Side) → ComesFrom A t side o → ComesFrom B t side o
  source t side None c = goes t side ∙ ap (option_map p) c
  source t side (Some from) c =
      let (e, out, come) = comes-leaves A t side from c in
      (p e, goes t side ∙ ap (option_map p) out, comes t from ∙ ap (option_map p) come)

  pub same-form : (t form : ℕ) → HasForm N A t form → HasForm N B t form
  same-form t form (inl a) = inl (record {
    v = a.v;
    node = a.node;
    is_node = a.is_node;
    stands = stands a.v t a.stands;
    form_of =
        form-told a.node.kind (upper_sides B t) (slot_of N (leaves B t Left)) (slot_of N (leaves B t Right)) (is_some (slot_of N (leaves A t Left))) (is_some (slot_of N (leaves A t Right))) form (slot t Left) (slot t Right)
        (told-form a.node.kind (upper_sides B t) (slot_of N (leaves A t Left)) (slot_of N (leaves A t Right)) (is_some (slot_of N (leaves A t Left))) (is_some (slot_of N (leaves A t Right))) form refl refl
        (subst (λ (u : Sides). IsFormOf a.node.kind u (slot_of N (leaves A t Left)) (slot_of N (leaves A t Right)) form) (upper t) a.form_of));
  })
  same-form t form (inr b) = inr (record {
    free = λ v h. b.free v (stood v t h);
    left = b.left;
    right = b.right;
    from_left = source t Left b.left b.from_left;
    from_right = source t Right b.right b.from_right;
    wire_of = subst (λ (u : Sides). IsWireOf u b.left b.right form) (upper t) b.wire_of;
  })

-- ---- edges exchanged with twins

module _ (N : Network) (L : Layout) (legal : IsLegal N all_forms L) (p : ℕ → ℕ)
    (twins : (e : ℕ) → e < length N.edges → AreTwins N e (p e)) (back : (e : ℕ) → e < length N.edges → p (p e) ≡ e) where
  abbrev pub relabelled : Layout
  relabelled = record { ratio = L.ratio; places = L.places; borders = map (option_map p) L.borders }

  low : (e : ℕ) → e < length N.edges → p e < length N.edges
  low e h = let t = twins e h in got-within N.edges (p e) t.other t.is_other

  new-on : (b : ℕ) → edge_on relabelled b ≡ option_map p (edge_on L b)
  new-on b = sym (get_or-map (option_map p) L.borders b None)

  pub new-leaves : (t : ℕ) (side : Side) → leaves relabelled t side ≡ option_map p (leaves L t side)
  new-leaves t side = new-on (border t side)

  pub new-enters : (t : ℕ) (side : Side) → enters relabelled t side ≡ option_map p (enters L t side)
  new-enters t side = at (entering L.ratio t side)
    where
      at : (o : Option ℕ) → option_and_then (edge_on relabelled) o ≡ option_map p (option_and_then (edge_on L) o)
      at None = refl
      at (Some b) = new-on b

  inside-in : (t e : ℕ) (side : Side) → enters L t side ≡ Some e → e < length N.edges
  inside-in t e side h = entering-is N L legal.placed t e side h

  inside-out : (t e : ℕ) (side : Side) → leaves L t side ≡ Some e → e < length N.edges
  inside-out t e side h = leaving-is N L legal.placed t e side h

  new-inside : (b e : ℕ) → edge_on relabelled b ≡ Some e → e < length N.edges
  new-inside b e h =
      let (m, was, is) = unmapped p (edge_on L b) e (sym (new-on b) ∙ h) in
      subst (λ (x : ℕ). x < length N.edges) is (low m (legal.placed.edges b m was))

  -- an edge is where its twin was
  counted : (o : Option ℕ) (e : ℕ) → ((m : ℕ) → o ≡ Some m → m < length N.edges) → e < length N.edges → one_if_is (option_map p o) e ≡ one_if_is o (p e)
  counted None e inside h = refl
  counted (Some m) e inside h = elim (cases_eq m (p e)) [
    | inl same ↦ one-is (Some (p m)) e (ap Some (ap p same ∙ back e h)) ∙ sym (one-is (Some m) (p e) (ap Some same))
    | inr other ↦ (
        let away : p m ≡ e → ⊥ = λ q. other (sym (back m (inside m refl)) ∙ ap p q) in
        one-not (Some (p m)) e (λ q. away (let s : p m ≡ e = cc in s)) ∙ sym (one-not (Some m) (p e) (λ q. other (let s : m ≡ p e = cc in s))))
  ]

  in-counted : (t e : ℕ) → e < length N.edges → ways_in relabelled t e ≡ ways_in L t (p e)
  in-counted t e h = ap₂ (λ a b. a + b) (on Left) (on Right)
    where
      on : (side : Side) → one_if_is (enters relabelled t side) e ≡ one_if_is (enters L t side) (p e)
      on side = ap (λ o. one_if_is o e) (new-enters t side) ∙ counted (enters L t side) e (λ m q. inside-in t m side q) h

  out-counted : (t e : ℕ) → e < length N.edges → ways_out relabelled t e ≡ ways_out L t (p e)
  out-counted t e h = ap₂ (λ a b. a + b) (on Left) (on Right)
    where
      on : (side : Side) → one_if_is (leaves relabelled t side) e ≡ one_if_is (leaves L t side) (p e)
      on side = ap (λ o. one_if_is o e) (new-leaves t side) ∙ counted (leaves L t side) e (λ m q. inside-out t m side q) h

  same-edge : (e : ℕ) (a b : Edge) → slice_get N.edges e ≡ Some a → slice_get N.edges e ≡ Some b → a ≡ b
  same-edge e a b q r = get-once N.edges e a b q r

  new-balanced : (t e : ℕ) (edge : Edge) → IsTile L.ratio t → slice_get N.edges e ≡ Some edge → IsBalancedAt relabelled t e edge
  new-balanced t e edge inside is =
      let h = got-within N.edges e edge is in
      let twin = twins e h in
      let own = same-edge e edge twin.one is twin.is_one in
      let was = legal.balanced t (p e) twin.other inside twin.is_other in
      let balanced = was.balanced in
      let once = was.once in
      let comes = in-counted t e h in
      let goes = out-counted t e h in
      let begins : stands_count L t edge.source ≡ stands_count L t twin.other.source = ap (stands_count L t) (ap (λ (d : Edge). d.source) own ∙ twin.source) in
      let ends : stands_count L t edge.target ≡ stands_count L t twin.other.target = ap (stands_count L t) (ap (λ (d : Edge). d.target) own ∙ twin.target) in
      record { balanced = omega (arith, comes, goes, begins, ends, balanced); once = omega (arith, comes, begins, once) }

  new-own : (v t : ℕ) → Stands L v t → (side : Side) (e : ℕ) (edge : Edge) → (enters relabelled t side ≡ Some e) ⊎ (leaves relabelled t side ≡ Some e) → slice_get N.edges e ≡ Some edge → IsOf edge v
  new-own v t stands side e edge carries is = elim carries [
    | inl come ↦ (let (m, was, new) = unmapped p (enters L t side) e (sym (new-enters t side) ∙ come) in own m (inside-in t m side was) new (inl was))
    | inr out ↦ (let (m, was, new) = unmapped p (leaves L t side) e (sym (new-leaves t side) ∙ out) in own m (inside-out t m side was) new (inr was))
  ]
    where
      own : (m : ℕ) → m < length N.edges → p m ≡ e → (enters L t side ≡ Some m) ⊎ (leaves L t side ≡ Some m) → IsOf edge v
      own m h new carried =
          let twin = twins m h in
          let same = same-edge e edge twin.other is (sym (ap (slice_get N.edges) new) ∙ twin.is_other) in
          elim (legal.alone v t stands side m twin.one carried twin.is_one) [
            | inl s ↦ inl (ap (λ (d : Edge). d.source) same ∙ sym twin.source ∙ s)
            | inr g ↦ inr (ap (λ (d : Edge). d.target) same ∙ sym twin.target ∙ g)
          ]

  pub new-legal : IsLegal N all_forms relabelled
  new-legal = record {
    grid = legal.grid;
    placed = record {
      places = legal.placed.places;
      borders = length-map L.borders (option_map p) ∙ legal.placed.borders;
      edges = new-inside;
      inside = legal.placed.inside;
      apart = legal.placed.apart;
    };
    ends = legal.ends;
    stays = λ t side inside off. new-leaves t side ∙ ap (option_map p) (legal.stays t side inside off);
    balanced = new-balanced;
    alone = λ v t stands side e edge carries is. new-own v t stands side e edge carries is;
    permitted = λ t form inside has. refl;
  }

  -- exchanged twice it is as before
  twice : (o : Option ℕ) → ((m : ℕ) → o ≡ Some m → m < length N.edges) → o ≡ option_map p (option_map p o)
  twice None inside = refl
  twice (Some m) inside = ap Some (sym (back m (inside m refl)))

  pub new-forms : (t form : ℕ) → HasForm N L t form ↔ HasForm N relabelled t form
  new-forms t form = (
    same-form N L relabelled p refl new-enters new-leaves inside-out (λ t e side h. new-inside (border t side) e h) t form,
    same-form N relabelled L p refl
        (λ t side. twice (enters L t side) (λ m h. inside-in t m side h) ∙ ap (option_map p) (sym (new-enters t side)))
        (λ t side. twice (leaves L t side) (λ m h. inside-out t m side h) ∙ ap (option_map p) (sym (new-leaves t side)))
        (λ t e side h. new-inside (border t side) e h) inside-out t form,
  )
