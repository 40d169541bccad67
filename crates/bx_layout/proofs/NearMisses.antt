-- A column of three tiles in which an inversion stands: its layout, its forms and its pins.
use Rattle.std.proofs.Common.{◌≡◌, ◌↔◌, ℕ, zero, suc, ◌<◌, ◌≤◌, ◌⊎◌, true, false, [], ◌∷◌, Option, Some, None, Contains, inl, inr, refl, sym, ap, ◌∙◌, subst, arith, IsTrue, IsSome}
use Rattle.std.specs.List.{slice_get}
use Rattle.bx_logic.proofs.Members.{Contains-from_member, Member-from_contains}
use Rattle.bx_forms.specs.declared.kind.Kind.{Kind}
use Rattle.bx_forms.specs.declared.kind.Kind.TheVariants.{Input, Output, Not}
use Rattle.bx_forms.specs.declared.side.Side.{Side}
use Rattle.bx_forms.specs.declared.side.Side.TheVariants.{Left, Right}
use Rattle.bx_forms.specs.Sides.{opposite}
use Rattle.bx_forms.proofs.Nodes.{form-of}
use Rattle.bx_grid.specs.Tiles.{IsTile, IsInFirstRow, IsInLastRow, above, below}
use Rattle.bx_network.specs.declared.node.Node.{Node}
use Rattle.bx_network.specs.declared.node.Edge.{Edge}
use Rattle.bx_network.specs.Networks.{HasPort}
use Rattle.bx_network.specs.Examples.{node, edge, inversion}
use Rattle.bx_layout.specs.Examples.{straight, straight_forms, pin, pins_with}
use Rattle.bx_layout.specs.Grids.{Holds, takes, sends, sends_from, IsSoundAt, IsSound}
use Rattle.bx_layout.specs.Layouts.{Stands, edge_on, enters, leaves, Carries}
use Rattle.bx_layout.specs.Legal.{StandsAtItsEnd, IsBalancedAt, IsOf, IsLegal}
use Rattle.bx_layout.specs.Permits.{all_forms}
use Rattle.bx_layout.specs.Pins.{ArePins}
use Rattle.bx_layout.specs.TileForms.{HasNodeForm, upper_sides, slot_of}

some-same : {X : Type 0} (x y : X) → Some x ≡ Some y → x ≡ y
some-same x y e = cc

none-some : {X : Type 0} (x : X) → None ≡ Some x → ⊥
none-some x e = cc

-- ---- the layout

stands-itself : (v t : ℕ) → Stands straight v t → (v ≡ t) × (t < 3)
stands-itself zero t e = let same = some-same 0 t e in (same, omega arith)
stands-itself (suc zero) t e = let same = some-same 1 t e in (same, omega arith)
stands-itself (suc (suc zero)) t e = let same = some-same 2 t e in (same, omega arith)
stands-itself (suc (suc (suc v))) t e = absurd (none-some t e)

edges-in : (b e : ℕ) → edge_on straight b ≡ Some e → e < 2
edges-in zero e h = absurd (none-some e h)
edges-in (suc zero) e h = let same = some-same 0 e h in omega arith
edges-in (suc (suc zero)) e h = let same = some-same 1 e h in omega arith
edges-in (suc (suc (suc zero))) e h = absurd (none-some e h)
edges-in (suc (suc (suc (suc zero)))) e h = absurd (none-some e h)
edges-in (suc (suc (suc (suc (suc zero))))) e h = absurd (none-some e h)
edges-in (suc (suc (suc (suc (suc (suc b)))))) e h = absurd (none-some e h)

at-its-end : (v t : ℕ) (n : Node) → slice_get inversion.nodes v ≡ Some n → Stands straight v t → StandsAtItsEnd n.kind straight.ratio t
at-its-end zero t n is stands = subst (λ (m : Node). StandsAtItsEnd m.kind straight.ratio t) (some-same (node Input) n is) (subst (λ (u : ℕ). IsInFirstRow straight.ratio u) (some-same 0 t stands) refl)
at-its-end (suc zero) t n is stands = subst (λ (m : Node). StandsAtItsEnd m.kind straight.ratio t) (some-same (node Not) n is) tt
at-its-end (suc (suc zero)) t n is stands = subst (λ (m : Node). StandsAtItsEnd m.kind straight.ratio t) (some-same (node Output) n is) (subst (λ (u : ℕ). IsInLastRow straight.ratio u) (some-same 2 t stands) refl)
at-its-end (suc (suc (suc v))) t n is stands = absurd (none-some n is)

stay : (t : ℕ) (side : Side) → t < 3 → below straight.ratio t side ≡ None → leaves straight t side ≡ None
stay zero Left h off = refl
stay zero Right h off = absurd (none-some 1 (sym off))
stay (suc zero) Left h off = absurd (none-some 2 (sym off))
stay (suc zero) Right h off = refl
stay (suc (suc zero)) Left h off = refl
stay (suc (suc zero)) Right h off = refl
stay (suc (suc (suc t))) side h off = absurd (omega arith)

one : 1 ≤ 1
one = omega arith

nothing : 0 ≤ 1
nothing = omega arith

first-edge : (t : ℕ) → t < 3 → IsBalancedAt straight t 0 (edge 0 0 1 0)
first-edge zero h = record { balanced = refl; once = one }
first-edge (suc zero) h = record { balanced = refl; once = one }
first-edge (suc (suc zero)) h = record { balanced = refl; once = nothing }
first-edge (suc (suc (suc t))) h = absurd (omega arith)

second-edge : (t : ℕ) → t < 3 → IsBalancedAt straight t 1 (edge 1 0 2 0)
second-edge zero h = record { balanced = refl; once = nothing }
second-edge (suc zero) h = record { balanced = refl; once = one }
second-edge (suc (suc zero)) h = record { balanced = refl; once = one }
second-edge (suc (suc (suc t))) h = absurd (omega arith)

balance : (t e : ℕ) (d : Edge) → t < 3 → slice_get inversion.edges e ≡ Some d → IsBalancedAt straight t e d
balance t zero d h is = subst (IsBalancedAt straight t 0) (some-same (edge 0 0 1 0) d is) (first-edge t h)
balance t (suc zero) d h is = subst (IsBalancedAt straight t 1) (some-same (edge 1 0 2 0) d is) (second-edge t h)
balance t (suc (suc e)) d h is = absurd (none-some d is)

-- what is there, if anything, is an edge of this node
abbrev Own : ℕ → Option ℕ → Type 0
Own v o = (e : ℕ) → o ≡ Some e → (d : Edge) → slice_get inversion.edges e ≡ Some d → IsOf d v

own-none : (v : ℕ) → Own v None
own-none v e h d at = absurd (none-some e h)

own-edge : (v k : ℕ) (own : Edge) → slice_get inversion.edges k ≡ Some own → IsOf own v → Own v (Some k)
own-edge v k own is of e h d at = subst (λ (x : Edge). IsOf x v) (some-same own d (sym is ∙ ap (slice_get inversion.edges) (some-same k e h) ∙ at)) of

alone-at : (v : ℕ) (side : Side) → v < 3 → Own v (enters straight v side) × Own v (leaves straight v side)
alone-at zero Left h = (own-none 0, own-none 0)
alone-at zero Right h = (own-none 0, own-edge 0 0 (edge 0 0 1 0) refl (inl refl))
alone-at (suc zero) Left h = (own-edge 1 0 (edge 0 0 1 0) refl (inr refl), own-edge 1 1 (edge 1 0 2 0) refl (inl refl))
alone-at (suc zero) Right h = (own-none 1, own-none 1)
alone-at (suc (suc zero)) Left h = (own-none 2, own-none 2)
alone-at (suc (suc zero)) Right h = (own-edge 2 1 (edge 1 0 2 0) refl (inr refl), own-none 2)
alone-at (suc (suc (suc v))) side h = absurd (omega arith)

alone : (v t : ℕ) → Stands straight v t → (side : Side) (e : ℕ) (d : Edge) → Carries straight t side e → slice_get inversion.edges e ≡ Some d → IsOf d v
alone v t stands side e d carries is =
    let (same, low) = stands-itself v t stands in
    let own = alone-at v side (omega arith) in
    elim (subst (λ (u : ℕ). Carries straight u side e) (sym same) carries) [ inl h ↦ own.0 e h d is | inr h ↦ own.1 e h d is ]

pub straight-legal : IsLegal inversion all_forms straight
straight-legal = record {
  grid = record { wide = omega arith; high = omega arith; small = omega arith };
  placed = record {
    places = refl;
    borders = refl;
    edges = edges-in;
    inside = λ v t stands. (stands-itself v t stands).1;
    apart = λ u v t a b. (stands-itself u t a).0 ∙ sym (stands-itself v t b).0;
  };
  ends = at-its-end;
  stays = stay;
  balanced = balance;
  alone = alone;
  permitted = λ t form inside has. refl;
}

pub not-form : HasNodeForm inversion straight 1 8
not-form = record {
  v = 1;
  node = node Not;
  is_node = refl;
  stands = refl;
  form_of = form-of Not (upper_sides straight 1) (slot_of inversion (leaves straight 1 Left)) (slot_of inversion (leaves straight 1 Right)) 8 (record { node = refl; upper_sides = refl; lower_sides = refl });
}

-- ---- the forms

meet : (t : ℕ) (side : Side) → t < 3 → takes straight_forms t side ≡ sends_from straight_forms (above straight_forms.ratio t side) (opposite side)
meet zero Left h = refl
meet zero Right h = refl
meet (suc zero) Left h = refl
meet (suc zero) Right h = refl
meet (suc (suc zero)) Left h = refl
meet (suc (suc zero)) Right h = refl
meet (suc (suc (suc t))) side h = absurd (omega arith)

untrue : {X : Type 0} → false ≡ true → X
untrue e = cc

goes-on : (t : ℕ) (side : Side) → t < 3 → IsTrue (sends straight_forms t side) → IsSome (below straight_forms.ratio t side)
goes-on zero Left h s = untrue s
goes-on zero Right h s = refl
goes-on (suc zero) Left h s = refl
goes-on (suc zero) Right h s = untrue s
goes-on (suc (suc zero)) Left h s = untrue s
goes-on (suc (suc zero)) Right h s = untrue s
goes-on (suc (suc (suc t))) side h s = absurd (omega arith)

pub straight-sound : IsSound straight_forms
straight-sound zero h = record {
  meets = λ side. meet 0 side h;
  stays = λ side s. goes-on 0 side h s;
  row = record {
    input = λ k. refl;
    output = λ k. absurd (let e : Input ≡ Output = some-same Input Output k in cc);
    first = λ r. inr refl;
    last = λ r. absurd (let e : ◌≡◌ {A = ℕ} 1 3 = r in omega arith);
  };
}
straight-sound (suc zero) h = record {
  meets = λ side. meet 1 side h;
  stays = λ side s. goes-on 1 side h s;
  row = record {
    input = λ k. absurd (let e : Not ≡ Input = some-same Not Input k in cc);
    output = λ k. absurd (let e : Not ≡ Output = some-same Not Output k in cc);
    first = λ r. absurd (let e : ◌≡◌ {A = ℕ} 1 0 = r in omega arith);
    last = λ r. absurd (let e : ◌≡◌ {A = ℕ} 2 3 = r in omega arith);
  };
}
straight-sound (suc (suc zero)) h = record {
  meets = λ side. meet 2 side h;
  stays = λ side s. goes-on 2 side h s;
  row = record {
    input = λ k. absurd (let e : Output ≡ Input = some-same Output Input k in cc);
    output = λ k. refl;
    first = λ r. absurd (let e : ◌≡◌ {A = ℕ} 2 0 = r in omega arith);
    last = λ r. inr refl;
  };
}
straight-sound (suc (suc (suc t))) h = absurd (let low : suc (suc (suc t)) < 3 = h in omega arith)

-- ---- the pins

port-none : (v port : ℕ) (kind : Kind) → HasPort inversion v kind port → 0 ≡ port
port-none zero port kind has = ap (λ (n : Node). n.port) (some-same (node Input) (record { kind = kind; port = port }) has)
port-none (suc zero) port kind has = ap (λ (n : Node). n.port) (some-same (node Not) (record { kind = kind; port = port }) has)
port-none (suc (suc zero)) port kind has = ap (λ (n : Node). n.port) (some-same (node Output) (record { kind = kind; port = port }) has)
port-none (suc (suc (suc v))) port kind has = absurd (none-some (record { kind = kind; port = port }) has)

pub no-other-port : (v : ℕ) → HasPort inversion v Output 1 → ⊥
no-other-port v has = let e = port-none v 1 Output has in omega arith

-- what holds of one number holds of each of the list of it alone
of-one : (P : ℕ → Type 0) (a n : ℕ) → P a → Contains (a ∷ []) n → P n
of-one P a n p c = elim (Member-from_contains n (a ∷ []) c) [ inl same ↦ subst P same p | inr none ↦ absurd none ]

own-port : (v : ℕ) (kind : Kind) → HasPort inversion v kind 0 → (port : ℕ) → Contains (0 ∷ []) port ↔ ((u : ℕ) × HasPort inversion u kind port)
own-port v kind is port = (
  (λ c. of-one (λ p. (u : ℕ) × HasPort inversion u kind p) 0 port (v, is) c),
  (λ (u, has). Contains-from_member port (0 ∷ []) (inl (port-none u port kind has))),
)

inputs-of : (t : ℕ) → t < 3 → Holds straight_forms t Input → Contains (0 ∷ []) t
inputs-of zero h k = Contains-from_member 0 (0 ∷ []) (inl refl)
inputs-of (suc zero) h k = absurd (let e : Not ≡ Input = some-same Not Input k in cc)
inputs-of (suc (suc zero)) h k = absurd (let e : Output ≡ Input = some-same Output Input k in cc)
inputs-of (suc (suc (suc t))) h k = absurd (omega arith)

outputs-of : (t : ℕ) → t < 3 → Holds straight_forms t Output → Contains (2 ∷ []) t
outputs-of zero h k = absurd (let e : Input ≡ Output = some-same Input Output k in cc)
outputs-of (suc zero) h k = absurd (let e : Not ≡ Output = some-same Not Output k in cc)
outputs-of (suc (suc zero)) h k = Contains-from_member 2 (2 ∷ []) (inl refl)
outputs-of (suc (suc (suc t))) h k = absurd (omega arith)

pub straight-pins : ArePins straight_forms inversion (pins_with (pin 0 0 ∷ []) (pin 0 2 ∷ []))
straight-pins = record {
  inputs = record { each = own-port 0 Input refl; once = (tt, tt) };
  outputs = record { each = own-port 2 Output refl; once = (tt, tt) };
  first = λ t c. of-one (λ u. IsTile straight_forms.ratio u × IsInFirstRow straight_forms.ratio u × Holds straight_forms u Input) 0 t (omega arith, refl, refl) c;
  last = λ t c. of-one (λ u. IsTile straight_forms.ratio u × IsInLastRow straight_forms.ratio u × Holds straight_forms u Output) 2 t (omega arith, refl, refl) c;
  apart = (((λ e. omega arith), tt), (tt, tt));
  no_more_inputs = inputs-of;
  no_more_outputs = outputs-of;
}
