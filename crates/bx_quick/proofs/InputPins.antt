-- The pins of the inputs: one for each input port, on the lane of its node's edge.
use Rattle.std.proofs.Common.{◌≡◌, ◌≢◌, ℕ, zero, suc, ◌+◌, ◌<◌, ◌≤◌, ◌⊎◌, Bool, true, false, List, [], ◌∷◌, length, map, Some, inl, inr, refl, sym, ap, ◌∙◌, subst, arith}
use Rattle.std.specs.Prelude.{slice_get, if◌then◌else◌, insert}
use Rattle.std.proofs.lemmas.Bool.{cases_lt}
use Rattle.bx_logic.specs.Lists.{AreDistinct}
use Rattle.bx_logic.proofs.Members.{Member, Member-map_cases, AllByRecursion-from_member, member_of_AllByRecursion}
use Rattle.bx_forms.specs.declared.kind.Kind.TheVariants.{Input}
use Rattle.bx_layout.specs.Pins.{Pin, pin_ports, pin_tiles}
use Rattle.bx_layout.specs.Valuations.{is_input}
use Rattle.bx_network.specs.declared.node.Node.{Node}
use Rattle.bx_network.specs.Networks.{Network, IsNetwork, HasKind, HasPort}
use Rattle.bx_network.specs.Values.{edge_out}
use Rattle.bx_quick.specs.LaneStates.{input_edges, start_of}
use Rattle.bx_quick.specs.Pins.{pin_at, with_pin, with_inputs, quick_pins}
use Rattle.bx_quick.proofs.LaneRuns.{edge_on}
use Rattle.bx_quick.proofs.NetworkRuns.{input-says}

-- ---- an item put into a list

member-insert : {X : Type 0} (xs : List X) (i : ℕ) (x y : X) → Member y (insert xs i x) → (x ≡ y) ⊎ Member y xs
member-insert [] zero x y (inl e) = inl e
member-insert [] zero x y (inr h) = absurd h
member-insert [] (suc i) x y (inl e) = inl e
member-insert [] (suc i) x y (inr h) = absurd h
member-insert (z ∷ zs) zero x y (inl e) = inl e
member-insert (z ∷ zs) zero x y (inr h) = inr h
member-insert (z ∷ zs) (suc i) x y (inl e) = inr (inl e)
member-insert (z ∷ zs) (suc i) x y (inr h) = elim (member-insert zs i x y h) [ inl e ↦ inl e | inr m ↦ inr (inr m) ]

inserted-member : {X : Type 0} (xs : List X) (i : ℕ) (x : X) → Member x (insert xs i x)
inserted-member [] zero x = inl refl
inserted-member [] (suc i) x = inl refl
inserted-member (z ∷ zs) zero x = inl refl
inserted-member (z ∷ zs) (suc i) x = inr (inserted-member zs i x)

insert-keeps : {X : Type 0} (xs : List X) (i : ℕ) (x y : X) → Member y xs → Member y (insert xs i x)
insert-keeps [] i x y h = absurd h
insert-keeps (z ∷ zs) zero x y h = inr h
insert-keeps (z ∷ zs) (suc i) x y (inl e) = inl e
insert-keeps (z ∷ zs) (suc i) x y (inr h) = inr (insert-keeps zs i x y h)

distinct-insert : (f : Pin → ℕ) (xs : List Pin) (i : ℕ) (x : Pin) → AreDistinct (map f xs) → ((y : Pin) → Member y xs → f y ≡ f x → ⊥) → AreDistinct (map f (insert xs i x))
distinct-insert f [] zero x d apart = (tt, tt)
distinct-insert f [] (suc i) x d apart = (tt, tt)
distinct-insert f (z ∷ zs) zero x d apart =
    (AllByRecursion-from_member (λ n. n ≢ f x) (map f (z ∷ zs)) (λ n m e. let (y, there, is) = Member-map_cases f n (z ∷ zs) m in apart y there (is ∙ e)), d)
distinct-insert f (z ∷ zs) (suc i) x d apart = (
  AllByRecursion-from_member (λ n. n ≢ f z) (map f (insert zs i x)) others,
  distinct-insert f zs i x d.1 (λ y m e. apart y (inr m) e),
)
  where
    others : (n : ℕ) → Member n (map f (insert zs i x)) → n ≡ f z → ⊥
    others n m e =
        let (y, there, is) = Member-map_cases f n (insert zs i x) m in
        elim (member-insert zs i x y there) [
          | inl same ↦ apart z (inl refl) (sym e ∙ sym is ∙ ap f (sym same))
          | inr old ↦ member_of_AllByRecursion (λ k. k ≢ f z) n (map f zs) d.0 (subst (λ k. Member k (map f zs)) is (mapped y zs old)) e
        ]
      where
        mapped : (p : Pin) (ps : List Pin) → Member p ps → Member (f p) (map f ps)
        mapped p [] h = absurd h
        mapped p (q ∷ qs) (inl same) = inl (ap f same)
        mapped p (q ∷ qs) (inr h) = inr (mapped p qs h)

-- ---- the pins of inputs

module _ (N : Network) (net : IsNetwork N) where
  abbrev start : List ℕ
  start = (start_of N).lanes

  pub record IsInputPin (v t : ℕ) (pin : Pin) : Type 0 where
    pub node : ℕ
    pub before : node < v
    pub input : HasPort N node Input pin.port
    pub early : pin.tile < t
    pub low : pin.tile < length start
    pub is : edge_on start pin.tile ≡ edge_out N.edges node 0

  -- the pins of the inputs among the first v nodes, of which there are t
  pub record Filled (v t : ℕ) (pins : List Pin) : Type 0 where
    pub each : (pin : Pin) → Member pin pins → IsInputPin v t pin
    pub all : (u port : ℕ) → u < v → HasPort N u Input port → (i : ℕ) × Member (pin_at port i) pins
    pub ports : AreDistinct (pin_ports pins)
    pub tiles : AreDistinct (pin_tiles pins)

  later : (v t : ℕ) (pin : Pin) (m : ℕ) → t ≤ m → IsInputPin v t pin → IsInputPin (v + 1) m pin
  later v t pin m h p = let before = p.before in let early = p.early in
      record { node = p.node; before = omega arith; input = p.input; early = omega arith; low = p.low; is = p.is }

  fill-skip : (v t : ℕ) (pins : List Pin) → (HasKind N v Input → ⊥) → Filled v t pins → Filled (v + 1) t pins
  fill-skip v t pins other f = record {
    each = λ pin m. later v t pin t (omega arith) (f.each pin m);
    all = λ u port h is. elim (cases_lt u v) [
      | inl low ↦ f.all u port low is
      | inr past ↦ (let same : u ≡ v = omega arith in absurd (other (subst (λ x. HasKind N x Input) same (record { kind = Input; port = port }, is, refl))))
    ];
    ports = f.ports;
    tiles = f.tiles;
  }

  fill-more : (v t port i : ℕ) (pins : List Pin) → HasPort N v Input port → t < length start → edge_on start t ≡ edge_out N.edges v 0 → Filled v t pins → Filled (v + 1) (t + 1) (insert pins i (pin_at port t))
  fill-more v t port i pins has low is f = record {
    each = λ pin m. elim (member-insert pins i (pin_at port t) pin m) [
      | inl same ↦ subst (IsInputPin (v + 1) (t + 1)) same (record { node = v; before = omega arith; input = has; early = omega arith; low = low; is = is })
      | inr old ↦ later v t pin (t + 1) (omega arith) (f.each pin old)
    ];
    all = λ u other h input. elim (cases_lt u v) [
      | inl before ↦ (let there = f.all u other before input in (there.0, insert-keeps pins i (pin_at port t) (pin_at other there.0) there.1))
      | inr past ↦ (
          let same : u ≡ v = omega arith in
          let both : Some (record { kind = Input; port = port }) ≡ Some (record { kind = Input; port = other }) = sym has ∙ ap (slice_get N.nodes) (sym same) ∙ input in
          let nodes : node_with port ≡ node_with other = cc in
          (t, subst (λ p. Member (pin_at p t) (insert pins i (pin_at port t))) (ap (λ (n : Node). n.port) nodes) (inserted-member pins i (pin_at port t))))
    ];
    ports = distinct-insert (λ pin. pin.port) pins i (pin_at port t) f.ports (λ pin m e.
        let there = f.each pin m in
        let before = there.before in
        let same = net.inputs_apart there.node v port (subst (HasPort N there.node Input) e there.input) has in
        omega arith);
    tiles = distinct-insert (λ pin. pin.tile) pins i (pin_at port t) f.tiles (λ pin m e. let there = (f.each pin m).early in omega arith);
  }
    where
      node_with : ℕ → Node
      node_with p = record { kind = Input; port = p }

  fill-step : (node : Node) (rest : List Node) (v t : ℕ) (pins : List Pin) → slice_get N.nodes v ≡ Some node →
      ((m : ℕ) (more : List Pin) → ((k : ℕ) → edge_on (input_edges N.edges (v + 1) rest) k ≡ edge_on start (m + k)) → m + length (input_edges N.edges (v + 1) rest) ≡ length start →
      Filled (v + 1) m more → Filled (v + 1 + length rest) (length start) (with_inputs more m rest)) →
      (b : Bool) → is_input node.kind ≡ b →
      ((k : ℕ) → edge_on (if b then edge_out N.edges v 0 ∷ input_edges N.edges (v + 1) rest else input_edges N.edges (v + 1) rest) k ≡ edge_on start (t + k)) →
      t + length (if b then edge_out N.edges v 0 ∷ input_edges N.edges (v + 1) rest else input_edges N.edges (v + 1) rest) ≡ length start → Filled v t pins →
      Filled (v + 1 + length rest) (length start) (if b then with_inputs (with_pin pins (pin_at node.port t)) (t + 1) rest else with_inputs pins t rest)
  fill-step node rest v t pins here ih true is lanes size f =
      ih (t + 1) (with_pin pins (pin_at node.port t))
      (λ k. lanes (suc k) ∙ ap (edge_on start) (let e : t + suc k ≡ t + 1 + k = omega arith in e))
      (omega arith)
      (fill-more v t node.port _ pins (here ∙ ap (λ k. Some (record { kind = k; port = node.port })) (input-says node.kind is)) (omega arith)
      (ap (edge_on start) (let e : t ≡ t + 0 = omega arith in e) ∙ sym (lanes 0)) f)
  fill-step node rest v t pins here ih false is lanes size f =
      ih t pins lanes size (fill-skip v t pins (λ input. clash input) f)
    where
      clash : HasKind N v Input → ⊥
      clash (other, at, input) =
          let both : Some node ≡ Some other = sym here ∙ at in
          let nodes : node ≡ other = cc in
          let yes_is : is_input node.kind ≡ true = ap (λ (n : Node). is_input n.kind) nodes ∙ ap is_input input in
          let absurdity : false ≡ true = sym is ∙ yes_is in
          cc

  filled : (rest : List Node) (v t : ℕ) (pins : List Pin) → ((k : ℕ) → slice_get rest k ≡ slice_get N.nodes (v + k)) →
      ((k : ℕ) → edge_on (input_edges N.edges v rest) k ≡ edge_on start (t + k)) → t + length (input_edges N.edges v rest) ≡ length start → Filled v t pins →
      Filled (v + length rest) (length start) (with_inputs pins t rest)
  unfolding with_inputs input_edges
  filled [] v t pins same lanes size f =
      subst (λ m. Filled m (length start) pins) (let e : v ≡ v + 0 = omega arith in e) (subst (λ m. Filled v m pins) (let e : t ≡ length start = omega arith in e) f)
  filled (node ∷ rest) v t pins same lanes size f =
      subst (λ m. Filled m (length start) (with_inputs pins t (node ∷ rest))) (let e : v + 1 + length rest ≡ v + suc (length rest) = omega arith in e)
      (fill-step node rest v t pins (ap (slice_get N.nodes) (let e : v ≡ v + 0 = omega arith in e) ∙ sym (same 0))
      (λ m more. filled rest (v + 1) m more (λ k. same (suc k) ∙ ap (slice_get N.nodes) (let e : v + suc k ≡ v + 1 + k = omega arith in e)))
      (is_input node.kind) refl lanes size f)

  pub input-pins : Filled (length N.nodes) (length start) (quick_pins N).inputs
  unfolding quick_pins start_of
  input-pins =
      subst (λ m. Filled m (length start) (quick_pins N).inputs) (let e : 0 + length N.nodes ≡ length N.nodes = omega arith in e)
      (filled N.nodes 0 0 [] (λ k. ap (slice_get N.nodes) (let e : k ≡ 0 + k = omega arith in e)) (λ k. ap (edge_on start) (let e : k ≡ 0 + k = omega arith in e)) (omega arith)
      (record { each = λ pin m. absurd m; all = λ u port h is. absurd (omega arith); ports = tt; tiles = tt }))
