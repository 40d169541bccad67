-- The pins of a network where its nodes stand: one for each node that passes the test, with its port and its tile.
use Rattle.std.proofs.Common.{◌≡◌, ◌≢◌, ℕ, zero, suc, Bool, true, false, cond, List, [], ◌∷◌, ◌++◌, map, filter, length, slice_get, Some, if◌then◌else◌, inl, inr, refl, sym, ap, ◌∙◌, arith, eq-eqb}
use Rattle.std.proofs.lemmas.Bool.{ne_eqb}
use Rattle.bx_logic.specs.Lists.{AreDistinct}
use Rattle.bx_logic.specs.Values.{value_of}
use Rattle.bx_forms.specs.declared.kind.Kind.{Kind}
use Rattle.bx_network.specs.declared.node.Node.{Node}
use Rattle.bx_logic.proofs.Members.{Member, Member-append_cases, Member-map_cases, AllByRecursion-from_member, member_of_AllByRecursion}
use Rattle.bx_layout.specs.Pins.{Pin, pins_at, given_at}

abbrev pub pin_of : Node → ℕ → Pin
pin_of node t = record { port = node.port; tile = t }

-- what a pin stands for
pub record IsPinOf (test : Kind → Bool) (nodes : List Node) (tiles : List ℕ) (pin : Pin) : Type 0 where
  pub v : ℕ
  pub node : Node
  pub is_node : slice_get nodes v ≡ Some node
  pub passes : test node.kind ≡ true
  pub stands : slice_get tiles v ≡ Some pin.tile
  pub port : node.port ≡ pin.port

abbrev pub further : (test : Kind → Bool) (node : Node) (nodes : List Node) (tile : ℕ) (tiles : List ℕ) (pin : Pin) → IsPinOf test nodes tiles pin → IsPinOf test (node ∷ nodes) (tile ∷ tiles) pin
further test node nodes tile tiles pin is = record { v = suc is.v; node = is.node; is_node = is.is_node; passes = is.passes; stands = is.stands; port = is.port }

pub pin-says : (test : Kind → Bool) (nodes : List Node) (tiles : List ℕ) (pin : Pin) → Member pin (pins_at test nodes tiles) → IsPinOf test nodes tiles pin
pin-says test [] tiles pin m = absurd m
pin-says test (node ∷ nodes) [] pin m = absurd m
pin-says test (node ∷ nodes) (tile ∷ tiles) pin m = at (λ k. pin-says test nodes tiles pin k) (test node.kind) refl m
  where
    at : (Member pin (pins_at test nodes tiles) → IsPinOf test nodes tiles pin) → (b : Bool) → test node.kind ≡ b → Member pin (if b then pin_of node tile ∷ pins_at test nodes tiles else pins_at test nodes tiles) → IsPinOf test (node ∷ nodes) (tile ∷ tiles) pin
    at rest true e (inl same) = record {
      v = 0;
      node = node;
      is_node = refl;
      passes = e;
      stands = ap (λ (p : Pin). Some p.tile) same;
      port = ap (λ (p : Pin). p.port) same;
    }
    at rest true e (inr more) = further test node nodes tile tiles pin (rest more)
    at rest false e more = further test node nodes tile tiles pin (rest more)

pub pin-has : (test : Kind → Bool) (nodes : List Node) (tiles : List ℕ) (v t : ℕ) (node : Node) → slice_get nodes v ≡ Some node → test node.kind ≡ true → slice_get tiles v ≡ Some t →
    Member (pin_of node t) (pins_at test nodes tiles)
pin-has test [] tiles v t node is passes stands = absurd (cc)
pin-has test (m ∷ nodes) [] v t node is passes stands = absurd (cc)
pin-has test (m ∷ nodes) (tile ∷ tiles) zero t node is passes stands =
    let same : m ≡ node = cc in
    let place : tile ≡ t = cc in
    let kept : test m.kind ≡ true = ap (λ (n : Node). test n.kind) same ∙ passes in
    rw kept (inl (ap (λ (n : Node). pin_of n tile) same ∙ ap (pin_of node) place))
pin-has test (m ∷ nodes) (tile ∷ tiles) (suc v) t node is passes stands = at (test m.kind) (pin-has test nodes tiles v t node is passes stands)
  where
    at : (b : Bool) → Member (pin_of node t) (pins_at test nodes tiles) → Member (pin_of node t) (if b then pin_of m tile ∷ pins_at test nodes tiles else pins_at test nodes tiles)
    at true more = inr more
    at false more = more

-- there are as many pins as nodes that pass
pub length-pins_at : (test : Kind → Bool) (nodes : List Node) (tiles : List ℕ) → length tiles ≡ length nodes → length (pins_at test nodes tiles) ≡ length (filter (λ node. test node.kind) nodes)
length-pins_at test [] tiles e = refl
length-pins_at test (node ∷ nodes) [] e = absurd (omega arith)
length-pins_at test (node ∷ nodes) (tile ∷ tiles) e = at (test node.kind) (length-pins_at test nodes tiles (omega arith))
  where
    at : (b : Bool) → length (pins_at test nodes tiles) ≡ length (filter (λ n. test n.kind) nodes) →
        length (if b then pin_of node tile ∷ pins_at test nodes tiles else pins_at test nodes tiles) ≡ length (cond b (node ∷ filter (λ n. test n.kind) nodes) (filter (λ n. test n.kind) nodes))
    at true same = ap suc same
    at false same = same

-- ---- no two are the same

-- nodes that pass, and agree in f, are one
abbrev pub TellsApart : (Pin → ℕ) → (Kind → Bool) → List Node → List ℕ → Type 0
TellsApart f test nodes tiles = (p q : Pin) (a : IsPinOf test nodes tiles p) (b : IsPinOf test nodes tiles q) → f p ≡ f q → a.v ≡ b.v

pub distinct-pins : (f : Pin → ℕ) (test : Kind → Bool) (nodes : List Node) (tiles : List ℕ) → TellsApart f test nodes tiles → AreDistinct (map f (pins_at test nodes tiles))
distinct-pins f test [] tiles apart = tt
distinct-pins f test (node ∷ nodes) [] apart = tt
distinct-pins f test (node ∷ nodes) (tile ∷ tiles) apart = at (test node.kind) refl (distinct-pins f test nodes tiles rest)
  where
    rest : TellsApart f test nodes tiles
    rest p q a b same = let both = apart p q (further test node nodes tile tiles p a) (further test node nodes tile tiles q b) same in omega arith

    other : test node.kind ≡ true → (y : ℕ) → Member y (map f (pins_at test nodes tiles)) → y ≢ f (pin_of node tile)
    other e y m same =
        let (pin, found, is) = Member-map_cases f y (pins_at test nodes tiles) m in
        let here : IsPinOf test (node ∷ nodes) (tile ∷ tiles) (pin_of node tile) = record { v = 0; node = node; is_node = refl; passes = e; stands = refl; port = refl } in
        let there = pin-says test nodes tiles pin found in
        let both = apart (pin_of node tile) pin here (further test node nodes tile tiles pin there) (sym same ∙ sym is) in
        omega arith

    at : (b : Bool) → test node.kind ≡ b → AreDistinct (map f (pins_at test nodes tiles)) →
        AreDistinct (map f (if b then pin_of node tile ∷ pins_at test nodes tiles else pins_at test nodes tiles))
    at true e more = (AllByRecursion-from_member (λ y. y ≢ f (pin_of node tile)) (map f (pins_at test nodes tiles)) (other e), more)
    at false e more = more

pub distinct-append : (xs ys : List ℕ) → AreDistinct xs → AreDistinct ys → ((x y : ℕ) → Member x xs → Member y ys → y ≢ x) → AreDistinct (xs ++ ys)
distinct-append [] ys a b apart = b
distinct-append (x ∷ xs) ys a b apart =
    (AllByRecursion-from_member (λ y. y ≢ x) (xs ++ ys) rest, distinct-append xs ys a.1 b (λ u y m n. apart u y (inr m) n))
  where
    rest : (y : ℕ) → Member y (xs ++ ys) → y ≢ x
    rest y m = elim (Member-append_cases y xs ys m) [
      | inl l ↦ member_of_AllByRecursion (λ z. z ≢ x) y xs a.0 l
      | inr r ↦ apart x y (inl refl) r
    ]

-- ---- what is given to a tile

pub given-pin : (test : Kind → Bool) (nodes : List Node) (tiles : List ℕ) (bits : List Bool) (v t : ℕ) (node : Node) → slice_get nodes v ≡ Some node → test node.kind ≡ true → slice_get tiles v ≡ Some t →
    ((u : ℕ) → slice_get tiles u ≡ Some t → u ≡ v) → given_at (pins_at test nodes tiles) bits t ≡ value_of bits node.port
given-pin test [] tiles bits v t node is passes stands only = absurd (cc)
given-pin test (m ∷ nodes) [] bits v t node is passes stands only = absurd (cc)
given-pin test (m ∷ nodes) (tile ∷ tiles) bits zero t node is passes stands only =
    let same : m ≡ node = cc in
    let place : t ≡ tile = cc in
    let kept : test m.kind ≡ true = ap (λ (n : Node). test n.kind) same ∙ passes in
    rw kept (ap (λ (b : Bool). if b then value_of bits m.port else given_at (pins_at test nodes tiles) bits t) (eq-eqb t tile place) ∙ ap (λ (n : Node). value_of bits n.port) same)
given-pin test (m ∷ nodes) (tile ∷ tiles) bits (suc v) t node is passes stands only = at (test m.kind) (given-pin test nodes tiles bits v t node is passes stands further_on)
  where
    further_on : (u : ℕ) → slice_get tiles u ≡ Some t → u ≡ v
    further_on u e = let both = only (suc u) e in omega arith

    elsewhere : t ≡ tile → ⊥
    elsewhere e = let both = only 0 (ap Some (sym e)) in omega arith

    at : (b : Bool) → given_at (pins_at test nodes tiles) bits t ≡ value_of bits node.port →
        given_at (if b then pin_of m tile ∷ pins_at test nodes tiles else pins_at test nodes tiles) bits t ≡ value_of bits node.port
    at true more = ap (λ (c : Bool). if c then value_of bits m.port else given_at (pins_at test nodes tiles) bits t) (ne_eqb t tile elsewhere) ∙ more
    at false more = more
