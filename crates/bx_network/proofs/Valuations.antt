-- A network has exactly one valuation: an edge's value follows from those of earlier edges, so the values
-- are made edge by edge. From it a network has a behaviour.
use Rattle.std.proofs.Common.{◌≡◌, ℕ, zero, suc, ◌+◌, ◌-◌, ◌<◌, ◌≤◌, Bool, false, List, [], ◌∷◌, ◌++◌, length, get_or, map, Some, inl, inr, ◌⊎◌, zero-add, refl, sym, ap, ap₂, ◌∙◌, subst, arith, length-append}
use Rattle.std.specs.List.{slice_get, position_or_len, range_with_len}
use Rattle.std.proofs.lemmas.Bool.{cases_lt}
use Rattle.std.proofs.lemmas.List.FromFn.{length-map-range_with_len, get_or-map-range_with_len}
use Rattle.std.proofs.lemmas.List.{ext_get_or, get_or_append_left, get_or-append-add}
use Rattle.bx_logic.specs.Values.{value_of}
use Rattle.bx_logic.specs.Behaviours.{IsFunction}
use Rattle.bx_forms.specs.declared.kind.Kind.{Kind}
use Rattle.bx_forms.specs.declared.kind.Kind.TheVariants.{Output}
use Rattle.bx_forms.specs.Kinds.{operands, gives}
use Rattle.bx_network.specs.declared.node.Node.{Node}
use Rattle.bx_network.specs.declared.node.Edge.{Edge}
use Rattle.bx_network.specs.Networks.{Network, IsNetwork, HasKind, HasPort, enters_by, output_count}
use Rattle.bx_network.specs.Values.{edge_into, values_into, node_reads, operand_values, IsValuation, IsOnlyValuation, NetworkGives, network_behaviour}
use Rattle.bx_network.proofs.Lists.{got-within, got-get_or, got-slice_get}
use Rattle.bx_network.proofs.Networks.{edge-enters, enters-says, goes-forward, sources-rise}
use Rattle.bx_network.proofs.Downs.{no_edge, edge_at}

abbrev pub no_node : Node
no_node = record { kind = Output; port = 0 }

abbrev pub node_at : Network → ℕ → Node
node_at N v = get_or N.nodes v no_node

-- what an edge has where the edges have these values
abbrev pub edge_value : Network → List Bool → List Bool → ℕ → Bool
edge_value N bits values i =
    let e = edge_at N.edges i in
    gives (node_at N e.source).kind (operand_values N bits values e.source (node_at N e.source)) e.slot

-- the two lists have the same first n values
abbrev pub AgreeBelow : ℕ → List Bool → List Bool → Type 0
AgreeBelow n bs cs = (j : ℕ) → j < n → get_or bs j false ≡ get_or cs j false

-- an edge that enters the source of another stands before it
enters-earlier : (N : Network) → IsNetwork N → (i : ℕ) (e : Edge) → slice_get N.edges i ≡ Some e → (kind : Kind) → HasKind N e.source kind → (operand : ℕ) → operand < operands kind → edge_into N.edges e.source operand < i
enters-earlier N net i e is_at kind has operand h =
    let into = edge-enters N net e.source kind has operand h in
    let to = (enters-says e.source operand into.item into.passes).0 in
    let forward = (goes-forward N net (position_or_len (enters_by e.source operand) N.edges) into.item into.at).forward in
    elim (cases_lt (edge_into N.edges e.source operand) i) [
      | inl low ↦ low
      | inr past ↦ let rise = sources-rise N net i (edge_into N.edges e.source operand) e into.item is_at into.at past in absurd (omega arith)
    ]

map-same : (f g : ℕ → Bool) (a n : ℕ) → ((k : ℕ) → a ≤ k → k < a + n → f k ≡ g k) → map f (range_with_len a n) ≡ map g (range_with_len a n)
map-same f g a zero same = refl
map-same f g a (suc n) same = ap₂ (λ (x : Bool) (xs : List Bool). x ∷ xs) (same a (omega arith) (omega arith)) (map-same f g (a + 1) n (λ k low high. same k (omega arith) (omega arith)))

-- what an edge has follows from the values of earlier edges
value-local : (N : Network) → IsNetwork N → (bits bs cs : List Bool) (i : ℕ) → i < length N.edges → AgreeBelow i bs cs → edge_value N bits bs i ≡ edge_value N bits cs i
value-local N net bits bs cs i h agree =
    let e = edge_at N.edges i in
    let is_at = got-slice_get N.edges i no_edge h in
    let forward = goes-forward N net i e is_at in
    let low : e.source < length N.nodes = let a = forward.forward in let b = forward.within in omega arith in
    let node = node_at N e.source in
    let has : HasKind N e.source node.kind = (node, got-slice_get N.nodes e.source no_node low, refl) in
    let same : values_into N.edges bs e.source node.kind ≡ values_into N.edges cs e.source node.kind =
    map-same _ _ 0 (operands node.kind) (λ operand from below. agree (edge_into N.edges e.source operand) (enters-earlier N net i e is_at node.kind has operand (omega arith))) in
    ap (λ (entering : List Bool). gives node.kind (node_reads node.kind (value_of bits node.port) entering) e.slot) same

-- the values of the first n edges
unfoldable pub made : Network → List Bool → ℕ → List Bool
made N bits zero = []
made N bits (suc n) = made N bits n ++ edge_value N bits (made N bits n) n ∷ []

length-made : (N : Network) (bits : List Bool) (n : ℕ) → length (made N bits n) ≡ n
unfolding made
length-made N bits zero = refl
length-made N bits (suc n) =
    let e = length-append (made N bits n) (edge_value N bits (made N bits n) n ∷ []) in
    omega (arith, e, length-made N bits n)

-- what is made further on leaves it as it was
made-more : (N : Network) (bits : List Bool) (n : ℕ) → AgreeBelow n (made N bits (suc n)) (made N bits n)
unfolding made
made-more N bits n j h = get_or_append_left (made N bits n) _ false j (omega (arith, length-made N bits n))

made-here : (N : Network) (bits : List Bool) (n : ℕ) → get_or (made N bits (suc n)) n false ≡ edge_value N bits (made N bits n) n
unfolding made
made-here N bits n =
    let e : n ≡ length (made N bits n) + 0 = omega (arith, length-made N bits n) in
    ap (λ (i : ℕ). get_or (made N bits (suc n)) i false) e ∙ get_or-append-add (made N bits n) (edge_value N bits (made N bits n) n ∷ []) 0 false

made-below : (N : Network) (bits : List Bool) (k d : ℕ) → AgreeBelow k (made N bits (d + k)) (made N bits k)
made-below N bits k zero j h = let e : zero + k ≡ k = omega arith in ap (λ (i : ℕ). get_or (made N bits i) j false) e
made-below N bits k (suc d) j h =
    let e : suc d + k ≡ suc (d + k) = omega arith in
    ap (λ (i : ℕ). get_or (made N bits i) j false) e ∙ made-more N bits (d + k) j (omega arith) ∙ made-below N bits k d j h

agree-to : (N : Network) (bits : List Bool) (k n : ℕ) → k ≤ n → AgreeBelow k (made N bits n) (made N bits k)
agree-to N bits k n h j low =
    let e : n ≡ (n - k) + k = omega arith in
    ap (λ (i : ℕ). get_or (made N bits i) j false) e ∙ made-below N bits k (n - k) j low

made-each : (N : Network) → IsNetwork N → (bits : List Bool) (i : ℕ) → i < length N.edges → get_or (made N bits (length N.edges)) i false ≡ edge_value N bits (made N bits (length N.edges)) i
made-each N net bits i h =
    agree-to N bits (suc i) (length N.edges) (omega arith) i (omega arith)
    ∙ made-here N bits i
    ∙ sym (value-local N net bits (made N bits (length N.edges)) (made N bits i) i h (λ j low. agree-to N bits i (length N.edges) (omega arith) j low))

-- the equation of an edge, by its number alone
valuation-at : (N : Network) → IsNetwork N → (bits values : List Bool) → IsValuation N bits values → (i : ℕ) → i < length N.edges → get_or values i false ≡ edge_value N bits values i
valuation-at N net bits values is i h =
    let e = edge_at N.edges i in
    let is_at = got-slice_get N.edges i no_edge h in
    let forward = goes-forward N net i e is_at in
    is.each i e (node_at N e.source) is_at (got-slice_get N.nodes e.source no_node (let a = forward.forward in let b = forward.within in omega arith))

valuations-agree : (N : Network) → IsNetwork N → (bits bs cs : List Bool) → IsValuation N bits bs → IsValuation N bits cs → (n : ℕ) → n ≤ length N.edges → AgreeBelow n bs cs
valuations-agree N net bits bs cs b c zero h j low = absurd (omega arith)
valuations-agree N net bits bs cs b c (suc n) h j low =
    let before = valuations-agree N net bits bs cs b c n (omega arith) in
    elim (cases_lt j n) [
      | inl below ↦ before j below
      | inr last ↦
          let here : j ≡ n = omega arith in
          let value : get_or bs n false ≡ get_or cs n false =
          valuation-at N net bits bs b n (omega arith) ∙ value-local N net bits bs cs n (omega arith) before ∙ sym (valuation-at N net bits cs c n (omega arith)) in
          subst (λ (m : ℕ). get_or bs m false ≡ get_or cs m false) (sym here) value
    ]

pub made-is : (N : Network) → IsNetwork N → (bits : List Bool) → IsValuation N bits (made N bits (length N.edges))
made-is N net bits = record {
  whole = length-made N bits (length N.edges);
  each = λ i e node at_edge at_node.
      let same_edge : edge_at N.edges i ≡ e = got-get_or N.edges i e no_edge at_edge in
      let same_node : node_at N e.source ≡ node = got-get_or N.nodes e.source node no_node at_node in
      let values = made N bits (length N.edges) in
      made-each N net bits i (got-within N.edges i e at_edge)
      ∙ ap (λ (x : Edge). gives (node_at N x.source).kind (operand_values N bits values x.source (node_at N x.source)) x.slot) same_edge
      ∙ ap (λ (x : Node). gives x.kind (operand_values N bits values e.source x) e.slot) same_node;
}

pub valuation-of : (N : Network) → IsNetwork N → (bits : List Bool) → IsOnlyValuation N bits (made N bits (length N.edges))
valuation-of N net bits = record {
  is = made-is N net bits;
  only = λ others is.
      let mine = made-is N net bits in
      ext_get_or false others (made N bits (length N.edges)) (is.whole ∙ sym mine.whole)
      (λ i h. valuations-agree N net bits others (made N bits (length N.edges)) is mine (length N.edges) (omega arith) i (omega (arith, is.whole)));
}

pub one-valuation : (N : Network) (bits : List Bool) → IsNetwork N → (values : List Bool) × IsOnlyValuation N bits values
one-valuation N bits net = (made N bits (length N.edges), valuation-of N net bits)

-- ---- the behaviour

-- the output node of a port
chosen : (N : Network) → IsNetwork N → (port : ℕ) → (port < output_count N) ⊎ (output_count N ≤ port) → ℕ
chosen N net port (inl low) = (net.outputs_all port low).0
chosen N net port (inr past) = 0

chosen-has : (N : Network) (net : IsNetwork N) (port : ℕ) (which : (port < output_count N) ⊎ (output_count N ≤ port)) → port < output_count N → HasPort N (chosen N net port which) Output port
unfolding chosen
chosen-has N net port (inl low) h = (net.outputs_all port low).1
chosen-has N net port (inr past) h = absurd (omega arith)

port_node : (N : Network) → IsNetwork N → ℕ → ℕ
port_node N net port = chosen N net port (cases_lt port (output_count N))

port-has : (N : Network) (net : IsNetwork N) (port : ℕ) → port < output_count N → HasPort N (port_node N net port) Output port
unfolding port_node
port-has N net port h = chosen-has N net port (cases_lt port (output_count N)) h

-- the value of each output, in port order
outputs_of : (N : Network) → IsNetwork N → List Bool → List Bool
outputs_of N net values = map (λ port. value_of values (edge_into N.edges (port_node N net port) 0)) (range_with_len 0 (output_count N))

some-gives : (N : Network) (net : IsNetwork N) (bits : List Bool) → NetworkGives (length bits) N bits (outputs_of N net (made N bits (length N.edges)))
unfolding outputs_of
some-gives N net bits = record {
  given = refl;
  values = made N bits (length N.edges);
  valuation = valuation-of N net bits;
  all = length-map-range_with_len _ 0 (output_count N);
  read = λ v port has.
      let low = net.outputs_within v port has in
      let same : port_node N net port ≡ v = net.outputs_apart (port_node N net port) v port (port-has N net port low) has in
      get_or-map-range_with_len (λ (p : ℕ). value_of (made N bits (length N.edges)) (edge_into N.edges (port_node N net p) 0)) 0 (output_count N) port port false low (zero-add port)
      ∙ ap (λ (u : ℕ). value_of (made N bits (length N.edges)) (edge_into N.edges u 0)) same;
}

one-gives : (inputs : ℕ) (N : Network) → IsNetwork N → (bits one other : List Bool) → NetworkGives inputs N bits one → NetworkGives inputs N bits other → other ≡ one
one-gives inputs N net bits one other a b =
    ext_get_or false other one (b.all ∙ sym a.all) (λ port h.
    let (v, has) = net.outputs_all port (omega (arith, b.all)) in
    let values : b.values ≡ a.values = a.valuation.only b.values b.valuation.is in
    b.read v port has
    ∙ ap (λ (x : List Bool). value_of x (edge_into N.edges v 0)) values
    ∙ sym (a.read v port has))

pub network-function : (inputs : ℕ) (N : Network) → IsNetwork N → IsFunction inputs (output_count N) (network_behaviour inputs N)
network-function inputs N net = record {
  one = λ bits given.
      let outputs = outputs_of N net (made N bits (length N.edges)) in
      let here : NetworkGives inputs N bits outputs = subst (λ (n : ℕ). NetworkGives n N bits outputs) given (some-gives N net bits) in
      (outputs, record { gives = here; only = λ others also. one-gives inputs N net bits outputs others here also });
  inputs_given = λ bits values here. here.given;
  outputs_given = λ bits values here. here.all;
}
