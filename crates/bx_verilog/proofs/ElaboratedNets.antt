-- The lists that a module gives make a net, where its names are driven once and none depends on itself.
use Rattle.std.proofs.Common.{◌≡◌, ℕ, ◌+◌, ◌-◌, ◌<◌, ◌≤◌, Bool, false, List, [], ◌∷◌, ◌++◌, map, flat_map, length, length-append, get_or, Contains, refl, sym, ap, ◌∙◌, subst, arith, inl, inr}
use Rattle.std.specs.Prelude.{nat_lt}
use Rattle.std.specs.List.{All, AllByRecursion}
use Rattle.std.specs.Str.{bytes_eq}
use Rattle.std.proofs.lemmas.Bool.{cases_lt}
use Rattle.std.proofs.lemmas.List.{length-map, get_or_default, get_or_past, get_or-append-add}
use Rattle.std.proofs.lemmas.Option.{slice_get-get_or}
use Rattle.std.proofs.lemmas.List.Elements.{All-append, All-map, All-weaker, All-contains, All-from_recursion, All-get_or, Contains-get_or}
use Rattle.std.proofs.lemmas.List.Quantifiers.{position-Some}
use Rattle.std.proofs.lemmas.List.Sums.{length-filter, count_by-le-length}
use Rattle.bx_logic.specs.declared.op.Op.TheVariants.{Not}
use Rattle.bx_logic.specs.declared.driver.Driver.{Driver}
use Rattle.bx_logic.specs.declared.driver.Driver.TheVariants.{Input, Constant, Gate}
use Rattle.bx_logic.specs.Nets.{arguments_of, driver_at, HasArity, IsDriver, IsAcyclic, IsNet, output_nets}
use Rattle.bx_logic.specs.Cycles.{ReadsNetsOnly}
use Rattle.bx_syntax.specs.declared.tree.Operator.{Operator}
use Rattle.bx_syntax.specs.declared.tree.Operator.TheVariants.{And, Or, Xor, Xnor}
use Rattle.bx_syntax.specs.declared.tree.Port.{Port}
use Rattle.bx_syntax.specs.Parts.{ModuleTree}
use Rattle.bx_syntax.specs.Texts.{IsTree}
use Rattle.bx_syntax.proofs.Sizes.{module_fits}
use Rattle.bx_verilog.specs.declared.role.Role.{Role}
use Rattle.bx_verilog.specs.declared.role.Role.TheVariants.{Read}
use Rattle.bx_verilog.specs.Formulas.{Text, Formula, named, constant, negation, pair, operation, names_of}
use Rattle.bx_verilog.specs.Drives.{Drive, drives}
use Rattle.bx_verilog.specs.Mentions.{names, number, count, is_input, is_output, ports_as, inputs, outputs}
use Rattle.bx_verilog.specs.Faults.{IsDriven}
use Rattle.bx_verilog.specs.Elaboration.{own, all_own, inner_size, net_number, own_drivers, net_numbers, all_own_drivers, inner_drivers, name_count, driver_of, net_of}
use Rattle.bx_verilog.proofs.Arity.{drive-arity}
use Rattle.bx_verilog.proofs.Driving.{IsGateOf, driver-cases, read-mention}
use Rattle.bx_verilog.proofs.Firsts.{same_texts, place-of}
use Rattle.bx_verilog.proofs.InnerNets.{length-drivers, driver-at-name, named-driver}
use Rattle.bx_logic.proofs.Members.{Member, Contains-from_member, Member-from_contains, Member-append_left, Member-append_right, AllByRecursion-from_member}
use Rattle.bx_verilog.proofs.Inputs.{port_names, port-named, input-at, inputs-distinct, once-driven}
use Rattle.bx_verilog.proofs.Places.{position-of}
use Rattle.bx_verilog.proofs.MentionSizes.{nets-fit}
use Rattle.bx_verilog.proofs.OwnNets.{inner_size-append}
use Rattle.bx_verilog.proofs.Numbering.{number-within, number-of, mentioned}

-- Numbers within the net.

module _ (numbered : Text → ℕ) (nets : ℕ) where
  -- the names of a formula have numbers of nets
  abbrev AreNumbered : Formula → Type 0
  AreNumbered x = (n : Text) → Member n (names_of x) → numbered n < nets

  abbrev AllNumbered : List Formula → Type 0
  AllNumbered xs = (n : Text) → Member n (flat_map names_of xs) → numbered n < nets

  net-within : (first : ℕ) (x : Formula) → AreNumbered x → first + own x ≤ nets → net_number numbered first x < nets
  net-within first (named n) are l = are n (inl refl)
  net-within first _ are l = omega arith

  nets-within : (first : ℕ) (xs : List Formula) → AllNumbered xs → first + all_own xs ≤ nets → AllByRecursion (λ k. k < nets) (net_numbers numbered first xs)
  nets-within first [] are l = tt
  nets-within first (x ∷ xs) are l = (
    net-within first x (λ n h. are n (Member-append_left n (names_of x) (flat_map names_of xs) h)) (omega arith),
    nets-within (first + own x) xs (λ n h. are n (Member-append_right n (names_of x) (flat_map names_of xs) h)) (omega arith),
  )

  operation-arity : (o : Operator) (a b : ℕ) → HasArity (operation o) (a ∷ b ∷ [])
  operation-arity And a b = omega arith
  operation-arity _ a b = omega arith

  one-driver : (d : Driver) → IsDriver 0 nets d → All (IsDriver 0 nets) (d ∷ [])
  one-driver d h = All-from_recursion (IsDriver 0 nets) (d ∷ []) (h, tt)

  all-within : (ks : List ℕ) → AllByRecursion (λ k. k < nets) ks → All (λ k. k < nets) ks
  all-within ks h = All-from_recursion (λ k. k < nets) ks h

  -- what drives the own nets of a formula drives no input
  own-are : (first : ℕ) (x : Formula) → AreNumbered x → first + own x ≤ nets → All (IsDriver 0 nets) (own_drivers numbered first x)
  own-are first (named n) are l = All-from_recursion (IsDriver 0 nets) [] tt
  own-are first (constant b) are l = one-driver (Constant b) tt
  own-are first (negation x) are l =
      All-append (IsDriver 0 nets) (own_drivers numbered first x) (Gate Not (net_number numbered first x ∷ []) ∷ [])
      (own-are first x are (omega arith))
      (one-driver (Gate Not (net_number numbered first x ∷ [])) (refl, all-within (net_number numbered first x ∷ []) (net-within first x are (omega arith), tt)))
  own-are first (pair o x y) are l =
      let left : AreNumbered x = λ n h. are n (Member-append_left n (names_of x) (names_of y) h) in
      let right : AreNumbered y = λ n h. are n (Member-append_right n (names_of x) (names_of y) h) in
      let ks = net_number numbered first x ∷ net_number numbered (first + own x) y ∷ [] in
      All-append (IsDriver 0 nets) (own_drivers numbered first x ++ own_drivers numbered (first + own x) y) (Gate (operation o) ks ∷ [])
      (All-append (IsDriver 0 nets) (own_drivers numbered first x) (own_drivers numbered (first + own x) y) (own-are first x left (omega arith)) (own-are (first + own x) y right (omega arith)))
      (one-driver (Gate (operation o) ks) (
        operation-arity o (net_number numbered first x) (net_number numbered (first + own x) y),
        all-within ks (net-within first x left (omega arith), (net-within (first + own x) y right (omega arith), tt)),
      ))

  all-own-are : (first : ℕ) (xs : List Formula) → AllNumbered xs → first + all_own xs ≤ nets → All (IsDriver 0 nets) (all_own_drivers numbered first xs)
  all-own-are first [] are l = All-from_recursion (IsDriver 0 nets) [] tt
  all-own-are first (x ∷ xs) are l =
      All-append (IsDriver 0 nets) (own_drivers numbered first x) (all_own_drivers numbered (first + own x) xs)
      (own-are first x (λ n h. are n (Member-append_left n (names_of x) (flat_map names_of xs) h)) (omega arith))
      (all-own-are (first + own x) xs (λ n h. are n (Member-append_right n (names_of x) (flat_map names_of xs) h)) (omega arith))

  inner-are : (first : ℕ) (ds : List Drive) → ((d : Drive) → Member d ds → AllNumbered d.arguments) → first + inner_size ds ≤ nets → All (IsDriver 0 nets) (inner_drivers numbered first ds)
  inner-are first [] are l = All-from_recursion (IsDriver 0 nets) [] tt
  inner-are first (d ∷ ds) are l =
      All-append (IsDriver 0 nets) (all_own_drivers numbered first d.arguments) (inner_drivers numbered (first + all_own d.arguments) ds)
      (all-own-are first d.arguments (are d (inl refl)) (omega arith))
      (inner-are (first + all_own d.arguments) ds (λ x h. are x (inr h)) (omega arith))

-- the number of nets
abbrev total : ModuleTree → ℕ
total m = length (net_of m).drivers

drive-numbered : (m : ModuleTree) (d : Drive) → Member d (drives m) → AllNumbered (number m) (total m) d.arguments
drive-numbered m d h n k =
    let read = read-mention m d n (Contains-from_member d (drives m) h) (Contains-from_member n (flat_map names_of d.arguments) k) in
    let within = number-within m n (mentioned m n Read read) in
    omega (arith, within, length-drivers m)

inner-drivers-are : (m : ModuleTree) → All (IsDriver 0 (total m)) (inner_drivers (number m) (name_count m) (drives m))
inner-drivers-are m = inner-are (number m) (total m) (name_count m) (drives m) (drive-numbered m) (omega (arith, length-drivers m))

-- the drive that a name's gate is of
gate-among : (m : ModuleTree) (n : Text) (g : Driver) (is : IsGateOf (number m) (name_count m) (drives m) n g) → Member is.drive (drives m)
gate-among m n g is =
    subst (λ ds. Member is.drive ds) (sym is.splits) (Member-append_right is.drive is.before (is.drive ∷ is.after) (inl refl))

gate-within : (m : ModuleTree) (n : Text) (g : Driver) (is : IsGateOf (number m) (name_count m) (drives m) n g) →
    All (λ k. k < total m) (net_numbers (number m) (name_count m + inner_size is.before) is.drive.arguments)
gate-within m n g is =
    let first = name_count m + inner_size is.before in
    let parts = ap inner_size is.splits ∙ inner_size-append is.before (is.drive ∷ is.after) in
    all-within (number m) (total m) (net_numbers (number m) first is.drive.arguments)
    (nets-within (number m) (total m) first is.drive.arguments (drive-numbered m is.drive (gate-among m n g is)) (omega (arith, parts, length-drivers m)))

reads-within : (inputs nets : ℕ) (d : Driver) → IsDriver inputs nets d → All (λ k. k < nets) (arguments_of d)
reads-within inputs nets (Input i) h = All-from_recursion (λ k. k < nets) [] tt
reads-within inputs nets (Constant b) h = All-from_recursion (λ k. k < nets) [] tt
reads-within inputs nets (Gate op ks) h = h.1

more-inputs : (inputs nets : ℕ) (d : Driver) → IsDriver 0 nets d → IsDriver inputs nets d
more-inputs inputs nets (Input i) h = absurd (omega arith)
more-inputs inputs nets (Constant b) h = tt
more-inputs inputs nets (Gate op ks) h = h

-- what drives a name reads nets of the list
name-reads : (m : ModuleTree) (n : Text) → All (λ k. k < total m) (arguments_of (driver_of m n))
name-reads m n =
    let Within = λ (d : Driver). All (λ k. k < total m) (arguments_of d) in
    elim (driver-cases m n) [
      | inl is ↦ subst Within (sym is.gate) (gate-within m n (driver_of m n) is)
      | inr (inl (i, place, e)) ↦ subst Within (sym e) (All-from_recursion (λ k. k < total m) [] tt)
      | inr (inr e) ↦ subst Within (sym e) (All-from_recursion (λ k. k < total m) [] tt)
    ]

all-names : (P : Driver → Type 0) (m : ModuleTree) → ((n : Text) → P (driver_of m n)) → All P (map (driver_of m) (names m))
all-names P m h = All-map P (driver_of m) (names m) (All-from_recursion (λ n. P (driver_of m n)) (names m) (AllByRecursion-from_member (λ n. P (driver_of m n)) (names m) (λ n i. h n)))

all-read-nets : (m : ModuleTree) → All (λ (d : Driver). All (λ k. k < total m) (arguments_of d)) (net_of m).drivers
all-read-nets m =
    let Within = λ (d : Driver). All (λ k. k < total m) (arguments_of d) in
    let inner = inner_drivers (number m) (name_count m) (drives m) in
    All-append Within (map (driver_of m) (names m)) inner (all-names Within m (name-reads m))
    (All-weaker (IsDriver 0 (total m)) Within (reads-within 0 (total m)) inner (inner-drivers-are m))

-- the nets of a module read its nets alone
pub reads-nets-only : (m : ModuleTree) → ReadsNetsOnly (net_of m).drivers
reads-nets-only m n k reads =
    let drivers = (net_of m).drivers in
    let Within = λ (d : Driver). All (λ k. k < total m) (arguments_of d) in
    elim (cases_lt n (total m)) [
      | inl l ↦ All-contains (λ k. k < total m) (arguments_of (driver_at drivers n)) k (All-get_or Within drivers n (Constant false) l (all-read-nets m)) reads
      | inr past ↦
          let none : driver_at drivers n ≡ Constant false = get_or_past drivers n (Constant false) past in
          let empty = subst (λ (d : Driver). Contains (arguments_of d) k) none reads in
          absurd (Member-from_contains k [] empty)
    ]

-- what drives a name is a driver
name-driver : (m : ModuleTree) → IsTree m → (n : Text) → IsDriver (length (inputs m)) (total m) (driver_of m n)
name-driver m tree n =
    let Is = IsDriver (length (inputs m)) (total m) in
    elim (driver-cases m n) [
      | inl is ↦
          let arity = drive-arity m tree is.drive (Contains-from_member is.drive (drives m) (gate-among m n (driver_of m n) is)) in
          subst Is (sym is.gate) (arity.1 (number m) (name_count m + inner_size is.before), gate-within m n (driver_of m n) is)
      | inr (inl (i, place, e)) ↦ subst Is (sym e) (position-Some (bytes_eq n) (inputs m) i [] place).0
      | inr (inr e) ↦ subst Is (sym e) tt
    ]

drivers-are : (m : ModuleTree) → IsTree m → All (IsDriver (length (inputs m)) (total m)) (net_of m).drivers
drivers-are m tree =
    let Is = IsDriver (length (inputs m)) (total m) in
    let inner = inner_drivers (number m) (name_count m) (drives m) in
    All-append Is (map (driver_of m) (names m)) inner (all-names Is m (name-driver m tree))
    (All-weaker (IsDriver 0 (total m)) Is (more-inputs (length (inputs m)) (total m)) inner (inner-drivers-are m))

-- Ports.

few-ports : (test : Role → Bool) (m : ModuleTree) → length (ports_as test m) ≤ length m.ports
few-ports test m =
    let p = λ (n : Text). nat_lt 0 (count test m n) in
    omega (arith, length-filter p (port_names m), count_by-le-length p (port_names m), length-map m.ports (λ (x : Port). x.name))

-- the nets of the outputs
outputs-within : (m : ModuleTree) → All (λ k. k < total m) (output_nets (net_of m))
outputs-within m =
    All-map (λ k. k < total m) (λ (x : Text × ℕ). x.1) (map (λ n. (n, number m n)) (outputs m))
    (All-map (λ (x : Text × ℕ). x.1 < total m) (λ n. (n, number m n)) (outputs m)
    (All-from_recursion (λ n. number m n < total m) (outputs m) (AllByRecursion-from_member (λ n. number m n < total m) (outputs m)
    (λ n h. let within = number-within m n (port-named is_output m n h) in omega (arith, within, length-drivers m)))))

pub few-nets : (m : ModuleTree) → IsTree m → total m < 4294967296
few-nets m tree = omega (arith, length-drivers m, nets-fit m, module_fits 256 m tree.terminals tree.is_module, tree.few)

pub few-of-ports : (test : Role → Bool) (m : ModuleTree) → IsTree m → length (ports_as test m) < 4294967296
few-of-ports test m tree = omega (arith, few-ports test m, module_fits 256 m tree.terminals tree.is_module, tree.few)

-- Inputs.

-- an input is driven by its number
input-numbered : (m : ModuleTree) → IsDriven m → (i : ℕ) → i < length (inputs m) → driver_of m (get_or (inputs m) i []) ≡ Input i
input-numbered m driven i l =
    let n = get_or (inputs m) i [] in
    let member = Member-from_contains n (inputs m) (Contains-get_or (inputs m) i [] l) in
    let place = place-of (inputs m) i n (inputs-distinct m driven.0.0.0) (slice_get-get_or (inputs m) i [] l) in
    input-at m n i (once-driven m driven.0.1 n) member (position-of (bytes_eq n) (inputs m) i place l)

not-input : (nets i : ℕ) (d : Driver) → IsDriver 0 nets d → d ≡ Input i → ⊥
not-input nets i (Input j) h e = omega arith
not-input nets i _ h e = cc

-- no other net is
only-input : (m : ModuleTree) (i k : ℕ) → i < length (inputs m) → driver_at (net_of m).drivers k ≡ Input i → k ≡ number m (get_or (inputs m) i [])
only-input m i k l e =
    let named_ones = map (driver_of m) (names m) in
    let inner = inner_drivers (number m) (name_count m) (drives m) in
    let n = get_or (inputs m) i [] in
    elim (cases_lt k (name_count m)) [
      | inl within ↦
          let other = get_or (names m) k [] in
          let at = driver-at-name m k other within (get_or_default (names m) k other [] within) in
          elim (driver-cases m other) [
            | inl is ↦ (let wrong : Gate is.drive.op (net_numbers (number m) (name_count m + inner_size is.before) is.drive.arguments) ≡ Input i = sym is.gate ∙ sym at ∙ e in cc)
            | inr (inl (j, place, is)) ↦
                let same : Input j ≡ Input i = sym is ∙ sym at ∙ e in
                let number_same : j ≡ i = cc in
                let passes = (position-Some (bytes_eq other) (inputs m) j [] place).1 in
                let text : other ≡ n = same_texts other (get_or (inputs m) j []) passes ∙ ap (λ x. get_or (inputs m) x []) number_same in
                sym (number-of m k other (slice_get-get_or (names m) k [] within)) ∙ ap (number m) text
            | inr (inr zero_driven) ↦ (let wrong : Constant false ≡ Input i = sym zero_driven ∙ sym at ∙ e in cc)
          ]
      | inr past ↦ elim (cases_lt k (total m)) [
        | inl low ↦
            let place : k ≡ length named_ones + (k - length named_ones) = omega (arith, length-map (names m) (driver_of m)) in
            let at = ap (driver_at (net_of m).drivers) place ∙ get_or-append-add named_ones inner (k - length named_ones) (Constant false) in
            let is = All-get_or (IsDriver 0 (total m)) inner (k - length named_ones) (Constant false) (omega (arith, length-append named_ones inner, length-map (names m) (driver_of m))) (inner-drivers-are m) in
            absurd (not-input (total m) i (driver_at inner (k - length named_ones)) is (sym at ∙ e))
        | inr high ↦
            let none : driver_at (net_of m).drivers k ≡ Constant false = get_or_past (net_of m).drivers k (Constant false) high in
            let wrong : Constant false ≡ Input i = sym none ∙ e in
            cc
      ]
    ]

pub is_net : (m : ModuleTree) → IsTree m → IsDriven m → IsAcyclic (net_of m).drivers → IsNet (net_of m)
is_net m tree driven acyclic = record {
  few_inputs = few-of-ports is_input m tree;
  few_outputs = omega (arith, few-of-ports is_output m tree, length-map {B = Text × ℕ} (outputs m) (λ n. (n, number m n)));
  few_nets = few-nets m tree;
  drivers = drivers-are m tree;
  outputs = outputs-within m;
  inputs = λ i l.
      let n = get_or (inputs m) i [] in
      let member = Member-from_contains n (inputs m) (Contains-get_or (inputs m) i [] l) in
      record {
        net = number m n;
        driven = named-driver m n (port-named is_input m n member) ∙ input-numbered m driven i l;
        only = λ k e. only-input m i k l e;
      };
  acyclic = acyclic;
}
