-- The net of a module has the values of the module's equations over names: a valuation of the net makes
-- one of the equations, and one of the equations makes one of the net, of which there is only one.
use Rattle.std.proofs.Common.{◌≡◌, ◌⊎◌, ℕ, suc, ◌+◌, ◌≤◌, Bool, true, false, List, [], ◌∷◌, ◌++◌, map, flat_map, length, position, Some, Contains, refl, sym, ap, ap₂, ◌∙◌, subst, arith, inl, inr, length-append}
use Rattle.std.specs.List.{AllZip}
use Rattle.std.specs.Str.{bytes_eq}
use Rattle.std.proofs.lemmas.Bool.{cases_lt}
use Rattle.std.proofs.lemmas.List.{length-map, get_or_append_left, get_or-map}
use Rattle.std.proofs.lemmas.Option.{get_or_from_slice_get}
use Rattle.bx_logic.specs.declared.driver.Driver.{Driver}
use Rattle.bx_logic.specs.declared.driver.Driver.TheVariants.{Input as InputDriver, Constant, Gate}
use Rattle.bx_logic.specs.Op.{op_value}
use Rattle.bx_logic.specs.Values.{value_of, driver_value, IsNetValuation, IsOnlyNetValuation, AreOutputValues}
use Rattle.bx_logic.proofs.Valuations.{only_valuation}
use Rattle.bx_syntax.specs.declared.tree.Direction.TheVariants.{Input, Output}
use Rattle.bx_syntax.specs.Parts.{ModuleTree}
use Rattle.bx_verilog.specs.declared.role.Role.{Role}
use Rattle.bx_verilog.specs.declared.role.Role.TheVariants.{Header, Directed, Wired, Driven, Read}
use Rattle.bx_verilog.specs.Formulas.{Text, formula_value, names_of}
use Rattle.bx_verilog.specs.Drives.{Drive, drives}
use Rattle.bx_verilog.specs.Mentions.{mentions, names, number, count, is_output, is_read, is_driven, inputs, outputs}
use Rattle.bx_verilog.specs.Faults.{IsDriven, IsAccepted}
use Rattle.bx_verilog.specs.Equations.{Equation, equations_of, module_of, Assignment, Meets, IsValuation, Gives}
use Rattle.bx_verilog.specs.Elaboration.{all_own, inner_size, net_numbers, all_own_drivers, inner_drivers, name_count, driver_of, net_of}
use Rattle.bx_logic.proofs.Members.{Member, Member-from_contains, Contains-from_member, Member-from_get_or, Member-map, Member-map_cases, Member-flat_map, Member-flat_map_cases, Member-append_right, AllByRecursion-from_member, member_of_AllByRecursion}
use Rattle.bx_verilog.proofs.Membership.{Member-splits}
use Rattle.bx_verilog.proofs.Numbering.{number-at, number-within, mentioned, count-some, count-mention}
use Rattle.bx_verilog.proofs.InnerNets.{length-drivers, named-driver}
use Rattle.bx_verilog.proofs.OwnNets.{length-all_own_drivers}
use Rattle.bx_verilog.proofs.Driving.{drive-mention, read-mention, mention-drive, IsGateOf, driver-of-target, driver-cases}
use Rattle.bx_verilog.proofs.ElaboratedNets.{reads-nets-only}
use Rattle.bx_verilog.proofs.Cyclic.{acyclic-net}
use Rattle.bx_verilog.proofs.FormulaValues.{AllFrom, AllFrom-left, AllFrom-right, AllFrom-append, AllFrom-at, AllFrom-from_at, IsMet, HasValue, all_own_values, length-all_own_values, values-of_met, values-of_own, met-all_own}
use Rattle.bx_verilog.proofs.Inputs.{port-passes, input-from_mention, input-mention, same-at_position, input-driver}

-- the values of the own nets of what the drives have
abbrev inner_values : (Text → Bool) → List Drive → List Bool
inner_values v [] = []
inner_values v (d ∷ ds) = all_own_values v d.arguments ++ inner_values v ds

length-inner_values : (v : Text → Bool) (ds : List Drive) → length (inner_values v ds) ≡ inner_size ds
length-inner_values v [] = refl
length-inner_values v (d ∷ ds) =
    length-append (all_own_values v d.arguments) (inner_values v ds)
    ∙ ap₂ (λ n k. n + k) (length-all_own_values v d.arguments) (length-inner_values v ds)

-- the own nets of one drive's arguments, with their drivers and with their values
drivers-at : (P : ℕ → Driver → Type 0) (numbered : Text → ℕ) (first next : ℕ) (before : List Drive) (d : Drive) (after : List Drive) →
    next ≡ first + inner_size before → AllFrom P first (inner_drivers numbered first (before ++ d ∷ after)) →
    AllFrom P next (all_own_drivers numbered next d.arguments)
drivers-at P numbered first next [] d after e h =
    let same : first ≡ next = omega arith in
    subst (λ (n : ℕ). AllFrom P n (all_own_drivers numbered n d.arguments)) same
    (AllFrom-left P first (all_own_drivers numbered first d.arguments) (inner_drivers numbered (first + all_own d.arguments) after) h)
drivers-at P numbered first next (b ∷ before) d after e h =
    drivers-at P numbered (first + all_own b.arguments) next before d after (omega arith)
    (AllFrom-right P first (first + all_own b.arguments) (all_own_drivers numbered first b.arguments)
    (inner_drivers numbered (first + all_own b.arguments) (before ++ d ∷ after))
    (omega (arith, length-all_own_drivers numbered first b.arguments)) h)

values-at : (P : ℕ → Bool → Type 0) (v : Text → Bool) (first next : ℕ) (before : List Drive) (d : Drive) (after : List Drive) →
    next ≡ first + inner_size before → AllFrom P first (inner_values v (before ++ d ∷ after)) → AllFrom P next (all_own_values v d.arguments)
values-at P v first next [] d after e h =
    let same : first ≡ next = omega arith in
    subst (λ (n : ℕ). AllFrom P n (all_own_values v d.arguments)) same
    (AllFrom-left P first (all_own_values v d.arguments) (inner_values v after) h)
values-at P v first next (b ∷ before) d after e h =
    values-at P v (first + all_own b.arguments) next before d after (omega arith)
    (AllFrom-right P first (first + all_own b.arguments) (all_own_values v b.arguments) (inner_values v (before ++ d ∷ after))
    (omega (arith, length-all_own_values v b.arguments)) h)

-- each name that a drive reads has its value in its net
abbrev AreRead : (Text → ℕ) → (ℕ → Bool) → (Text → Bool) → List Drive → Type 0
AreRead numbered nets v ds =
    (d : Drive) → Member d ds → (n : Text) → Member n (flat_map names_of d.arguments) → nets (numbered n) ≡ v n

-- where the own nets have the values of the formulas, their drivers are met
met-inner : (numbered : Text → ℕ) (bits : List Bool) (nets : ℕ → Bool) (v : Text → Bool) (first : ℕ) (ds : List Drive) →
    AllFrom (HasValue nets) first (inner_values v ds) → AreRead numbered nets v ds →
    AllFrom (IsMet bits nets) first (inner_drivers numbered first ds)
met-inner numbered bits nets v first [] h read = tt
met-inner numbered bits nets v first (d ∷ ds) h read =
    let next = first + all_own d.arguments in
    AllFrom-append (IsMet bits nets) first next (all_own_drivers numbered first d.arguments) (inner_drivers numbered next ds)
    (omega (arith, length-all_own_drivers numbered first d.arguments))
    (met-all_own numbered bits nets v first d.arguments
    (AllFrom-left (HasValue nets) first (all_own_values v d.arguments) (inner_values v ds) h) (read d (inl refl)))
    (met-inner numbered bits nets v next ds
    (AllFrom-right (HasValue nets) first next (all_own_values v d.arguments) (inner_values v ds)
    (omega (arith, length-all_own_values v d.arguments)) h)
    (λ e m. read e (inr m)))

-- where the names' nets have the values that drive them, their drivers are met
met-names : (bits : List Bool) (nets : ℕ → Bool) (f : Text → Bool) (g : Text → Driver) → ((n : Text) → f n ≡ driver_value bits nets (g n)) →
    (first : ℕ) (ns : List Text) → AllFrom (HasValue nets) first (map f ns) → AllFrom (IsMet bits nets) first (map g ns)
met-names bits nets f g is first [] h = tt
met-names bits nets f g is first (n ∷ ns) h = (h.0 ∙ is n, met-names bits nets f g is (suc first) ns h.1)

-- the equation of a drive for one of its targets
abbrev equation : Drive → Text → Equation
equation d n = record { target = n; op = d.op; arguments = d.arguments }

driven-role : (r : Role) → is_driven r ≡ true → (r ≡ Driven) ⊎ (r ≡ Directed Input)
driven-role (Directed Input) e = inr refl
driven-role Driven e = inl refl
driven-role _ e = cc

-- the value of a name's net: its own, but the constant where nothing but a constant drives it
abbrev settled : Driver → Bool → Bool
settled (Constant b) x = b
settled (InputDriver i) x = x
settled (Gate op args) x = x

module _ (m : ModuleTree) (good : IsDriven m) where
  few : (n : Text) → count is_driven m n ≤ 1
  few n =
      elim (cases_lt 1 (count is_driven m n)) [
        | inl two ↦ absurd (good.0.1 n (omega arith))
        | inr one ↦ one
      ]

  has_driver : (n : Text) → (1 ≤ count is_read m n) ⊎ (1 ≤ count is_output m n) → 1 ≤ count is_driven m n
  has_driver n needed =
      elim (cases_lt 0 (count is_driven m n)) [
        | inl some ↦ omega arith
        | inr none ↦ absurd (good.1 n (needed, omega arith))
      ]

  target-driver : (n : Text) (before : List Drive) (d : Drive) (after : List Drive) → drives m ≡ before ++ d ∷ after → Member n d.targets →
      driver_of m n ≡ Gate d.op (net_numbers (number m) (name_count m + inner_size before) d.arguments)
  target-driver n before d after e h = driver-of-target m n (few n) before d after e (Contains-from_member n d.targets h)

  -- what drives a name that the module drives is no constant
  target-settled : (n : Text) (d : Drive) → Member d (drives m) → Member n d.targets → (x : Bool) → settled (driver_of m n) x ≡ x
  target-settled n d among target x =
      let (before, after, e) = Member-splits d (drives m) among in
      ap (λ (g : Driver). settled g x) (target-driver n before d after e target)

  driven-settled : (n : Text) → 1 ≤ count is_driven m n → (x : Bool) → settled (driver_of m n) x ≡ x
  driven-settled n driven x =
      let (r, mention, t) = count-mention is_driven m n driven in
      elim (driven-role r t) [
        | inl e ↦ (
            let (d, among, target) = mention-drive m n (subst (λ (k : Role). Contains (mentions m) (n, k)) e mention) in
            target-settled n d (Member-from_contains d (drives m) among) (Member-from_contains n d.targets target) x
            )
        | inr e ↦ (
            let input = input-from_mention m n good.0.0.0 (subst (λ (k : Role). Contains (mentions m) (n, k)) e mention) in
            let (i, l, at, is) = input-driver m n (few n) input in
            ap (λ (g : Driver). settled g x) is
            )
      ]

  -- a valuation of the net makes one of the equations
  module _ (a : Assignment) (values : List Bool) (h : IsNetValuation (net_of m).drivers (map a (inputs m)) values) where
    abbrev bits : List Bool
    bits = map a (inputs m)

    abbrev net_value : Text → Bool
    net_value n = value_of values (number m n)

    met : AllFrom (IsMet bits (value_of values)) 0 (net_of m).drivers
    met =
        AllFrom-from_at (IsMet bits (value_of values)) 0 (net_of m).drivers (Constant false) (λ n k e l.
        let same : n ≡ k = omega arith in ap (value_of values) same ∙ h.each k l)

    name-met : (n : Text) → Contains (names m) n → net_value n ≡ driver_value bits (value_of values) (driver_of m n)
    name-met n c =
        h.each (number m n)
        (omega (arith, number-within m n c, length-append (map (driver_of m) (names m)) (inner_drivers (number m) (name_count m) (drives m)), length-map (names m) (driver_of m)))
        ∙ ap (driver_value bits (value_of values)) (named-driver m n c)

    input-given : (n : Text) → Member n (inputs m) → net_value n ≡ a n
    input-given n input =
        let (i, l, at, is) = input-driver m n (few n) input in
        name-met n (mentioned m n (Directed Input) (input-mention m n input))
        ∙ ap (driver_value bits (value_of values)) is
        ∙ get_or-map a (inputs m) i [] false l
        ∙ ap a at

    target-given : (n : Text) (d : Drive) → Member d (drives m) → Member n d.targets → Meets net_value (equation d n)
    target-given n d among target =
        let c = name_count m in
        let (before, after, e) = Member-splits d (drives m) among in
        let inner = AllFrom-right (IsMet bits (value_of values)) 0 c (map (driver_of m) (names m)) (inner_drivers (number m) c (drives m))
        (omega (arith, length-map (names m) (driver_of m))) met in
        let own = drivers-at (IsMet bits (value_of values)) (number m) c (c + inner_size before) before d after refl
        (subst (λ (ds : List Drive). AllFrom (IsMet bits (value_of values)) c (inner_drivers (number m) c ds)) e inner) in
        name-met n (mentioned m n Driven (drive-mention m d n (Contains-from_member d (drives m) among) (Contains-from_member n d.targets target)))
        ∙ ap (driver_value bits (value_of values)) (target-driver n before d after e target)
        ∙ ap (op_value d.op) (values-of_met (number m) bits (value_of values) (c + inner_size before) d.arguments own)

    equation-given : (e : Equation) → Member e (flat_map equations_of (drives m)) → Meets net_value e
    equation-given e among =
        let (d, drive, here) = Member-flat_map_cases equations_of e (drives m) among in
        let (n, target, same) = Member-map_cases (equation d) e d.targets here in
        subst (Meets net_value) same (target-given n d drive target)

    pub named-valuation : IsValuation (module_of m) a net_value
    named-valuation = record {
      inputs = AllByRecursion-from_member (λ n. net_value n ≡ a n) (inputs m) input-given;
      equations = AllByRecursion-from_member (Meets net_value) (flat_map equations_of (drives m)) equation-given;
    }

  -- a valuation of the equations makes one of the net
  module _ (a v : Assignment) (given : IsValuation (module_of m) a v) where
    abbrev name_value : Text → Bool
    name_value n = settled (driver_of m n) (v n)

    abbrev net_values : List Bool
    net_values = map name_value (names m) ++ inner_values v (drives m)

    abbrev nets : ℕ → Bool
    nets = value_of net_values

    pub value-of_name : (n : Text) → Contains (names m) n → nets (number m n) ≡ name_value n
    value-of_name n c =
        let within = number-within m n c in
        let at = get_or_from_slice_get (names m) (number m n) n [] (number-at m n c) in
        get_or_append_left (map name_value (names m)) (inner_values v (drives m)) false (number m n)
        (omega (arith, length-map (names m) name_value, within))
        ∙ get_or-map name_value (names m) (number m n) [] false within
        ∙ ap name_value at

    are-read : AreRead (number m) nets v (drives m)
    are-read d among n read =
        let mention = read-mention m d n (Contains-from_member d (drives m) among) (Contains-from_member n (flat_map names_of d.arguments) read) in
        value-of_name n (mentioned m n Read mention)
        ∙ driven-settled n (has_driver n (inl (count-some is_read m n Read mention refl))) (v n)

    stand : AllFrom (HasValue nets) 0 net_values
    stand =
        AllFrom-from_at (HasValue nets) 0 net_values false (λ n k e l. let same : n ≡ k = omega arith in ap nets same)

    inner-stand : AllFrom (HasValue nets) (name_count m) (inner_values v (drives m))
    inner-stand =
        AllFrom-right (HasValue nets) 0 (name_count m) (map name_value (names m)) (inner_values v (drives m))
        (omega (arith, length-map (names m) name_value)) stand

    -- a drive gives its targets the values that they have
    target-value : (n : Text) (d : Drive) → Member d (drives m) → Member n d.targets → v n ≡ op_value d.op (map (formula_value v) d.arguments)
    target-value n d among target =
        member_of_AllByRecursion (Meets v) (equation d n) (flat_map equations_of (drives m)) given.equations
        (Member-flat_map equations_of d (equation d n) (drives m) among (Member-map (equation d) n d.targets target))

    gate-value : (n : Text) → IsGateOf (number m) (name_count m) (drives m) n (driver_of m n) →
        name_value n ≡ driver_value (map a (inputs m)) nets (driver_of m n)
    gate-value n g =
        let c = name_count m in
        let here = c + inner_size g.before in
        let among : Member g.drive (drives m) =
        subst (λ (ds : List Drive). Member g.drive ds) (sym g.splits)
        (Member-append_right g.drive g.before (g.drive ∷ g.after) (inl refl)) in
        let target = Member-from_contains n g.drive.targets g.driven in
        let own = values-at (HasValue nets) v c here g.before g.drive g.after refl
        (subst (λ (ds : List Drive). AllFrom (HasValue nets) c (inner_values v ds)) g.splits inner-stand) in
        target-settled n g.drive among target (v n)
        ∙ target-value n g.drive among target
        ∙ sym (ap (op_value g.drive.op) (values-of_own (number m) (map a (inputs m)) nets v here g.drive.arguments own (are-read g.drive among)))
        ∙ sym (ap (driver_value (map a (inputs m)) nets) g.gate)

    input-value : (n : Text) (i : ℕ) → position (bytes_eq n) (inputs m) ≡ Some i → driver_of m n ≡ InputDriver i →
        name_value n ≡ driver_value (map a (inputs m)) nets (driver_of m n)
    input-value n i place is =
        let (l, at) = same-at_position (inputs m) n i n place in
        ap (λ (g : Driver). settled g (v n)) is
        ∙ member_of_AllByRecursion (λ k. v k ≡ a k) n (inputs m) given.inputs (Member-from_get_or n (inputs m) i l at)
        ∙ sym (ap a at)
        ∙ sym (get_or-map a (inputs m) i n false l)
        ∙ sym (ap (driver_value (map a (inputs m)) nets) is)

    name-value : (n : Text) → name_value n ≡ driver_value (map a (inputs m)) nets (driver_of m n)
    name-value n =
        elim (driver-cases m n) [
          | inl gate ↦ gate-value n gate
          | inr rest ↦ elim rest [
            | inl (i, place, is) ↦ input-value n i place is
            | inr is ↦ ap (λ (g : Driver). settled g (v n)) is ∙ sym (ap (driver_value (map a (inputs m)) nets) is)
          ]
        ]

    net-met : AllFrom (IsMet (map a (inputs m)) nets) 0 (net_of m).drivers
    net-met =
        let c = name_count m in
        let bits = map a (inputs m) in
        AllFrom-append (IsMet bits nets) 0 c (map (driver_of m) (names m)) (inner_drivers (number m) c (drives m))
        (omega (arith, length-map (names m) (driver_of m)))
        (met-names bits nets name_value (driver_of m) name-value 0 (names m)
        (AllFrom-left (HasValue nets) 0 (map name_value (names m)) (inner_values v (drives m)) stand))
        (met-inner (number m) bits nets v c (drives m) inner-stand are-read)

    pub net-valuation : IsNetValuation (net_of m).drivers (map a (inputs m)) net_values
    net-valuation = record {
      whole = length-append (map name_value (names m)) (inner_values v (drives m))
          ∙ ap₂ (λ n k. n + k) (length-map (names m) name_value) (length-inner_values v (drives m))
          ∙ sym (length-drivers m);
      each = λ n l. AllFrom-at (IsMet (map a (inputs m)) nets) 0 n (net_of m).drivers n (Constant false) (omega arith) l net-met;
    }

    pub value-of_driven : (n : Text) → 1 ≤ count is_driven m n → nets (number m n) ≡ v n
    value-of_driven n driven =
        let (r, mention, t) = count-mention is_driven m n driven in
        value-of_name n (mentioned m n r mention) ∙ driven-settled n driven (v n)

-- where the net has one valuation, a name that something drives has the value of its net
only-gives : (m : ModuleTree) → IsDriven m → (a : Assignment) (values : List Bool) →
    IsOnlyNetValuation (net_of m).drivers (map a (inputs m)) values → (n : Text) → 1 ≤ count is_driven m n →
    Gives (module_of m) a n (value_of values (number m n))
only-gives m good a values h n driven = record {
  some = (λ k. value_of values (number m k), named-valuation m good a values h.is);
  every = λ v given.
      let same = h.only (net_values m good a v given) (net-valuation m good a v given) in
      sym (value-of_driven m good a v given n driven) ∙ ap (λ (vs : List Bool). value_of vs (number m n)) same;
}

-- where nothing depends on itself, a valuation of the net is the one that there is
pub net-gives-driven : (m : ModuleTree) → IsAccepted m → (a : Assignment) (values : List Bool) →
    IsNetValuation (net_of m).drivers (map a (inputs m)) values → (n : Text) → 1 ≤ count is_driven m n →
    Gives (module_of m) a n (value_of values (number m n))
net-gives-driven m accepted a values h n driven =
    let drivers = (net_of m).drivers in
    let only = only_valuation drivers (map a (inputs m)) (acyclic-net m accepted.1) (reads-nets-only m) in
    only-gives m accepted.0 a values
    (record { is = h; only = λ others o. only.only others o ∙ sym (only.only values h) }) n driven

-- an output has a driver
output-driven : (m : ModuleTree) → IsDriven m → (n : Text) → Member n (outputs m) → 1 ≤ count is_driven m n
output-driven m good n h =
    has_driver m good n (inr (port-passes is_output m n h))

pub net-gives : (m : ModuleTree) → IsAccepted m → (a : Assignment) (values : List Bool) →
    IsNetValuation (net_of m).drivers (map a (inputs m)) values → (n : Text) → Contains (outputs m) n →
    Gives (module_of m) a n (value_of values (number m n))
net-gives m accepted a values h n among =
    net-gives-driven m accepted a values h n (output-driven m accepted.0 n (Member-from_contains n (outputs m) among))

-- what holds of each name and the value of its net holds along the list
each-output : (P : Text → Bool → Type 0) (numbered : Text → ℕ) (nets : ℕ → Bool) (ns : List Text) → ((n : Text) → Member n ns → P n (nets (numbered n))) →
    AllZip P ns (map nets (map (λ (output : Text × ℕ). output.1) (map (λ n. (n, numbered n)) ns)))
each-output P numbered nets [] h = tt
each-output P numbered nets (n ∷ ns) h = (h n (inl refl), each-output P numbered nets ns (λ k among. h k (inr among)))

pub net-gives-outputs : (m : ModuleTree) → IsDriven m → (a : Assignment) (outs : List Bool) →
    AreOutputValues (net_of m) (map a (inputs m)) outs → AllZip (Gives (module_of m) a) (outputs m) outs
net-gives-outputs m good a outs h =
    subst (λ (bs : List Bool). AllZip (Gives (module_of m) a) (outputs m) bs) (sym h.read)
    (each-output (Gives (module_of m) a) (number m) (value_of h.values) (outputs m)
    (λ n among. only-gives m good a h.values h.valuation n (output-driven m good n among)))
