-- Which names are the inputs of a module, and what drives them in its net.
use Rattle.std.proofs.Common.{◌≡◌, ◌≢◌, ℕ, ◌<◌, ◌≤◌, ◌&&◌, Bool, true, false, cond, List, [], ◌∷◌, map, flat_map, length, get_or, position, Contains, Option, Some, None, nat_lt, refl, sym, ap, ◌∙◌, subst, arith, inl, inr, lt-ltb}
use Rattle.std.specs.List.{count_by, position_or_len}
use Rattle.std.specs.Str.{bytes_eq}
use Rattle.std.specs.Cmp.Lexicographic.{bytes_decides}
use Rattle.std.proofs.Math.Bool.{and-true}
use Rattle.std.proofs.lemmas.Bool.{cases_lt}
use Rattle.std.proofs.lemmas.Bool.Decides.{nat_tests}
use Rattle.std.proofs.lemmas.List.Quantifiers.{position-Some}
use Rattle.std.proofs.lemmas.Option.{slice_get_within, get_or_from_slice_get}
use Rattle.bx_logic.specs.Lists.{AreDistinct}
use Rattle.bx_logic.specs.declared.driver.Driver.TheVariants.{Input as InputDriver}
use Rattle.bx_syntax.specs.declared.tree.Direction.{Direction}
use Rattle.bx_syntax.specs.declared.tree.Direction.TheVariants.{Input}
use Rattle.bx_syntax.specs.declared.tree.Port.{Port}
use Rattle.bx_syntax.specs.Trees.{Tree}
use Rattle.bx_syntax.specs.Parts.{PartTree, declaration, wire, assign, gate, copies, ModuleTree}
use Rattle.bx_verilog.specs.declared.role.Role.{Role}
use Rattle.bx_verilog.specs.declared.role.Role.TheVariants.{Header, Directed, Wired, Driven, Read}
use Rattle.bx_verilog.specs.Formulas.{Text, formula, names_of}
use Rattle.bx_verilog.specs.Drives.{parts_of}
use Rattle.bx_verilog.specs.Mentions.{Mention, all_as, direction_mentions, port_mentions, reads_mentions, part_mentions, mentions, count, is_header, is_directed, is_input, is_driven, names, ports_as, inputs}
use Rattle.bx_verilog.specs.Faults.{IsFree, HasTwoDrivers, HasPorts, twice_in_header, no_port}
use Rattle.bx_verilog.specs.Elaboration.{name_count, chosen, driver_of}
use Rattle.bx_verilog.proofs.Numbering.{mentioned, count-some, count-mention}
use Rattle.bx_verilog.proofs.Firsts.{same_bytes, text-at}
use Rattle.bx_verilog.proofs.Places.{position-of}
use Rattle.bx_logic.proofs.Members.{Member, Member-from_contains, Contains-from_member, Member-append_cases, Member-map, Member-map_cases, Member-flat_map_cases, Member-filter, Member-filter_cases, AllByRecursion-from_member}
use Rattle.bx_verilog.proofs.Membership.{AreDistinct-filter, count_by-some, counted, counted-append}
use Rattle.bx_verilog.proofs.Driving.{no-gate-of-input}

-- an expression has no port of the header, nor has any part behind the header
no-header-one : (k : Text) (r : Role) (x : Mention) → (k, r) ≡ x → is_header r ≡ false → is_header x.1 ≡ true → ⊥
no-header-one k r x e f t =
    let wrong : false ≡ true = sym f ∙ (ap (λ (y : Mention). is_header y.1) e ∙ t) in cc

no-header-read : (ns : List Text) (x : Mention) → Member x (all_as Read ns) → is_header x.1 ≡ true → ⊥
no-header-read ns x h t =
    let (k, among, e) = Member-map_cases (λ name. (name, Read)) x ns h in no-header-one k Read x e refl t

no-header-reads : (es : List Tree) (x : Mention) → Member x (flat_map (λ e. reads_mentions (formula e)) es) → is_header x.1 ≡ true → ⊥
no-header-reads es x h t =
    let (e, among, m) = Member-flat_map_cases (λ e. reads_mentions (formula e)) x es h in no-header-read (names_of (formula e)) x m t

no-header-part : (p : PartTree) (x : Mention) → Member x (part_mentions p) → is_header x.1 ≡ true → ⊥
no-header-part (declaration d k) x (inl e) t = no-header-one k (Directed d) x e refl t
no-header-part (declaration d k) x (inr h) t = h
no-header-part (wire k None) x (inl e) t = no-header-one k Wired x e refl t
no-header-part (wire k None) x (inr h) t = h
no-header-part (wire k (Some y)) x (inl e) t = no-header-one k Driven x e refl t
no-header-part (wire k (Some y)) x (inr h) t = no-header-read (names_of (formula y)) x h t
no-header-part (assign k y) x (inl e) t = no-header-one k Driven x e refl t
no-header-part (assign k y) x (inr h) t = no-header-read (names_of (formula y)) x h t
no-header-part (gate op k ys) x (inl e) t = no-header-one k Driven x e refl t
no-header-part (gate op k ys) x (inr h) t = no-header-reads ys x h t
no-header-part (copies op ns y) x h t =
    elim (Member-append_cases x (all_as Driven ns) (reads_mentions (formula y)) h) [
      | inl a ↦ (let (k, among, e) = Member-map_cases (λ name. (name, Driven)) x ns a in no-header-one k Driven x e refl t)
      | inr b ↦ no-header-read (names_of (formula y)) x b t
    ]

direction-name : (k : Text) (d : Option Direction) (x : Mention) → Member x (direction_mentions k d) → k ≡ x.0
direction-name k None x h = absurd h
direction-name k (Some d) x (inl e) = ap (λ (y : Mention). y.0) e
direction-name k (Some d) x (inr h) = absurd h

port-name : (p : Port) (x : Mention) → Member x (port_mentions p) → p.name ≡ x.0
port-name p x (inl e) = ap (λ (y : Mention). y.0) e
port-name p x (inr h) = direction-name p.name p.direction x h

-- the names of the header
abbrev pub port_names : ModuleTree → List Text
port_names m = map (λ (p : Port). p.name) m.ports

header-port : (m : ModuleTree) (x : Mention) → Member x (mentions m) → is_header x.1 ≡ true → Member x.0 (port_names m)
header-port m x h t =
    elim (Member-append_cases x (flat_map port_mentions m.ports) (flat_map part_mentions (parts_of m)) h) [
      | inl a ↦ (
          let (p, among, y) = Member-flat_map_cases port_mentions x m.ports a in
          subst (λ (n : Text). Member n (port_names m)) (port-name p x y) (Member-map (λ (q : Port). q.name) p m.ports among)
          )
      | inr b ↦ (let (p, among, y) = Member-flat_map_cases part_mentions x (parts_of m) b in absurd (no-header-part p x y t))
    ]

-- where the ports are good, what is declared as an input is one
pub input-from_mention : (m : ModuleTree) (n : Text) → HasPorts m → Contains (mentions m) (n, Directed Input) → Member n (inputs m)
input-from_mention m n ports h =
    let as_input = count-some is_input m n (Directed Input) h refl in
    let directed = count-some is_directed m n (Directed Input) h refl in
    let in_header : 1 ≤ count is_header m n =
    elim (cases_lt 0 (count is_header m n)) [
      | inl some ↦ omega arith
      | inr none ↦ absurd (ports n (no_port (omega arith) directed))
    ] in
    let (r, mention, t) = count-mention is_header m n in_header in
    Member-filter (λ k. nat_lt 0 (count is_input m k)) n (port_names m) (lt-ltb 0 (count is_input m n) (omega arith))
    (header-port m (n, r) (Member-from_contains (n, r) (mentions m) mention) t)

input-role : (r : Role) → is_input r ≡ true → r ≡ Directed Input
input-role (Directed Input) e = refl
input-role _ e = cc

-- a port that is declared so is a name, and counted
pub port-passes : (test : Role → Bool) (m : ModuleTree) (n : Text) → Member n (ports_as test m) → 1 ≤ count test m n
port-passes test m n h =
    let passes = (Member-filter_cases (λ (k : Text). nat_lt 0 (count test m k)) n (port_names m) h).1 in
    grind (arith, nat_tests)

pub port-named : (test : Role → Bool) (m : ModuleTree) (n : Text) → Member n (ports_as test m) → Contains (names m) n
port-named test m n h =
    let (r, c, t) = count-mention test m n (port-passes test m n h) in
    mentioned m n r c

-- an input is declared as one
pub input-mention : (m : ModuleTree) (n : Text) → Member n (inputs m) → Contains (mentions m) (n, Directed Input)
input-mention m n h =
    let (r, mention, t) = count-mention is_input m n (port-passes is_input m n h) in
    subst (λ (k : Role). Contains (mentions m) (n, k)) (input-role r t) mention

pub same-at_position : (xs : List Text) (n : Text) (i : ℕ) (d : Text) → position (bytes_eq n) xs ≡ Some i → (i < length xs) × (get_or xs i d ≡ n)
same-at_position xs n i d e =
    let found = position-Some (bytes_eq n) xs i d e in (found.0, sym ((bytes_decides n (get_or xs i d)).0 found.1))

-- an input that nothing else drives is driven by its place among the inputs
pub input-at : (m : ModuleTree) (n : Text) (i : ℕ) → count is_driven m n ≤ 1 → Member n (inputs m) → position (bytes_eq n) (inputs m) ≡ Some i →
    driver_of m n ≡ InputDriver i
input-at m n i few h at =
    let none = no-gate-of-input m n (name_count m) few (input-mention m n h) in
    ap (λ o. chosen o (position (bytes_eq n) (inputs m))) none ∙ ap (λ o. chosen None o) at

pub input-driver : (m : ModuleTree) (n : Text) → count is_driven m n ≤ 1 → Member n (inputs m) →
    (i : ℕ) × (i < length (inputs m)) × (get_or (inputs m) i [] ≡ n) × (driver_of m n ≡ InputDriver i)
input-driver m n few h =
    let i = position_or_len (bytes_eq n) (inputs m) in
    let here = text-at (inputs m) n (Contains-from_member n (inputs m) h) in
    let within = slice_get_within (inputs m) i n here in
    (i, within, get_or_from_slice_get (inputs m) i n [] here, input-at m n i few h (position-of (bytes_eq n) (inputs m) i refl within))

-- Where the ports are good, each input stands once among them.

-- the mentions by which a name stands in the header
abbrev in_header : Text → Mention → Bool
in_header n x = bytes_eq n x.0 && is_header x.1

ports-counted : (n : Text) (ps : List Port) → count_by (bytes_eq n) (map (λ (p : Port). p.name) ps) ≤ count_by (in_header n) (flat_map port_mentions ps)
ports-counted n [] = omega arith
ports-counted n (p ∷ ps) =
    let test : ◌≡◌ {A = ℕ} (cond (bytes_eq n p.name && true) 1 0) (cond (bytes_eq n p.name) 1 0) = ap (λ b. cond b 1 0) (and-true (bytes_eq n p.name)) in
    omega (
      arith,
      test,
      counted (bytes_eq n) p.name (map (λ (x : Port). x.name) ps),
      counted-append (in_header n) (port_mentions p) (flat_map port_mentions ps),
      counted (in_header n) (p.name, Header) (direction_mentions p.name p.direction),
      ports-counted n ps,
    )

port-once : (m : ModuleTree) → HasPorts m → (n : Text) → count_by (bytes_eq n) (port_names m) ≤ 1
port-once m good n =
    let all = counted-append (in_header n) (flat_map port_mentions m.ports) (flat_map part_mentions (parts_of m)) in
    elim (cases_lt 1 (count is_header m n)) [
      | inl twice ↦ absurd (good n (twice_in_header (omega (arith, twice))))
      | inr once ↦ omega (arith, all, once, ports-counted n m.ports)
    ]

distinct-counted : (ns : List Text) → ((n : Text) → count_by (bytes_eq n) ns ≤ 1) → AreDistinct ns
distinct-counted [] h = tt
distinct-counted (x ∷ xs) h = (
  AllByRecursion-from_member (λ y. y ≢ x) xs apart,
  distinct-counted xs (λ n. let once = h n in omega (arith, once, counted (bytes_eq n) x xs)),
)
  where
    apart : (y : Text) → Member y xs → y ≢ x
    apart y i e =
        let here : ◌≡◌ {A = ℕ} (cond (bytes_eq x x) 1 0) 1 = ap (λ b. cond b 1 0) (same_bytes x x refl) in
        let there = count_by-some (bytes_eq x) xs y (Contains-from_member y xs i) (same_bytes x y (sym e)) in
        let once = h x in
        omega (arith, once, here, there, counted (bytes_eq x) x xs)

pub inputs-distinct : (m : ModuleTree) → HasPorts m → AreDistinct (inputs m)
inputs-distinct m good = AreDistinct-filter (λ (n : Text). nat_lt 0 (count is_input m n)) (port_names m) (distinct-counted (port_names m) (port-once m good))

pub once-driven : (m : ModuleTree) → IsFree (HasTwoDrivers m) → (n : Text) → count is_driven m n ≤ 1
once-driven m free n = elim (cases_lt 1 (count is_driven m n)) [ inl twice ↦ absurd (free n (omega (arith, twice))) | inr once ↦ once ]
