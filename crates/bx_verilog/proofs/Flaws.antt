-- What the uses of a module's names say of its faults: a name shows a flaw exactly where it has it, and
-- some use is an output's exactly where some port is an output, as long as the ports are good.
use Rattle.std.proofs.Common.{◌≡◌, ◌⊎◌, ℕ, suc, ◌<◌, ◌≤◌, eqb, ltb, Bool, true, false, not, List, [], ◌∷◌, ◌++◌, map, filter, flat_map, length, get_or, take, drop, drop-cons, Option, Some, None, Contains, refl, sym, ap, ◌∙◌, subst, inl, inr, arith}
use Rattle.std.specs.Prelude.{All, ◌||◌}
use Rattle.std.specs.List.{list_any, position, position_or_len}
use Rattle.std.proofs.lemmas.Bool.{cases_Bool, cases_lt, false≢true, and_from, and_parts, or_cases, or_left, or_right, cond-true, cond-false}
use Rattle.std.proofs.lemmas.Bool.Decides.{nat_tests, Decides-ltb, Decides-eqb}
use Rattle.std.proofs.lemmas.List.{get_or-take, length-take-le, take-append-drop}
use Rattle.std.proofs.lemmas.List.Elements.{All-nil, All-cons, All-append, All-map, All-contains}
use Rattle.std.proofs.lemmas.List.Folds.{Any-from_list_any, list_any_at}
use Rattle.std.proofs.lemmas.List.Quantifiers.{position-Some}
use Rattle.std.proofs.lemmas.List.Sums.{fails_before_first, position_or_len_is}
use Rattle.bx_syntax.specs.Parts.{PartTree, declaration, wire, assign, gate, copies, ModuleTree}
use Rattle.bx_syntax.specs.declared.tree.Direction.{Direction}
use Rattle.bx_syntax.specs.declared.tree.Port.{Port as PortTree}
use Rattle.bx_verilog.specs.declared.check.Flaw.{Flaw}
use Rattle.bx_verilog.specs.declared.check.Flaw.TheVariants.{Port, Drivers, Undriven}
use Rattle.bx_verilog.specs.declared.fault.NetFault.{NetFault}
use Rattle.bx_verilog.specs.declared.fault.NetFault.TheVariants.{NoOutput}
use Rattle.bx_verilog.specs.declared.role.Role.{Role}
use Rattle.bx_verilog.specs.declared.role.Role.TheVariants.{Header, Directed, Wired, Driven, Read}
use Rattle.bx_verilog.specs.declared.uses.Uses.{Uses}
use Rattle.bx_verilog.specs.Formulas.{Text, formula, names_of}
use Rattle.bx_verilog.specs.Drives.{parts_of}
use Rattle.bx_verilog.specs.Mentions.{Mention, mentions, all_as, direction_mentions, port_mentions, part_mentions, reads_mentions, names, count, is_header, is_directed, is_output, is_driven, is_read, outputs}
use Rattle.bx_verilog.specs.Faults.{IsBadPort, twice_in_header, two_directions, no_direction, no_port, HasTwoDrivers, HasNoDriver, IsFree, IsLeast, HasPorts, HasOutput, IsDrivenOnce, IsDriven, IsFault}
use Rattle.bx_verilog.specs.Uses.{uses_among, AreUses}
use Rattle.bx_verilog.specs.Flaws.{shows, fault_of, IsFirst}
use Rattle.bx_verilog.proofs.Counting.{uses-at, same-length}
use Rattle.bx_verilog.proofs.Membership.{Contains-here, Contains-there, Contains-map, Contains-filter}
use Rattle.bx_verilog.proofs.Numbering.{mentioned, count-some, count-mention}

-- the first place that passes a test

pub position-at : {X : Type 0} (p : X → Bool) (xs : List X) (i : ℕ) (d : X) → i < length xs →
    ((k : ℕ) → k < i → p (get_or xs k d) ≡ false) → p (get_or xs i d) ≡ true → position p xs ≡ Some i
position-at p xs i d low fail pass =
    let e : position_or_len p xs ≡ i = position_or_len_is p xs i d (omega arith) fail (λ h. pass) in
    let within : ltb (position_or_len p xs) (length xs) ≡ true = (Decides-ltb (position_or_len p xs) (length xs)).1 (omega arith) in
    cond-true (ltb (position_or_len p xs) (length xs)) (Some (position_or_len p xs)) None within ∙ ap Some e

pub position-none : {X : Type 0} (p : X → Bool) (xs : List X) →
    ((k : ℕ) (d : X) → k < length xs → p (get_or xs k d) ≡ false) → position p xs ≡ None
position-none p [] fail = refl
position-none p (x ∷ xs) fail =
    let e : position_or_len p (x ∷ xs) ≡ length (x ∷ xs) =
    position_or_len_is p (x ∷ xs) (length (x ∷ xs)) x (omega arith) (λ k low. fail k x low) (λ h. absurd (omega arith)) in
    let past : ltb (position_or_len p (x ∷ xs)) (length (x ∷ xs)) ≡ false = grind (arith, nat_tests) in
    cond-false (ltb (position_or_len p (x ∷ xs)) (length (x ∷ xs))) (Some (position_or_len p (x ∷ xs))) None past

position-None : {X : Type 0} (p : X → Bool) (xs : List X) (k : ℕ) (d : X) → position p xs ≡ None → k < length xs → p (get_or xs k d) ≡ false
position-None p xs k d none low =
    elim (cases_lt (position_or_len p xs) (length xs)) [
      | inl within ↦
          let some = cond-true (ltb (position_or_len p xs) (length xs)) (Some (position_or_len p xs)) None ((Decides-ltb (position_or_len p xs) (length xs)).1 within) in
          cc
      | inr past ↦ fails_before_first p xs k d (omega arith)
    ]

-- a flaw and its counts

abbrev pub HasFlaw : Flaw → ModuleTree → Text → Type 0
HasFlaw Port = IsBadPort
HasFlaw Drivers = HasTwoDrivers
HasFlaw Undriven = HasNoDriver

bad_cases : (h d : ℕ) → (ltb 1 h || ltb 1 d || not (eqb h d)) ≡ true →
    ((2 ≤ h) ⊎ (2 ≤ d)) ⊎ (((1 ≤ h) × (d ≡ 0)) ⊎ ((h ≡ 0) × (1 ≤ d)))
bad_cases h d e = elim (cases_lt 1 h) [
  | inl twice ↦ inl (inl twice)
  | inr once ↦ elim (cases_lt 1 d) [
    | inl two ↦ inl (inr two)
    | inr one ↦ elim (cases_lt 0 h) [
      | inl some ↦ inr (inl (some, grind (arith, nat_tests)))
      | inr none ↦ inr (inr (omega arith, grind (arith, nat_tests)))
    ]
  ]
]

module _ (m : ModuleTree) (n : Text) where
  needs : (ltb 0 (count is_read m n) ≡ true) ⊎ (ltb 0 (count is_output m n) ≡ true) → (1 ≤ count is_read m n) ⊎ (1 ≤ count is_output m n)
  needs (inl e) = inl ((Decides-ltb 0 (count is_read m n)).0 e)
  needs (inr e) = inr ((Decides-ltb 0 (count is_output m n)).0 e)

  needed : (1 ≤ count is_read m n) ⊎ (1 ≤ count is_output m n) → (ltb 0 (count is_read m n) || ltb 0 (count is_output m n)) ≡ true
  needed (inl h) = or_left (ltb 0 (count is_read m n)) (ltb 0 (count is_output m n)) ((Decides-ltb 0 (count is_read m n)).1 h)
  needed (inr h) = or_right (ltb 0 (count is_read m n)) (ltb 0 (count is_output m n)) ((Decides-ltb 0 (count is_output m n)).1 h)

  pub shows-has : (flaw : Flaw) → shows flaw (uses_among (mentions m) n) ≡ true → HasFlaw flaw m n
  shows-has Port e = elim (bad_cases (count is_header m n) (count is_directed m n) e) [
    | inl twice ↦ elim twice [ inl h ↦ twice_in_header h | inr d ↦ two_directions d ]
    | inr one ↦ elim one [ inl h ↦ no_direction h.0 h.1 | inr d ↦ no_port d.0 d.1 ]
  ]
  shows-has Drivers e = (Decides-ltb 1 (count is_driven m n)).0 e
  shows-has Undriven e =
      let parts = and_parts (ltb 0 (count is_read m n) || ltb 0 (count is_output m n)) (eqb (count is_driven m n) 0) e in
      (needs (or_cases (ltb 0 (count is_read m n)) (ltb 0 (count is_output m n)) parts.0), (Decides-eqb (count is_driven m n) 0).0 parts.1)

  pub has-shows : (flaw : Flaw) → HasFlaw flaw m n → shows flaw (uses_among (mentions m) n) ≡ true
  has-shows Port (twice_in_header h) = grind (arith, nat_tests)
  has-shows Port (two_directions d) = grind (arith, nat_tests)
  has-shows Port (no_direction h d) = grind (arith, nat_tests)
  has-shows Port (no_port h d) = grind (arith, nat_tests)
  has-shows Drivers h = (Decides-ltb 1 (count is_driven m n)).1 h
  has-shows Undriven h =
      and_from (ltb 0 (count is_read m n) || ltb 0 (count is_output m n)) (eqb (count is_driven m n) 0) (needed h.0) ((Decides-eqb (count is_driven m n) 0).1 h.1)

  counted : (test : Role → Bool) → 1 ≤ count test m n → Contains (names m) n
  counted test h = let found = count-mention test m n h in mentioned m n found.0 found.1

  pub has-named : (flaw : Flaw) → HasFlaw flaw m n → Contains (names m) n
  has-named Port (twice_in_header h) = counted is_header (omega arith)
  has-named Port (two_directions d) = counted is_directed (omega arith)
  has-named Port (no_direction h d) = counted is_header h
  has-named Port (no_port h d) = counted is_directed d
  has-named Drivers h = counted is_driven (omega arith)
  has-named Undriven h = elim h.0 [ inl read ↦ counted is_read read | inr output ↦ counted is_output output ]

-- the first name that shows a flaw is the least that has it

module _ (m : ModuleTree) (all : List Text) (uses : List Uses) (are : AreUses m all uses) where
  abbrev unused : Uses
  unused = uses_among [] []

  pub none-free : (flaw : Flaw) → position (shows flaw) uses ≡ None → IsFree (HasFlaw flaw m)
  none-free flaw none n has =
      let (k, low, is) = subst (λ (ns : List Text). Contains ns n) (sym are.named) (has-named m n flaw has) in
      let at : get_or uses k unused ≡ uses_among (mentions m) n = uses-at m all uses are k n unused low ∙ ap (uses_among (mentions m)) is in
      let fails = position-None (shows flaw) uses k unused none (omega (arith, same-length m all uses are)) in
      false≢true (sym fails ∙ ap (shows flaw) at ∙ has-shows m n flaw has)

  -- it is named by its fault
  pub record Named (flaw : Flaw) (fault : NetFault) : Type 0 where
    pub name : Text
    pub is : fault ≡ fault_of flaw name
    pub least : IsLeast m (HasFlaw flaw m) name

  pub first-least : (flaw : Flaw) (fault : NetFault) → IsFirst flaw all uses fault → Named flaw fault
  first-least flaw fault first =
      let k = first.number in
      let (low, pass, fail) = position-Some (shows flaw) uses k unused first.first in
      let within : k < length all = omega (arith, same-length m all uses are) in
      let name = get_or all k [] in
      record {
        name = name;
        is = first.is;
        least = record {
          before = take k all;
          after = drop (suc k) all;
          splits = sym are.named ∙ sym (take-append-drop k all) ∙ ap (λ (rest : List Text). take k all ++ rest) (drop-cons all k [] within);
          has = shows-has m name flaw (sym (ap (shows flaw) (uses-at m all uses are k [] unused within)) ∙ pass);
          none = λ i d i_low has.
              let here : i < k = omega (arith, length-take-le k all (omega arith)) in
              let same : get_or (take k all) i d ≡ get_or all i d = get_or-take k all i d here in
              let at = uses-at m all uses are i d unused (omega arith) in
              false≢true (sym (fail i here) ∙ ap (shows flaw) (at ∙ ap (uses_among (mentions m)) (sym same)) ∙ has-shows m (get_or (take k all) i d) flaw has);
        };
      }

-- the outputs

filter-none : {X : Type 0} (p : X → Bool) (xs : List X) → ((x : X) → p x ≡ false) → filter p xs ≡ []
filter-none p [] fail = refl
filter-none p (x ∷ xs) fail = cond-false (p x) (x ∷ filter p xs) (filter p xs) (fail x) ∙ filter-none p xs fail

abbrev is_used_output : Uses → Bool
is_used_output u = ltb 0 u.output

pub no-outputs : (m : ModuleTree) (all : List Text) (uses : List Uses) → AreUses m all uses → list_any (λ (u : Uses). ltb 0 u.output) uses ≡ false → outputs m ≡ []
no-outputs m all uses are none =
    filter-none (λ (n : Text). ltb 0 (count is_output m n)) (map (λ (p : PortTree). p.name) m.ports) (λ n. elim (cases_Bool (ltb 0 (count is_output m n))) [
      | inr fail ↦ fail
      | inl pass ↦
          let named = counted m n is_output ((Decides-ltb 0 (count is_output m n)).0 pass) in
          let (k, low, is) = subst (λ (ns : List Text). Contains ns n) (sym are.named) named in
          let at : get_or uses k (uses_among [] []) ≡ uses_among (mentions m) n =
          uses-at m all uses are k n (uses_among [] []) low ∙ ap (uses_among (mentions m)) is in
          let some = list_any_at is_used_output uses k (uses_among [] []) (omega (arith, same-length m all uses are)) (ap is_used_output at ∙ pass) in
          absurd (false≢true (sym none ∙ some))
    ])

-- what is in the header is a port
abbrev IsPort : ModuleTree → Mention → Type 0
IsPort m x = is_header x.1 ≡ true → Contains (map (λ (p : PortTree). p.name) m.ports) x.0

All-flat_map : {X Y : Type 0} (P : Y → Type 0) (f : X → List Y) (xs : List X) → ((x : X) → Contains xs x → All P (f x)) → All P (flat_map f xs)
All-flat_map P f [] h = All-nil P
All-flat_map P f (x ∷ xs) h =
    All-append P (f x) (flat_map f xs) (h x (Contains-here x xs)) (All-flat_map P f xs (λ y among. h y (Contains-there x xs y among)))

module _ (m : ModuleTree) where
  all_as-ports : (r : Role) (ns : List Text) → is_header r ≡ false → All (IsPort m) (all_as r ns)
  all_as-ports r ns other = All-map (IsPort m) (λ n. (n, r)) ns (λ k d low e. absurd (false≢true (sym other ∙ e)))

  direction-ports : (n : Text) (d : Option Direction) → All (IsPort m) (direction_mentions n d)
  direction-ports n None = All-nil (IsPort m)
  direction-ports n (Some d) = all_as-ports (Directed d) (n ∷ []) refl

  driven-ports : (ns : List Text) (rest : List Mention) → All (IsPort m) rest → All (IsPort m) (all_as Driven ns ++ rest)
  driven-ports ns rest h = All-append (IsPort m) (all_as Driven ns) rest (all_as-ports Driven ns refl) h

  part-ports : (p : PartTree) → All (IsPort m) (part_mentions p)
  part-ports (declaration d n) = all_as-ports (Directed d) (n ∷ []) refl
  part-ports (wire n None) = all_as-ports Wired (n ∷ []) refl
  part-ports (wire n (Some e)) = driven-ports (n ∷ []) (reads_mentions (formula e)) (all_as-ports Read (names_of (formula e)) refl)
  part-ports (assign n e) = driven-ports (n ∷ []) (reads_mentions (formula e)) (all_as-ports Read (names_of (formula e)) refl)
  part-ports (gate op n es) =
      driven-ports (n ∷ []) (flat_map (λ e. reads_mentions (formula e)) es)
      (All-flat_map (IsPort m) (λ e. reads_mentions (formula e)) es (λ e among. all_as-ports Read (names_of (formula e)) refl))
  part-ports (copies op ns e) = driven-ports ns (reads_mentions (formula e)) (all_as-ports Read (names_of (formula e)) refl)

  named-ports : All (IsPort m) (mentions m)
  named-ports =
      All-append (IsPort m) (flat_map port_mentions m.ports) (flat_map part_mentions (parts_of m))
      (All-flat_map (IsPort m) port_mentions m.ports (λ p among.
      All-cons (IsPort m) (p.name, Header) (direction_mentions p.name p.direction)
      (λ e. Contains-map (λ (p : PortTree). p.name) m.ports p among) (direction-ports p.name p.direction)))
      (All-flat_map (IsPort m) part_mentions (parts_of m) (λ p among. part-ports p))

output-directed : (r : Role) → is_output r ≡ true → is_directed r ≡ true
output-directed (Directed d) e = refl
output-directed _ e = e

pub some-output : (m : ModuleTree) (all : List Text) (uses : List Uses) → AreUses m all uses → HasPorts m → list_any (λ (u : Uses). ltb 0 u.output) uses ≡ true → 0 < length (outputs m)
some-output m all uses are ports some =
    let (k, u, low, is, pass) = Any-from_list_any is_used_output uses some in
    let n = get_or all k [] in
    let at = uses-at m all uses are k [] u (omega (arith, same-length m all uses are)) in
    let passes : ltb 0 (count is_output m n) ≡ true = sym (ap is_used_output (sym is ∙ at)) ∙ pass in
    let (r, among, output) = count-mention is_output m n ((Decides-ltb 0 (count is_output m n)).0 passes) in
    let directed = count-some is_directed m n r among (output-directed r output) in
    let header : 1 ≤ count is_header m n = elim (cases_lt 0 (count is_header m n)) [
      | inl h ↦ h
      | inr h ↦ absurd (ports n (no_port (omega arith) directed))
    ] in
    let (role, there, is_there) = count-mention is_header m n header in
    let port = All-contains (IsPort m) (mentions m) (n, role) (named-ports m) there is_there in
    let (i, within, same) = Contains-filter (λ (n : Text). ltb 0 (count is_output m n)) (map (λ (p : PortTree). p.name) m.ports) n port passes in
    omega arith

-- the stages of the check, one after another

module _ (m : ModuleTree) (all : List Text) (uses : List Uses) (are : AreUses m all uses) where
  abbrev IsRuledOut : Flaw → Type 0
  IsRuledOut flaw = position (shows flaw) uses ≡ None

  pub port-fault : (fault : NetFault) → IsFirst Port all uses fault → IsFault m fault
  port-fault fault first = let named = first-least m all uses are Port fault first in subst (IsFault m) (sym named.is) named.least

  pub has-ports : IsRuledOut Port → HasPorts m
  has-ports none = none-free m all uses are Port none

  pub output-fault : IsRuledOut Port → list_any is_used_output uses ≡ false → IsFault m NoOutput
  output-fault ports none = (has-ports ports, no-outputs m all uses are none)

  pub has-output : IsRuledOut Port → list_any is_used_output uses ≡ true → HasOutput m
  has-output ports some = (has-ports ports, some-output m all uses are (has-ports ports) some)

  pub drivers-fault : HasOutput m → (fault : NetFault) → IsFirst Drivers all uses fault → IsFault m fault
  drivers-fault before fault first =
      let named = first-least m all uses are Drivers fault first in subst (IsFault m) (sym named.is) (before, named.least)

  pub is-driven_once : HasOutput m → IsRuledOut Drivers → IsDrivenOnce m
  is-driven_once before none = (before, none-free m all uses are Drivers none)

  pub undriven-fault : IsDrivenOnce m → (fault : NetFault) → IsFirst Undriven all uses fault → IsFault m fault
  undriven-fault before fault first =
      let named = first-least m all uses are Undriven fault first in subst (IsFault m) (sym named.is) (before, named.least)

  pub is-driven : IsDrivenOnce m → IsRuledOut Undriven → IsDriven m
  is-driven before none = (before, none-free m all uses are Undriven none)
