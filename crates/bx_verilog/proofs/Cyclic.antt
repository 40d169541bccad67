-- A name depends on itself by the equations of a module exactly where its net does, and a net that
-- depends on itself does so through one of a name, since an expression's net reads nets of its parts
-- alone, which have smaller numbers.
use Rattle.std.proofs.Common.{◌≡◌, ℕ, ◌+◌, ◌<◌, ◌≤◌, Some, List, [], ◌∷◌, ◌++◌, flat_map, length, get_or, take, drop, Contains, ◌⊎◌, inl, inr, refl, sym, ◌∙◌, ap, subst, arith}
use Rattle.std.specs.Prelude.{◌↔◌}
use Rattle.std.specs.List.{slice_get, All}
use Rattle.std.proofs.lemmas.Bool.{cases_lt}
use Rattle.std.proofs.lemmas.List.{length-take-le, get_or-take, get_or_default, take-append-drop, drop_more}
use Rattle.std.proofs.lemmas.List.Elements.{Contains-append_left, Contains-append_right, Contains-append_cases, Contains-get_or}
use Rattle.std.proofs.lemmas.Option.{slice_get-get_or, get_or_from_slice_get}
use Rattle.bx_logic.specs.declared.op.Op.{Op}
use Rattle.bx_logic.specs.declared.driver.Driver.{Driver}
use Rattle.bx_logic.specs.declared.driver.Driver.TheVariants.{Gate}
use Rattle.bx_logic.specs.Nets.{arguments_of, driver_at, Reads, DependsOn, directly, through, IsAcyclic}
use Rattle.bx_logic.specs.Cycles.{IsLeastOnCycle}
use Rattle.bx_logic.proofs.Cycles.{reader-within}
use Rattle.bx_syntax.specs.Parts.{ModuleTree}
use Rattle.bx_verilog.specs.declared.role.Role.TheVariants.{Driven, Read}
use Rattle.bx_verilog.specs.Formulas.{Text, Formula, named, constant, negation, pair, names_of}
use Rattle.bx_verilog.specs.Drives.{Drive, drives}
use Rattle.bx_verilog.specs.Mentions.{count, is_driven, names, number}
use Rattle.bx_verilog.specs.Faults.{HasTwoDrivers, IsDriven, IsFree, IsLeast, IsOnCycle, Reads as NameReads, DependsOn as NameDependsOn, directly as name_directly, through as name_through}
use Rattle.bx_verilog.specs.Elaboration.{inner_size, own, all_own, net_number, net_numbers, name_count, driver_of, net_of}
use Rattle.bx_verilog.proofs.Driving.{drive-mention, read-mention, driver-of-target, driver-cases, IsGateOf}
use Rattle.bx_verilog.proofs.InnerNets.{FormulaLies, FormulasLie, constant-lies, negation-lies, pair-lies, formulas-lie, arguments-lie, inner-net, named-driver}
use Rattle.bx_logic.proofs.Members.{Member-from_contains}
use Rattle.bx_verilog.proofs.Membership.{Member-splits, Contains-nil, Contains-here, Contains-there, Contains-cases}
use Rattle.bx_verilog.proofs.Numbering.{mentioned, number-at, number-of, number-within}

-- the only item
Contains-one : {X : Type 0} (y x : X) → Contains (y ∷ []) x → y ≡ x
Contains-one y x c = elim (Contains-cases y [] x c) [ inl e ↦ e | inr none ↦ absurd (Contains-nil x none) ]

-- an item among others
Contains-between : {X : Type 0} (xs before : List X) (x : X) (after : List X) → xs ≡ before ++ x ∷ after → Contains xs x
Contains-between xs before x after e =
    subst (λ (ys : List _). Contains ys x) (sym e) (Contains-append_right before (x ∷ after) x (Contains-here x after))

at-splits : {X : Type 0} (xs : List X) (k : ℕ) (x : X) → k < length xs → get_or xs k x ≡ x → xs ≡ take k xs ++ x ∷ drop (k + 1) xs
at-splits xs k x l e =
    sym (take-append-drop k xs)
    ∙ ap (λ (ys : List _). take k xs ++ ys) (drop_more xs k x l ∙ ap (λ (y : _). y ∷ drop (k + 1) xs) e)

depends-both : (drivers : List Driver) (n k m : ℕ) → DependsOn drivers n k → DependsOn drivers k m → DependsOn drivers n m
depends-both drivers _ _ m (directly n k r) d = through n k m r d
depends-both drivers _ _ m (through n j k r c) d = through n j m r (depends-both drivers j k m c d)

depends-within : (drivers : List Driver) (n m : ℕ) → DependsOn drivers n m → n < length drivers
depends-within drivers _ _ (directly n m r) = reader-within drivers n m r
depends-within drivers _ _ (through n k m r d) = reader-within drivers n k r

-- the net of a formula is that of each of its names, or depends on it
module _ (numbered : Text → ℕ) (drivers : List Driver) where
  abbrev Reaches : ℕ → Text → Type 0
  Reaches k n = (k ≡ numbered n) ⊎ DependsOn drivers k (numbered n)

  gate-reads : (k j : ℕ) (op : Op) (args : List ℕ) → driver_at drivers k ≡ Gate op args → Contains args j → Reads drivers k j
  gate-reads k j op args e c = subst (λ (d : Driver). Contains (arguments_of d) j) (sym e) c

  reads-reaches : (k j : ℕ) (n : Text) → Reads drivers k j → Reaches j n → DependsOn drivers k (numbered n)
  reads-reaches k j n r (inl e) = directly k (numbered n) (subst (λ (i : ℕ). Reads drivers k i) e r)
  reads-reaches k j n r (inr d) = through k j (numbered n) r d

  formula-reaches : (first : ℕ) (f : Formula) (n : Text) → FormulaLies numbered drivers first f → Contains (names_of f) n →
      Reaches (net_number numbered first f) n
  formula-reaches first (named k) n h c = inl (ap numbered (Contains-one k n c))
  formula-reaches first (constant b) n h c = absurd (Contains-nil n c)
  formula-reaches first (negation f) n h c =
      let a = net_number numbered first f in
      let lies = negation-lies numbered drivers first f h in
      inr (reads-reaches _ a n (gate-reads _ a _ (a ∷ []) lies.1 (Contains-here a [])) (formula-reaches first f n lies.0 c))
  formula-reaches first (pair o f g) n h c =
      let a = net_number numbered first f in
      let b = net_number numbered (first + own f) g in
      let lies = pair-lies numbered drivers first o f g h in
      elim (Contains-append_cases (names_of f) (names_of g) n c) [
        | inl i ↦ inr (reads-reaches _ a n (gate-reads _ a _ (a ∷ b ∷ []) lies.2 (Contains-here a (b ∷ []))) (formula-reaches first f n lies.0 i))
        | inr i ↦ inr (reads-reaches _ b n (gate-reads _ b _ (a ∷ b ∷ []) lies.2 (Contains-there a (b ∷ []) b (Contains-here b [])))
            (formula-reaches (first + own f) g n lies.1 i))
      ]

  arguments-reach : (first : ℕ) (fs : List Formula) (n : Text) → FormulasLie numbered drivers first fs → Contains (flat_map names_of fs) n →
      (k : ℕ) × Contains (net_numbers numbered first fs) k × Reaches k n
  arguments-reach first [] n h c = absurd (Contains-nil n c)
  arguments-reach first (f ∷ fs) n h c =
      let a = net_number numbered first f in
      let rest = net_numbers numbered (first + own f) fs in
      let lies = formulas-lie numbered drivers first f fs h in
      elim (Contains-append_cases (names_of f) (flat_map names_of fs) n c) [
        | inl i ↦ (a, Contains-here a rest, formula-reaches first f n lies.0 i)
        | inr i ↦ (let k = arguments-reach (first + own f) fs n lies.1 i in (k.0, Contains-there a rest k.0 k.1, k.2))
      ]

module _ (m : ModuleTree) where
  abbrev drivers_of : List Driver
  drivers_of = (net_of m).drivers

  -- these are names of the module
  abbrev AreNames : List Text → Type 0
  AreNames ns = (n : Text) → Contains ns n → Contains (names m) n

  read-names : (d : Drive) → Contains (drives m) d → AreNames (flat_map names_of d.arguments)
  read-names d among n c = mentioned m n Read (read-mention m d n among c)

  reads-depends : (n other : Text) → IsFree (HasTwoDrivers m) → NameReads m n other → DependsOn drivers_of (number m n) (number m other)
  reads-depends n other once r =
      let d = r.drive in
      let place = Member-splits d (drives m) (Member-from_contains d (drives m) r.among) in
      let first = name_count m + inner_size place.0 in
      let few : count is_driven m n ≤ 1 = elim (cases_lt (count is_driven m n) 2) [ inl l ↦ omega arith | inr l ↦ absurd (once n l) ] in
      let gate = named-driver m n (mentioned m n Driven (drive-mention m d n r.among r.driven)) ∙ driver-of-target m n few place.0 d place.1 place.2 r.driven in
      let reached = arguments-reach (number m) drivers_of first d.arguments other (arguments-lie m place.0 d place.1 place.2) r.read in
      reads-reaches (number m) drivers_of (number m n) reached.0 other
      (gate-reads (number m) drivers_of (number m n) reached.0 d.op (net_numbers (number m) first d.arguments) gate reached.1) reached.2

  names-depend : (n other : Text) → IsFree (HasTwoDrivers m) → NameDependsOn m n other → DependsOn drivers_of (number m n) (number m other)
  names-depend _ _ once (name_directly n k r) = reads-depends n k once r
  names-depend _ _ once (name_through n k l r d) =
      depends-both drivers_of (number m n) (number m k) (number m l) (reads-depends n k once r) (names-depend k l once d)

  same-number : (n other : Text) → Contains (names m) n → Contains (names m) other → number m n ≡ number m other → n ≡ other
  same-number n other c d e =
      let a = number-at m n c in
      let b = number-at m other d in
      let f : slice_get (names m) (number m n) ≡ slice_get (names m) (number m other) = ap (slice_get (names m)) e in
      cc

  round : (k : ℕ) (n : Text) → DependsOn drivers_of k k → (number m n ≡ k) ⊎ DependsOn drivers_of (number m n) k → Reaches (number m) drivers_of k n →
      DependsOn drivers_of (number m n) (number m n)
  round k n d (inl e) there = subst (λ (i : ℕ). DependsOn drivers_of i i) (sym e) d
  round k n d (inr back) (inl e) = subst (λ (i : ℕ). DependsOn drivers_of (number m n) i) e back
  round k n d (inr back) (inr there) = depends-both drivers_of (number m n) k (number m n) back there

  -- the net of a part of an expression, all of whose names are among these
  record IsPartNet (ns : List Text) (k : ℕ) : Type 0 where
    formula : Formula
    first : ℕ
    behind : name_count m ≤ first
    lies : FormulaLies (number m) drivers_of first formula
    is : k ≡ net_number (number m) first formula
    among : (n : Text) → Contains (names_of formula) n → Contains ns n

  part-wider : (ns more : List Text) (k : ℕ) → ((n : Text) → Contains ns n → Contains more n) → IsPartNet ns k → IsPartNet more k
  part-wider ns more k wider part = record {
    formula = part.formula;
    first = part.first;
    behind = part.behind;
    lies = part.lies;
    is = part.is;
    among = λ n c. wider n (part.among n c);
  }

  -- a part's net is below what stands behind it
  net-below : (first : ℕ) (f : Formula) → AreNames (names_of f) → name_count m ≤ first → net_number (number m) first f < first + own f
  net-below first (named n) are h = let l = number-within m n (are n (Contains-here n [])) in omega (arith, l)
  net-below first _ are h = omega arith

  -- it is a name's net, or reads a net of a part of it, which has a smaller number
  abbrev ReadsPart : List Text → ℕ → ℕ → Type 0
  ReadsPart ns k j = ((n : Text) × Contains ns n × (k ≡ number m n)) ⊎ (IsPartNet ns j × (j < k))

  formula-reads : (ns : List Text) (first : ℕ) (f : Formula) (j : ℕ) → AreNames ns → name_count m ≤ first → FormulaLies (number m) drivers_of first f →
      ((n : Text) → Contains (names_of f) n → Contains ns n) → Reads drivers_of (net_number (number m) first f) j →
      ReadsPart ns (net_number (number m) first f) j
  formula-reads ns first (named n) j are l h among r = inl (n, among n (Contains-here n []), refl)
  formula-reads ns first (constant b) j are l h among r = absurd (Contains-nil j (subst (λ (d : Driver). Contains (arguments_of d) j) (constant-lies (number m) drivers_of first b h) r))
  formula-reads ns first (negation f) j are l h among r =
      let a = net_number (number m) first f in
      let lies = negation-lies (number m) drivers_of first f h in
      let e : a ≡ j = Contains-one a j (subst (λ (d : Driver). Contains (arguments_of d) j) lies.1 r) in
      let low = net-below first f (λ n c. are n (among n c)) l in
      inr (record { formula = f; first = first; behind = l; lies = lies.0; is = sym e; among = among }, omega arith)
  formula-reads ns first (pair o f g) j are l h among r =
      let a = net_number (number m) first f in
      let b = net_number (number m) (first + own f) g in
      let lies = pair-lies (number m) drivers_of first o f g h in
      let left = λ (n : Text) (c : Contains (names_of f) n). among n (Contains-append_left (names_of f) (names_of g) n c) in
      let right = λ (n : Text) (c : Contains (names_of g) n). among n (Contains-append_right (names_of f) (names_of g) n c) in
      let low = net-below first f (λ n c. are n (left n c)) l in
      let next = net-below (first + own f) g (λ n c. are n (right n c)) (omega arith) in
      elim (Contains-cases a (b ∷ []) j (subst (λ (d : Driver). Contains (arguments_of d) j) lies.2 r)) [
        | inl e ↦ inr (record { formula = f; first = first; behind = l; lies = lies.0; is = sym e; among = left }, omega arith)
        | inr c ↦ (
            let e = Contains-one b j c in
            inr (record { formula = g; first = first + own f; behind = omega arith; lies = lies.1; is = sym e; among = right }, omega arith)
            )
      ]

  part-reads : (ns : List Text) (k j : ℕ) → AreNames ns → IsPartNet ns k → Reads drivers_of k j → ReadsPart ns k j
  part-reads ns k j are part r =
      subst (λ (i : ℕ). ReadsPart ns i j) (sym part.is)
      (formula-reads ns part.first part.formula j are part.behind part.lies part.among (subst (λ (i : ℕ). Reads drivers_of i j) part.is r))

  -- where it is a name's, that is the only name of the part
  formula-at-name : (ns : List Text) (first : ℕ) (f : Formula) (n : Text) → AreNames ns → name_count m ≤ first →
      ((k : Text) → Contains (names_of f) k → Contains ns k) → Contains (names m) n → number m n ≡ net_number (number m) first f → Contains ns n
  formula-at-name ns first (named k) n are l among c e =
      let i = among k (Contains-here k []) in subst (λ (x : Text). Contains ns x) (same-number k n (are k i) c (sym e)) i
  formula-at-name ns first _ n are l among c e = let h = number-within m n c in absurd (omega (arith, h))

  part-at-name : (ns : List Text) (n : Text) → AreNames ns → IsPartNet ns (number m n) → Contains (names m) n → Contains ns n
  part-at-name ns n are part c = formula-at-name ns part.first part.formula n are part.behind part.among c part.is

  argument-part : (first : ℕ) (fs : List Formula) (k : ℕ) → name_count m ≤ first → FormulasLie (number m) drivers_of first fs →
      Contains (net_numbers (number m) first fs) k → IsPartNet (flat_map names_of fs) k
  argument-part first [] k l h c = absurd (Contains-nil k c)
  argument-part first (f ∷ fs) k l h c =
      let a = net_number (number m) first f in
      let lies = formulas-lie (number m) drivers_of first f fs h in
      elim (Contains-cases a (net_numbers (number m) (first + own f) fs) k c) [
        | inl e ↦ record {
          formula = f;
          first = first;
          behind = l;
          lies = lies.0;
          is = sym e;
          among = λ n d. Contains-append_left (names_of f) (flat_map names_of fs) n d;
        }
        | inr i ↦ part-wider (flat_map names_of fs) (flat_map names_of (f ∷ fs)) k
            (λ n d. Contains-append_right (names_of f) (flat_map names_of fs) n d) (argument-part (first + own f) fs k (omega arith) lies.1 i)
      ]

  -- what a name's net reads is the net of an argument of what drives the name
  record ReadsArgument (n : Text) (k : ℕ) : Type 0 where
    drive : Drive
    among : Contains (drives m) drive
    driven : Contains drive.targets n
    part : IsPartNet (flat_map names_of drive.arguments) k

  gate-argument : (n : Text) (k : ℕ) → IsGateOf (number m) (name_count m) (drives m) n (driver_of m n) → Contains (arguments_of (driver_of m n)) k →
      ReadsArgument n k
  gate-argument n k is c = record {
    drive = is.drive;
    among = Contains-between (drives m) is.before is.drive is.after is.splits;
    driven = is.driven;
    part = argument-part (name_count m + inner_size is.before) is.drive.arguments k (omega arith)
        (arguments-lie m is.before is.drive is.after is.splits) (subst (λ (d : Driver). Contains (arguments_of d) k) is.gate c);
  }

  name-reads : (n : Text) (k : ℕ) → Contains (names m) n → Reads drivers_of (number m n) k → ReadsArgument n k
  name-reads n k c r =
      let reads = subst (λ (d : Driver). Contains (arguments_of d) k) (named-driver m n c) r in
      elim (driver-cases m n) [
        | inl is ↦ gate-argument n k is reads
        | inr (inl input) ↦ absurd (Contains-nil k (subst (λ (d : Driver). Contains (arguments_of d) k) input.2 reads))
        | inr (inr none) ↦ absurd (Contains-nil k (subst (λ (d : Driver). Contains (arguments_of d) k) none reads))
      ]

  -- one of these names is the other, or depends on it
  abbrev Come : List Text → Text → Type 0
  Come ns other = (n : Text) × Contains ns n × ((n ≡ other) ⊎ NameDependsOn m n other)

  -- a net from which the other name's is met, as the net of a part of an expression
  abbrev PartsCome : ℕ → Text → Type 0
  PartsCome k other = (ns : List Text) → AreNames ns → IsPartNet ns k → Come ns other

  depends-by : (n k other : Text) → NameReads m n k → (k ≡ other) ⊎ NameDependsOn m k other → NameDependsOn m n other
  depends-by n k other r (inl e) = name_directly n other (subst (λ (x : Text). NameReads m n x) e r)
  depends-by n k other r (inr d) = name_through n k other r d

  name-step : (n other : Text) (k : ℕ) → Contains (names m) n → Reads drivers_of (number m n) k → PartsCome k other → NameDependsOn m n other
  name-step n other k c r next =
      let a = name-reads n k c r in
      let met = next (flat_map names_of a.drive.arguments) (read-names a.drive a.among) a.part in
      depends-by n met.0 other (record { drive = a.drive; among = a.among; driven = a.driven; read = met.1 }) met.2

  part-step : (k j : ℕ) (other : Text) → Reads drivers_of k j → PartsCome j other → PartsCome k other
  part-step k j other r next ns are part =
      elim (part-reads ns k j are part r) [
        | inl here ↦ (
          here.0,
          here.1,
          inr (name-step here.0 other j (are here.0 here.1) (subst (λ (i : ℕ). Reads drivers_of i j) here.2 r) next),
        )
        | inr below ↦ next ns are below.0
      ]

  -- where a net depends on a name's, so do the names
  nets-depend : (k j : ℕ) → DependsOn drivers_of k j → (other : Text) → Contains (names m) other → j ≡ number m other →
      PartsCome k other × ((n : Text) → Contains (names m) n → k ≡ number m n → NameDependsOn m n other)
  nets-depend _ _ (directly k j r) other c e =
      let next : PartsCome j other = λ ns are part.
      (other, part-at-name ns other are (subst (λ (i : ℕ). IsPartNet ns i) e part) c, inl refl) in (
        part-step k j other r next,
        λ n d is. name-step n other j d (subst (λ (i : ℕ). Reads drivers_of i j) is r) next,
      )
  nets-depend _ _ (through k i j r d) other c e =
      let next = (nets-depend i j d other c e).0 in (
        part-step k i other r next,
        λ n h is. name-step n other i h (subst (λ (l : ℕ). Reads drivers_of l i) is r) next,
      )

  cycle-of-name : (n : Text) → Contains (names m) n → DependsOn drivers_of (number m n) (number m n) → IsOnCycle m n
  cycle-of-name n c d = (nets-depend (number m n) (number m n) d n c refl).1 n c refl

  -- from a part's net on, numbers fall until a name's net is met
  abbrev Passes : List Text → ℕ → Type 0
  Passes ns j = (n : Text) × Contains ns n × ((number m n ≡ j) ⊎ DependsOn drivers_of (number m n) j)

  falls : (k j : ℕ) → DependsOn drivers_of k j → (ns : List Text) → AreNames ns → IsPartNet ns k → (j < k) ⊎ Passes ns j
  falls _ _ (directly k j r) ns are part =
      elim (part-reads ns k j are part r) [
        | inl here ↦ inr (here.0, here.1, inr (directly (number m here.0) j (subst (λ (i : ℕ). Reads drivers_of i j) here.2 r)))
        | inr below ↦ inl below.1
      ]
  falls _ _ (through k i j r d) ns are part =
      elim (part-reads ns k i are part r) [
        | inl here ↦ inr (here.0, here.1, inr (through (number m here.0) i j (subst (λ (l : ℕ). Reads drivers_of l i) here.2 r) d))
        | inr below ↦ elim (falls i j d ns are below.0) [
          | inl l ↦ (let h = below.1 in inl (omega (arith, l, h)))
          | inr passes ↦ inr passes
        ]
      ]

  -- each net behind the names is that of a part of an expression
  formula-part : (ns : List Text) (first : ℕ) (f : Formula) (k : ℕ) → name_count m ≤ first → FormulaLies (number m) drivers_of first f →
      ((n : Text) → Contains (names_of f) n → Contains ns n) → first ≤ k → k < first + own f → IsPartNet ns k
  formula-part ns first (named n) k l h among low high = absurd (omega arith)
  formula-part ns first (constant b) k l h among low high =
      record { formula = constant b; first = first; behind = l; lies = h; is = omega arith; among = among }
  formula-part ns first (negation f) k l h among low high =
      elim (cases_lt k (first + own f)) [
        | inl c ↦ formula-part ns first f k l (negation-lies (number m) drivers_of first f h).0 among low c
        | inr c ↦ record { formula = negation f; first = first; behind = l; lies = h; is = omega arith; among = among }
      ]
  formula-part ns first (pair o f g) k l h among low high =
      let lies = pair-lies (number m) drivers_of first o f g h in
      elim (cases_lt k (first + own f)) [
        | inl c ↦ formula-part ns first f k l lies.0 (λ n i. among n (Contains-append_left (names_of f) (names_of g) n i)) low c
        | inr c ↦ elim (cases_lt k (first + own f + own g)) [
          | inl d ↦ formula-part ns (first + own f) g k (omega arith) lies.1
              (λ n i. among n (Contains-append_right (names_of f) (names_of g) n i)) c d
          | inr d ↦ record { formula = pair o f g; first = first; behind = l; lies = h; is = omega arith; among = among }
        ]
      ]

  arguments-part : (first : ℕ) (fs : List Formula) (k : ℕ) → name_count m ≤ first → FormulasLie (number m) drivers_of first fs →
      first ≤ k → k < first + all_own fs → IsPartNet (flat_map names_of fs) k
  arguments-part first [] k l h low high = absurd (omega arith)
  arguments-part first (f ∷ fs) k l h low high =
      let lies = formulas-lie (number m) drivers_of first f fs h in
      elim (cases_lt k (first + own f)) [
        | inl c ↦ formula-part (flat_map names_of (f ∷ fs)) first f k l lies.0
            (λ n i. Contains-append_left (names_of f) (flat_map names_of fs) n i) low c
        | inr c ↦ part-wider (flat_map names_of fs) (flat_map names_of (f ∷ fs)) k
            (λ n i. Contains-append_right (names_of f) (flat_map names_of fs) n i)
            (arguments-part (first + own f) fs k (omega arith) lies.1 c (omega arith))
      ]

  inner-part : (k : ℕ) → name_count m ≤ k → k < length drivers_of → (ns : List Text) × AreNames ns × IsPartNet ns k
  inner-part k low high =
      let is = inner-net m k low high in
      let d = is.drive in
      let here = is.here in
      let within = is.within in (
        flat_map names_of d.arguments,
        read-names d (Contains-between (drives m) is.before d is.after is.splits),
        arguments-part (name_count m + inner_size is.before) d.arguments k (omega arith) (arguments-lie m is.before d is.after is.splits)
            (omega (arith, here)) (omega (arith, here, within)),
      )

  name-of-number : (k : ℕ) (n : Text) → k < name_count m → get_or (names m) k n ≡ n → number m n ≡ k
  name-of-number k n l e = number-of m k n (slice_get-get_or (names m) k n l ∙ ap Some e)

  -- a cycle passes a name's net, whose number is no greater than that of any net of the cycle
  record PassesName (k : ℕ) : Type 0 where
    name : Text
    among : Contains (names m) name
    at_most : number m name ≤ k
    cyclic : DependsOn drivers_of (number m name) (number m name)

  inner-passes : (k : ℕ) (ns : List Text) → name_count m ≤ k → AreNames ns → IsPartNet ns k → DependsOn drivers_of k k → PassesName k
  inner-passes k ns low are part d =
      let ours = names_of part.formula in
      let ours_are : AreNames ours = λ n c. are n (part.among n c) in
      let whole : IsPartNet ours k = record {
        formula = part.formula;
        first = part.first;
        behind = part.behind;
        lies = part.lies;
        is = part.is;
        among = λ n c. c;
      } in
      elim (falls k k d ours ours_are whole) [
        | inl l ↦ absurd (omega (arith, l))
        | inr passes ↦ (
            let n = passes.0 in
            let c = ours_are n passes.1 in
            let h = number-within m n c in
            let there : Reaches (number m) drivers_of k n =
            subst (λ (i : ℕ). Reaches (number m) drivers_of i n) (sym part.is)
            (formula-reaches (number m) drivers_of part.first part.formula n part.lies passes.1) in
            record { name = n; among = c; at_most = omega (arith, h); cyclic = round k n d passes.2 there }
            )
      ]

  cycle-passes-name : (k : ℕ) → DependsOn drivers_of k k → PassesName k
  cycle-passes-name k d =
      elim (cases_lt k (name_count m)) [
        | inl l ↦ (
            let n = get_or (names m) k [] in
            let e = name-of-number k n l (get_or_default (names m) k n [] l) in
            record {
              name = n;
              among = Contains-get_or (names m) k [] l;
              at_most = omega (arith, e);
              cyclic = subst (λ (i : ℕ). DependsOn drivers_of i i) (sym e) d;
            }
            )
        | inr l ↦ (let inner = inner-part k l (depends-within drivers_of k k d) in inner-passes k inner.0 l inner.1 inner.2 d)
      ]

  none-before : (k : ℕ) → IsFree (HasTwoDrivers m) → k < length (names m) → ((j : ℕ) → j < k → DependsOn drivers_of j j → ⊥) →
      All (λ n. IsOnCycle m n → ⊥) (take k (names m))
  none-before k once l least i d h on =
      let front = length-take-le k (names m) (omega arith) in
      let n = get_or (names m) i d in
      let same : get_or (take k (names m)) i d ≡ n = get_or-take k (names m) i d (omega (arith, front)) in
      let e = name-of-number i n (omega (arith, front)) (get_or_default (names m) i n d (omega (arith, front))) in
      least i (omega (arith, front))
      (subst (λ (j : ℕ). DependsOn drivers_of j j) e (names-depend n n once (subst (λ (x : Text). IsOnCycle m x) same on)))

pub cycle-numbered : (m : ModuleTree) → IsDriven m → (n : Text) → Contains (names m) n →
    IsOnCycle m n ↔ DependsOn (net_of m).drivers (number m n) (number m n)
cycle-numbered m driven n c = (λ d. names-depend m n n driven.0.1 d, λ d. cycle-of-name m n c d)

pub acyclic-names : (m : ModuleTree) → IsDriven m → IsAcyclic (net_of m).drivers → IsFree (IsOnCycle m)
acyclic-names m driven acyclic n d = acyclic (number m n) (names-depend m n n driven.0.1 d)

pub acyclic-net : (m : ModuleTree) → IsFree (IsOnCycle m) → IsAcyclic (net_of m).drivers
acyclic-net m free k d = let passes = cycle-passes-name m k d in free passes.name (cycle-of-name m passes.name passes.among passes.cyclic)

-- the least net on a cycle is a name's, and no name of a smaller number is on one
pub cycle-named : (m : ModuleTree) → IsDriven m → (k : ℕ) → IsLeastOnCycle (net_of m).drivers k →
    (n : Text) × (slice_get (names m) k ≡ Some n) × IsLeast m (IsOnCycle m) n
cycle-named m driven k least =
    let passes = cycle-passes-name m k least.cyclic in
    let n = passes.name in
    let within = number-within m n passes.among in
    let e : number m n ≡ k = elim (cases_lt (number m n) k) [
      | inl l ↦ absurd (least.least (number m n) l passes.cyclic)
      | inr l ↦ (let h = passes.at_most in omega (arith, l, h))
    ] in
    let at : slice_get (names m) k ≡ Some n = subst (λ (i : ℕ). slice_get (names m) i ≡ Some n) e (number-at m n passes.among) in
    let l : k < length (names m) = omega (arith, within, e) in (
      n,
      at,
      record {
        before = take k (names m);
        after = drop (k + 1) (names m);
        splits = at-splits (names m) k n l (get_or_from_slice_get (names m) k n n at);
        has = cycle-of-name m n passes.among passes.cyclic;
        none = none-before m k driven.0.1 l least.least;
      },
    )
