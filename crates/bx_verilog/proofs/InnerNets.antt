-- Where the nets of a module's expressions lie in its net, and what drives its names.
use Rattle.std.proofs.Common.{◌≡◌, ℕ, ◌+◌, ◌-◌, ◌<◌, ◌≤◌, false, List, [], ◌∷◌, ◌++◌, map, length, get_or, Contains, refl, ap, ◌∙◌, subst, arith, inl, inr, length-append}
use Rattle.std.proofs.lemmas.Bool.{cases_lt}
use Rattle.std.proofs.lemmas.List.{length-map, get_or_append_left, get_or-append-add, get_or-map}
use Rattle.std.proofs.lemmas.Option.{get_or_from_slice_get}
use Rattle.bx_logic.specs.declared.op.Op.TheVariants.{Not}
use Rattle.bx_logic.specs.declared.driver.Driver.{Driver}
use Rattle.bx_logic.specs.declared.driver.Driver.TheVariants.{Constant, Gate}
use Rattle.bx_logic.specs.Nets.{driver_at}
use Rattle.bx_syntax.specs.Parts.{ModuleTree}
use Rattle.bx_syntax.specs.declared.tree.Operator.{Operator}
use Rattle.bx_verilog.specs.Formulas.{Text, Formula, constant, negation, pair, operation}
use Rattle.bx_verilog.specs.Drives.{Drive, drives}
use Rattle.bx_verilog.specs.Mentions.{names, number}
use Rattle.bx_verilog.proofs.Numbering.{number-at, number-within}
use Rattle.bx_verilog.proofs.OwnNets.{length-own_drivers, length-inner_drivers, inner_drivers-append}
use Rattle.bx_verilog.specs.Elaboration.{own, all_own, inner_size, net_number, own_drivers, all_own_drivers, inner_drivers, name_count, driver_of, net_of}

pub length-drivers : (m : ModuleTree) → length (net_of m).drivers ≡ name_count m + inner_size (drives m)
length-drivers m =
    length-append (map (driver_of m) (names m)) (inner_drivers (number m) (name_count m) (drives m))
    ∙ omega (arith, length-map (names m) (driver_of m), length-inner_drivers (number m) (name_count m) (drives m))

-- these drivers are those of the nets from `first` on
pub record LiesAt (drivers : List Driver) (first : ℕ) (part : List Driver) : Type 0 where
  pub within : first + length part ≤ length drivers
  pub each : (i : ℕ) → i < length part → driver_at drivers (first + i) ≡ driver_at part i

pub lies-left : (drivers : List Driver) (first : ℕ) (xs ys : List Driver) → LiesAt drivers first (xs ++ ys) → LiesAt drivers first xs
lies-left drivers first xs ys h = record {
  within = omega (arith, h.within, length-append xs ys);
  each = λ i l. h.each i (omega (arith, length-append xs ys)) ∙ get_or_append_left xs ys (Constant false) i l;
}

pub lies-right : (drivers : List Driver) (first : ℕ) (xs ys : List Driver) → LiesAt drivers first (xs ++ ys) → LiesAt drivers (first + length xs) ys
lies-right drivers first xs ys h = record {
  within = omega (arith, h.within, length-append xs ys);
  each = λ i l.
      let same : first + length xs + i ≡ first + (length xs + i) = omega arith in
      ap (driver_at drivers) same ∙ h.each (length xs + i) (omega (arith, length-append xs ys)) ∙ get_or-append-add xs ys i (Constant false);
}

pub lies-one : (drivers : List Driver) (first : ℕ) (d : Driver) → LiesAt drivers first (d ∷ []) → driver_at drivers first ≡ d
lies-one drivers first d h =
    let same : first ≡ first + 0 = omega arith in
    ap (driver_at drivers) same ∙ h.each 0 (omega arith)

lies-whole : (drivers : List Driver) → LiesAt drivers 0 drivers
lies-whole drivers = record {
  within = omega arith;
  each = λ i l. let same : 0 + i ≡ i = omega arith in ap (driver_at drivers) same;
}

-- the same at a number that is equal
lies-here : (drivers part : List Driver) (first k : ℕ) → first ≡ k → LiesAt drivers first part → LiesAt drivers k part
lies-here drivers part first k e h = subst (λ n. LiesAt drivers n part) e h

-- the own nets of a formula are those from `first` on
abbrev pub FormulaLies : (Text → ℕ) → List Driver → ℕ → Formula → Type 0
FormulaLies numbered drivers first x = LiesAt drivers first (own_drivers numbered first x)

abbrev pub FormulasLie : (Text → ℕ) → List Driver → ℕ → List Formula → Type 0
FormulasLie numbered drivers first xs = LiesAt drivers first (all_own_drivers numbered first xs)

module _ (numbered : Text → ℕ) (drivers : List Driver) (first : ℕ) where
  pub constant-lies : (b : _) → FormulaLies numbered drivers first (constant b) → driver_at drivers first ≡ Constant b
  constant-lies b h = lies-one drivers first (Constant b) h

  pub negation-lies : (x : Formula) → FormulaLies numbered drivers first (negation x) →
      FormulaLies numbered drivers first x
      × (driver_at drivers (net_number numbered first (negation x)) ≡ Gate Not (net_number numbered first x ∷ []))
  negation-lies x h =
      let xs = own_drivers numbered first x in
      let gate = Gate Not (net_number numbered first x ∷ []) in
      let last = lies-here drivers (gate ∷ []) (first + length xs) (first + own x) (omega (arith, length-own_drivers numbered first x))
      (lies-right drivers first xs (gate ∷ []) h) in
      (lies-left drivers first xs (gate ∷ []) h, lies-one drivers (first + own x) gate last)

  pub pair-lies : (o : Operator) (x y : Formula) → FormulaLies numbered drivers first (pair o x y) →
      FormulaLies numbered drivers first x × FormulaLies numbered drivers (first + own x) y
      × (driver_at drivers (net_number numbered first (pair o x y)) ≡ Gate (operation o) (net_number numbered first x ∷ net_number numbered (first + own x) y ∷ []))
  pair-lies o x y h =
      let xs = own_drivers numbered first x in
      let ys = own_drivers numbered (first + own x) y in
      let gate = Gate (operation o) (net_number numbered first x ∷ net_number numbered (first + own x) y ∷ []) in
      let both = lies-left drivers first (xs ++ ys) (gate ∷ []) h in
      let second = lies-here drivers ys (first + length xs) (first + own x) (omega (arith, length-own_drivers numbered first x))
      (lies-right drivers first xs ys both) in
      let last = lies-here drivers (gate ∷ []) (first + length (xs ++ ys)) (first + own x + own y)
      (omega (arith, length-append xs ys, length-own_drivers numbered first x, length-own_drivers numbered (first + own x) y))
      (lies-right drivers first (xs ++ ys) (gate ∷ []) h) in
      (lies-left drivers first xs ys both, second, lies-one drivers (first + own x + own y) gate last)

  pub formulas-lie : (x : Formula) (xs : List Formula) → FormulasLie numbered drivers first (x ∷ xs) →
      FormulaLies numbered drivers first x × FormulasLie numbered drivers (first + own x) xs
  formulas-lie x xs h =
      let ys = own_drivers numbered first x in
      let zs = all_own_drivers numbered (first + own x) xs in (
        lies-left drivers first ys zs h,
        lies-here drivers zs (first + length ys) (first + own x) (omega (arith, length-own_drivers numbered first x)) (lies-right drivers first ys zs h),
      )

-- the own nets of a drive's arguments, behind those of the drives before it
pub arguments-lie : (m : ModuleTree) (before : List Drive) (d : Drive) (after : List Drive) → drives m ≡ before ++ d ∷ after →
    FormulasLie (number m) (net_of m).drivers (name_count m + inner_size before) d.arguments
arguments-lie m before d after e =
    let nets = (net_of m).drivers in
    let named_ones = map (driver_of m) (names m) in
    let count = name_count m in
    let earlier = inner_drivers (number m) count before in
    let these = all_own_drivers (number m) (count + inner_size before) d.arguments in
    let later = inner_drivers (number m) (count + inner_size before + all_own d.arguments) after in
    let split : nets ≡ named_ones ++ (earlier ++ (these ++ later)) =
    ap (λ ds. named_ones ++ inner_drivers (number m) count ds) e
    ∙ ap (λ zs. named_ones ++ zs) (inner_drivers-append (number m) count before (d ∷ after)) in
    let whole = subst (λ part. LiesAt nets 0 part) split (lies-whole nets) in
    let behind = lies-right nets 0 named_ones (earlier ++ (these ++ later)) whole in
    let rest = lies-right nets (0 + length named_ones) earlier (these ++ later) behind in
    lies-here nets these (0 + length named_ones + length earlier) (count + inner_size before)
    (omega (arith, length-map (names m) (driver_of m), length-inner_drivers (number m) count before))
    (lies-left nets (0 + length named_ones + length earlier) these later rest)

-- the place of one of the own nets of these
record IsPlace (ds : List Drive) (i : ℕ) : Type 0 where
  before : List Drive
  drive : Drive
  after : List Drive
  splits : ds ≡ before ++ drive ∷ after
  place : ℕ
  here : i ≡ inner_size before + place
  within : place < all_own drive.arguments

place : (ds : List Drive) (i : ℕ) → i < inner_size ds → IsPlace ds i
place [] i l = absurd (omega arith)
place (d ∷ ds) i l =
    elim (cases_lt i (all_own d.arguments)) [
      | inl within ↦ record { before = []; drive = d; after = ds; splits = refl; place = i; here = omega arith; within = within }
      | inr past ↦
          let p = place ds (i - all_own d.arguments) (omega arith) in
          record {
            before = d ∷ p.before;
            drive = p.drive;
            after = p.after;
            splits = ap (λ xs. d ∷ xs) p.splits;
            place = p.place;
            here = omega (arith, p.here);
            within = p.within;
          }
    ]

-- a net that has no name is one of the own nets of some drive's arguments
pub record IsInner (m : ModuleTree) (k : ℕ) : Type 0 where
  pub before : List Drive
  pub drive : Drive
  pub after : List Drive
  pub splits : drives m ≡ before ++ drive ∷ after
  pub place : ℕ
  pub here : k ≡ name_count m + inner_size before + place
  pub within : place < all_own drive.arguments

pub inner-net : (m : ModuleTree) (k : ℕ) → name_count m ≤ k → k < length (net_of m).drivers → IsInner m k
inner-net m k low high =
    let p = place (drives m) (k - name_count m) (omega (arith, length-drivers m)) in
    record {
      before = p.before;
      drive = p.drive;
      after = p.after;
      splits = p.splits;
      place = p.place;
      here = omega (arith, p.here);
      within = p.within;
    }

-- the net of the k-th name is driven by what drives this name
pub driver-at-name : (m : ModuleTree) (k : ℕ) (n : Text) → k < name_count m → get_or (names m) k n ≡ n → driver_at (net_of m).drivers k ≡ driver_of m n
driver-at-name m k n l e =
    let named_ones = map (driver_of m) (names m) in
    get_or_append_left named_ones (inner_drivers (number m) (name_count m) (drives m)) (Constant false) k (omega (arith, length-map (names m) (driver_of m)))
    ∙ get_or-map (driver_of m) (names m) k n (Constant false) l ∙ ap (driver_of m) e

-- and so is that of its number
pub named-driver : (m : ModuleTree) (n : Text) → Contains (names m) n → driver_at (net_of m).drivers (number m n) ≡ driver_of m n
named-driver m n c =
    driver-at-name m (number m n) n (number-within m n c) (get_or_from_slice_get (names m) (number m n) n n (number-at m n c))
