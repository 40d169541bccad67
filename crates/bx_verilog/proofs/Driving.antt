-- What drives and what reads a name: its mentions, and the drives of the module.
use Rattle.std.proofs.Common.{◌≡◌, ℕ, ◌+◌, ◌≤◌, ◌&&◌, Bool, true, false, cond, List, [], ◌∷◌, ◌++◌, map, flat_map, get_or, Contains, Option, Some, None, ◌⊎◌, refl, sym, ap, ◌∙◌, subst, arith, inl, inr}
use Rattle.std.specs.Prelude.{if◌then◌else◌}
use Rattle.std.specs.List.{count_by, list_any, position}
use Rattle.std.specs.Option.{option_or}
use Rattle.std.specs.Str.{bytes_eq}
use Rattle.std.proofs.Math.Bool.{and-true}
use Rattle.std.proofs.lemmas.Bool.{cases_Bool, false_from_ne_true}
use Rattle.std.proofs.lemmas.List.{append-nil}
use Rattle.std.proofs.lemmas.List.Concat.{flat_map-append}
use Rattle.std.proofs.lemmas.List.Folds.{list_any_at}
use Rattle.std.proofs.lemmas.Map.Views.{Contains-from_any}
use Rattle.bx_logic.specs.declared.op.Op.{Op}
use Rattle.bx_logic.specs.declared.driver.Driver.{Driver}
use Rattle.bx_logic.specs.declared.driver.Driver.TheVariants.{Input as InputDriver, Constant, Gate}
use Rattle.bx_syntax.specs.declared.tree.Direction.{Direction}
use Rattle.bx_syntax.specs.declared.tree.Direction.TheVariants.{Input}
use Rattle.bx_syntax.specs.declared.tree.Port.{Port}
use Rattle.bx_syntax.specs.Trees.{Tree}
use Rattle.bx_syntax.specs.Parts.{PartTree, declaration, wire, assign, gate, copies, ModuleTree}
use Rattle.bx_verilog.specs.declared.role.Role.{Role}
use Rattle.bx_verilog.specs.declared.role.Role.TheVariants.{Header, Directed, Wired, Driven, Read}
use Rattle.bx_verilog.specs.Formulas.{Text, Formula, formula, names_of}
use Rattle.bx_verilog.specs.Drives.{Drive, drive, drives_of, parts_of, drives}
use Rattle.bx_verilog.specs.Mentions.{Mention, all_as, direction_mentions, port_mentions, reads_mentions, part_mentions, mentions, count, is_driven, inputs, number}
use Rattle.bx_verilog.specs.Elaboration.{all_own, inner_size, net_numbers, gate_of, name_count, chosen, driver_of}
use Rattle.bx_logic.proofs.Members.{Member, Contains-from_member, Member-from_contains, Member-append_left, Member-append_right, Member-append_cases, Member-map, Member-map_cases, Member-flat_map, Member-flat_map_cases}
use Rattle.bx_verilog.proofs.Membership.{counted, counted-append, counted-same, count_by-some}
use Rattle.bx_verilog.proofs.Firsts.{same_texts, same_bytes}

targets-driven : (ns : List Text) (rest : List Mention) (n : Text) → Member n ns → Member (n, Driven) (all_as Driven ns ++ rest)
targets-driven ns rest n h = Member-append_left (n, Driven) (all_as Driven ns) rest (Member-map (λ name. (name, Driven)) n ns h)

-- the drive of these is d
same_targets : (ns : List Text) (op : Op) (xs : List Formula) (d : Drive) (n : Text) → Member d (drive ns op xs ∷ []) → Member n d.targets → Member n ns
same_targets ns op xs d n (inl e) h = subst (λ (x : Drive). Member n x.targets) (sym e) h
same_targets ns op xs d n (inr e) h = absurd e

same_arguments : (ns : List Text) (op : Op) (xs : List Formula) (d : Drive) (n : Text) → Member d (drive ns op xs ∷ []) → Member n (flat_map names_of d.arguments) → Member n (flat_map names_of xs)
same_arguments ns op xs d n (inl e) h = subst (λ (x : Drive). Member n (flat_map names_of x.arguments)) (sym e) h
same_arguments ns op xs d n (inr e) h = absurd e

part-driven : (p : PartTree) (d : Drive) (n : Text) → Member d (drives_of p) → Member n d.targets → Member (n, Driven) (part_mentions p)
part-driven (declaration x k) d n h t = absurd h
part-driven (wire k None) d n h t = absurd h
part-driven (wire k (Some e)) d n h t = targets-driven (k ∷ []) (reads_mentions (formula e)) n (same_targets (k ∷ []) _ _ d n h t)
part-driven (assign k e) d n h t = targets-driven (k ∷ []) (reads_mentions (formula e)) n (same_targets (k ∷ []) _ _ d n h t)
part-driven (gate op k es) d n h t = targets-driven (k ∷ []) (flat_map (λ e. reads_mentions (formula e)) es) n (same_targets (k ∷ []) _ _ d n h t)
part-driven (copies op ns e) d n h t = targets-driven ns (reads_mentions (formula e)) n (same_targets ns _ _ d n h t)

formula-read : (x : Formula) (n : Text) → Member n (names_of x) → Member (n, Read) (reads_mentions x)
formula-read x n h = Member-map (λ name. (name, Read)) n (names_of x) h

one-read : (x : Formula) (n : Text) → Member n (flat_map names_of (x ∷ [])) → Member (n, Read) (reads_mentions x)
one-read x n h = elim (Member-append_cases n (names_of x) [] h) [ inl a ↦ formula-read x n a | inr b ↦ absurd b ]

all-read : (es : List Tree) (n : Text) → Member n (flat_map names_of (map formula es)) → Member (n, Read) (flat_map (λ e. reads_mentions (formula e)) es)
all-read [] n h = absurd h
all-read (e ∷ es) n h =
    elim (Member-append_cases n (names_of (formula e)) (flat_map names_of (map formula es)) h) [
      | inl a ↦ Member-append_left (n, Read) (reads_mentions (formula e)) (flat_map (λ x. reads_mentions (formula x)) es) (formula-read (formula e) n a)
      | inr b ↦ Member-append_right (n, Read) (reads_mentions (formula e)) (flat_map (λ x. reads_mentions (formula x)) es) (all-read es n b)
    ]

part-read : (p : PartTree) (d : Drive) (n : Text) → Member d (drives_of p) → Member n (flat_map names_of d.arguments) → Member (n, Read) (part_mentions p)
part-read (declaration x k) d n h r = absurd h
part-read (wire k None) d n h r = absurd h
part-read (wire k (Some e)) d n h r = inr (one-read (formula e) n (same_arguments (k ∷ []) _ (formula e ∷ []) d n h r))
part-read (assign k e) d n h r = inr (one-read (formula e) n (same_arguments (k ∷ []) _ (formula e ∷ []) d n h r))
part-read (gate op k es) d n h r = inr (all-read es n (same_arguments (k ∷ []) _ (map formula es) d n h r))
part-read (copies op ns e) d n h r = Member-append_right (n, Read) (all_as Driven ns) (reads_mentions (formula e)) (one-read (formula e) n (same_arguments ns _ (formula e ∷ []) d n h r))

-- the mentions of a part are the module's
part-mention : (m : ModuleTree) (p : PartTree) (x : Mention) → Member p (parts_of m) → Member x (part_mentions p) → Contains (mentions m) x
part-mention m p x h t =
    Contains-from_member x (mentions m)
    (Member-append_right x (flat_map port_mentions m.ports) (flat_map part_mentions (parts_of m)) (Member-flat_map part_mentions p x (parts_of m) h t))

pub drive-mention : (m : ModuleTree) (d : Drive) (n : Text) → Contains (drives m) d → Contains d.targets n → Contains (mentions m) (n, Driven)
drive-mention m d n among driven =
    let (p, h, t) = Member-flat_map_cases drives_of d (parts_of m) (Member-from_contains d (drives m) among) in
    part-mention m p (n, Driven) h (part-driven p d n t (Member-from_contains n d.targets driven))

pub read-mention : (m : ModuleTree) (d : Drive) (n : Text) → Contains (drives m) d → Contains (flat_map names_of d.arguments) n → Contains (mentions m) (n, Read)
read-mention m d n among read =
    let (p, h, t) = Member-flat_map_cases drives_of d (parts_of m) (Member-from_contains d (drives m) among) in
    part-mention m p (n, Read) h (part-read p d n t (Member-from_contains n (flat_map names_of d.arguments) read))

no-read-drives : (x : Formula) (n : Text) → Member (n, Driven) (reads_mentions x) → ⊥
no-read-drives x n h =
    let (k, among, e) = Member-map_cases (λ name. (name, Read)) (n, Driven) (names_of x) h in
    let role : Read ≡ Driven = ap (λ (y : Mention). y.1) e in
    cc

no-reads-drive : (es : List Tree) (n : Text) → Member (n, Driven) (flat_map (λ e. reads_mentions (formula e)) es) → ⊥
no-reads-drive es n h =
    let (e, among, t) = Member-flat_map_cases (λ x. reads_mentions (formula x)) (n, Driven) es h in
    no-read-drives (formula e) n t

driven-target : (ns : List Text) (n : Text) → Member (n, Driven) (all_as Driven ns) → Member n ns
driven-target ns n h =
    let (k, among, e) = Member-map_cases (λ name. (name, Driven)) (n, Driven) ns h in
    subst (λ (x : Text). Member x ns) (ap (λ (y : Mention). y.0) e) among

-- what a part drives that has n as a target
abbrev DrivesName : PartTree → Text → Type 0
DrivesName p n = (d : Drive) × Member d (drives_of p) × Member n d.targets

part-drives : (p : PartTree) (n : Text) → Member (n, Driven) (part_mentions p) → DrivesName p n
part-drives (declaration x k) n (inl e) = let role : Directed x ≡ Driven = ap (λ (y : Mention). y.1) e in cc
part-drives (declaration x k) n (inr e) = absurd e
part-drives (wire k None) n (inl e) = let role : Wired ≡ Driven = ap (λ (y : Mention). y.1) e in cc
part-drives (wire k None) n (inr e) = absurd e
part-drives (wire k (Some e)) n (inl same) = (_, inl refl, inl (ap (λ (y : Mention). y.0) same))
part-drives (wire k (Some e)) n (inr h) = absurd (no-read-drives (formula e) n h)
part-drives (assign k e) n (inl same) = (_, inl refl, inl (ap (λ (y : Mention). y.0) same))
part-drives (assign k e) n (inr h) = absurd (no-read-drives (formula e) n h)
part-drives (gate op k es) n (inl same) = (_, inl refl, inl (ap (λ (y : Mention). y.0) same))
part-drives (gate op k es) n (inr h) = absurd (no-reads-drive es n h)
part-drives (copies op ns e) n h =
    elim (Member-append_cases (n, Driven) (all_as Driven ns) (reads_mentions (formula e)) h) [
      | inl a ↦ (_, inl refl, driven-target ns n a)
      | inr b ↦ absurd (no-read-drives (formula e) n b)
    ]

no-direction-drives : (k : Text) (x : Option Direction) (n : Text) → Member (n, Driven) (direction_mentions k x) → ⊥
no-direction-drives k None n h = h
no-direction-drives k (Some x) n (inl e) = let role : Directed x ≡ Driven = ap (λ (y : Mention). y.1) e in cc
no-direction-drives k (Some x) n (inr e) = e

no-port-drives : (p : Port) (n : Text) → Member (n, Driven) (port_mentions p) → ⊥
no-port-drives p n (inl e) = let role : Header ≡ Driven = ap (λ (y : Mention). y.1) e in cc
no-port-drives p n (inr h) = no-direction-drives p.name p.direction n h

pub mention-drive : (m : ModuleTree) (n : Text) → Contains (mentions m) (n, Driven) → (d : Drive) × Contains (drives m) d × Contains d.targets n
mention-drive m n c =
    elim (Member-append_cases (n, Driven) (flat_map port_mentions m.ports) (flat_map part_mentions (parts_of m)) (Member-from_contains (n, Driven) (mentions m) c)) [
      | inl a ↦ (let (p, h, t) = Member-flat_map_cases port_mentions (n, Driven) m.ports a in absurd (no-port-drives p n t))
      | inr b ↦ (
          let (p, h, t) = Member-flat_map_cases part_mentions (n, Driven) (parts_of m) b in
          let (d, i, k) = part-drives p n t in
          (d, Contains-from_member d (drives m) (Member-flat_map drives_of p d (parts_of m) h i), Contains-from_member n d.targets k)
          )
    ]

-- the mentions by which a name is driven
abbrev drives_name : Text → Mention → Bool
drives_name n x = bytes_eq n x.0 && is_driven x.1

-- what the drives have as their targets
abbrev pub targets_of : List Drive → List Text
targets_of ds = flat_map (λ (d : Drive). d.targets) ds

targets-counted : (n : Text) (ns : List Text) → count_by (drives_name n) (all_as Driven ns) ≡ count_by (bytes_eq n) ns
targets-counted n [] = refl
targets-counted n (k ∷ ks) =
    counted (drives_name n) (k, Driven) (all_as Driven ks)
    ∙ ap (λ b. cond b 1 0 + count_by (drives_name n) (all_as Driven ks)) (and-true (bytes_eq n k))
    ∙ ap (λ c. cond (bytes_eq n k) 1 0 + c) (targets-counted n ks)
    ∙ sym (counted (bytes_eq n) k ks)

targets-few : (n : Text) (ns : List Text) (rest : List Mention) → count_by (bytes_eq n) (ns ++ []) ≤ count_by (drives_name n) (all_as Driven ns ++ rest)
targets-few n ns rest = omega (arith, ap (count_by (bytes_eq n)) (append-nil ns), counted-append (drives_name n) (all_as Driven ns) rest, targets-counted n ns)

part-targets : (n : Text) (p : PartTree) → count_by (bytes_eq n) (targets_of (drives_of p)) ≤ count_by (drives_name n) (part_mentions p)
part-targets n (declaration x k) = omega arith
part-targets n (wire k None) = omega arith
part-targets n (wire k (Some e)) = targets-few n (k ∷ []) (reads_mentions (formula e))
part-targets n (assign k e) = targets-few n (k ∷ []) (reads_mentions (formula e))
part-targets n (gate op k es) = targets-few n (k ∷ []) (flat_map (λ e. reads_mentions (formula e)) es)
part-targets n (copies op ns e) = targets-few n ns (reads_mentions (formula e))

parts-targets : (n : Text) (ps : List PartTree) → count_by (bytes_eq n) (targets_of (flat_map drives_of ps)) ≤ count_by (drives_name n) (flat_map part_mentions ps)
parts-targets n [] = omega arith
parts-targets n (p ∷ ps) =
    let split = ap (count_by (bytes_eq n)) (flat_map-append (λ (d : Drive). d.targets) (drives_of p) (flat_map drives_of ps))
    ∙ counted-append (bytes_eq n) (targets_of (drives_of p)) (targets_of (flat_map drives_of ps)) in
    omega (arith, split, counted-append (drives_name n) (part_mentions p) (flat_map part_mentions ps), part-targets n p, parts-targets n ps)

pub few-targets : (m : ModuleTree) (n : Text) → count_by (bytes_eq n) (targets_of (drives m)) ≤ count is_driven m n
few-targets m n = omega (arith, parts-targets n (parts_of m), counted-append (drives_name n) (flat_map port_mentions m.ports) (flat_map part_mentions (parts_of m)))

drives-itself : (n : Text) (r : Role) → is_driven r ≡ true → drives_name n (n, r) ≡ true
drives-itself n r e = ap (λ b. b && is_driven r) (same_bytes n n refl) ∙ e

-- where a name has one driver at most, an input is no target
pub input-no-target : (m : ModuleTree) (n : Text) → count is_driven m n ≤ 1 → Contains (mentions m) (n, Directed Input) → (d : Drive) → Contains (drives m) d → Contains d.targets n → ⊥
input-no-target m n few c d among driven =
    let same : ◌≡◌ {A = Mention} (n, Directed Input) (n, Driven) = counted-same (drives_name n) (n, Directed Input) (n, Driven) (mentions m) few
    (Member-from_contains (n, Directed Input) (mentions m) c) (Member-from_contains (n, Driven) (mentions m) (drive-mention m d n among driven))
    (drives-itself n (Directed Input) refl) (drives-itself n Driven refl) in
    let role : ◌≡◌ {A = Role} (Directed Input) Driven = ap (λ (y : Mention). y.1) same in
    cc

-- Gates.

target-passes : (n : Text) (ns : List Text) → Contains ns n → list_any (bytes_eq n) ns ≡ true
target-passes n ns (k, l, e) = list_any_at (bytes_eq n) ns k n l (same_bytes n (get_or ns k n) (sym e))

passes-target : (n : Text) (ns : List Text) → list_any (bytes_eq n) ns ≡ true → Contains ns n
passes-target = Contains-from_any same_texts

option_cases : {X : Type 0} (o : Option X) → (o ≡ None) ⊎ ((x : X) × (o ≡ Some x))
option_cases None = inl refl
option_cases (Some x) = inr (x, refl)

-- the drive that a name's gate is of, and where it stands
pub record IsGateOf (numbered : Text → ℕ) (first : ℕ) (ds : List Drive) (n : Text) (g : Driver) : Type 0 where
  pub before : List Drive
  pub drive : Drive
  pub after : List Drive
  pub splits : ds ≡ before ++ drive ∷ after
  pub driven : Contains drive.targets n
  pub gate : g ≡ Gate drive.op (net_numbers numbered (first + inner_size before) drive.arguments)

module _ (numbered : Text → ℕ) (n : Text) where
  abbrev here : ℕ → Drive → Driver
  here first d = Gate d.op (net_numbers numbered first d.arguments)

  -- the gate of the first drive is looked for last
  gate-later : (first : ℕ) (d : Drive) (ds : List Drive) (g : Driver) → gate_of numbered (first + all_own d.arguments) ds n ≡ Some g → gate_of numbered first (d ∷ ds) n ≡ Some g
  gate-later first d ds g e = ap (λ o. option_or o (if list_any (bytes_eq n) d.targets then Some (here first d) else None)) e

  gate-here : (first : ℕ) (d : Drive) (ds : List Drive) → gate_of numbered (first + all_own d.arguments) ds n ≡ None → list_any (bytes_eq n) d.targets ≡ true →
      gate_of numbered first (d ∷ ds) n ≡ Some (here first d)
  gate-here first d ds e t =
      ap (λ o. option_or o (if list_any (bytes_eq n) d.targets then Some (here first d) else None)) e
      ∙ ap (λ (b : Bool). if b then Some (here first d) else None) t

  gate-nowhere : (first : ℕ) (d : Drive) (ds : List Drive) → gate_of numbered (first + all_own d.arguments) ds n ≡ None → list_any (bytes_eq n) d.targets ≡ false →
      gate_of numbered first (d ∷ ds) n ≡ None
  gate-nowhere first d ds e t =
      ap (λ o. option_or o (if list_any (bytes_eq n) d.targets then Some (here first d) else None)) e
      ∙ ap (λ (b : Bool). if b then Some (here first d) else None) t

  pub gate_of-found : (first : ℕ) (ds : List Drive) (g : Driver) → gate_of numbered first ds n ≡ Some g → IsGateOf numbered first ds n g
  gate_of-found first [] g e = cc
  gate_of-found first (d ∷ ds) g e =
      elim (option_cases (gate_of numbered (first + all_own d.arguments) ds n)) [
        | inr (x, some) ↦
            let same : Some x ≡ Some g = sym (gate-later first d ds x some) ∙ e in
            let found = gate_of-found (first + all_own d.arguments) ds g (some ∙ same) in
            let place : first + all_own d.arguments + inner_size found.before ≡ first + (all_own d.arguments + inner_size found.before) = omega arith in
            record {
              before = d ∷ found.before;
              drive = found.drive;
              after = found.after;
              splits = ap (λ xs. d ∷ xs) found.splits;
              driven = found.driven;
              gate = found.gate ∙ ap (λ k. Gate found.drive.op (net_numbers numbered k found.drive.arguments)) place;
            }
        | inl none ↦ elim (cases_Bool (list_any (bytes_eq n) d.targets)) [
          | inl found ↦
              let same : Some (here first d) ≡ Some g = sym (gate-here first d ds none found) ∙ e in
              let gate : here first d ≡ g = cc in
              let place : first ≡ first + 0 = omega arith in
              record {
                before = [];
                drive = d;
                after = ds;
                splits = refl;
                driven = passes-target n d.targets found;
                gate = sym gate ∙ ap (λ k. Gate d.op (net_numbers numbered k d.arguments)) place;
              }
          | inr lacks ↦ let wrong : None ≡ Some g = sym (gate-nowhere first d ds none lacks) ∙ e in cc
        ]
      ]

  pub gate_of-none : (first : ℕ) (ds : List Drive) → ((d : Drive) → Member d ds → Contains d.targets n → ⊥) → gate_of numbered first ds n ≡ None
  gate_of-none first [] h = refl
  gate_of-none first (d ∷ ds) h =
      gate-nowhere first d ds (gate_of-none (first + all_own d.arguments) ds (λ x i. h x (inr i)))
      (false_from_ne_true (list_any (bytes_eq n) d.targets) (λ t. h d (inl refl) (passes-target n d.targets t)))

  gate_of-behind : (first : ℕ) (before rest : List Drive) (g : Driver) → gate_of numbered (first + inner_size before) rest n ≡ Some g → gate_of numbered first (before ++ rest) n ≡ Some g
  gate_of-behind first [] rest g e =
      let place : first ≡ first + 0 = omega arith in
      ap (λ k. gate_of numbered k rest n) place ∙ e
  gate_of-behind first (d ∷ ds) rest g e =
      let place : first + all_own d.arguments + inner_size ds ≡ first + (all_own d.arguments + inner_size ds) = omega arith in
      gate-later first d (ds ++ rest) g
      (gate_of-behind (first + all_own d.arguments) ds rest g (ap (λ k. gate_of numbered k rest n) place ∙ e))

  -- where no later drive has the name as a target
  gate_of-last : (first : ℕ) (before : List Drive) (d : Drive) (after : List Drive) → Contains d.targets n → ((x : Drive) → Member x after → Contains x.targets n → ⊥) →
      gate_of numbered first (before ++ d ∷ after) n ≡ Some (here (first + inner_size before) d)
  gate_of-last first before d after driven h =
      gate_of-behind first before (d ∷ after) (here (first + inner_size before) d)
      (gate-here (first + inner_size before) d after (gate_of-none (first + inner_size before + all_own d.arguments) after h) (target-passes n d.targets driven))

no-later : (m : ModuleTree) (n : Text) → count is_driven m n ≤ 1 → (before : List Drive) (d : Drive) (after : List Drive) → drives m ≡ before ++ d ∷ after →
    Contains d.targets n → (x : Drive) → Member x after → Contains x.targets n → ⊥
no-later m n few before d after e driven x later again =
    let split = ap (λ ds. count_by (bytes_eq n) (targets_of ds)) e
    ∙ ap (count_by (bytes_eq n)) (flat_map-append (λ (y : Drive). y.targets) before (d ∷ after))
    ∙ counted-append (bytes_eq n) (targets_of before) (targets_of (d ∷ after)) in
    let itself = same_bytes n n refl in
    let here = count_by-some (bytes_eq n) d.targets n driven itself in
    let among = Member-flat_map (λ (y : Drive). y.targets) x n after later (Member-from_contains n x.targets again) in
    let there = count_by-some (bytes_eq n) (targets_of after) n (Contains-from_member n (targets_of after) among) itself in
    omega (arith, split, counted-append (bytes_eq n) d.targets (targets_of after), here, there, few-targets m n)

-- where a name has one driver at most, the gate that drives it is that of the drive that has it as a target
pub one-drive : (m : ModuleTree) (n : Text) (first : ℕ) → count is_driven m n ≤ 1 → (before : List Drive) (d : Drive) (after : List Drive) → drives m ≡ before ++ d ∷ after →
    Contains d.targets n → gate_of (number m) first (drives m) n ≡ Some (Gate d.op (net_numbers (number m) (first + inner_size before) d.arguments))
one-drive m n first few before d after e driven =
    ap (λ ds. gate_of (number m) first ds n) e ∙ gate_of-last (number m) n first before d after driven (no-later m n few before d after e driven)

-- what drives a name
pub driver-of-target : (m : ModuleTree) (n : Text) → count is_driven m n ≤ 1 → (before : List Drive) (d : Drive) (after : List Drive) → drives m ≡ before ++ d ∷ after →
    Contains d.targets n → driver_of m n ≡ Gate d.op (net_numbers (number m) (name_count m + inner_size before) d.arguments)
driver-of-target m n few before d after e driven =
    ap (λ o. chosen o (position (bytes_eq n) (inputs m))) (one-drive m n (name_count m) few before d after e driven)

pub no-gate-of-input : (m : ModuleTree) (n : Text) (first : ℕ) → count is_driven m n ≤ 1 → Contains (mentions m) (n, Directed Input) → gate_of (number m) first (drives m) n ≡ None
no-gate-of-input m n first few c =
    gate_of-none (number m) n first (drives m) (λ d among driven. input-no-target m n few c d (Contains-from_member d (drives m) among) driven)

-- the driver of a name is the gate of a drive that has it as a target, or its place among the inputs, or 0
pub driver-cases : (m : ModuleTree) (n : Text) →
    IsGateOf (number m) (name_count m) (drives m) n (driver_of m n)
    ⊎ (((i : ℕ) × (position (bytes_eq n) (inputs m) ≡ Some i) × (driver_of m n ≡ InputDriver i)) ⊎ (driver_of m n ≡ Constant false))
driver-cases m n =
    let o = gate_of (number m) (name_count m) (drives m) n in
    let p = position (bytes_eq n) (inputs m) in
    elim (option_cases o) [
      | inr (g, some) ↦
          let same : driver_of m n ≡ g = ap (λ x. chosen x p) some in
          inl (gate_of-found (number m) n (name_count m) (drives m) (driver_of m n) (some ∙ ap Some (sym same)))
      | inl none ↦ elim (option_cases p) [
        | inr (i, some) ↦ inr (inl (i, some, ap (λ x. chosen x p) none ∙ ap (λ x. chosen None x) some))
        | inl nowhere ↦ inr (inr (ap (λ x. chosen x p) none ∙ ap (λ x. chosen None x) nowhere))
      ]
    ]
