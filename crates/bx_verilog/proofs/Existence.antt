-- The inputs may have any values, and each module is accepted or has a first fault.
use Rattle.std.proofs.Common.{◌≡◌, ◌⊎◌, inl, inr, ◌<◌, ◌≤◌, Bool, false, List, [], ◌∷◌, map, flat_map, length, refl, ap, sym, ◌∙◌, arith}
use Rattle.std.specs.Prelude.{Result, Ok, Err, if◌then◌else◌}
use Rattle.std.specs.List.{AllByRecursion, Contains}
use Rattle.std.specs.Str.{bytes_eq}
use Rattle.std.proofs.Math.Decide.{dec_le, ℕ_discrete}
use Rattle.std.proofs.lemmas.Bool.{cond-true, cond-false, false_from_ne_true}
use Rattle.std.proofs.lemmas.List.Elements.{All-from_recursion}
use Rattle.bx_logic.specs.Lists.{AreDistinct}
use Rattle.bx_logic.specs.Nets.{Netlist}
use Rattle.bx_syntax.specs.Parts.{ModuleTree}
use Rattle.bx_verilog.specs.declared.fault.NetFault.{NetFault}
use Rattle.bx_verilog.specs.declared.fault.NetFault.TheVariants.{BadPort, NoOutput, TwoDrivers, NoDriver, Cycle}
use Rattle.bx_verilog.specs.declared.role.Role.{Role}
use Rattle.bx_verilog.specs.declared.role.Role.TheVariants.{Driven}
use Rattle.bx_verilog.specs.Formulas.{Text, names_of}
use Rattle.bx_verilog.specs.Drives.{Drive, drives}
use Rattle.bx_verilog.specs.Mentions.{count, is_header, is_directed, is_driven, is_read, is_output, names, inputs, outputs}
use Rattle.bx_verilog.specs.Faults.{IsBadPort, twice_in_header, two_directions, no_direction, no_port, HasTwoDrivers, HasNoDriver, Reads, DependsOn, directly, through, IsOnCycle, IsFree, IsLeast, HasPorts, HasOutput, IsDrivenOnce, IsDriven}
use Rattle.bx_verilog.specs.Equations.{Assignment}
use Rattle.bx_verilog.specs.Elaboration.{net_of, Elaborates}
use Rattle.bx_verilog.proofs.Decisions.{dec_from, dec_both, dec_either, dec_member, dec_some, IsFirst, first-or_none, Way, dec_way, way-from_step, way-joined}
use Rattle.bx_verilog.proofs.Driving.{drive-mention}
use Rattle.bx_verilog.proofs.Inputs.{inputs-distinct}
use Rattle.bx_verilog.proofs.Firsts.{same_texts, same_bytes}
use Rattle.bx_logic.proofs.Members.{Member, Member-from_contains, Contains-from_member, member_of_AllByRecursion}
use Rattle.bx_verilog.proofs.Numbering.{mentioned, count-mention}

-- Values of the inputs.

-- each name has the value at its place
abbrev assigned : List Text → List Bool → Text → Bool
assigned [] bs n = false
assigned (k ∷ ks) [] n = false
assigned (k ∷ ks) (b ∷ bs) n = if bytes_eq k n then b else assigned ks bs n

others-assigned : (k : Text) (b : Bool) (ns ks : List Text) (bs : List Bool) → AllByRecursion (λ n. n ≡ k → ⊥) ns →
    map (assigned (k ∷ ks) (b ∷ bs)) ns ≡ map (assigned ks bs) ns
others-assigned k b [] ks bs apart = refl
others-assigned k b (n ∷ ns) ks bs apart =
    let other = false_from_ne_true (bytes_eq k n) (λ e. apart.0 (sym (same_texts k n e))) in
    ap (λ c. c ∷ map (assigned (k ∷ ks) (b ∷ bs)) ns) (cond-false (bytes_eq k n) b (assigned ks bs n) other)
    ∙ ap (λ cs. assigned ks bs n ∷ cs) (others-assigned k b ns ks bs apart.1)

all-assigned : (ns : List Text) (bs : List Bool) → AreDistinct ns → length bs ≡ length ns → map (assigned ns bs) ns ≡ bs
all-assigned [] [] apart long = refl
all-assigned [] (b ∷ bs) apart long = absurd (omega arith)
all-assigned (n ∷ ns) [] apart long = absurd (omega arith)
all-assigned (n ∷ ns) (b ∷ bs) apart long =
    ap (λ c. c ∷ map (assigned (n ∷ ns) (b ∷ bs)) ns) (cond-true (bytes_eq n n) b (assigned ns bs n) (same_bytes n n refl))
    ∙ ap (λ cs. b ∷ cs) (others-assigned n b ns ns bs apart.0 ∙ all-assigned ns bs apart.1 (omega arith))

pub any-inputs : (m : ModuleTree) → HasPorts m → (bits : List Bool) → length bits ≡ length (inputs m) → (a : Assignment) × (map a (inputs m) ≡ bits)
any-inputs m good bits long = (assigned (inputs m) bits, all-assigned (inputs m) bits (inputs-distinct m good) long)

-- The first fault.

module _ (m : ModuleTree) where
  pub counted-named : (test : Role → Bool) (n : Text) → 1 ≤ count test m n → Contains (names m) n
  counted-named test n h = let found = count-mention test m n h in mentioned m n found.0 found.1

  pub bad-named : (n : Text) → IsBadPort m n → Contains (names m) n
  bad-named n (twice_in_header h) = counted-named is_header n (omega arith)
  bad-named n (two_directions h) = counted-named is_directed n (omega arith)
  bad-named n (no_direction h none) = counted-named is_header n h
  bad-named n (no_port none h) = counted-named is_directed n h

  pub undriven-named : (n : Text) → HasNoDriver m n → Contains (names m) n
  undriven-named n h = elim h.0 [ inl some ↦ counted-named is_read n some | inr some ↦ counted-named is_output n some ]

  reader-named : (n other : Text) → Reads m n other → Contains (names m) n
  reader-named n other r = mentioned m n Driven (drive-mention m r.drive n r.among r.driven)

  pub dependent-named : (n other : Text) → DependsOn m n other → Contains (names m) n
  dependent-named _ _ (directly n k r) = reader-named n k r
  dependent-named _ _ (through n k l r d) = reader-named n k r

  bad-from_decisions : (n : Text) → Dec (2 ≤ count is_header m n) → Dec (2 ≤ count is_directed m n) →
      Dec ((1 ≤ count is_header m n) × (count is_directed m n ≡ 0)) → Dec ((count is_header m n ≡ 0) × (1 ≤ count is_directed m n)) → Dec (IsBadPort m n)
  bad-from_decisions n (yes twice) two alone stray = yes (twice_in_header twice)
  bad-from_decisions n (no once) (yes two) alone stray = yes (two_directions two)
  bad-from_decisions n (no once) (no one) (yes alone) stray = yes (no_direction alone.0 alone.1)
  bad-from_decisions n (no once) (no one) (no directed) (yes stray) = yes (no_port stray.0 stray.1)
  bad-from_decisions n (no once) (no one) (no directed) (no port) = no (λ bad. elim bad [
    | twice_in_header h ↦ once h
    | two_directions h ↦ one h
    | no_direction h none ↦ directed (h, none)
    | no_port none h ↦ port (none, h)
  ])

  unfoldable dec_bad : (n : Text) → Dec (IsBadPort m n)
  unfolding bad-from_decisions dec_both dec_le ℕ_discrete
  dec_bad n =
      let header = count is_header m n in
      let directed = count is_directed m n in
      bad-from_decisions n (dec_le 2 header) (dec_le 2 directed)
      (dec_both _ _ (dec_le 1 header) (ℕ_discrete directed 0)) (dec_both _ _ (ℕ_discrete header 0) (dec_le 1 directed))

  unfoldable dec_undriven : (n : Text) → Dec (HasNoDriver m n)
  unfolding dec_both dec_either dec_le ℕ_discrete
  dec_undriven n =
      dec_both _ _ (dec_either _ _ (dec_le 1 (count is_read m n)) (dec_le 1 (count is_output m n))) (ℕ_discrete (count is_driven m n) 0)

  -- Cycles.

  abbrev ReadsBy : Text → Text → Drive → Type 0
  ReadsBy n other d = Member n d.targets × Member other (flat_map names_of d.arguments)

  unfoldable dec_reads_by : (n other : Text) (d : Drive) → Dec (ReadsBy n other d)
  unfolding dec_both dec_member
  dec_reads_by n other d = dec_both _ _ (dec_member n d.targets) (dec_member other (flat_map names_of d.arguments))

  pub reads-from_some : (n other : Text) → (d : Drive) × Member d (drives m) × ReadsBy n other d → Reads m n other
  reads-from_some n other (d, among, by) = record {
    drive = d;
    among = Contains-from_member d (drives m) among;
    driven = Contains-from_member n d.targets by.0;
    read = Contains-from_member other (flat_map names_of d.arguments) by.1;
  }

  pub some-from_reads : (n other : Text) → Reads m n other → (d : Drive) × Member d (drives m) × ReadsBy n other d
  some-from_reads n other r = (
    r.drive,
    Member-from_contains r.drive (drives m) r.among,
    (Member-from_contains n r.drive.targets r.driven, Member-from_contains other (flat_map names_of r.drive.arguments) r.read),
  )

  unfoldable dec_reads : (n other : Text) → Dec (Reads m n other)
  unfolding dec_from dec_some dec_reads_by
  dec_reads n other = dec_from _ _ (reads-from_some n other) (some-from_reads n other) (dec_some (ReadsBy n other) (dec_reads_by n other) (drives m))

  depends-joined : (n k l : Text) → DependsOn m n k → DependsOn m k l → DependsOn m n l
  depends-joined n k l (directly _ _ r) d = through n k l r d
  depends-joined n k l (through _ j _ r c) d = through n j l r (depends-joined j k l c d)

  pub depends-from_way : (ns : List Text) (n other : Text) → Way (Reads m) ns n other → DependsOn m n other
  depends-from_way [] n other r = directly n other r
  depends-from_way (k ∷ ks) n other (inl w) = depends-from_way ks n other w
  depends-from_way (k ∷ ks) n other (inr w) = depends-joined n k other (depends-from_way ks n k w.0) (depends-from_way ks k other w.1)

  pub way-from_depends : (n other : Text) → DependsOn m n other → Way (Reads m) (names m) n other
  way-from_depends _ _ (directly n k r) = way-from_step (Reads m) (names m) n k r
  way-from_depends _ _ (through n k l r d) =
      way-joined (Reads m) (names m) n k l (Member-from_contains k (names m) (dependent-named k l d))
      (way-from_step (Reads m) (names m) n k r) (way-from_depends k l d)

  unfoldable dec_cyclic : (n : Text) → Dec (IsOnCycle m n)
  unfolding dec_from dec_way dec_reads
  dec_cyclic n = dec_from _ _ (depends-from_way (names m) n n) (way-from_depends n n) (dec_way (Reads m) dec_reads (names m) n n)

  least-from_first : (Fault : Text → Type 0) → ((n : Text) → Fault n → Contains (names m) n) → IsFirst Fault (names m) ⊎ AllByRecursion (λ n. Fault n → ⊥) (names m) →
      ((n : Text) × IsLeast m Fault n) ⊎ IsFree Fault
  least-from_first Fault named (inl first) = inl (
    first.item,
    record {
      before = first.before;
      after = first.after;
      splits = first.splits;
      has = first.has;
      none = All-from_recursion (λ other. Fault other → ⊥) first.before first.none;
    },
  )
  least-from_first Fault named (inr none) =
      inr (λ n h. member_of_AllByRecursion (λ other. Fault other → ⊥) n (names m) none (Member-from_contains n (names m) (named n h)) h)

  unfoldable least-or_free : (Fault : Text → Type 0) → ((n : Text) → Dec (Fault n)) → ((n : Text) → Fault n → Contains (names m) n) →
      ((n : Text) × IsLeast m Fault n) ⊎ IsFree Fault
  unfolding least-from_first first-or_none
  least-or_free Fault decide named = least-from_first Fault named (first-or_none Fault decide (names m))

  abbrev Meaning : Type 0
  Meaning = (r : Result Netlist NetFault) × Elaborates m r

  unfoldable driven-meaning : IsDriven m → Meaning
  unfolding least-or_free dec_cyclic
  driven-meaning good = elim (least-or_free (IsOnCycle m) dec_cyclic (λ n h. dependent-named n n h)) [
    | inl found ↦ (Err (Cycle found.0), (good, found.1))
    | inr free ↦ (Ok (net_of m), ((good, free), refl))
  ]

  unfoldable once-meaning : IsDrivenOnce m → Meaning
  unfolding driven-meaning dec_undriven
  once-meaning good = elim (least-or_free (HasNoDriver m) dec_undriven undriven-named) [
    | inl found ↦ (Err (NoDriver found.0), (good, found.1))
    | inr free ↦ driven-meaning (good, free)
  ]

  unfoldable output-meaning : HasOutput m → Meaning
  unfolding once-meaning dec_le
  output-meaning good =
      elim (least-or_free (HasTwoDrivers m) (λ n. dec_le 2 (count is_driven m n)) (λ n h. counted-named is_driven n (omega (arith, h)))) [
        | inl found ↦ (Err (TwoDrivers found.0), (good, found.1))
        | inr free ↦ once-meaning (good, free)
      ]

  empty_or : {X : Type 0} (xs : List X) → (xs ≡ []) ⊎ (0 < length xs)
  empty_or [] = inl refl
  empty_or (x ∷ xs) = inr (omega arith)

  unfoldable pub meaning : Meaning
  unfolding output-meaning empty_or dec_bad
  meaning = elim (least-or_free (IsBadPort m) dec_bad bad-named) [
    | inl found ↦ (Err (BadPort found.0), found.1)
    | inr free ↦ elim (empty_or (outputs m)) [
      | inl none ↦ (Err NoOutput, (free, none))
      | inr some ↦ output-meaning (free, some)
    ]
  ]
