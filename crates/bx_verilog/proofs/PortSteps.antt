-- The ports of a module, one at a time.
use Rattle.std.proofs.Common.{◌≡◌, ℕ, ◌+◌, ◌<◌, ◌≤◌, Bool, true, false, List, [], ◌∷◌, ◌++◌, length, map, flat_map, filter, get_or, take, Contains, inl, refl, sym, ap, ◌∙◌, subst, arith, rules, tests}
use Rattle.std.specs.Prelude.{if◌then◌else◌, nat_lt}
use Rattle.std.proofs.lemmas.List.{append-nil, map-append, take_more, take_all}
use Rattle.std.proofs.lemmas.List.Elements.{filter-append}
use Rattle.bx_syntax.specs.declared.tree.Port.{Port}
use Rattle.bx_syntax.specs.Parts.{ModuleTree}
use Rattle.bx_verilog.specs.declared.role.Role.{Role}
use Rattle.bx_verilog.specs.declared.role.Role.TheVariants.{Header}
use Rattle.bx_verilog.specs.declared.uses.Uses.{Uses}
use Rattle.bx_verilog.specs.Formulas.{Text}
use Rattle.bx_verilog.specs.Mentions.{count, names, number, mentions, port_mentions, part_mentions, ports_as}
use Rattle.bx_verilog.specs.Drives.{parts_of}
use Rattle.bx_verilog.specs.Shown.{number_among}
use Rattle.bx_verilog.specs.Uses.{AreUses, uses_among}
use Rattle.bx_logic.proofs.Members.{Member, Member-from_get_or, Member-flat_map, Member-append_left, Contains-from_member}
use Rattle.bx_verilog.proofs.Numbering.{mentioned, number-within}
use Rattle.bx_verilog.proofs.Counting.{same-length, uses-at_number}

-- the ports of these that the module declares so
abbrev pub ports_among : (Role → Bool) → ModuleTree → List Port → List Text
ports_among test m ps = filter (λ n. nat_lt 0 (count test m n)) (map (λ (p : Port). p.name) ps)

ports_more : (test : Role → Bool) (m : ModuleTree) (ps : List Port) (k : ℕ) (p : Port) → k < length ps → p ≡ get_or ps k p →
    ports_among test m (take (k + 1) ps) ≡ ports_among test m (take k ps) ++ (if nat_lt 0 (count test m p.name) then p.name ∷ [] else [])
ports_more test m ps k p h is =
    let name : Port → Text = λ q. q.name in
    let passes : Text → Bool = λ n. nat_lt 0 (count test m n) in
    ap (λ xs. filter passes (map name xs)) (take_more ps k p h)
    ∙ (ap (filter passes) (map-append name (take k ps) (get_or ps k p ∷ [])) ∙ (filter-append passes (map name (take k ps)) (name (get_or ps k p) ∷ []) ∙ ap (λ (q : Port). filter passes (map name (take k ps)) ++ filter passes (q.name ∷ [])) (sym is)))

passes-some : (n : ℕ) → 0 < n → nat_lt 0 n ≡ true
passes-some n h = search (rules, tests)

passes-none : (n : ℕ) → n ≤ 0 → nat_lt 0 n ≡ false
passes-none n h = search (rules, tests)

-- A port's name is numbered, and its uses stand at its number.
port-mentioned : (m : ModuleTree) (ps : List Port) (k : ℕ) (p : Port) → ps ≡ m.ports → k < length ps → p ≡ get_or ps k p → Contains (names m) p.name
port-mentioned m ps k p e h is =
    let among : Member p m.ports = subst (λ (qs : List Port). Member p qs) e (Member-from_get_or p ps k h (sym is)) in
    mentioned m p.name Header (Contains-from_member (p.name, Header) (mentions m)
    (Member-append_left (p.name, Header) (flat_map port_mentions m.ports) (flat_map part_mentions (parts_of m)) (Member-flat_map port_mentions p (p.name, Header) m.ports among (inl refl))))

pub port-within : (m : ModuleTree) (all : List Text) (uses : List Uses) (ps : List Port) (k : ℕ) (p : Port) (n : Text) (number : ℕ) → AreUses m all uses → ps ≡ m.ports → k < length ps → p ≡ get_or ps k p → n ≡ p.name →
    number ≡ number_among all n → number < length uses
port-within m all uses ps k p n number are e h is named at =
    let low = number-within m p.name (port-mentioned m ps k p e h is) in
    omega (arith, same-length m all uses are, ap length are.named, at ∙ (λ i. number_among (are.named i) (named i)), low)

port-uses : (m : ModuleTree) (all : List Text) (uses : List Uses) (ps : List Port) (k : ℕ) (p : Port) (n : Text) (number : ℕ) (d : Uses) → AreUses m all uses → ps ≡ m.ports → k < length ps → p ≡ get_or ps k p → n ≡ p.name →
    number ≡ number_among all n → get_or uses number d ≡ uses_among (mentions m) p.name
port-uses m all uses ps k p n number d are e h is named at =
    ap (λ j. get_or uses j d) (at ∙ ap (number_among all) named) ∙ uses-at_number m all uses are p.name d (port-mentioned m ps k p e h is)

-- A port that is declared so is one more, and another is not.
module _ (test : Role → Bool) (field : Uses → ℕ) (counts : (m : ModuleTree) (n : Text) → field (uses_among (mentions m) n) ≡ count test m n) where
  pub port-taken : (m : ModuleTree) (all : List Text) (uses : List Uses) (ps : List Port) (k : ℕ) (p : Port) (n : Text) (number : ℕ) (d : Uses) → AreUses m all uses → ps ≡ m.ports → k < length ps → p ≡ get_or ps k p → n ≡ p.name →
      number ≡ number_among all n → 0 < field (get_or uses number d) → ports_among test m (take (k + 1) ps) ≡ ports_among test m (take k ps) ++ n ∷ []
  port-taken m all uses ps k p n number d are e h is named at some =
      let same = ap field (port-uses m all uses ps k p n number d are e h is named at) ∙ counts m p.name in
      let passes = passes-some (count test m p.name) (omega arith) in
      ports_more test m ps k p h is ∙ (ap (λ b. ports_among test m (take k ps) ++ (if b then p.name ∷ [] else [])) passes ∙ ap (λ x. ports_among test m (take k ps) ++ x ∷ []) (sym named))

  pub port-left : (m : ModuleTree) (all : List Text) (uses : List Uses) (ps : List Port) (k : ℕ) (p : Port) (n : Text) (number : ℕ) (d : Uses) → AreUses m all uses → ps ≡ m.ports → k < length ps → p ≡ get_or ps k p → n ≡ p.name →
      number ≡ number_among all n → field (get_or uses number d) ≤ 0 → ports_among test m (take (k + 1) ps) ≡ ports_among test m (take k ps)
  port-left m all uses ps k p n number d are e h is named at none =
      let same = ap field (port-uses m all uses ps k p n number d are e h is named at) ∙ counts m p.name in
      let passes = passes-none (count test m p.name) (omega arith) in
      ports_more test m ps k p h is ∙ (ap (λ b. ports_among test m (take k ps) ++ (if b then p.name ∷ [] else [])) passes ∙ append-nil (ports_among test m (take k ps)))

-- Outputs are names with their numbers.
abbrev pub numbered_outputs : ModuleTree → List Text → List (Text × ℕ)
numbered_outputs m ns = map (λ n. (n, number m n)) ns

pub numbered-push : (m : ModuleTree) (all : List Text) (ns more : List Text) (n : Text) (k : ℕ) → all ≡ names m → k ≡ number_among all n → more ≡ ns ++ n ∷ [] →
    numbered_outputs m ns ++ (n, k) ∷ [] ≡ numbered_outputs m more
numbered-push m all ns more n k e at is =
    ap (λ j. numbered_outputs m ns ++ (n, j) ∷ []) (at ∙ ap (λ xs. number_among xs n) e) ∙ (sym (map-append (λ (x : Text). (x, number m x)) ns (n ∷ [])) ∙ ap (numbered_outputs m) (sym is))

pub all-ports : (test : Role → Bool) (m : ModuleTree) (ps : List Port) (k : ℕ) → ps ≡ m.ports → length ps ≤ k → ports_among test m (take k ps) ≡ ports_as test m
all-ports test m ps k e h = ap (ports_among test m) (take_all k ps h ∙ e)
