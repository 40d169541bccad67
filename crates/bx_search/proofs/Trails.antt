-- Trails: what assigning a literal keeps, and what taking the last one off.
use Rattle.std.proofs.Common.{◌≡◌, ◌≢◌, ℕ, zero, suc, ◌+◌, ◌-◌, ◌<◌, ◌≤◌, inl, inr, Bool, true, false, ◌==◌, ◌&&◌, ◌||◌, cond, List, [], ◌∷◌, ◌++◌, length, get_or, set, take, Some, None, slice_get, refl, sym, ◌∙◌, ap, subst, arith, length-take, length-set}
use Rattle.std.specs.Prelude.{All, Contains, nat_le}
use Rattle.std.specs.List.{range_with_len}
use Rattle.std.proofs.lemmas.Bool.{cases_eq, eq-eqb, ne_eqb}
use Rattle.std.proofs.lemmas.List.{length-map, map-append, get_or-set_same, get_or-set_other, get_or-take, get_or-map, ext_get_or}
use Rattle.std.proofs.lemmas.List.Elements.{All-contains, All-push, Contains-push_cases, Contains-append_left}
use Rattle.std.proofs.lemmas.List.Folds.{list_any-append}
use Rattle.std.proofs.lemmas.List.FromFn.{length-range_with_len, get_or-map-range_with_len}
use Rattle.bx_logic.proofs.Members.{Member-map, Contains-from_member, Member-from_contains}
use Rattle.bx_cnf.specs.Literals.{Literal}
use Rattle.bx_cnf.specs.Assignments.{IsFree}
use Rattle.bx_watch.specs.Watching.{IsOver, AreApart}
use Rattle.bx_watch.proofs.Trails.{fresh, AreApart-assigned, AreApart-freed, All-front}
use Rattle.bx_search.specs.States.{Assigned, literals_of, level_after, current_level, is_true, values}
use Rattle.bx_search.specs.Trails.{Climbs, IsAssignment, AreLevels}
use Rattle.bx_search.specs.Searching.{up_to}

pub literals-push : (entries : List Assigned) (a : Assigned) → literals_of (entries ++ a ∷ []) ≡ literals_of entries ++ a.literal ∷ []
literals-push entries a = map-append (λ (b : Assigned). b.literal) entries (a ∷ [])

-- what is assigned is over a literal of the trail
pub literal-on : (entries : List Assigned) (a : Assigned) → Contains entries a → Contains (literals_of entries) a.literal
literal-on entries a has = Contains-from_member a.literal (literals_of entries) (Member-map (λ (z : Assigned). z.literal) a entries (Member-from_contains a entries has))

climbs-push : (low : ℕ) (trail : List Assigned) (a : Assigned) → Climbs low trail → level_after low trail ≤ a.level → a.level ≤ level_after low trail + 1 → Climbs low (trail ++ a ∷ [])
climbs-push low [] a c l h = (l, h, tt)
climbs-push low (b ∷ trail) a c l h = (c.0, c.1, climbs-push b.level trail a c.2 l h)

climbs-front : (low : ℕ) (trail rest : List Assigned) → Climbs low (trail ++ rest) → Climbs low trail
climbs-front low [] rest c = tt
climbs-front low (a ∷ trail) rest c = (c.0, c.1, climbs-front a.level trail rest c.2)

-- a level has a literal for each level up to it
pub level-low : (low : ℕ) (trail : List Assigned) → Climbs low trail → level_after low trail ≤ low + length trail
level-low low [] c = omega arith
level-low low (a ∷ trail) c = omega (arith, c.1, level-low a.level trail c.2)

some-same : (a b : Assigned) → Some a ≡ Some b → a ≡ b
some-same a b e = cc

none-some : (a : Assigned) → None ≡ Some a → ⊥
none-some a e = cc

pub level-last : (low : ℕ) (trail : List Assigned) (k : ℕ) (a : Assigned) → k + 1 ≡ length trail → slice_get trail k ≡ Some a → a.level ≡ level_after low trail
level-last low [] k a n e = absurd (none-some a e)
level-last low (b ∷ []) zero a n e = ap (λ (z : Assigned). z.level) (sym (some-same b a e))
level-last low (b ∷ []) (suc k) a n e = absurd (none-some a e)
level-last low (b ∷ c ∷ trail) zero a n e = absurd (omega (arith, n))
level-last low (b ∷ c ∷ trail) (suc k) a n e = level-last b.level (c ∷ trail) k a (omega (arith, n)) e

-- the trail and its table of levels
abbrev pub IsTrail : List ℕ → List Assigned → Type 0
IsTrail levels entries = IsAssignment (record { vars = length levels; entries = entries }) × AreLevels levels entries

levels-push : (levels : List ℕ) (entries : List Assigned) (a : Assigned) → IsTrail levels entries → IsOver (length levels) a.literal → IsFree (literals_of entries) a.literal
    → AreLevels (set levels (a.literal.var - 1) a.level) (entries ++ a ∷ [])
levels-push levels entries a is over free b has = elim (Contains-push_cases entries a b has) [
  | inl before ↦
      let there : Contains (literals_of entries) b.literal = literal-on entries b before in
      let over_b : IsOver (length levels) b.literal = All-contains (IsOver (length levels)) (literals_of entries) b.literal is.0.over there in
      let other : b.literal.var ≢ a.literal.var = fresh (literals_of entries) a.literal b.literal free there in
      get_or-set_other levels (a.literal.var - 1) (b.literal.var - 1) a.level 0 (λ e. other (omega (arith, over.0, over_b.0, e))) ∙ is.1 b before
  | inr here ↦
      let within : a.literal.var - 1 < length levels = omega (arith, over.0, over.1) in
      subst (λ (z : Assigned). get_or (set levels (a.literal.var - 1) a.level) (z.literal.var - 1) 0 ≡ z.level) here
      (get_or-set_same levels (a.literal.var - 1) a.level 0 within)
]

pub trail-push : (levels : List ℕ) (entries : List Assigned) (a : Assigned) → IsTrail levels entries → IsOver (length levels) a.literal → IsFree (literals_of entries) a.literal
    → current_level entries ≤ a.level → a.level ≤ current_level entries + 1 → IsTrail (set levels (a.literal.var - 1) a.level) (entries ++ a ∷ [])
trail-push levels entries a is over free low high =
    let same : length (set levels (a.literal.var - 1) a.level) ≡ length levels = length-set levels (a.literal.var - 1) a.level in (
      record {
        vars = omega (arith, same, is.0.vars);
        over = subst (λ n. All (IsOver n) (literals_of (entries ++ a ∷ []))) (sym same)
            (subst (All (IsOver (length levels))) (sym (literals-push entries a)) (All-push (IsOver (length levels)) (literals_of entries) a.literal is.0.over over));
        apart = subst AreApart (sym (literals-push entries a)) (AreApart-assigned (literals_of entries) a.literal is.0.apart free);
        climbs = climbs-push 0 entries a is.0.climbs low high;
      },
      levels-push levels entries a is over free,
    )

pub trail-front : (levels : List ℕ) (entries : List Assigned) (a : Assigned) → IsTrail levels (entries ++ a ∷ []) → IsTrail levels entries
trail-front levels entries a is = (
  record {
    vars = is.0.vars;
    over = All-front (IsOver (length levels)) (literals_of entries) a.literal (subst (All (IsOver (length levels))) (literals-push entries a) is.0.over);
    apart = AreApart-freed (literals_of entries) a.literal (subst AreApart (literals-push entries a) is.0.apart);
    climbs = climbs-front 0 entries (a ∷ []) is.0.climbs;
  },
  λ b has. is.1 b (Contains-append_left entries (a ∷ []) b has),
)

-- what stands at a place is over a variable
pub entry-over : (vars : ℕ) (entries : List Assigned) (k : ℕ) (a : Assigned) → All (IsOver vars) (literals_of entries) → k < length entries → a ≡ get_or entries k a → IsOver vars a.literal
entry-over vars entries k a over below is = All-contains (IsOver vars) (literals_of entries) a.literal over (literal-on entries a (k, below, sym is))

-- values, as far as the trail was read
abbrev pub AreBits : ℕ → List Bool → List Assigned → Type 0
AreBits vars bits entries = (length bits ≡ vars) × ((k : ℕ) → k < vars → get_or bits k false ≡ is_true entries (k + 1))

pub bits-none : (vars : ℕ) (bits : List Bool) → length bits ≡ vars → ((k : ℕ) → k < vars → get_or bits k false ≡ false) → AreBits vars bits []
bits-none vars bits same none = (same, none)

-- a variable that is free is not true
not-true : (entries : List Assigned) (var : ℕ) → ((b : Assigned) → Contains entries b → b.literal.var ≢ var) → is_true entries var ≡ false
not-true [] var none = refl
not-true (a ∷ entries) var none =
    rw (ne_eqb a.literal.var var (none a (0, omega arith, refl))) (not-true entries var (λ b (k, below, is). none b (suc k, omega (arith, below), is)))

or-none : (b : Bool) → (b || false) ≡ b
or-none true = refl
or-none false = refl

true-push : (entries : List Assigned) (a : Assigned) (var : ℕ) → is_true (entries ++ a ∷ []) var ≡ (is_true entries var || ((a.literal.var == var) && a.literal.positive))
true-push entries a var =
    list_any-append (λ (b : Assigned). (b.literal.var == var) && b.literal.positive) entries (a ∷ [])
    ∙ ap (λ b. is_true entries var || b) (or-none ((a.literal.var == var) && a.literal.positive))

pub bits-push : (vars : ℕ) (bits : List Bool) (entries : List Assigned) (a : Assigned) → AreBits vars bits entries → IsOver vars a.literal → ((b : Assigned) → Contains entries b → b.literal.var ≢ a.literal.var)
    → AreBits vars (set bits (a.literal.var - 1) a.literal.positive) (entries ++ a ∷ [])
bits-push vars bits entries a are over fresh_a = (
  length-set bits (a.literal.var - 1) a.literal.positive ∙ are.0,
  λ k below. elim (cases_eq a.literal.var (k + 1)) [
    | inl same ↦
        let here : a.literal.var - 1 ≡ k = omega (arith, same) in
        let within : a.literal.var - 1 < length bits = omega (arith, are.0, below, same) in
        subst (λ n. get_or (set bits (a.literal.var - 1) a.literal.positive) n false ≡ a.literal.positive) here (get_or-set_same bits (a.literal.var - 1) a.literal.positive false within)
        ∙ sym (true-push entries a (k + 1)
        ∙ rw (eq-eqb a.literal.var (k + 1) same, not-true entries (k + 1) (λ b has. subst (λ n. b.literal.var ≢ n) same (fresh_a b has))) refl)
    | inr other ↦
        get_or-set_other bits (a.literal.var - 1) k a.literal.positive false (λ e. other (omega (arith, over.0, e)))
        ∙ (are.1 k below ∙ sym (true-push entries a (k + 1) ∙ rw (ne_eqb a.literal.var (k + 1) other) (or-none (is_true entries (k + 1)))))
  ],
)

-- an entry is over none of the variables before it
pub entry-new : (entries : List Assigned) (k : ℕ) (a : Assigned) → AreApart (literals_of entries) → k < length entries → a ≡ get_or entries k a → (b : Assigned) → Contains (take k entries) b → b.literal.var ≢ a.literal.var
entry-new entries k a apart below is b (i, below_i, is_b) =
    let before : i < k = omega (arith, below_i, length-take k entries) in
    let at_i : get_or (literals_of entries) i a.literal ≡ b.literal =
    get_or-map (λ (z : Assigned). z.literal) entries i b a.literal (omega (arith, before, below)) ∙ ap (λ (z : Assigned). z.literal) (sym (get_or-take k entries i b before) ∙ is_b) in
    let at_k : get_or (literals_of entries) k a.literal ≡ a.literal =
    get_or-map (λ (z : Assigned). z.literal) entries k a a.literal below ∙ ap (λ (z : Assigned). z.literal) (sym is) in
    λ e. apart i k a.literal before (omega (arith, below, length-map entries (λ (z : Assigned). z.literal)))
    (ap (λ (z : Literal). z.var) at_i ∙ e ∙ sym (ap (λ (z : Literal). z.var) at_k))

pub bits-all : (vars : ℕ) (bits : List Bool) (entries : List Assigned) → AreBits vars bits entries → bits ≡ values vars entries
bits-all vars bits entries are =
    ext_get_or false bits (values vars entries) (are.0 ∙ sym (length-map (range_with_len 1 vars) (is_true entries) ∙ length-range_with_len 1 vars))
    (λ i below. let within : i < vars = omega (arith, below, are.0) in
    are.1 i within ∙ sym (get_or-map-range_with_len (is_true entries) 1 vars i (i + 1) false within (omega arith)))

-- ---- going back

pub level-push : (low : ℕ) (trail : List Assigned) (a : Assigned) → level_after low (trail ++ a ∷ []) ≡ a.level
level-push low [] a = refl
level-push low (b ∷ trail) a = level-push b.level trail a

le-true : (m n : ℕ) → m ≤ n → nat_le m n ≡ true
le-true m n h = grind (arith, h)

le-false : (m n : ℕ) → n < m → nat_le m n ≡ false
le-false m n h = grind (arith, h)

-- what is above the level is taken off
pub up_to-push : (level : ℕ) (trail : List Assigned) (a : Assigned) → level < a.level → up_to level (trail ++ a ∷ []) ≡ up_to level trail
up_to-push level [] a high = rw (le-false a.level level high) refl
up_to-push level (b ∷ trail) a high = kept (nat_le b.level level) (up_to-push level trail a high) where
  kept : (t : Bool) → up_to level (trail ++ a ∷ []) ≡ up_to level trail → cond t (b ∷ up_to level (trail ++ a ∷ [])) (up_to level (trail ++ a ∷ [])) ≡ cond t (b ∷ up_to level trail) (up_to level trail)
  kept true e = ap (λ ts. b ∷ ts) e
  kept false e = e

low-first : (low : ℕ) (trail : List Assigned) → Climbs low trail → low ≤ level_after low trail
low-first low [] c = omega arith
low-first low (a ∷ trail) c = omega (arith, c.0, low-first a.level trail c.2)

up_to-low : (low level : ℕ) (trail : List Assigned) → Climbs low trail → level_after low trail ≤ level → up_to level trail ≡ trail
up_to-low low level [] c l = refl
up_to-low low level (a ∷ trail) c l =
    rw (le-true a.level level (omega (arith, l, low-first a.level trail c.2))) (ap (λ ts. a ∷ ts) (up_to-low a.level level trail c.2 l))

pub up_to-whole : (level : ℕ) (trail : List Assigned) → Climbs 0 trail → current_level trail ≤ level → up_to level trail ≡ trail
up_to-whole level trail c l = up_to-low 0 level trail c l
