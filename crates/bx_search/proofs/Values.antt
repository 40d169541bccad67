-- The bits with which a search ends make all clauses true.
use Rattle.std.proofs.Common.{◌≡◌, ℕ, zero, suc, ◌-◌, ◌<◌, ◌≤◌, ◌⊎◌, inl, inr, Bool, true, false, not, ◌==◌, ◌&&◌, ◌||◌, List, [], ◌∷◌, length, get_or, replicate, None, refl, sym, ◌∙◌, ap, subst, arith}
use Rattle.std.specs.Prelude.{Contains}
use Rattle.std.proofs.lemmas.Bool.{cases_Bool, eqb-true, not-false}
use Rattle.std.proofs.lemmas.List.{length-replicate}
use Rattle.std.proofs.lemmas.List.Elements.{All-contains, Contains-append_left}
use Rattle.std.proofs.lemmas.List.FromFn.{length-map-range_with_len, get_or-map-range_with_len}
use Rattle.bx_logic.proofs.Members.{Member, Contains-from_member}
use Rattle.bx_logic.proofs.Ordered.{Member-get_or}
use Rattle.bx_cnf.specs.Literals.{Literal, negated, value_of}
use Rattle.bx_cnf.specs.Formulas.{Formula, IsFormula, IsClause, IsClauseTrue, AllTrue}
use Rattle.bx_cnf.specs.Assignments.{IsFalse, IsActive}
use Rattle.bx_queue.specs.Queue.{IsQueue, moved_to_front}
use Rattle.bx_queue.proofs.Orders.{find-none, IsQueue-first, IsQueue-moved}
use Rattle.bx_search.specs.States.{Assigned, State, clauses_of, literals_of, is_assigned, first_free, is_true, values}
use Rattle.bx_search.specs.Searching.{Goes, After, IsSearch, moved_in_turn}
use Rattle.bx_search.specs.Searching.Goes.{Propagates, Decides, Learns}
use Rattle.bx_search.specs.declared.outcome.Outcome.TheVariants.{Sat}
use Rattle.bx_search.proofs.OneEnd.{above}
use Rattle.bx_search.proofs.Backed.{IsConsistent}
use Rattle.bx_search.proofs.Accepting.{within-after, learned-within}
use Rattle.bx_search.proofs.Following.{consistent-after}

-- the queue always has each variable once
abbrev pub IsOrder : ℕ → List ℕ → Type 0
IsOrder vars queue = IsQueue (record { order = queue; taken = replicate vars false })

order-moved : (vars : ℕ) (literals : List Literal) (queue : List ℕ) → ((l : Literal) → Member l literals → (0 < l.var) × (l.var ≤ vars)) → IsOrder vars queue → IsOrder vars (moved_in_turn literals queue)
order-moved vars [] queue over is = is
order-moved vars (l ∷ literals) queue over is =
    order-moved vars literals (moved_to_front l.var queue) (λ m on. over m (inr on))
    (IsQueue-moved l.var queue (replicate vars false) (let b = over l (inl refl) in (omega (arith, b.0), omega (arith, b.1, length-replicate vars false))) is)

order-goes : (formula : Formula) (budget events : ℕ) (s t : State) → IsFormula formula → After formula budget events s → Goes formula budget s t → IsOrder formula.vars s.queue → IsOrder formula.vars t.queue
order-goes formula budget events s t formed after (Propagates id l least next) is = subst (λ (u : State). IsOrder formula.vars u.queue) (sym next) is
order-goes formula budget events s t formed after (Decides var quiet first next) is = subst (λ (u : State). IsOrder formula.vars u.queue) (sym next) is
order-goes formula budget events s t formed after (Learns id step conflict fits some next) is =
    subst (λ (u : State). IsOrder formula.vars u.queue) (sym next)
    (order-moved formula.vars step.literals s.queue (λ l h. (
      above 0 step.literals l conflict.learned.ascending h,
      learned-within (clauses_of formula s) formula.vars s.trail id step conflict.learned (within-after formula budget events s formed after).trail l h,
    )) is)

pub order-after : (formula : Formula) (budget events : ℕ) (s : State) → IsFormula formula → After formula budget events s → IsOrder formula.vars s.queue
order-after formula budget zero s formed is =
    subst (λ (u : State). IsOrder formula.vars u.queue) (sym is) (IsQueue-first formula.vars (replicate formula.vars false) (length-replicate formula.vars false))
order-after formula budget (suc events) s formed (before, after, goes) =
    order-goes formula budget events before s formed after goes (order-after formula budget events before formed after)

-- where none is free, each is assigned
pub all-assigned : (formula : Formula) (budget events : ℕ) (s : State) → IsFormula formula → After formula budget events s → first_free s ≡ None
    → (v : ℕ) → 0 < v → v ≤ formula.vars → is_assigned s.trail v ≡ true
all-assigned formula budget events s formed after none v positive within =
    not-false (is_assigned s.trail v) (find-none (λ u. not (is_assigned s.trail u)) s.queue none v
    ((order-after formula budget events s formed after).all v (omega (arith, positive), omega (arith, within, length-replicate formula.vars false))))

-- the literal of a variable that is assigned
pub or-cases : (a b : Bool) → (a || b) ≡ true → (a ≡ true) ⊎ (b ≡ true)
or-cases true b e = inl refl
or-cases false b e = inr e

pub assigned-literal : (trail : List Assigned) (v : ℕ) → is_assigned trail v ≡ true → (a : Assigned) × Member a trail × (a.literal.var ≡ v)
assigned-literal [] v e = absurd (no e) where
  no : false ≡ true → ⊥
  no h = cc
assigned-literal (a ∷ trail) v e = elim (or-cases (a.literal.var == v) (is_assigned trail v) e) [
  | inl here ↦ (a, inl refl, eqb-true a.literal.var v here)
  | inr rest ↦ (let (b, on, is) = assigned-literal trail v rest in (b, inr on, is))
]

either : (a b : Bool) → (a ≡ b) ⊎ (a ≡ not b)
either true true = inl refl
either true false = inr refl
either false true = inr refl
either false false = inl refl

pub literal-same : (l m : Literal) → l.var ≡ m.var → l.positive ≡ m.positive → l ≡ m
literal-same l m v p = ap (λ (n : ℕ). record { var = n; positive = l.positive }) v ∙ ap (λ (b : Bool). record { var = m.var; positive = b }) p

literal-on : (trail : List Assigned) (a : Assigned) (l : Literal) → Member a trail → a.literal ≡ l → Member l (literals_of trail)
literal-on [] a l h e = absurd h
literal-on (b ∷ trail) a l (inl x) e = inl (ap (λ (z : Assigned). z.literal) x ∙ e)
literal-on (b ∷ trail) a l (inr h) e = inr (literal-on trail a l h e)

pub true-or-false : (trail : List Assigned) (l : Literal) → is_assigned trail l.var ≡ true → Member l (literals_of trail) ⊎ Member (negated l) (literals_of trail)
true-or-false trail l e =
    let (a, on, is) = assigned-literal trail l.var e in
    elim (either a.literal.positive l.positive) [
      | inl same ↦ inl (literal-on trail a l on (literal-same a.literal l is same))
      | inr other ↦ inr (literal-on trail a (negated l) on (literal-same a.literal (negated l) is other))
    ]

-- of a clause whose variables are assigned a literal is true, or all are false
some-or-none : (trail : List Assigned) (clause : List Literal) → ((l : Literal) → Member l clause → is_assigned trail l.var ≡ true)
    → ((l : Literal) × Member l clause × Member l (literals_of trail)) ⊎ ((l : Literal) → Member l clause → IsFalse (literals_of trail) l)
some-or-none trail [] each = inr (λ l h. absurd h)
some-or-none trail (m ∷ clause) each = elim (true-or-false trail m (each m (inl refl))) [
  | inl holds ↦ inl (m, inl refl, holds)
  | inr fails ↦ elim (some-or-none trail clause (λ l h. each l (inr h))) [
    | inl (l, on, holds) ↦ inl (l, inr on, holds)
    | inr all ↦ inr (λ l h. elim h [
      | inl e ↦ Contains-from_member (negated l) (literals_of trail) (subst (λ (z : Literal). Member (negated z) (literals_of trail)) e fails)
      | inr rest ↦ all l rest
    ])
  ]
]

-- the value of a variable whose literal is on the trail
and-parts : (a b : Bool) → (a && b) ≡ true → (a ≡ true) × (b ≡ true)
and-parts true b e = (refl, e)
and-parts false b e = absurd (no e) where
  no : false ≡ true → ⊥
  no h = cc

shown-true : (trail : List Assigned) (v : ℕ) → is_true trail v ≡ true → Member (record { var = v; positive = true }) (literals_of trail)
shown-true [] v e = absurd (no e) where
  no : false ≡ true → ⊥
  no h = cc
shown-true (a ∷ trail) v e = elim (or-cases ((a.literal.var == v) && a.literal.positive) (is_true trail v) e) [
  | inl here ↦ (let parts = and-parts (a.literal.var == v) a.literal.positive here in
      inl (literal-same a.literal (record { var = v; positive = true }) (eqb-true a.literal.var v parts.0) parts.1))
  | inr rest ↦ inr (shown-true trail v rest)
]

or-true : (b : Bool) → (b || true) ≡ true
or-true true = refl
or-true false = refl

is_true-shown : (trail : List Assigned) (v : ℕ) → Member (record { var = v; positive = true }) (literals_of trail) → is_true trail v ≡ true
is_true-shown [] v h = absurd h
is_true-shown (a ∷ trail) v (inl e) =
    subst (λ (l : Literal). (((l.var == v) && l.positive) || is_true trail v) ≡ true) (sym e) (grind arith)
is_true-shown (a ∷ trail) v (inr h) = rw (is_true-shown trail v h) (or-true ((a.literal.var == v) && a.literal.positive))

value-shown : (trail : List Assigned) (l : Literal) → IsConsistent trail → Member l (literals_of trail) → is_true trail l.var ≡ l.positive
value-shown trail l apart on = by_sign l.var l.positive on (apart l on) where
  by_sign : (v : ℕ) (b : Bool) → Member (record { var = v; positive = b }) (literals_of trail) → (Member (record { var = v; positive = not b }) (literals_of trail) → ⊥) → is_true trail v ≡ b
  by_sign v true h n = is_true-shown trail v h
  by_sign v false h n = elim (cases_Bool (is_true trail v)) [
    | inl t ↦ absurd (n (shown-true trail v t))
    | inr f ↦ f
  ]

value-bit : (vars : ℕ) (trail : List Assigned) (v : ℕ) → 0 < v → v ≤ vars → value_of (values vars trail) v ≡ is_true trail v
value-bit vars trail v positive within = get_or-map-range_with_len (is_true trail) 1 vars (v - 1) v false (omega (arith, positive, within)) (omega (arith, positive))

-- the clause, of which a literal is true
clause-true : (formula : Formula) (budget events : ℕ) (s : State) (clause : List Literal) → IsFormula formula → After formula budget events s → first_free s ≡ None
    → IsClause formula.vars clause → (IsActive (literals_of s.trail) clause → ⊥) → IsClauseTrue (values formula.vars s.trail) clause
clause-true formula budget events s clause formed after none is inactive =
    elim (some-or-none s.trail clause (λ l h. all-assigned formula budget events s formed after none l.var (over l h).0 (over l h).1)) [
      | inl (l, on, holds) ↦ (let (k, below, at) = Contains-from_member l clause on in
          (k, l, below, at, value-bit formula.vars s.trail l.var (over l on).0 (over l on).1 ∙ value-shown s.trail l (consistent-after formula budget events s after) holds))
      | inr fails ↦ absurd (inactive (inl (λ k d below. fails (get_or clause k d) (Member-get_or clause k d below))))
    ] where
      over : (l : Literal) → Member l clause → (0 < l.var) × (l.var ≤ formula.vars)
      over l h = (above 0 clause l is.ascending h, All-contains (λ (m : Literal). m.var ≤ formula.vars) clause l is.within (Contains-from_member l clause h))

pub search-solves : (formula : Formula) (budget count : ℕ) (bits : List Bool) → IsFormula formula → IsSearch formula budget (Sat bits) count
    → (length bits ≡ formula.vars) × AllTrue bits formula.clauses
search-solves formula budget count bits formed found =
    let s : State = found.last in
    let ends = found.ends in (
      ap (λ (bs : List Bool). length bs) ends.2 ∙ length-map-range_with_len (is_true s.trail) 1 formula.vars,
      λ k d below.
          let clause : List Literal = get_or formula.clauses k d in
          let on : Contains formula.clauses clause = Contains-from_member clause formula.clauses (Member-get_or formula.clauses k d below) in
          subst (λ (bs : List Bool). IsClauseTrue bs clause) (sym ends.2)
          (clause-true formula budget found.events s clause formed found.after ends.1 (All-contains (IsClause formula.vars) formula.clauses clause formed.each on)
          (All-contains (λ (c : List Literal). IsActive (literals_of s.trail) c → ⊥) (clauses_of formula s) clause ends.0 (Contains-append_left formula.clauses _ clause on))),
    )
