-- What is marked, and how many of the literals that are left are.
use Rattle.std.proofs.Common.{◌≡◌, ℕ, suc, ◌+◌, ◌-◌, ◌<◌, ◌≤◌, inl, inr, Bool, true, false, ◌==◌, List, [], ◌∷◌, length, get_or, map, drop, drop-cons, refl, sym, ◌∙◌, ap, subst, arith, length-set}
use Rattle.std.specs.Prelude.{All, Contains}
use Rattle.std.proofs.lemmas.Bool.{cases_Bool, eqb-true}
use Rattle.std.proofs.lemmas.List.Elements.{All-contains}
use Rattle.bx_logic.proofs.Members.{Member, Member-map, Contains-from_member}
use Rattle.bx_cnf.specs.Literals.{Literal}
use Rattle.bx_watch.specs.Watching.{IsOver}
use Rattle.bx_search.specs.States.{Assigned, literals_of, current_level, is_assigned}
use Rattle.bx_search.specs.Marks.{Marking, has_mark, one_if, with_mark, with_marks, level_at}
use Rattle.bx_search.proofs.Values.{assigned-literal, or-cases}

-- a variable that is assigned is one of the trail's
pub over-assigned : (vars : ℕ) (trail : List Assigned) (v : ℕ) → All (IsOver vars) (literals_of trail) → is_assigned trail v ≡ true → (0 < v) × (v ≤ vars)
over-assigned vars trail v over e =
    let (a, on, is) = assigned-literal trail v e in
    subst (λ n. (0 < n) × (n ≤ vars)) is
    (All-contains (IsOver vars) (literals_of trail) a.literal over (Contains-from_member a.literal (literals_of trail) (Member-map (λ (z : Assigned). z.literal) a trail on)))

-- and it has one level
pub level-found : (trail : List Assigned) (v level : ℕ) → is_assigned trail v ≡ true → ((a : Assigned) → Contains trail a → a.literal.var ≡ v → level ≡ a.level) → level ≡ level_at trail v
level-found trail v level e each = by_member trail e (λ a on. each a (Contains-from_member a trail on)) where
  by_member : (t : List Assigned) → is_assigned t v ≡ true → ((a : Assigned) → Member a t → a.literal.var ≡ v → level ≡ a.level) → level ≡ level_at t v
  by_member [] h each_is = absurd (no h) where
    no : false ≡ true → ⊥
    no x = cc
  by_member (a ∷ t) h each_is = elim (cases_Bool (a.literal.var == v)) [
    | inl here ↦ rw here (each_is a (inl refl) (eqb-true a.literal.var v here))
    | inr other ↦ rw other (by_member t (rest other) (λ b on. each_is b (inr on)))
  ] where
    rest : (a.literal.var == v) ≡ false → is_assigned t v ≡ true
    rest other = elim (or-cases (a.literal.var == v) (is_assigned t v) h) [
      | inl here ↦ absurd (both (a.literal.var == v) here other)
      | inr later ↦ later
    ] where
      both : (b : Bool) → b ≡ true → b ≡ false → ⊥
      both b t f = no (sym t ∙ f) where
        no : true ≡ false → ⊥
        no x = cc

-- one variable more
pub marks-more : (trail : List Assigned) (clause : List Literal) (i : ℕ) (l : Literal) (m : Marking) (here : Bool) → i < length clause → l ≡ get_or clause i l
    → here ≡ (level_at trail l.var == current_level trail)
    → with_marks trail (map (λ (x : Literal). x.var) (drop (i + 1) clause)) (with_mark l.var here m) ≡ with_marks trail (map (λ (x : Literal). x.var) (drop i clause)) m
marks-more trail clause i l m here below at is =
    let split : drop i clause ≡ l ∷ drop (i + 1) clause = drop-cons clause i l below ∙ (ap (λ (x : Literal). x ∷ drop (suc i) clause) (sym at) ∙ ap (λ n. l ∷ drop n clause) next) in
    ap (λ (b : Bool). with_marks trail (map (λ (x : Literal). x.var) (drop (i + 1) clause)) (with_mark l.var b m)) is
    ∙ ap (λ (ls : List Literal). with_marks trail (map (λ (x : Literal). x.var) ls) m) (sym split)
  where
    next : suc i ≡ i + 1
    next = omega arith

pub sized-with_mark : (v : ℕ) (here : Bool) (m : Marking) → length (with_mark v here m).marked ≡ length m.marked
sized-with_mark v here m = elim (cases_Bool (has_mark m v)) [
  | inl t ↦ rw t refl
  | inr f ↦ rw f (length-set m.marked (v - 1) true)
]

pub left-with_mark : (v : ℕ) (here : Bool) (m : Marking) → (with_mark v here m).left ≤ m.left + 1
left-with_mark v here m = elim (cases_Bool (has_mark m v)) [
  | inl t ↦ rw t (omega arith)
  | inr f ↦ rw f (omega arith)
]

pub here-with_mark : (v : ℕ) (here : Bool) (m : Marking) → (with_mark v here m).here ≤ m.here + 1
here-with_mark v here m = elim (cases_Bool (has_mark m v)) [
  | inl t ↦ rw t (omega arith)
  | inr f ↦ rw f (bit here)
] where
  bit : (b : Bool) → m.here + one_if b ≤ m.here + 1
  bit true = omega arith
  bit false = omega arith

-- marking more variables lowers no count
pub sized-with_marks : (trail : List Assigned) (vars : List ℕ) (m : Marking) → length (with_marks trail vars m).marked ≡ length m.marked
sized-with_marks trail [] m = refl
sized-with_marks trail (v ∷ vars) m =
    sized-with_marks trail vars (with_mark v (level_at trail v == current_level trail) m) ∙ sized-with_mark v (level_at trail v == current_level trail) m

left-kept : (v : ℕ) (here : Bool) (m : Marking) → (m.left ≤ (with_mark v here m).left) × (m.here ≤ (with_mark v here m).here)
left-kept v here m = elim (cases_Bool (has_mark m v)) [
  | inl t ↦ rw t (omega arith, omega arith)
  | inr f ↦ rw f (omega arith, omega arith)
]

pub left-with_marks : (trail : List Assigned) (vars : List ℕ) (m : Marking) → (m.left ≤ (with_marks trail vars m).left) × (m.here ≤ (with_marks trail vars m).here)
left-with_marks trail [] m = (omega arith, omega arith)
left-with_marks trail (v ∷ vars) m =
    let rest = left-with_marks trail vars (with_mark v (level_at trail v == current_level trail) m) in
    let one = left-kept v (level_at trail v == current_level trail) m in
    (omega (arith, rest.0, one.0), omega (arith, rest.1, one.1))
