-- Clauses of a formula and of steps by their ids, and literals that ascend.
use Rattle.std.proofs.Common.{◌≡◌, ℕ, zero, suc, ◌+◌, ◌<◌, ◌≤◌, List, [], ◌∷◌, ◌++◌, length, get_or, take, Option, Some, None, refl, sym, ◌∙◌, ap, subst, arith, map, is_some, true, false, MatchOption, inl, inr, ◌-◌}
use Rattle.std.proofs.lemmas.List.Elements.{All-from_recursion, All-map, All-contains}
use Rattle.std.proofs.lemmas.Bool.{cases_lt}
use Rattle.std.proofs.lemmas.Option.{slice_get-map, slice_get_read}
use Rattle.std.specs.Prelude.{slice_get, All}
use Rattle.std.specs.List.{AllByRecursion}
use Rattle.std.specs.Option.{option_map}
use Rattle.bx_cnf.specs.Literals.{Literal, negated}
use Rattle.bx_cnf.specs.Formulas.{AscendAbove}
use Rattle.bx_cnf.specs.Assignments.{IsFalse}
use Rattle.bx_proof.specs.Steps.{Step}
use Rattle.bx_proof.specs.Accepted.{with_steps}
use Rattle.bx_check.proofs.Lefts.{get_take}

pub get_append_right : {X : Type 0} (xs ys : List X) (i j : ℕ) → i ≡ length xs + j → slice_get (xs ++ ys) i ≡ slice_get ys j
get_append_right [] ys i j at = let same : i ≡ j = omega arith in ap (slice_get ys) same
get_append_right (x ∷ xs) ys zero j at = absurd (omega arith)
get_append_right (x ∷ xs) ys (suc i) j at = get_append_right xs ys i j (omega arith)

pub get_append_left : {X : Type 0} (xs ys : List X) (i : ℕ) → i < length xs → slice_get (xs ++ ys) i ≡ slice_get xs i
get_append_left [] ys i within = absurd (omega arith)
get_append_left (x ∷ xs) ys zero within = refl
get_append_left (x ∷ xs) ys (suc i) within = get_append_left xs ys i (omega arith)

-- the clause of an id above those of the formula is that of a step
pub step_clause : (clauses : List (List Literal)) (steps : List Step) (i k : ℕ) (c : List Literal) → i ≡ length clauses + k → option_map (λ (s : Step). s.literals) (slice_get steps k) ≡ Some c → slice_get (with_steps clauses steps) i ≡ Some c
step_clause clauses steps i k c at is =
    get_append_right clauses (map (λ (s : Step). s.literals) steps) i k at ∙ slice_get-map (λ (s : Step). s.literals) steps k ∙ is

-- literals that ascend stand below the one at a place
pub ascend_below : (var : ℕ) (ls : List Literal) (i : ℕ) (x : Literal) → AscendAbove var ls → slice_get ls i ≡ Some x → (var < x.var) × AllByRecursion (λ (l : Literal). l.var < x.var) (take i ls)
ascend_below var [] i x h at = let never : ⊥ = cc in absurd never
ascend_below var (l ∷ ls) zero x h at = let same : l ≡ x = cc in (subst (λ (m : Literal). var < m.var) same h.0, tt)
ascend_below var (l ∷ ls) (suc i) x h at =
    let rest = ascend_below l.var ls i x h.1 at in
    (omega (arith, h.0, rest.0), (rest.0, rest.1))

-- the negation of the next of ascending literals contradicts none of the negations before it
pub next_is_free : (ls : List Literal) (i : ℕ) (x m : Literal) → AscendAbove 0 ls → i < length ls → x ≡ get_or ls i x → m ≡ negated x → IsFalse (map negated (take i ls)) m → ⊥
next_is_free ls i x m ascend within is same has =
    let at : slice_get ls i ≡ Some x = slice_get_read ls (length ls) i x refl within is in
    let below : All (λ (l : Literal). l.var < x.var) (take i ls) = All-from_recursion (λ (l : Literal). l.var < x.var) (take i ls) (ascend_below 0 ls i x ascend at).1 in
    let all : All (λ (l : Literal). l.var < x.var) (map negated (take i ls)) = All-map (λ (l : Literal). l.var < x.var) negated (take i ls) below in
    let lt : m.var < x.var = All-contains (λ (l : Literal). l.var < x.var) (map negated (take i ls)) (negated m) all has in
    let eq : m.var ≡ x.var = ap (λ (l : Literal). l.var) same in
    omega (arith, lt, eq)

-- what is known of an option that has a value
pub some_of : {X : Type 0} (o : Option X) (P : Type 0) (Q : X → Type 0) → MatchOption o P Q → is_some o ≡ true → (x : X) × Q x
some_of None P Q h e = let never : ⊥ = cc in absurd never
some_of (Some x) P Q h e = (x, h)

pub none_of : {X : Type 0} (o : Option X) (P : Type 0) (Q : X → Type 0) → MatchOption o P Q → is_some o ≡ false → P
none_of None P Q h e = h
none_of (Some x) P Q h e = let never : ⊥ = cc in absurd never

pub match_both : {X : Type 0} (o : Option X) (P P' : Type 0) (Q Q' : X → Type 0) → MatchOption o P Q → (P → P') → ((x : X) → Q x → Q' x) → MatchOption o P' Q'
match_both None P P' Q Q' h p q = p h
match_both (Some x) P P' Q Q' h p q = q x h

-- with the steps before it alone, an id below that of a step names the same clause
pub earlier_clause : (clauses : List (List Literal)) (steps : List Step) (k i : ℕ) → i < length clauses + k → k ≤ length steps → slice_get (with_steps clauses steps) i ≡ slice_get (with_steps clauses (take k steps)) i
earlier_clause clauses steps k i lt le =
    let f : Step → List Literal = λ s. s.literals in
    elim (cases_lt i (length clauses)) [
      | inl here ↦ get_append_left clauses (map f steps) i here ∙ sym (get_append_left clauses (map f (take k steps)) i here)
      | inr past ↦
          let j : ℕ = i - length clauses in
          let at : i ≡ length clauses + j = omega arith in
          get_append_right clauses (map f steps) i j at ∙ slice_get-map f steps j ∙ ap (option_map f) (sym (get_take steps k j (omega arith))) ∙ sym (slice_get-map f (take k steps) j) ∙ sym (get_append_right clauses (map f (take k steps)) i j at)
    ]
