-- Clauses by their numbers: those of a formula, and behind them those of steps.
use Rattle.std.proofs.Common.{◌≡◌, ℕ, ◌+◌, ◌-◌, List, Some, slice_get, map, length, ◌++◌, [], ◌∷◌, zero, suc, refl, ◌∙◌, ap, arith}
use Rattle.std.specs.Option.{option_map}
use Rattle.std.proofs.lemmas.Option.{get_or_from_slice_get}
use Rattle.bx_cnf.specs.Literals.{Literal}
use Rattle.bx_proof.specs.Steps.{Step}
use Rattle.bx_proof.specs.Accepted.{with_steps}
use Rattle.bx_search.specs.Learning.{variables}

-- the clause of a step stands behind the others
get-behind : {X : Type 0} (xs ys : List X) (k j : ℕ) → k ≡ length xs + j → slice_get (xs ++ ys) k ≡ slice_get ys j
get-behind [] ys k j e = ap (slice_get ys) same where
  same : k ≡ j
  same = omega (arith, e)
get-behind (x ∷ xs) ys zero j e = absurd (omega (arith, e))
get-behind (x ∷ xs) ys (suc k) j e = get-behind xs ys k j (omega (arith, e))

get-map : (steps : List Step) (j : ℕ) → slice_get (map (λ (s : Step). s.literals) steps) j ≡ option_map (λ (s : Step). s.literals) (slice_get steps j)
get-map [] j = refl
get-map (s ∷ steps) zero = refl
get-map (s ∷ steps) (suc j) = get-map steps j

pub behind-clauses : (clauses : List (List Literal)) (steps : List Step) (id k : ℕ) (clause : List Literal) → id - 1 ≡ length clauses + k → option_map (λ (s : Step). s.literals) (slice_get steps k) ≡ Some clause
    → slice_get (with_steps clauses steps) (id - 1) ≡ Some clause
behind-clauses clauses steps id k clause e is = get-behind clauses (map (λ (s : Step). s.literals) steps) (id - 1) k e ∙ (get-map steps k ∙ is)

-- the variables of a clause, found by its number
pub variables-of : (clauses : List (List Literal)) (id : ℕ) (clause : List Literal) → slice_get clauses (id - 1) ≡ Some clause → variables clauses id ≡ map (λ (l : Literal). l.var) clause
variables-of clauses id clause stands = ap (λ (c : List Literal). map (λ (l : Literal). l.var) c) (get_or_from_slice_get clauses (id - 1) clause [] stands)
