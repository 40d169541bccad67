-- How many literals clauses have, clause by clause.
use Rattle.std.proofs.Common.{◌≡◌, ◌≤◌, ℕ, ◌+◌, List, length, get_or, take, Some, ◌∙◌, ap, arith, map}
use Rattle.std.proofs.lemmas.List.{take_more}
use Rattle.std.proofs.lemmas.List.Sums.{sum_by_push, sum_by-take-le}
use Rattle.std.proofs.lemmas.Option.{slice_get_within, get_or_from_slice_get, slice_get-map}
use Rattle.std.specs.Option.{option_map}
use Rattle.std.specs.Prelude.{slice_get}
use Rattle.bx_cnf.specs.Literals.{Literal}
use Rattle.bx_proof.specs.Steps.{Step}
use Rattle.bx_check.specs.Valued.{literal_count}

-- one clause more
pub count_more : (cs : List (List Literal)) (k n m : ℕ) (c : List Literal) → slice_get cs k ≡ Some c → n ≤ literal_count (take k cs) → m ≤ n + length c → m ≤ literal_count (take (k + 1) cs)
count_more cs k n m c at before most =
    let within = slice_get_within cs k c at in
    let here : get_or cs k c ≡ c = get_or_from_slice_get cs k c c at in
    let more : literal_count (take (k + 1) cs) ≡ literal_count (take k cs) + length c =
    ap literal_count (take_more cs k c within) ∙ sum_by_push (λ d. length d) (take k cs) (get_or cs k c) ∙ ap (λ d. literal_count (take k cs) + length d) here in
    omega (arith, more)

pub count_all : (cs : List (List Literal)) (k n : ℕ) → n ≤ literal_count (take k cs) → n ≤ literal_count cs
count_all cs k n le = let part = sum_by-take-le (λ (c : List Literal). length c) cs k in omega (arith, part)

-- the literals of a step are those of a clause
pub step_literals : (steps : List Step) (k : ℕ) (c : List Literal) → option_map (λ (s : Step). s.literals) (slice_get steps k) ≡ Some c → slice_get (map (λ (s : Step). s.literals) steps) k ≡ Some c
step_literals steps k c read = slice_get-map (λ (s : Step). s.literals) steps k ∙ read
