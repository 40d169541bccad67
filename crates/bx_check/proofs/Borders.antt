-- Steps that pass from one place to another, and chunks that are all of a log.
use Rattle.std.proofs.Common.{◌≡◌, ℕ, zero, suc, ◌+◌, ◌<◌, ◌≤◌, Bool, true, false, List, [], ◌∷◌, ◌++◌, length, get_or, take, Option, Some, None, Result, Ok, Err, refl, sym, ◌∙◌, ap, subst, inl, inr, arith}
use Rattle.std.proofs.lemmas.Bool.{cases_eq, cases_lt}
use Rattle.std.proofs.lemmas.List.{get_or_append_left, get_or_push, length_push}
use Rattle.std.proofs.lemmas.Option.{slice_get_within}
use Rattle.std.specs.Prelude.{◌↔◌, not, slice_get, All, Contains, IfOk, IsTrue, MatchOption}
use Rattle.std.specs.Option.{is_some}
use Rattle.bx_cnf.specs.Formulas.{Formula}
use Rattle.bx_proof.specs.Steps.{Step, StepList}
use Rattle.bx_proof.specs.Accepted.{IsAccepted}
use Rattle.bx_check.specs.Passing.{Passes, PassUpTo, AllPass, IsFirstFailure, IsEnded}
use Rattle.bx_check.specs.Chunks.{AreBorders, PassFrom, IsFailureFrom}
use Rattle.bx_check.proofs.Passing.{failure_exact, failure_not_all, all_none, all_pass, accepted_of}

-- one step more passes
pub pass_one_more : (formula : Formula) (steps : List Step) (from n : ℕ) → PassFrom formula steps from n → ((s : Step) → slice_get steps n ≡ Some s → Passes formula (take n steps) s) → PassFrom formula steps from (n + 1)
pass_one_more formula steps from n pass here k s ge lt at =
    elim (cases_eq k n) [
      | inr ne ↦ pass k s ge (below ne) at
      | inl same ↦ subst (λ j. Passes formula (take j steps) s) (sym same) (here s (ap (slice_get steps) (sym same) ∙ at))
    ] where
      below : (k ≡ n → ⊥) → k < n
      below ne = omega arith

pub pass_less : (formula : Formula) (steps : List Step) (from to n : ℕ) → to ≤ n → PassFrom formula steps from n → PassFrom formula steps from to
pass_less formula steps from to n le pass k s ge lt at = pass k s ge (omega arith) at

-- the first failure, from those before it and the check of its step
pub failure_here : (formula : Formula) (steps : List Step) (from k : ℕ) (s : Step) (r : Bool) → from ≤ k → PassFrom formula steps from k → slice_get steps k ≡ Some s → (r ≡ true) ↔ Passes formula (take k steps) s → r ≡ false → IsFailureFrom formula steps from k
failure_here formula steps from k s r ge before at exact failed = record {
  within = ge;
  before = before;
  step = s;
  stands = at;
  fails = λ passes. let e : false ≡ true = sym failed ∙ exact.1 passes in let never : ⊥ = cc in never;
}

up_to : (formula : Formula) (steps : List Step) (n : ℕ) → PassFrom formula steps 0 n → PassUpTo formula steps n
up_to formula steps n pass k s lt at = pass k s (omega arith) lt at

first_of_all : (formula : Formula) (steps : List Step) (k : ℕ) → IsFailureFrom formula steps 0 k → IsFirstFailure formula steps k
first_of_all formula steps k is = record { before = up_to formula steps k is.before; step = is.step; stands = is.stands; fails = is.fails }

abbrev Found : Formula → List Step → ℕ → ℕ → Option ℕ → Type 0
Found formula steps from to found = MatchOption found (PassFrom formula steps from to) (λ k. (k < to) × IsFailureFrom formula steps from k)

-- what is found from the first step on is the first failure
pub found_fails : {E : Type 0} (r : Result (Option ℕ) E) (formula : Formula) (steps : List Step) (n : ℕ) → n ≡ length steps → IfOk r (λ found. Found formula steps 0 n found) → IfOk r (λ found. (k : ℕ) → (found ≡ Some k) ↔ IsFirstFailure formula steps k)
found_fails (Ok None) formula steps n all found = all_none formula steps (all_pass formula steps n (omega arith) (up_to formula steps n found))
found_fails (Ok (Some k)) formula steps n all found = failure_exact formula steps k (first_of_all formula steps k found.1)
found_fails (Err e) formula steps n all found = tt

pub found_pass : {E : Type 0} (r : Result (Option ℕ) E) (formula : Formula) (steps : List Step) (n : ℕ) → n ≡ length steps → IfOk r (λ found. Found formula steps 0 n found) → IfOk r (λ found. (found ≡ None) ↔ AllPass formula steps)
found_pass (Ok None) formula steps n all found = (λ _. all_pass formula steps n (omega arith) (up_to formula steps n found), λ _. refl)
found_pass (Ok (Some k)) formula steps n all found = failure_not_all formula steps k (first_of_all formula steps k found.1)
found_pass (Err e) formula steps n all found = tt

-- a chunk passes where nothing is found
pub found_exact : (found : Option ℕ) (r : Bool) (formula : Formula) (steps : List Step) (from to : ℕ) → is_some found ≡ not r → Found formula steps from to found → (r ≡ true) ↔ PassFrom formula steps from to
found_exact None true formula steps from to e pass = (λ _. pass, λ _. refl)
found_exact None false formula steps from to e pass = let never : ⊥ = cc in absurd never
found_exact (Some k) true formula steps from to e found = let never : ⊥ = cc in absurd never
found_exact (Some k) false formula steps from to e found =
    let is = found.1 in
    (λ wrong. let never : ⊥ = cc in absurd never, λ pass. absurd (is.fails (pass k is.step is.within found.0 is.stands)))

-- a number that isn't below the first border and is below the last lies between two of them
between : (f : ℕ → ℕ) (n k : ℕ) → f 0 ≤ k → k < f n → (i : ℕ) × (i < n) × (f i ≤ k) × (k < f (i + 1))
between f zero k low high = absurd (omega arith)
between f (suc n) k low high =
    elim (cases_lt k (f n)) [
      | inl lt ↦ let rest = between f n k low lt in (rest.0, omega (arith, rest.1), rest.2, rest.3)
      | inr ge ↦ let next : f (suc n) ≡ f (n + 1) = ap f (omega arith) in (n, omega arith, ge, omega (arith, next))
    ]

-- each step is in a chunk, so where the chunks pass all steps do
pub chunks_pass : (formula : Formula) (steps : List Step) (chunks : ℕ) (borders : List ℕ) → AreBorders chunks (length steps) borders → ((i : ℕ) → i < chunks → PassFrom formula steps (get_or borders i 0) (get_or borders (i + 1) 0)) → AllPass formula steps
chunks_pass formula steps chunks borders are pass k s lt at =
    let here = between (λ i. get_or borders i 0) chunks k (omega (arith, are.first)) (omega (arith, are.last)) in
    pass here.0 here.1 k s here.2 here.3 at

pub all_pass_from : (formula : Formula) (steps : List Step) (from to : ℕ) → AllPass formula steps → PassFrom formula steps from to
all_pass_from formula steps from to all k s ge lt at = all k s (slice_get_within steps k s at) at

-- borders as far as there are so many, and the last is still to come
pub record AreBegun (n count : ℕ) (borders : List ℕ) : Type 0 where
  pub each : length borders ≡ n
  pub first : get_or borders 0 0 ≡ 0
  pub within : (i : ℕ) → i < n → get_or borders i 0 ≤ count

pub begun : (count : ℕ) → AreBegun 1 count (0 ∷ [])
begun count = record { each = refl; first = refl; within = one } where
  one : (i : ℕ) → i < 1 → get_or (0 ∷ []) i 0 ≤ count
  one zero lt = omega arith
  one (suc i) lt = absurd (omega arith)

pub begun_more : (n count : ℕ) (borders now : List ℕ) (end : ℕ) → 1 ≤ n → AreBegun n count borders → end ≤ count → now ≡ borders ++ end ∷ [] → AreBegun (n + 1) count now
begun_more n count borders now end some old small is = subst (AreBegun (n + 1) count) (sym is) (record {
  each = omega (arith, length_push borders end, old.each);
  first = get_or_append_left borders (end ∷ []) 0 0 (omega (arith, old.each)) ∙ old.first;
  within = λ i lt. elim (cases_lt i n) [
    | inl below ↦ omega (arith, get_or_append_left borders (end ∷ []) 0 i (omega (arith, old.each)), old.within i below)
    | inr ge ↦ omega (arith, get_or_push borders end 0 i (omega (arith, old.each)))
  ];
})

pub all_borders : (n count : ℕ) (borders now : List ℕ) → 1 ≤ n → AreBegun n count borders → now ≡ borders ++ count ∷ [] → AreBorders n count now
all_borders n count borders now some old is =
    let all = begun_more n count borders now count some old (omega arith) is in
    record {
      each = all.each;
      first = all.first;
      last = ap (λ bs. get_or bs n 0) is ∙ get_or_push borders count 0 n old.each;
      within = λ i le. all.within i (omega arith);
    }

-- the answers of the chunks: each says of its own whether it passes
abbrev Answers : {E : Type 0} → Formula → List Step → ℕ → List ℕ → List (Result Bool E) → Type 0
Answers {E} formula steps chunks borders answers =
    (i : ℕ) (d : Result Bool E) → i < chunks → IfOk (get_or answers i d) (λ yes. IsTrue yes ↔ PassFrom formula steps (get_or borders i 0) (get_or borders (i + 1) 0))

yes_passes : {E : Type 0} (answer : Result Bool E) (P : Type 0) → IfOk answer (λ yes. IsTrue yes ↔ P) → answer ≡ Ok true → P
yes_passes answer P says is = (subst (λ a. IfOk a (λ yes. IsTrue yes ↔ P)) is says).0 refl

passes_yes : {E : Type 0} (answer : Result Bool E) (P : Type 0) → IfOk answer (λ yes. IsTrue yes ↔ P) → P → answer ≡ Ok false → ⊥
passes_yes answer P says holds is = let e : false ≡ true = (subst (λ a. IfOk a (λ yes. IsTrue yes ↔ P)) is says).1 holds in let never : ⊥ = cc in never

-- the answer of all chunks is that of the log
pub chunks_answer : {E : Type 0} (r : Result Bool E) (formula : Formula) (steps : List Step) (chunks : ℕ) (borders : List ℕ) (answers : List (Result Bool E)) → AreBorders chunks (length steps) borders → length answers ≡ chunks → Answers formula steps chunks borders answers → IfOk r (λ yes. IsTrue yes → All (λ a. a ≡ Ok true) answers) → IfOk r (λ yes. yes ≡ false → Contains answers (Ok false)) → IfOk r (λ yes. IsTrue yes ↔ AllPass formula steps)
chunks_answer (Err e) formula steps chunks borders answers are each says all one_no = tt
chunks_answer (Ok true) formula steps chunks borders answers are each says all one_no =
    (λ _. chunks_pass formula steps chunks borders are pass, λ _. refl)
  where
    pass : (i : ℕ) → i < chunks → PassFrom formula steps (get_or borders i 0) (get_or borders (i + 1) 0)
    pass i lt = yes_passes (get_or answers i (Ok true)) (PassFrom formula steps (get_or borders i 0) (get_or borders (i + 1) 0)) (says i (Ok true) lt) (all refl i (Ok true) (omega arith))
chunks_answer (Ok false) formula steps chunks borders answers are each says all one_no =
    (λ wrong. let never : ⊥ = cc in absurd never, λ pass. absurd (fails pass))
  where
    fails : AllPass formula steps → ⊥
    fails pass =
        let (i, lt, is) = one_no refl in
        passes_yes (get_or answers i (Ok false)) (PassFrom formula steps (get_or borders i 0) (get_or borders (i + 1) 0)) (says i (Ok false) (omega arith)) (all_pass_from formula steps (get_or borders i 0) (get_or borders (i + 1) 0) pass) is

-- a shaped log is accepted where all its steps pass
pub shaped_accepted : {E : Type 0} (r : Result Bool E) (formula : Formula) (log : StepList) → 0 < length log.steps → log.first ≡ length formula.clauses + 1 → IsEnded log.steps → IfOk r (λ yes. IsTrue yes ↔ AllPass formula log.steps) → IfOk r (λ yes. IsTrue yes ↔ IsAccepted formula log)
shaped_accepted (Err e) formula log some numbered ended all = tt
shaped_accepted (Ok b) formula log some numbered ended all =
    let accepted = accepted_of formula log some numbered ended in
    (λ e. accepted.0 (all.0 e), λ is. all.1 (accepted.1 is))
