-- What a worker's results are, and how often its seat has to look for them.
use Rattle.std.specs.Prelude.{◌≡◌, ℕ, ◌+◌, ◌<◌, ◌≤◌, Bool, true, false, IsTrue, if◌then◌else◌, List, ◌++◌, length, map, sum_by, slice_get, Some, All}
use Rattle.bx_encode.specs.declared.numbers.TheConstants.{MOST_NODES}
use Rattle.bx_grid.specs.declared.ratio.Ratio.{Ratio}
use Rattle.bx_layout.specs.Permits.{test_of}
use Rattle.bx_race.specs.declared.view.Draws.{Draws}
use Rattle.bx_verdict.specs.Settling.{AreInOrder, HasVerdict}
use Rattle.bx_verdict.specs.Verdicts.{Asks, IsVerdict}
use Rattle.bx_verdict.specs.declared.verdict.Ended.{Ended as Verdict}
use Rattle.bx_verdict.specs.declared.verdict.Ended.TheVariants as verdict
use Rattle.bx_verdict.specs.declared.verdict.TheConstants.{MOST_SEARCH_BUDGET}
use Rattle.bx_workers.specs.declared.problem.Problem.{Problem}
use Rattle.bx_workers.specs.declared.results.Ended.{Ended}
use Rattle.bx_workers.specs.declared.results.Ended.TheVariants.{Refuted, Found, Undecided, NoMemory}
use Rattle.bx_workers.specs.declared.results.Tried.{Tried}

-- all ratios within some limits, in their order, of a network and a budget that aren't too large
pub record IsProblem (p : Problem) : Type 0 where
  pub order : AreInOrder p.ratios.now
  pub nodes : length p.net.now.nodes ≤ MOST_NODES
  pub budget : p.budget ≤ MOST_SEARCH_BUDGET

-- how many ratios there are
abbrev pub ratio_count : Problem → ℕ
ratio_count p = length p.ratios.now

-- there is a ratio at this index, and this is its verdict
abbrev pub HasVerdictAt : Problem → ℕ → Verdict → Type 0
HasVerdictAt p k end = HasVerdict p.net.now (test_of p.permit.now) p.budget p.ratios.now k end

-- ---- results

-- what a worker says of a ratio is its verdict; want of memory says nothing of it
abbrev pub IsEndAt : Problem → ℕ → Ended → Type 0
IsEndAt p k (Refuted proof) = HasVerdictAt p k (verdict.Refuted proof)
IsEndAt p k (Found bits) = HasVerdictAt p k (verdict.Found bits)
IsEndAt p k (Undecided spent) = HasVerdictAt p k (verdict.Undecided spent)
IsEndAt p k NoMemory = k < ratio_count p

abbrev pub IsResult : Problem → Tried → Type 0
IsResult p t = IsEndAt p t.index t.ended

abbrev pub is_refuted : Ended → Bool
is_refuted (Refuted proof) = true
is_refuted (Found bits) = false
is_refuted (Undecided spent) = false
is_refuted NoMemory = false

abbrev pub indices_tried : List Tried → List ℕ
indices_tried tried = map (λ t. t.index) tried

-- the results are those of all indices that are done, and then of all that were offered; the former are refuted,
-- and the latter aren't
pub record AreResults (p : Problem) (d : Draws) (tried : List Tried) : Type 0 where
  pub refuted : List Tried
  pub last : List Tried
  pub parts : tried ≡ refuted ++ last
  pub done : indices_tried refuted ≡ d.done
  pub offered : indices_tried last ≡ d.offered
  pub each_refuted : All (λ t. IsTrue (is_refuted t.ended)) refuted
  pub each_last : All (λ t. is_refuted t.ended ≡ false) last
  pub each : All (IsResult p) tried

-- ---- looks

-- so many looks are due for the ratio at this index: one before it is tried, and as many as the search of its
-- verdict asks for
pub record AreDueAt (p : Problem) (k looks : ℕ) : Type 0 where
  pub end : Verdict
  pub ratio : Ratio
  pub asked : ℕ
  pub at : slice_get p.ratios.now k ≡ Some ratio
  pub is : IsVerdict p.net.now (test_of p.permit.now) ratio p.budget end
  pub asks : Asks p.net.now (test_of p.permit.now) ratio p.budget end asked
  pub count : looks ≡ asked + 1

-- it says of each index how many are due for its ratio
abbrev pub CountsLooks : Problem → (ℕ → ℕ) → Type 0
CountsLooks p due = (k looks : ℕ) → AreDueAt p k looks → due k ≡ looks

abbrev pub is_known : Ended → Bool
is_known (Refuted proof) = true
is_known (Found bits) = true
is_known (Undecided spent) = true
is_known NoMemory = false

-- those that are due for a result; none where memory was refused
abbrev pub due_for : (ℕ → ℕ) → Tried → ℕ
due_for due t = if is_known t.ended then due t.index else 0

abbrev pub due_for_all : (ℕ → ℕ) → List Tried → ℕ
due_for_all due tried = sum_by (due_for due) tried

-- so many looks more make up for these results, however the looks that are due are counted
abbrev pub LookedFor : Problem → List Tried → ℕ → ℕ → Type 0
LookedFor p tried before after = (due : ℕ → ℕ) → CountsLooks p due → before + due_for_all due tried ≤ after
