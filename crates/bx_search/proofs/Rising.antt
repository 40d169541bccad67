-- Levels never fall along a trail that the search reaches.
use Rattle.std.proofs.Common.{ℕ, zero, suc, ◌≤◌, Bool, true, false, List, [], ◌∷◌, ◌++◌, reverse, length, filter, cond, sym, subst, arith}
use mathlib.Core.List.{reverse_aux}
use Rattle.bx_cnf.specs.Formulas.{Formula}
use Rattle.bx_search.specs.States.{Assigned, State, clauses_of, level_after, current_level}
use Rattle.bx_search.specs.Learning.{treated_from, of_level, variables}
use Rattle.bx_search.specs.Searching.{Goes, After}
use Rattle.bx_search.specs.Searching.Goes.{Propagates, Decides, Learns}
use Rattle.bx_search.proofs.Kept.{Falls, falls-weaker, one_of_the_level}

-- levels that don't fall, from this one on
abbrev pub Rises : ℕ → List Assigned → Type 0
Rises low [] = Unit {0}
Rises low (a ∷ trail) = (low ≤ a.level) × Rises a.level trail

rises-weaker : (low high : ℕ) (trail : List Assigned) → low ≤ high → Rises high trail → Rises low trail
rises-weaker low high [] l r = tt
rises-weaker low high (a ∷ trail) l r = (omega (arith, l, r.0), r.1)

rises-filter : (keep : Assigned → Bool) (low : ℕ) (trail : List Assigned) → Rises low trail → Rises low (filter keep trail)
rises-filter keep low [] r = tt
rises-filter keep low (a ∷ trail) r = kept (keep a) (rises-filter keep a.level trail r.1) where
  kept : (b : Bool) → Rises a.level (filter keep trail) → Rises low (cond b (a ∷ filter keep trail) (filter keep trail))
  kept true rest = (r.0, rest)
  kept false rest = rises-weaker low a.level (filter keep trail) r.0 rest

rises-push : (low : ℕ) (trail : List Assigned) (a : Assigned) → Rises low trail → level_after low trail ≤ a.level → Rises low (trail ++ a ∷ [])
rises-push low [] a r l = (l, tt)
rises-push low (b ∷ trail) a r l = (r.0, rises-push b.level trail a r.1 l)

-- from the end, they don't rise above the last
falls-onto : (low : ℕ) (trail behind : List Assigned) → Rises low trail → Falls low behind → Falls (level_after low trail) (reverse_aux trail behind)
falls-onto low [] behind r f = f
falls-onto low (a ∷ trail) behind r f = falls-onto a.level trail (a ∷ behind) r.1 (omega arith, falls-weaker low a.level behind r.0 f)

pub falls-reversed : (trail : List Assigned) → Rises 0 trail → Falls (current_level trail) (reverse trail)
falls-reversed trail r = falls-onto 0 trail [] r tt

rises-goes : (formula : Formula) (budget : ℕ) (s t : State) → Goes formula budget s t → Rises 0 s.trail → Rises 0 t.trail
rises-goes formula budget s t (Propagates id l least next) r = subst (λ (u : State). Rises 0 u.trail) (sym next) (rises-push 0 s.trail _ r (omega arith))
rises-goes formula budget s t (Decides var quiet first next) r = subst (λ (u : State). Rises 0 u.trail) (sym next) (rises-push 0 s.trail _ r (omega arith))
rises-goes formula budget s t (Learns id step conflict within some next) r = subst (λ (u : State). Rises 0 u.trail) (sym next) (rises-filter _ 0 s.trail r)

pub rises-after : (formula : Formula) (budget events : ℕ) (s : State) → After formula budget events s → Rises 0 s.trail
rises-after formula budget zero s is = subst (λ (u : State). Rises 0 u.trail) (sym is) tt
rises-after formula budget (suc events) s (before, after, goes) = rises-goes formula budget before s goes (rises-after formula budget events before after)

pub one_of_the_current_level : (formula : Formula) (budget events : ℕ) (s : State) (id : ℕ) → After formula budget events s
    → length (of_level (current_level s.trail) (treated_from (clauses_of formula s) s.trail id).kept) ≤ 1
one_of_the_current_level formula budget events s id after =
    one_of_the_level (clauses_of formula s) (current_level s.trail) (current_level s.trail) (variables (clauses_of formula s) id) (reverse s.trail) (falls-reversed s.trail (rises-after formula budget events s after))
