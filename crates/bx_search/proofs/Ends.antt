-- Each search ends: in a state that it reaches there is an end or an event, and events can't go on for ever.
use Rattle.std.proofs.Common.{◌≡◌, ◌≢◌, ◌⊎◌, ℕ, zero, suc, ◌+◌, ◌-◌, ◌<◌, ◌≤◌, inl, inr, true, false, not, List, [], ◌∷◌, ◌++◌, length, map, reverse, Option, Some, None, slice_get, refl, sym, ◌∙◌, ap, subst, arith, length-append}
use Rattle.std.specs.Prelude.{Contains, IfSome, slice_index_or}
use Rattle.std.proofs.lemmas.Bool.{cases_lt}
use Rattle.std.proofs.lemmas.Option.{get_or_from_slice_get, slice_get_within}
use Rattle.std.proofs.lemmas.List.{length-reverse}
use Rattle.std.proofs.lemmas.List.Elements.{All-contains}
use Rattle.bx_logic.proofs.Members.{Member, Member-map_cases, Member-append_cases, Member-filter_cases, Contains-from_member, Member-from_contains}
use Rattle.bx_logic.proofs.Ordered.{AllPairs-from_ascends, Ascends-map, Member-get_or}
use Rattle.bx_cnf.specs.Literals.{Literal, negated}
use Rattle.bx_cnf.specs.Formulas.{Formula, IsFormula, IsClause}
use Rattle.bx_proof.specs.Steps.{Step}
use Rattle.bx_queue.proofs.Orders.{find-some}
use Rattle.bx_watch.specs.Watching.{AreApart}
use Rattle.bx_search.specs.declared.outcome.Outcome.{Outcome}
use Rattle.bx_search.specs.declared.outcome.Outcome.TheVariants.{Sat, Unsat, Undecided}
use Rattle.bx_search.specs.States.{Assigned, State, start, clauses_of, literals_of, current_level, is_assigned, first_free, values}
use Rattle.bx_search.specs.Learning.{IsLearned, treated_from, variables}
use Rattle.bx_search.specs.Searching.{Goes, Ends, After, IsSearch, IsConflict, IsQuiet, propagated, decided, learned, cost}
use Rattle.bx_search.specs.Searching.Goes.{Propagates, Decides, Learns}
use Rattle.bx_search.proofs.OneEnd.{above}
use Rattle.bx_search.proofs.Leading.{in-clause, kept-within}
use Rattle.bx_search.proofs.Following.{from-reversed, backed-after}
use Rattle.bx_search.proofs.Accepting.{within-after}
use Rattle.bx_search.proofs.Values.{order-after}
use Rattle.bx_search.proofs.Walking.{apart-backed}
use Rattle.bx_search.proofs.Places.{short, DifferIn, kept-apart}
use Rattle.bx_search.proofs.Deciding.{Found, found, in_order, in_order-members, in_order-ascends}
use Rattle.bx_search.proofs.Deciding.Found.{FirstFalse, FirstUnit, Nothing}

-- all that a state speaks of is over variables from 1 on
record IsAbove (s : State) : Type 0 where
  trail : (a : Assigned) → Member a s.trail → 0 < a.literal.var
  steps : (step : Step) → Member step s.steps → (l : Literal) → Member l step.literals → 0 < l.var

clause-above : (formula : Formula) (s : State) (id : ℕ) (clause : List Literal) (l : Literal) → IsFormula formula → IsAbove s
    → slice_get (clauses_of formula s) (id - 1) ≡ Some clause → Member l clause → 0 < l.var
clause-above formula s id clause l formed is stands h = elim (Member-append_cases clause formula.clauses (map (λ (x : Step). x.literals) s.steps) among) [
  | inl own ↦ above 0 clause l (All-contains (IsClause formula.vars) formula.clauses clause formed.each (Contains-from_member clause formula.clauses own)).ascending h
  | inr learnt ↦ (let (step, on, same) = Member-map_cases (λ (x : Step). x.literals) clause s.steps learnt in is.steps step on l (subst (Member l) (sym same) h))
] where
  among : Member clause (clauses_of formula s)
  among = subst (λ (c : List Literal). Member c (clauses_of formula s)) (get_or_from_slice_get (clauses_of formula s) (id - 1) clause clause stands)
      (Member-get_or (clauses_of formula s) (id - 1) clause (slice_get_within (clauses_of formula s) (id - 1) clause stands))

trail-above : (trail : List Assigned) (b : Assigned) → ((a : Assigned) → Member a trail → 0 < a.literal.var) → 0 < b.literal.var → (a : Assigned) → Member a (trail ++ b ∷ []) → 0 < a.literal.var
trail-above trail b is low a h = elim (Member-append_cases a trail (b ∷ []) h) [
  | inl on ↦ is a on
  | inr last ↦ elim last [ inl e ↦ subst (λ (z : Assigned). 0 < z.literal.var) e low | inr none ↦ absurd none ]
]

above-goes : (formula : Formula) (budget events : ℕ) (s t : State) → IsFormula formula → After formula budget events s → Goes formula budget s t → IsAbove s → IsAbove t
above-goes formula budget events s t formed after (Propagates id l least next) is = subst IsAbove (sym next) (record {
  trail = trail-above s.trail _ is.trail (clause-above formula s id least.clause l formed is least.stands (in-clause least.clause least.is_so.0.place l least.is_so.0.stands));
  steps = is.steps;
})
above-goes formula budget events s t formed after (Decides var quiet first next) is = subst IsAbove (sym next) (record {
  trail = trail-above s.trail (record { literal = record { var = var; positive = slice_index_or s.phases (var - 1) false }; level = current_level s.trail + 1; reason = None }) is.trail
      (let b = (order-after formula budget events s formed after).within var chosen.0 in omega (arith, b.0));
  steps = is.steps;
}) where
  chosen : Contains s.queue var × (not (is_assigned s.trail var) ≡ true)
  chosen = subst (λ (o : Option ℕ). IfSome o (λ v. Contains s.queue v × (not (is_assigned s.trail v) ≡ true))) first (find-some (λ v. not (is_assigned s.trail v)) s.queue)
above-goes formula budget events s t formed after (Learns id step conflict fits some next) is = subst IsAbove (sym next) (record {
  trail = λ a h. is.trail a (Member-filter_cases _ a s.trail h).0;
  steps = λ other h. elim (Member-append_cases other s.steps (step ∷ []) h) [
    | inl on ↦ is.steps other on
    | inr last ↦ elim last [ inl e ↦ subst (λ (x : Step). (l : Literal) → Member l x.literals → 0 < l.var) e (λ l on. above 0 step.literals l conflict.learned.ascending on) | inr none ↦ absurd none ]
  ];
})

above-after : (formula : Formula) (budget events : ℕ) (s : State) → IsFormula formula → After formula budget events s → IsAbove s
above-after formula budget zero s formed is = subst IsAbove (sym is) (record { trail = λ a h. absurd h; steps = λ step h. absurd h })
above-after formula budget (suc events) s formed (before, after, goes) =
    above-goes formula budget events before s formed after goes (above-after formula budget events before formed after)

over-after : (formula : Formula) (budget events : ℕ) (s : State) → IsFormula formula → After formula budget events s → (a : Assigned) → Member a (reverse s.trail) → (0 < a.literal.var) × (a.literal.var ≤ formula.vars)
over-after formula budget events s formed after a h = (
  (above-after formula budget events s formed after).trail a (from-reversed s.trail a h),
  (within-after formula budget events s formed after).trail a (from-reversed s.trail a h),
)

-- the trail is never longer than there are variables
pub short-after : (formula : Formula) (budget events : ℕ) (s : State) → IsFormula formula → After formula budget events s → length s.trail ≤ formula.vars
short-after formula budget events s formed after =
    let low = short formula.vars (reverse s.trail) (over-after formula budget events s formed after) (apart-backed (clauses_of formula s) (reverse s.trail) (backed-after formula budget events s after)) in
    omega (arith, low, length-reverse s.trail)

-- a step can be learned from each clause
one-step : (formula : Formula) (budget events : ℕ) (s : State) (id : ℕ) → IsFormula formula → After formula budget events s → (step : Step) × IsLearned (clauses_of formula s) s.trail id step
one-step formula budget events s id formed after = (
  record { literals = in_order opposites; hints = (treated_from clauses s.trail id).reasons ++ id ∷ [] },
  record {
    ascending = in_order-ascends opposites over apart;
    kept = λ l. (
      λ h. Contains-from_member l opposites ((in_order-members opposites l).0 (Member-from_contains l (in_order opposites) h)),
      λ h. Contains-from_member l (in_order opposites) ((in_order-members opposites l).1 (Member-from_contains l opposites h)),
    );
    hints = refl;
  },
) where
  clauses : List (List Literal)
  clauses = clauses_of formula s

  opposites : List Literal
  opposites = map (λ (a : Assigned). negated a.literal) (treated_from clauses s.trail id).kept

  over : (l : Literal) → Member l opposites → 0 < l.var
  over l h =
      let (a, on, is) = Member-map_cases (λ (z : Assigned). negated z.literal) l (treated_from clauses s.trail id).kept h in
      let low = (over-after formula budget events s formed after a (kept-within clauses (current_level s.trail) (variables clauses id) (reverse s.trail) a on)).0 in
      subst (λ (x : Literal). 0 < x.var) is low

  apart : AreApart opposites
  apart = AllPairs-from_ascends (λ (l m : Literal). l.var ≢ m.var) opposites
      (Ascends-map DifferIn (λ (l m : Literal). l.var ≢ m.var) (λ (a : Assigned). negated a.literal) (treated_from clauses s.trail id).kept (λ x y hx hy differ e. differ (sym e))
      (kept-apart clauses (current_level s.trail) (variables clauses id) (reverse s.trail) (apart-backed clauses (reverse s.trail) (backed-after formula budget events s after))))

-- an end, or an event after which the trail is longer and nothing was spent, or more was
data Goes_on (formula : Formula) (budget : ℕ) (s : State) : Type 0 where
  AtEnd : (end : Outcome) → Ends formula budget s end → Goes_on formula budget s
  Longer : (t : State) → Goes formula budget s t → length t.trail ≡ length s.trail + 1 → t.spent ≡ s.spent → Goes_on formula budget s
  Dearer : (t : State) → Goes formula budget s t → s.spent < t.spent → t.spent ≤ budget → Goes_on formula budget s

empty-or-not : (ls : List Literal) → (ls ≡ []) ⊎ (ls ≢ [])
empty-or-not [] = inl refl
empty-or-not (l ∷ ls) = inr (λ e. cc)

by_conflict : (formula : Formula) (budget : ℕ) (s : State) (id : ℕ) (step : Step) → IsConflict formula s id step → Goes_on formula budget s
by_conflict formula budget s id step conflict = elim (cases_lt budget (s.spent + cost step)) [
  | inl beyond ↦ AtEnd (Undecided s.spent) (id, step, conflict, beyond, refl)
  | inr fits ↦ elim (empty-or-not step.literals) [
    | inl none ↦ AtEnd (Unsat (record { first = length formula.clauses + 1; steps = s.steps ++ step ∷ [] })) (id, step, conflict, fits, none, refl)
    | inr some ↦ Dearer (learned formula s id step) (Learns id step conflict fits some refl) more fits
  ]
] where
  more : s.spent < s.spent + cost step
  more =
      let hints = ap (λ hs. length hs) conflict.learned.hints in
      let size = length-append (treated_from (clauses_of formula s) s.trail id).reasons (id ∷ []) in
      omega (arith, hints, size)

by_choice : (formula : Formula) (budget : ℕ) (s : State) → IsQuiet formula s → (o : Option ℕ) → first_free s ≡ o → Goes_on formula budget s
by_choice formula budget s quiet None none = AtEnd (Sat (values formula.vars s.trail)) (quiet, none, refl)
by_choice formula budget s quiet (Some var) first = Longer (decided s var) (Decides var quiet first refl) (length-append s.trail _) refl

goes_on : (formula : Formula) (budget events : ℕ) (s : State) → IsFormula formula → After formula budget events s → Goes_on formula budget s
goes_on formula budget events s formed after = by_clause (found (literals_of s.trail) (clauses_of formula s)) where
  next-less : (i : ℕ) → i + 1 - 1 ≡ i
  next-less i = omega arith

  by_clause : Found (literals_of s.trail) (clauses_of formula s) → Goes_on formula budget s
  by_clause (FirstFalse i clause stands fails none) =
      let (step, learns) = one-step formula budget events s (i + 1) formed after in
      by_conflict formula budget s (i + 1) step (record {
        least = record {
          clause = clause;
          above = omega arith;
          stands = ap (slice_get (clauses_of formula s)) (next-less i) ∙ stands;
          is_so = fails;
          none_before = rw (next-less i) none;
        };
        learned = learns;
      })
  by_clause (FirstUnit i clause l stands unit none) =
      Longer (propagated s (i + 1) l) (Propagates (i + 1) l (record {
        clause = clause;
        above = omega arith;
        stands = ap (slice_get (clauses_of formula s)) (next-less i) ∙ stands;
        is_so = unit;
        none_before = rw (next-less i) none;
      }) refl) (length-append s.trail _) refl
  by_clause (Nothing none) = by_choice formula budget s none (first_free s) refl

-- the events come to an end: each makes the trail longer, or leaves less of the budget
abbrev HasEnd : Formula → ℕ → Type 0
HasEnd formula budget = (end : Outcome) × (count : ℕ) × IsSearch formula budget end count

module _ (formula : Formula) (budget : ℕ) (formed : IsFormula formula) where
  ended : (events : ℕ) (s : State) (end : Outcome) → After formula budget events s → Ends formula budget s end → HasEnd formula budget
  ended events s end after ends = (end, length s.steps, record { events = events; last = s; after = after; ends = ends; count = refl })

  from-room : (left : ℕ) → ((events : ℕ) (s : State) → After formula budget events s → s.spent ≤ budget → budget - s.spent < left → HasEnd formula budget)
      → (room events : ℕ) (s : State) → After formula budget events s → s.spent ≤ budget → budget - s.spent ≤ left → formula.vars < length s.trail + room → HasEnd formula budget
  from-room left cheaper zero events s after within small room = absurd (omega (arith, room, short-after formula budget events s formed after))
  from-room left cheaper (suc room) events s after within small fits =
      next (goes_on formula budget events s formed after) (from-room left cheaper room) where
        next : Goes_on formula budget s
            → ((later : ℕ) (t : State) → After formula budget later t → t.spent ≤ budget → budget - t.spent ≤ left → formula.vars < length t.trail + room → HasEnd formula budget)
            → HasEnd formula budget
        next (AtEnd end ends) again = ended events s end after ends
        next (Longer t goes longer same) again = again (suc events) t (s, after, goes) (omega (arith, within, same)) (omega (arith, small, same)) (omega (arith, fits, longer))
        next (Dearer t goes more below) again = cheaper (suc events) t (s, after, goes) below (omega (arith, small, more, below, within))

  from-budget : (left events : ℕ) (s : State) → After formula budget events s → s.spent ≤ budget → budget - s.spent < left → HasEnd formula budget
  from-budget zero events s after within small = absurd (omega (arith, small))
  from-budget (suc left) events s after within small =
      from-room left (from-budget left) (formula.vars + 1) events s after within (omega (arith, small)) (omega arith)

  pub search-ends : HasEnd formula budget
  search-ends = from-budget (budget + 1) 0 (start formula.vars) refl (omega arith) (omega arith)
