-- The log of a search that ends with the empty clause is accepted.
use Rattle.std.proofs.Common.{◌≡◌, ◌≢◌, ℕ, zero, suc, ◌+◌, ◌-◌, ◌<◌, ◌≤◌, inl, inr, Bool, true, false, not, ◌==◌, cond, List, [], ◌∷◌, ◌++◌, length, get_or, map, reverse, Option, Some, None, slice_get, refl, sym, ◌∙◌, ap, subst, length-append, arith}
use Rattle.std.specs.Prelude.{Contains, IfSome, slice_index_or}
use Rattle.std.proofs.lemmas.Bool.{cases_order}
use Rattle.std.proofs.lemmas.Option.{get_or_from_slice_get, slice_get_within}
use Rattle.std.proofs.lemmas.List.Elements.{All-contains}
use Rattle.bx_logic.proofs.Members.{Member, Member-map_cases, Member-append_cases, Member-filter_cases, Contains-from_member, Member-from_contains}
use Rattle.bx_logic.proofs.Ordered.{Member-get_or, Member-range_bounds}
use Rattle.bx_cnf.specs.Literals.{Literal, negated}
use Rattle.bx_cnf.specs.Formulas.{Formula, IsFormula, IsClause}
use Rattle.bx_proof.specs.Steps.{Step, StepList}
use Rattle.bx_proof.specs.Accepted.{AreShaped, IsAccepted}
use Rattle.bx_queue.specs.Queue.{without, moved_to_front}
use Rattle.bx_queue.proofs.Orders.{find-some}
use Rattle.bx_search.specs.States.{Assigned, State, start, clauses_of, current_level, is_assigned}
use Rattle.bx_search.specs.Learning.{IsLearned, treated_from, variables}
use Rattle.bx_search.specs.Searching.{Goes, After, IsSearch, moved_in_turn}
use Rattle.bx_search.specs.Searching.Goes.{Propagates, Decides, Learns}
use Rattle.bx_search.specs.declared.outcome.Outcome.TheVariants.{Unsat}
use Rattle.bx_search.proofs.Leading.{in-clause, kept-within}
use Rattle.bx_search.proofs.Following.{from-reversed, get-front, get-last, each-of_log}

-- all that a state speaks of is of the formula's variables, and no step is empty
pub record IsWithin (vars : ℕ) (s : State) : Type 0 where
  pub trail : (a : Assigned) → Member a s.trail → a.literal.var ≤ vars
  pub queue : (v : ℕ) → Member v s.queue → v ≤ vars
  pub steps : (step : Step) → Member step s.steps → (l : Literal) → Member l step.literals → l.var ≤ vars
  pub some : (step : Step) → Member step s.steps → step.literals ≢ []

start-within : (vars : ℕ) → IsWithin vars (start vars)
start-within vars = record {
  trail = λ a h. absurd h;
  queue = λ v h. let b = Member-range_bounds 1 vars v h in omega (arith, b.0, b.1);
  steps = λ step h. absurd h;
  some = λ step h. absurd h;
}

-- a literal of a clause
pub clause-within : (formula : Formula) (s : State) (id : ℕ) (clause : List Literal) (l : Literal) → IsFormula formula → IsWithin formula.vars s
    → slice_get (clauses_of formula s) (id - 1) ≡ Some clause → Member l clause → l.var ≤ formula.vars
clause-within formula s id clause l formed within stands h = elim (Member-append_cases clause formula.clauses (map (λ (x : Step). x.literals) s.steps) among) [
  | inl own ↦ All-contains (λ (m : Literal). m.var ≤ formula.vars) clause l
      (All-contains (IsClause formula.vars) formula.clauses clause formed.each (Contains-from_member clause formula.clauses own)).within (Contains-from_member l clause h)
  | inr learnt ↦ (let (step, on, is) = Member-map_cases (λ (x : Step). x.literals) clause s.steps learnt in
      within.steps step on l (subst (Member l) (sym is) h))
] where
  among : Member clause (clauses_of formula s)
  among = subst (λ (c : List Literal). Member c (clauses_of formula s)) (get_or_from_slice_get (clauses_of formula s) (id - 1) clause clause stands)
      (Member-get_or (clauses_of formula s) (id - 1) clause (slice_get_within (clauses_of formula s) (id - 1) clause stands))

-- the literals of a learned clause
pub learned-within : (clauses : List (List Literal)) (vars : ℕ) (trail : List Assigned) (id : ℕ) (step : Step) → IsLearned clauses trail id step
    → ((a : Assigned) → Member a trail → a.literal.var ≤ vars) → (l : Literal) → Member l step.literals → l.var ≤ vars
learned-within clauses vars trail id step learns within l h =
    let (a, keeps, is) = Member-map_cases (λ (z : Assigned). negated z.literal) l (treated_from clauses trail id).kept (Member-from_contains l _ ((learns.kept l).0 (Contains-from_member l step.literals h))) in
    let low = within a (from-reversed trail a (kept-within clauses (current_level trail) (variables clauses id) (reverse trail) a keeps)) in
    subst (λ (m : Literal). m.var ≤ vars) is low

-- the queue
without-member : (v x : ℕ) (order : List ℕ) → Member x (without v order) → Member x order
without-member v x [] h = h
without-member v x (y ∷ order) h = cases (y == v) h (without-member v x order) where
  cases : (b : Bool) → Member x (cond b order (y ∷ without v order)) → (Member x (without v order) → Member x order) → Member x (y ∷ order)
  cases true m again = inr m
  cases false (inl e) again = inl e
  cases false (inr m) again = inr (again m)

moved-within : (vars : ℕ) (literals : List Literal) (queue : List ℕ) → ((l : Literal) → Member l literals → l.var ≤ vars) → ((v : ℕ) → Member v queue → v ≤ vars)
    → (v : ℕ) → Member v (moved_in_turn literals queue) → v ≤ vars
moved-within vars [] queue fits within v h = within v h
moved-within vars (l ∷ literals) queue fits within v h = moved-within vars literals (moved_to_front l.var queue) (λ m on. fits m (inr on)) front v h where
  front : (w : ℕ) → Member w (moved_to_front l.var queue) → w ≤ vars
  front w (inl e) = subst (λ n. n ≤ vars) e (fits l (inl refl))
  front w (inr on) = within w (without-member l.var w queue on)

trail-pushed : (vars : ℕ) (trail : List Assigned) (b : Assigned) → ((a : Assigned) → Member a trail → a.literal.var ≤ vars) → b.literal.var ≤ vars → (a : Assigned) → Member a (trail ++ b ∷ []) → a.literal.var ≤ vars
trail-pushed vars trail b within low a h = elim (Member-append_cases a trail (b ∷ []) h) [
  | inl on ↦ within a on
  | inr last ↦ elim last [ inl e ↦ subst (λ (z : Assigned). z.literal.var ≤ vars) e low | inr none ↦ absurd none ]
]

within-goes : (formula : Formula) (budget : ℕ) (s t : State) → IsFormula formula → Goes formula budget s t → IsWithin formula.vars s → IsWithin formula.vars t
within-goes formula budget s t formed (Propagates id l least next) within = subst (IsWithin formula.vars) (sym next) (record {
  trail = trail-pushed formula.vars s.trail _ within.trail
      (clause-within formula s id least.clause l formed within least.stands (in-clause least.clause least.is_so.0.place l least.is_so.0.stands));
  queue = within.queue;
  steps = within.steps;
  some = within.some;
})
within-goes formula budget s t formed (Decides var quiet first next) within = subst (IsWithin formula.vars) (sym next) (record {
  trail = trail-pushed formula.vars s.trail (record { literal = record { var = var; positive = slice_index_or s.phases (var - 1) false }; level = current_level s.trail + 1; reason = None }) within.trail
      (within.queue var (Member-from_contains var s.queue found.0));
  queue = within.queue;
  steps = within.steps;
  some = within.some;
}) where
  found : Contains s.queue var × (not (is_assigned s.trail var) ≡ true)
  found = subst (λ (o : Option ℕ). IfSome o (λ v. Contains s.queue v × (not (is_assigned s.trail v) ≡ true))) first (find-some (λ v. not (is_assigned s.trail v)) s.queue)
within-goes formula budget s t formed (Learns id step conflict fits some next) within = subst (IsWithin formula.vars) (sym next) (record {
  trail = λ a h. within.trail a (Member-filter_cases _ a s.trail h).0;
  queue = moved-within formula.vars step.literals s.queue low within.queue;
  steps = λ other h. elim (Member-append_cases other s.steps (step ∷ []) h) [
    | inl on ↦ within.steps other on
    | inr last ↦ elim last [ inl e ↦ subst (λ (x : Step). (l : Literal) → Member l x.literals → l.var ≤ formula.vars) e low | inr none ↦ absurd none ]
  ];
  some = λ other h. elim (Member-append_cases other s.steps (step ∷ []) h) [
    | inl on ↦ within.some other on
    | inr last ↦ elim last [ inl e ↦ subst (λ (x : Step). x.literals ≢ []) e some | inr none ↦ absurd none ]
  ];
}) where
  low : (l : Literal) → Member l step.literals → l.var ≤ formula.vars
  low = learned-within (clauses_of formula s) formula.vars s.trail id step conflict.learned within.trail

pub within-after : (formula : Formula) (budget events : ℕ) (s : State) → IsFormula formula → After formula budget events s → IsWithin formula.vars s
within-after formula budget zero s formed is = subst (IsWithin formula.vars) (sym is) (start-within formula.vars)
within-after formula budget (suc events) s formed (before, after, goes) =
    within-goes formula budget before s formed goes (within-after formula budget events before formed after)

-- the last step, and no other, is empty
shaped : (vars : ℕ) (s : State) (step : Step) → IsWithin vars s → ((l : Literal) → Member l step.literals → l.var ≤ vars) → step.literals ≡ [] → AreShaped vars (s.steps ++ step ∷ [])
shaped vars s step within low empty = record {
  within = λ k d below i e inner. fits (get_or (s.steps ++ step ∷ []) k d) (Member-get_or (s.steps ++ step ∷ []) k d below) _ (Member-get_or (get_or (s.steps ++ step ∷ []) k d).literals i e inner);
  ended = λ k other at. elim (cases_order k (length s.steps)) [
    | inl end ↦ (let is : step ≡ other = some-same step other (sym (get-last s.steps step k end) ∙ at) in
        (λ none. omega (arith, end, length-append s.steps (step ∷ [])), λ last. subst (λ (x : Step). x.literals ≡ []) is empty))
    | inr (inl before) ↦ (let stands : slice_get s.steps k ≡ Some other = sym (get-front s.steps (step ∷ []) k before) ∙ at in
        (λ none. absurd (within.some other (step-in s.steps k other stands) none), λ last. absurd (omega (arith, before, last, length-append s.steps (step ∷ [])))))
    | inr (inr behind) ↦ (let l = slice_get_within (s.steps ++ step ∷ []) k other at in absurd (omega (arith, l, behind, length-append s.steps (step ∷ []))))
  ];
} where
  some-same : (a b : Step) → Some a ≡ Some b → a ≡ b
  some-same a b e = cc

  step-in : (steps : List Step) (k : ℕ) (x : Step) → slice_get steps k ≡ Some x → Member x steps
  step-in steps k x e = subst (λ (y : Step). Member y steps) (get_or_from_slice_get steps k x x e) (Member-get_or steps k x (slice_get_within steps k x e))

  fits : (other : Step) → Member other (s.steps ++ step ∷ []) → (l : Literal) → Member l other.literals → l.var ≤ vars
  fits other h = elim (Member-append_cases other s.steps (step ∷ []) h) [
    | inl on ↦ within.steps other on
    | inr last ↦ elim last [ inl e ↦ subst (λ (x : Step). (l : Literal) → Member l x.literals → l.var ≤ vars) e low | inr none ↦ absurd none ]
  ]

pub log-accepted : (formula : Formula) (budget count : ℕ) (log : StepList) → IsFormula formula → IsSearch formula budget (Unsat log) count → IsAccepted formula log
log-accepted formula budget count log formed search_is =
    let (id, step, conflict, fits, empty, is) = search_is.ends in
    let last : State = search_is.last in
    let within : IsWithin formula.vars last = within-after formula budget search_is.events last formed search_is.after in
    let low : (l : Literal) → Member l step.literals → l.var ≤ formula.vars = learned-within (clauses_of formula last) formula.vars last.trail id step conflict.learned within.trail in
    record {
      some = subst (λ (x : StepList). 0 < length x.steps) (sym is) (omega (arith, length-append last.steps (step ∷ [])));
      numbered = ap (λ (x : StepList). x.first) is;
      shaped = subst (λ (x : StepList). AreShaped formula.vars x.steps) (sym is) (shaped formula.vars last step within low empty);
      follows = each-of_log formula budget count log search_is;
    }
