-- The walk of conflict analysis, place by place: how it begins, what each place keeps, and how it ends.
use Rattle.std.proofs.Common.{◌≡◌, ◌≢◌, ℕ, ◌+◌, ◌-◌, ◌^◌, ◌<◌, ◌≤◌, eqb, inl, inr, Bool, true, false, ◌==◌, ◌&&◌, ◌||◌, List, [], ◌∷◌, ◌++◌, length, get_or, map, reverse, take, replicate, Some, slice_get, refl, sym, ◌∙◌, ap, subst, arith, length-take}
use Rattle.std.specs.Prelude.{◌↔◌, IsTrue, All}
use Rattle.std.specs.List.{list_any, IsDistinct}
use Rattle.std.proofs.lemmas.Bool.{cases_lt, cases_Bool, eqb-true, eq-eqb, ne_eqb}
use Rattle.std.proofs.lemmas.List.{take_more, take_all, reverse-append, append-nil, length-map, length-replicate, length-reverse, get_or-replicate, get_or_past, ext_get_or}
use Rattle.std.proofs.lemmas.List.Elements.{All-contains}
use Rattle.std.proofs.lemmas.Map.Steps.{length-le_from_distinct_below}
use Rattle.std.proofs.lemmas.Option.{slice_get_within, get_or_from_slice_get}
use Rattle.bx_logic.proofs.Members.{Member, Member-map, Member-map_cases, Contains-from_member, AllByRecursion-from_member, member_of_AllByRecursion}
use Rattle.bx_logic.proofs.Ordered.{Ascends, Ascends-map, AllPairs-from_ascends, Member-get_or}
use Rattle.bx_cnf.specs.Literals.{Literal, negated}
use Rattle.bx_cnf.specs.Formulas.{Formula}
use Rattle.bx_cnf.specs.Assignments.{IsClauseFalse}
use Rattle.bx_proof.specs.Steps.{Step}
use Rattle.bx_proof.specs.Accepted.{with_steps}
use Rattle.bx_watch.specs.Watching.{IsOver, AreApart}
use Rattle.bx_search.specs.States.{Assigned, literals_of, current_level, is_assigned}
use Rattle.bx_search.specs.Learning.{Treated, variables, is_marked, is_replaced, keeping, replacing, reason_variables, treated, treated_from}
use Rattle.bx_search.specs.Solving.{Reaches}
use Rattle.bx_search.specs.Marks.{Marking, Walk, unmarked, has_mark, one_if, with_marks, level_at, passed, IsTreatable}
use Rattle.bx_search.proofs.Backed.{IsReason, IsBacked, AreBacked}
use Rattle.bx_search.proofs.Kept.{by_treatment}
use Rattle.bx_search.proofs.Leading.{kept-within, onto-left}
use Rattle.bx_search.proofs.Following.{from-reversed, backed-after}
use Rattle.bx_search.proofs.Values.{assigned-literal}
use Rattle.bx_search.proofs.Sorting.{apart-later, apart-rest}
use Rattle.bx_search.proofs.Marking.{sized-with_marks}
use Rattle.bx_search.proofs.Numbered.{variables-of}
use Rattle.bx_search.proofs.Tallies.{tally, tally-low, tally-none, Apart, IsPending, is-assigned, has-with_marks, pending-with_marks}
use Rattle.bx_search.proofs.Walking.{IsRest, rest-before, apart-backed, clause-assigned, IsOn, on-passed}

-- the walk has come to a place of the trail
pub record IsAt (clauses : List (List Literal)) (trail : List Assigned) (vars id place : ℕ) (w : Walk) : Type 0 where
  pub within : place ≤ length trail
  pub rest : IsRest clauses trail vars (reverse (take place trail))
  pub on : IsOn clauses trail vars (treated_from clauses trail id) ((treated_from clauses trail id).reasons ++ id ∷ []) (reverse (take place trail)) w

-- a trail is as long as it has variables, which are fewer than there are
distinct-variables : (rest : List Assigned) → ((a : Assigned) → Member a rest → 0 < a.literal.var) → Apart rest → IsDistinct eqb (map (λ (a : Assigned). a.literal.var - 1) rest)
unfolding IsDistinct
distinct-variables [] positive apart = tt
distinct-variables (a ∷ rest) positive apart = (
  AllByRecursion-from_member (λ v. eqb (a.literal.var - 1) v ≡ false) (map (λ (b : Assigned). b.literal.var - 1) rest) (λ v h.
      let (b, on, is) = Member-map_cases (λ (b : Assigned). b.literal.var - 1) v rest h in
      let new : b.literal.var ≢ a.literal.var = member_of_AllByRecursion (λ (z : Assigned). z.literal.var ≢ a.literal.var) b rest apart.0 on in
      ne_eqb (a.literal.var - 1) v (λ e. new (omega (arith, e, is, positive a (inl refl), positive b (inr on))))),
  distinct-variables rest (λ b h. positive b (inr h)) apart.1,
)

below-all : (vars : ℕ) (rest : List Assigned) → ((a : Assigned) → Member a rest → (0 < a.literal.var) × (a.literal.var ≤ vars)) → (q : ℕ) → list_any (eqb q) (map (λ (a : Assigned). a.literal.var - 1) rest) ≡ true → q < vars
below-all vars [] over q e = absurd (no e) where
  no : false ≡ true → ⊥
  no h = cc
below-all vars (a ∷ rest) over q e = elim (cases_Bool (eqb q (a.literal.var - 1))) [
  | inl here ↦ (let same = eqb-true q (a.literal.var - 1) here in let b = over a (inl refl) in omega (arith, same, b.0, b.1))
  | inr other ↦ below-all vars rest (λ b h. over b (inr h)) q (later (eqb q (a.literal.var - 1)) other e)
] where
  later : (b : Bool) → b ≡ false → (b || list_any (eqb q) (map (λ (x : Assigned). x.literal.var - 1) rest)) ≡ true → list_any (eqb q) (map (λ (x : Assigned). x.literal.var - 1) rest) ≡ true
  later true f h = absurd (no f) where
    no : true ≡ false → ⊥
    no x = cc
  later false f h = h

pub short : (vars : ℕ) (rest : List Assigned) → ((a : Assigned) → Member a rest → (0 < a.literal.var) × (a.literal.var ≤ vars)) → Apart rest → length rest ≤ vars
short vars rest over apart =
    let low = length-le_from_distinct_below (map (λ (a : Assigned). a.literal.var - 1) rest) vars (distinct-variables rest (λ a h. (over a h).0) apart) (below-all vars rest over) in
    omega (arith, low, length-map rest (λ (a : Assigned). a.literal.var - 1))

-- what is known of the whole trail
level-of_member : (trail : List Assigned) (a : Assigned) → AreApart (literals_of trail) → Member a trail → level_at trail a.literal.var ≡ a.level
level-of_member [] a apart h = absurd h
level-of_member (b ∷ trail) a apart (inl is) = rw (eq-eqb b.literal.var a.literal.var (ap (λ (z : Assigned). z.literal.var) is)) (ap (λ (z : Assigned). z.level) is)
level-of_member (b ∷ trail) a apart (inr on) =
    rw (ne_eqb b.literal.var a.literal.var (apart-later b.literal (literals_of trail) a.literal apart (Member-map (λ (z : Assigned). z.literal) a trail on)))
    (level-of_member trail a (apart-rest b.literal (literals_of trail) apart) on)

pub whole-rest : (clauses : List (List Literal)) (trail : List Assigned) (vars : ℕ) → AreBacked clauses (reverse trail) → All (IsOver vars) (literals_of trail) → AreApart (literals_of trail) → IsRest clauses trail vars (reverse trail)
whole-rest clauses trail vars backed over apart = record {
  backed = backed;
  over = λ a h. All-contains (IsOver vars) (literals_of trail) a.literal over (Contains-from_member a.literal (literals_of trail) (Member-map (λ (z : Assigned). z.literal) a trail (from-reversed trail a h)));
  levels = λ a h. level-of_member trail a apart (from-reversed trail a h);
  part = from-reversed trail;
}

pub reached-backed : (formula : Formula) (trail : List Assigned) (steps : List Step) → Reaches formula trail steps → AreBacked (with_steps formula.clauses steps) (reverse trail)
reached-backed formula trail steps reached =
    subst (λ (ss : List Step). AreBacked (with_steps formula.clauses ss) (reverse trail)) reached.steps_are
    (subst (λ (t : List Assigned). AreBacked (with_steps formula.clauses reached.state.steps) (reverse t)) reached.trail_is
    (backed-after formula reached.budget reached.events reached.state reached.after))

-- the variables of a false clause are assigned
pub false-assigned : (trail : List Assigned) (clause : List Literal) → IsClauseFalse (literals_of trail) clause → All (λ (l : Literal). is_assigned trail l.var ≡ true) clause
false-assigned trail clause fails k d below =
    let l : Literal = get_or clause k d in
    let (j, within, at) = fails k d below in
    let (b, on, is) = Member-map_cases (λ (z : Assigned). z.literal) (negated l) trail (subst (λ (x : Literal). Member x (literals_of trail)) at (Member-get_or (literals_of trail) j (negated l) within)) in
    is-assigned trail b l.var on (ap (λ (x : Literal). x.var) is)

-- none is marked at first
none-marked : (vars v : ℕ) → has_mark (unmarked vars) v ≡ false
none-marked vars v = elim (cases_lt (v - 1) vars) [
  | inl within ↦ get_or-replicate vars (v - 1) false false within
  | inr past ↦ get_or_past (replicate vars false) (v - 1) false (omega (arith, past, length-replicate vars false))
]

tally-zero : (p : Assigned → Bool) (rest : List Assigned) → ((a : Assigned) → Member a rest → p a ≡ false) → 0 ≡ tally p rest
tally-zero p [] none = refl
tally-zero p (a ∷ rest) none =
    let first : one_if (p a) ≡ 0 = ap one_if (none a (inl refl)) in
    let after : 0 ≡ tally p rest = tally-zero p rest (λ b h. none b (inr h)) in
    omega (arith, first, after)

and-false : (b : Bool) → (b && false) ≡ false
and-false true = refl
and-false false = refl

pending-unmarked : (current vars : ℕ) (rest : List Assigned) → IsPending current rest (unmarked vars)
pending-unmarked current vars rest = record {
  among = λ v above h. absurd (both (has_mark (unmarked vars) v) h (none-marked vars v));
  left = tally-zero (λ (a : Assigned). has_mark (unmarked vars) a.literal.var) rest (λ a h. none-marked vars a.literal.var);
  here = tally-zero (λ (a : Assigned). (a.level == current) && has_mark (unmarked vars) a.literal.var) rest
      (λ a h. ap (λ (x : Bool). (a.level == current) && x) (none-marked vars a.literal.var) ∙ and-false (a.level == current));
} where
  both : (b : Bool) → b ≡ true → b ≡ false → ⊥
  both b t f = no (sym t ∙ f) where
    no : true ≡ false → ⊥
    no x = cc

-- how the walk begins
abbrev pub begun : List Assigned → List ℕ → ℕ → ℕ → Walk
begun trail marked vars id = record { marks = with_marks trail marked (unmarked vars); literals = []; levels = []; hints = id ∷ [] }

on-begun : (clauses : List (List Literal)) (trail : List Assigned) (vars id : ℕ) → IsRest clauses trail vars (reverse trail) → ((v : ℕ) → Member v (variables clauses id) → is_assigned (reverse trail) v ≡ true)
    → IsOn clauses trail vars (treated_from clauses trail id) ((treated_from clauses trail id).reasons ++ id ∷ []) (reverse trail) (begun trail (variables clauses id) vars id)
on-begun clauses trail vars id r each = record {
  sized = sized-with_marks trail (variables clauses id) (unmarked vars) ∙ length-replicate vars false;
  pending = pending-with_marks trail (reverse trail) (variables clauses id) (unmarked vars) (apart-backed clauses (reverse trail) r.backed)
      (λ a h. ((r.over a h).0, omega (arith, (r.over a h).1, length-replicate vars false))) r.levels each (pending-unmarked (current_level trail) vars (reverse trail));
  walk = record {
    marked = variables clauses id;
    agrees = λ b h. has-with_marks trail (variables clauses id) b.literal.var (unmarked vars) (r.over b h).0 bounds
        ∙ ap (λ (x : Bool). x || list_any (λ v. v == b.literal.var) (variables clauses id)) (none-marked vars b.literal.var);
    literals = refl;
    levels = refl;
    hints = refl;
  };
} where
  bounds : (v : ℕ) → Member v (variables clauses id) → (0 < v) × (v ≤ length (unmarked vars).marked)
  bounds v h =
      let (b, on, is) = assigned-literal (reverse trail) v (each v h) in
      let low = r.over b on in
      (omega (arith, is, low.0), omega (arith, is, low.1, length-replicate vars false))

pub at-begun : (clauses : List (List Literal)) (trail : List Assigned) (vars id place : ℕ) (clause : List Literal) (w : Walk) → place ≡ length trail → AreBacked clauses (reverse trail) → All (IsOver vars) (literals_of trail) → AreApart (literals_of trail)
    → slice_get clauses (id - 1) ≡ Some clause → IsClauseFalse (literals_of trail) clause → w ≡ begun trail (map (λ (l : Literal). l.var) clause) vars id → IsAt clauses trail vars id place w
at-begun clauses trail vars id place clause w end backed over apart stands fails is =
    let all : take place trail ≡ trail = take_all place trail (omega (arith, end)) in
    let r : IsRest clauses trail vars (reverse trail) = whole-rest clauses trail vars backed over apart in
    let vs : variables clauses id ≡ map (λ (l : Literal). l.var) clause = variables-of clauses id clause stands in
    record {
      within = omega (arith, end);
      rest = subst (λ (t : List Assigned). IsRest clauses trail vars (reverse t)) (sym all) r;
      on = subst (λ (t : List Assigned). IsOn clauses trail vars (treated_from clauses trail id) ((treated_from clauses trail id).reasons ++ id ∷ []) (reverse t) w) (sym all)
          (subst (IsOn clauses trail vars (treated_from clauses trail id) ((treated_from clauses trail id).reasons ++ id ∷ []) (reverse trail))
          (ap (λ (marked : List ℕ). begun trail marked vars id) vs ∙ sym is)
          (on-begun clauses trail vars id r (λ v h. each v (subst (Member v) vs h))));
    }
  where
    each : (v : ℕ) → Member v (map (λ (l : Literal). l.var) clause) → is_assigned (reverse trail) v ≡ true
    each v h =
        let (l, on, is_v) = Member-map_cases (λ (x : Literal). x.var) v clause h in
        let e : is_assigned trail l.var ≡ true = All-contains (λ (x : Literal). is_assigned trail x.var ≡ true) clause l (false-assigned trail clause fails) (Contains-from_member l clause on) in
        let (b, in_trail, is_b) = assigned-literal trail l.var e in
        is-assigned (reverse trail) b v (onto-left b trail [] in_trail) (is_b ∙ is_v)

-- one place on
at-entry : (trail : List Assigned) (place : ℕ) (a : Assigned) → slice_get trail place ≡ Some a → reverse (take (place + 1) trail) ≡ a ∷ reverse (take place trail)
at-entry trail place a e =
    ap reverse (take_more trail place a (slice_get_within trail place a e)) ∙ reverse-append (take place trail) (get_or trail place a ∷ [])
    ∙ ap (λ (x : Assigned). x ∷ reverse (take place trail)) (get_or_from_slice_get trail place a a e)

pub at-passed : (clauses : List (List Literal)) (trail : List Assigned) (vars id next place : ℕ) (a : Assigned) (w after : Walk) → next ≡ place + 1 → slice_get trail place ≡ Some a → IsAt clauses trail vars id next w
    → after ≡ passed clauses trail a w → IsAt clauses trail vars id place after
at-passed clauses trail vars id next place a w after n e at is =
    let split : reverse (take next trail) ≡ a ∷ reverse (take place trail) = ap (λ (k : ℕ). reverse (take k trail)) n ∙ at-entry trail place a e in
    let r : IsRest clauses trail vars (a ∷ reverse (take place trail)) = subst (IsRest clauses trail vars) split at.rest in
    record {
      within = omega (arith, at.within, n);
      rest = rest-before clauses trail vars a (reverse (take place trail)) r;
      on = subst (IsOn clauses trail vars (treated_from clauses trail id) ((treated_from clauses trail id).reasons ++ id ∷ []) (reverse (take place trail))) (sym is)
          (on-passed clauses trail vars (treated_from clauses trail id) ((treated_from clauses trail id).reasons ++ id ∷ []) a (reverse (take place trail)) w r
          (subst (λ (t : List Assigned). IsOn clauses trail vars (treated_from clauses trail id) ((treated_from clauses trail id).reasons ++ id ∷ []) t w) split at.on));
    }

pub at-low : (clauses : List (List Literal)) (trail : List Assigned) (vars id place : ℕ) (w : Walk) → IsAt clauses trail vars id place w → w.marks.left ≤ place
at-low clauses trail vars id place w at =
    let low = tally-low (λ (a : Assigned). has_mark w.marks a.literal.var) (reverse (take place trail)) in
    omega (arith, low, at.on.pending.left, length-reverse (take place trail), length-take place trail)

-- each literal can be treated
treatable : (clauses : List (List Literal)) (trail : List Assigned) (vars : ℕ) (a : Assigned) (before : List Assigned) (m : Marking) → vars < 2 ^ 31 → length m.marked ≡ vars → IsRest clauses trail vars (a ∷ before) → IsPending (current_level trail) (a ∷ before) m
    → IsTreatable clauses (record { vars = vars; entries = trail }) m a
treatable clauses trail vars a before m few sized r p = record {
  sized = sized;
  over = r.over a (inl refl);
  left_small = let t = tally-low (λ (b : Assigned). has_mark m b.literal.var) (a ∷ before) in omega (arith, low, few, t, p.left);
  here_small = let t = tally-low (λ (b : Assigned). (b.level == current_level trail) && has_mark m b.literal.var) (a ∷ before) in omega (arith, low, few, t, p.here);
  some = λ t. let one : one_if (has_mark m a.literal.var) ≡ 1 = ap one_if t in omega (arith, one, p.left);
  some_here = λ t level. let one : one_if ((a.level == current_level trail) && has_mark m a.literal.var) ≡ 1 = ap (λ (b : Bool). one_if (b && has_mark m a.literal.var)) (eq-eqb a.level (current_level trail) level) ∙ ap one_if t in
      omega (arith, one, p.here);
  above = λ id e. (reason id e).above;
  within = λ id e. let below = slice_get_within clauses (id - 1) (reason id e).clause (reason id e).stands in omega (arith, below);
  assigned = λ id clause e stands k d below.
      let l : Literal = get_or clause k d in
      let h = clause-assigned clauses before a id clause l (reason id e) stands (Member-get_or clause k d below) in
      let (b, on, is) = assigned-literal (a ∷ before) l.var h in
      is-assigned trail b l.var (r.part b on) is;
} where
  low : length (a ∷ before) ≤ vars
  low = short vars (a ∷ before) r.over (apart-backed clauses (a ∷ before) r.backed)

  reason : (id : ℕ) → a.reason ≡ Some id → IsReason clauses before a.literal id
  reason id e = subst (IsBacked clauses before a.literal a.level) e r.backed.0

pub at-treatable : (clauses : List (List Literal)) (trail : List Assigned) (vars id next place : ℕ) (a : Assigned) (w : Walk) → vars < 2 ^ 31 → next ≡ place + 1 → slice_get trail place ≡ Some a → IsAt clauses trail vars id next w
    → IsTreatable clauses (record { vars = vars; entries = trail }) w.marks a
at-treatable clauses trail vars id next place a w few n e at =
    let split : reverse (take next trail) ≡ a ∷ reverse (take place trail) = ap (λ (k : ℕ). reverse (take k trail)) n ∙ at-entry trail place a e in
    treatable clauses trail vars a (reverse (take place trail)) w.marks few at.on.sized (subst (IsRest clauses trail vars) split at.rest)
    (subst (λ (t : List Assigned). IsPending (current_level trail) t w.marks) split at.on.pending)

-- how the walk ends
treated-none : (clauses : List (List Literal)) (current : ℕ) (marked : List ℕ) (rest : List Assigned) → ((b : Assigned) → Member b rest → is_marked marked b ≡ false) → treated clauses current marked rest ≡ record { kept = []; reasons = [] }
treated-none clauses current marked [] none = refl
treated-none clauses current marked (a ∷ rest) none = rw (none a (inl refl)) (treated-none clauses current marked rest (λ b h. none b (inr h)))

pub record IsEnd (clauses : List (List Literal)) (trail : List Assigned) (vars id : ℕ) (w : Walk) : Type 0 where
  pub marks : w.marks ≡ unmarked vars
  pub literals : w.literals ≡ map (λ (a : Assigned). negated a.literal) (treated_from clauses trail id).kept
  pub levels : w.levels ≡ map (λ (a : Assigned). a.level) (treated_from clauses trail id).kept
  pub hints : reverse w.hints ≡ (treated_from clauses trail id).reasons ++ id ∷ []

marking-same : (m : Marking) (vars : ℕ) → m.marked ≡ replicate vars false → m.left ≡ 0 → m.here ≡ 0 → m ≡ unmarked vars
marking-same m vars e l h =
    ap (λ (x : List Bool). record { marked = x; left = m.left; here = m.here }) e
    ∙ ap (λ (n : ℕ). record { marked = replicate vars false; left = n; here = m.here }) l
    ∙ ap (λ (n : ℕ). record { marked = replicate vars false; left = 0; here = n }) h

pub at-end : (clauses : List (List Literal)) (trail : List Assigned) (vars id place : ℕ) (w : Walk) → IsAt clauses trail vars id place w → w.marks.left ≡ 0 → IsEnd clauses trail vars id w
at-end clauses trail vars id place w at left = record {
  marks = marking-same w.marks vars (ext_get_or false w.marks.marked (replicate vars false) (at.on.sized ∙ sym (length-replicate vars false)) same) left
      (at.on.pending.here ∙ sym (tally-zero (λ (a : Assigned). (a.level == current_level trail) && has_mark w.marks a.literal.var) rest
      (λ a h. ap (λ (x : Bool). (a.level == current_level trail) && x) (none a h) ∙ and-false (a.level == current_level trail))));
  literals = sym (append-nil w.literals) ∙ subst (λ (t : Treated). w.literals ++ map (λ (a : Assigned). negated a.literal) t.kept ≡ map (λ (a : Assigned). negated a.literal) (treated_from clauses trail id).kept) nothing at.on.walk.literals;
  levels = sym (append-nil w.levels) ∙ subst (λ (t : Treated). w.levels ++ map (λ (a : Assigned). a.level) t.kept ≡ map (λ (a : Assigned). a.level) (treated_from clauses trail id).kept) nothing at.on.walk.levels;
  hints = subst (λ (t : Treated). t.reasons ++ reverse w.hints ≡ (treated_from clauses trail id).reasons ++ id ∷ []) nothing at.on.walk.hints;
} where
  rest : List Assigned
  rest = reverse (take place trail)

  none : (a : Assigned) → Member a rest → has_mark w.marks a.literal.var ≡ false
  none a h = tally-none (λ (b : Assigned). has_mark w.marks b.literal.var) rest (sym at.on.pending.left ∙ left) a h

  nothing : treated clauses (current_level trail) at.on.walk.marked rest ≡ record { kept = []; reasons = [] }
  nothing = treated-none clauses (current_level trail) at.on.walk.marked rest (λ b h. sym (at.on.walk.agrees b h) ∙ none b h)

  same : (k : ℕ) → k < length w.marks.marked → get_or w.marks.marked k false ≡ get_or (replicate vars false) k false
  same k below = elim (cases_Bool (get_or w.marks.marked k false)) [
    | inl t ↦
        let shift : k + 1 - 1 ≡ k = omega arith in
        let h : has_mark w.marks (k + 1) ≡ true = ap (λ n. get_or w.marks.marked n false) shift ∙ t in
        let (b, on, is) = assigned-literal rest (k + 1) (at.on.pending.among (k + 1) (omega arith) h) in
        absurd (both (has_mark w.marks (k + 1)) h (ap (has_mark w.marks) (sym is) ∙ none b on))
    | inr f ↦ f ∙ sym (get_or-replicate vars k false false (omega (arith, below, at.on.sized)))
  ] where
    both : (b : Bool) → b ≡ true → b ≡ false → ⊥
    both b t f = no (sym t ∙ f) where
      no : true ≡ false → ⊥
      no x = cc

-- the literals that are kept are over variables of their own
abbrev pub DifferIn : Assigned → Assigned → Type 0
DifferIn a b = b.literal.var ≢ a.literal.var

pub kept-apart : (clauses : List (List Literal)) (current : ℕ) (marked : List ℕ) (rest : List Assigned) → Apart rest → Ascends DifferIn (treated clauses current marked rest).kept
kept-apart clauses current marked [] apart = tt
kept-apart clauses current marked (a ∷ before) apart =
    by_treatment (λ t. Ascends DifferIn t.kept) (is_marked marked a) (is_replaced current marked before a)
    (replacing a (treated clauses current (marked ++ reason_variables clauses a.reason) before)) (keeping a (treated clauses current marked before)) (treated clauses current marked before)
    (λ m r. kept-apart clauses current (marked ++ reason_variables clauses a.reason) before apart.1)
    (λ m r. (
      AllByRecursion-from_member (DifferIn a) (treated clauses current marked before).kept (λ b h. member_of_AllByRecursion (λ (z : Assigned). z.literal.var ≢ a.literal.var) b before apart.0 (kept-within clauses current marked before b h)),
      kept-apart clauses current marked before apart.1,
    ))
    (λ m. kept-apart clauses current marked before apart.1)

pub end-apart : (clauses : List (List Literal)) (trail : List Assigned) (vars id : ℕ) (w : Walk) → AreBacked clauses (reverse trail) → IsEnd clauses trail vars id w → AreApart w.literals
end-apart clauses trail vars id w backed end = subst AreApart (sym end.literals)
    (AllPairs-from_ascends (λ (l m : Literal). l.var ≢ m.var) (map (λ (a : Assigned). negated a.literal) (treated_from clauses trail id).kept)
    (Ascends-map DifferIn (λ (l m : Literal). l.var ≢ m.var) (λ (a : Assigned). negated a.literal) (treated_from clauses trail id).kept (λ x y hx hy differ e. differ (sym e))
    (kept-apart clauses (current_level trail) (variables clauses id) (reverse trail) (apart-backed clauses (reverse trail) backed))))

pub end-above : (clauses : List (List Literal)) (trail : List Assigned) (vars id : ℕ) (w : Walk) → All (IsOver vars) (literals_of trail) → IsEnd clauses trail vars id w → All (λ (l : Literal). 0 < l.var) w.literals
end-above clauses trail vars id w over end = subst (All (λ (l : Literal). 0 < l.var)) (sym end.literals) (λ k d below. above (get_or opposites k d) (Member-get_or opposites k d below)) where
  kept : List Assigned
  kept = (treated_from clauses trail id).kept

  opposites : List Literal
  opposites = map (λ (a : Assigned). negated a.literal) kept

  above : (l : Literal) → Member l opposites → 0 < l.var
  above l h =
      let (a, on, is) = Member-map_cases (λ (z : Assigned). negated z.literal) l kept h in
      let in_trail = from-reversed trail a (kept-within clauses (current_level trail) (variables clauses id) (reverse trail) a on) in
      let low = All-contains (IsOver vars) (literals_of trail) a.literal over (Contains-from_member a.literal (literals_of trail) (Member-map (λ (z : Assigned). z.literal) a trail in_trail)) in
      subst (λ (x : Literal). 0 < x.var) is low.0

-- the calls of the code
pub false-here : (clauses : List (List Literal)) (trail : List Assigned) (id : ℕ) (clause other : List Literal) → slice_get clauses (id - 1) ≡ Some clause → slice_get clauses (id - 1) ≡ Some other
    → IsClauseFalse (literals_of trail) clause → IsClauseFalse (literals_of trail) other
false-here clauses trail id clause other a b fails = subst (IsClauseFalse (literals_of trail)) (some-same clause other (sym a ∙ b)) fails where
  some-same : (x y : List Literal) → Some x ≡ Some y → x ≡ y
  some-same x y e = cc

pub walk-begun : (trail : List Assigned) (marked : List ℕ) (vars id : ℕ) (m before : Marking) (ls : List Literal) (lv hs : List ℕ) → m ≡ with_marks trail marked before → before ≡ unmarked vars → ls ≡ [] → lv ≡ [] → hs ≡ id ∷ []
    → record { marks = m; literals = ls; levels = lv; hints = hs } ≡ begun trail marked vars id
walk-begun trail marked vars id m before ls lv hs em eb el ev eh =
    ap (λ (x : Marking). record { marks = x; literals = ls; levels = lv; hints = hs }) (em ∙ ap (with_marks trail marked) eb)
    ∙ ap (λ (x : List Literal). record { marks = with_marks trail marked (unmarked vars); literals = x; levels = lv; hints = hs }) el
    ∙ ap (λ (x : List ℕ). record { marks = with_marks trail marked (unmarked vars); literals = []; levels = x; hints = hs }) ev
    ∙ ap (λ (x : List ℕ). record { marks = with_marks trail marked (unmarked vars); literals = []; levels = []; hints = x }) eh

pub some-left : (b : Bool) (n : ℕ) → (IsTrue b ↔ (n ≡ 0)) → b ≡ false → 0 < n
some-left b n is e = elim (cases_lt 0 n) [
  | inl some ↦ some
  | inr none ↦ absurd (no b e (is.1 (omega (arith, none))))
] where
  no : (x : Bool) → x ≡ false → IsTrue x → ⊥
  no true f t = cc
  no false f t = cc
