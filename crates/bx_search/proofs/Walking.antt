-- The walk over what is left of a trail comes to what is treated of it.
use Rattle.std.proofs.Common.{◌≡◌, ◌≢◌, ℕ, ◌+◌, ◌-◌, ◌<◌, ◌≤◌, nat_lt, inl, inr, Bool, true, false, ◌==◌, ◌&&◌, ◌||◌, List, [], ◌∷◌, ◌++◌, length, map, reverse, Option, Some, None, slice_get, refl, sym, ◌∙◌, ap, ap₂, subst, append_assoc, arith, length-set}
use Rattle.std.specs.Prelude.{option_to_list}
use Rattle.std.specs.List.{list_any}
use Rattle.std.proofs.lemmas.Bool.{cases_Bool, cases_eq, lt-ltb, le-ltb, cases_lt}
use Rattle.std.proofs.lemmas.List.{reverse-append}
use Rattle.std.proofs.lemmas.List.Folds.{list_any-append}
use Rattle.std.proofs.lemmas.Option.{slice_get-get_or}
use Rattle.bx_logic.proofs.Members.{Member, Member-map_cases, Contains-from_member, member_of_AllByRecursion}
use Rattle.bx_cnf.specs.Literals.{Literal, negated}
use Rattle.bx_search.specs.States.{Assigned, current_level, is_assigned}
use Rattle.bx_search.specs.Learning.{Treated, reason_variables, is_marked, any_marked_of, is_replaced, keeping, replacing, treated}
use Rattle.bx_search.specs.Marks.{Marking, Walk, has_mark, one_if, with_marks, level_at, replaces, replaced, kept, passed}
use Rattle.bx_search.proofs.Backed.{IsReason, IsBacked, AreBacked}
use Rattle.bx_search.proofs.Values.{assigned-literal}
use Rattle.bx_search.proofs.Marking.{sized-with_marks}
use Rattle.bx_search.proofs.Numbered.{variables-of}
use Rattle.bx_search.proofs.Tallies.{tally, tally-some, Apart, IsPending, is-assigned, has-other, has-with_marks, pending-passed, pending-without, pending-with_marks}

-- what is known of the literals that are left, the last first
pub record IsRest (clauses : List (List Literal)) (trail : List Assigned) (vars : ℕ) (rest : List Assigned) : Type 0 where
  pub backed : AreBacked clauses rest
  pub over : (a : Assigned) → Member a rest → (0 < a.literal.var) × (a.literal.var ≤ vars)
  pub levels : (a : Assigned) → Member a rest → level_at trail a.literal.var ≡ a.level
  pub part : (a : Assigned) → Member a rest → Member a trail

pub rest-before : (clauses : List (List Literal)) (trail : List Assigned) (vars : ℕ) (a : Assigned) (before : List Assigned) → IsRest clauses trail vars (a ∷ before) → IsRest clauses trail vars before
rest-before clauses trail vars a before r = record {
  backed = r.backed.2;
  over = λ b h. r.over b (inr h);
  levels = λ b h. r.levels b (inr h);
  part = λ b h. r.part b (inr h);
}

pub apart-backed : (clauses : List (List Literal)) (rest : List Assigned) → AreBacked clauses rest → Apart rest
apart-backed clauses [] b = tt
apart-backed clauses (a ∷ rest) b = (b.1, apart-backed clauses rest b.2)

-- the variables of a reason are assigned
some-clause : (a b : List Literal) → Some a ≡ Some b → a ≡ b
some-clause a b e = cc

some-literal : (a b : Literal) → Some a ≡ Some b → a ≡ b
some-literal a b e = cc

pub clause-assigned : (clauses : List (List Literal)) (before : List Assigned) (a : Assigned) (id : ℕ) (clause : List Literal) (l : Literal) → IsReason clauses before a.literal id
    → slice_get clauses (id - 1) ≡ Some clause → Member l clause → is_assigned (a ∷ before) l.var ≡ true
clause-assigned clauses before a id clause l reason stands h =
    let (k, below, at) = Contains-from_member l clause h in
    let same : reason.clause ≡ clause = some-clause reason.clause clause (sym reason.stands ∙ stands) in
    let here : slice_get reason.clause k ≡ Some l = ap (λ (c : List Literal). slice_get c k) same ∙ (slice_get-get_or clause k l below ∙ ap (λ (x : Literal). Some x) at) in
    elim (cases_eq k reason.place) [
      | inl place ↦ is-assigned (a ∷ before) a l.var (inl refl)
          (ap (λ (x : Literal). x.var) (some-literal a.literal l (sym reason.here ∙ (ap (slice_get reason.clause) (sym place) ∙ here))))
      | inr other ↦ (let (b, on, is) = Member-map_cases (λ (z : Assigned). z.literal) (negated l) before (reason.others k l here other) in
          is-assigned (a ∷ before) b l.var (inr on) (ap (λ (x : Literal). x.var) is))
    ]

reason-assigned : (clauses : List (List Literal)) (before : List Assigned) (a : Assigned) (r : Option ℕ) → IsBacked clauses before a.literal a.level r → (v : ℕ) → Member v (reason_variables clauses r) → is_assigned (a ∷ before) v ≡ true
reason-assigned clauses before a None backed v h = absurd h
reason-assigned clauses before a (Some id) reason v h =
    let (l, on, is) = Member-map_cases (λ (x : Literal). x.var) v reason.clause (subst (Member v) (variables-of clauses id reason.clause reason.stands) h) in
    subst (λ n. is_assigned (a ∷ before) n ≡ true) is (clause-assigned clauses before a id reason.clause l reason reason.stands on)

-- what the walk still comes to
abbrev opposite : Assigned → Literal
opposite a = negated a.literal

abbrev its_level : Assigned → ℕ
its_level a = a.level

pub record IsWalk (clauses : List (List Literal)) (trail : List Assigned) (whole : Treated) (all : List ℕ) (rest : List Assigned) (w : Walk) : Type 0 where
  pub marked : List ℕ
  pub agrees : (b : Assigned) → Member b rest → has_mark w.marks b.literal.var ≡ is_marked marked b
  pub literals : w.literals ++ map (λ (a : Assigned). negated a.literal) (treated clauses (current_level trail) marked rest).kept ≡ map (λ (a : Assigned). negated a.literal) whole.kept
  pub levels : w.levels ++ map (λ (a : Assigned). a.level) (treated clauses (current_level trail) marked rest).kept ≡ map (λ (a : Assigned). a.level) whole.kept
  pub hints : (treated clauses (current_level trail) marked rest).reasons ++ reverse w.hints ≡ all

pub record IsOn (clauses : List (List Literal)) (trail : List Assigned) (vars : ℕ) (whole : Treated) (all : List ℕ) (rest : List Assigned) (w : Walk) : Type 0 where
  pub sized : length w.marks.marked ≡ vars
  pub pending : IsPending (current_level trail) rest w.marks
  pub walk : IsWalk clauses trail whole all rest w

-- a literal is treated alike
list_any-same : (p q : Assigned → Bool) (rest : List Assigned) → ((a : Assigned) → Member a rest → p a ≡ q a) → list_any p rest ≡ list_any q rest
list_any-same p q [] same = refl
list_any-same p q (a ∷ rest) same = ap₂ (λ (b c : Bool). b || c) (same a (inl refl)) (list_any-same p q rest (λ b on. same b (inr on)))

one-more : (h n : ℕ) → h ≡ 1 + n → nat_lt 1 h ≡ nat_lt 0 n
one-more h n e = elim (cases_lt 0 n) [
  | inl some ↦ lt-ltb 1 h (omega (arith, e, some)) ∙ sym (lt-ltb 0 n some)
  | inr none ↦ le-ltb 1 h (omega (arith, e, none)) ∙ sym (le-ltb 0 n none)
]

same-replaced : (current : ℕ) (m : Marking) (marked : List ℕ) (a : Assigned) (before : List Assigned) → has_mark m a.literal.var ≡ true → IsPending current (a ∷ before) m
    → ((b : Assigned) → Member b before → has_mark m b.literal.var ≡ is_marked marked b) → replaces current m a ≡ is_replaced current marked before a
same-replaced current m marked a before t p agrees = elim (cases_Bool (a.level == current)) [
  | inl here ↦ ap (λ (b : Bool). (a.level == 0) || ((a.level == current) && b)) (more here)
  | inr other ↦ ap (λ (b : Bool). (a.level == 0) || (b && nat_lt 1 m.here)) other ∙ ap (λ (b : Bool). (a.level == 0) || (b && any_marked_of current marked before)) (sym other)
] where
  test : Assigned → Bool
  test b = (b.level == current) && has_mark m b.literal.var

  more : (a.level == current) ≡ true → nat_lt 1 m.here ≡ any_marked_of current marked before
  more here =
      let one : one_if ((a.level == current) && has_mark m a.literal.var) ≡ 1 = ap (λ (b : Bool). one_if (b && has_mark m a.literal.var)) here ∙ ap one_if t in
      one-more m.here (tally (λ (b : Assigned). (b.level == current) && has_mark m b.literal.var) before) (omega (arith, one, p.here))
      ∙ tally-some (λ (b : Assigned). (b.level == current) && has_mark m b.literal.var) before
      ∙ list_any-same (λ (b : Assigned). (b.level == current) && has_mark m b.literal.var) (λ (b : Assigned). (b.level == current) && is_marked marked b) before
      (λ b on. ap (λ (x : Bool). (b.level == current) && x) (agrees b on))

treated-passed : (clauses : List (List Literal)) (current : ℕ) (marked : List ℕ) (a : Assigned) (before : List Assigned) → is_marked marked a ≡ false
    → treated clauses current marked (a ∷ before) ≡ treated clauses current marked before
treated-passed clauses current marked a before f = rw f refl

treated-kept : (clauses : List (List Literal)) (current : ℕ) (marked : List ℕ) (a : Assigned) (before : List Assigned) → is_marked marked a ≡ true → is_replaced current marked before a ≡ false
    → treated clauses current marked (a ∷ before) ≡ keeping a (treated clauses current marked before)
treated-kept clauses current marked a before t f = rw (t, f) refl

treated-replaced : (clauses : List (List Literal)) (current : ℕ) (marked : List ℕ) (a : Assigned) (before : List Assigned) → is_marked marked a ≡ true → is_replaced current marked before a ≡ true
    → treated clauses current marked (a ∷ before) ≡ replacing a (treated clauses current (marked ++ reason_variables clauses a.reason) before)
treated-replaced clauses current marked a before t r = rw (t, r) refl

passed-unmarked : (clauses : List (List Literal)) (trail : List Assigned) (a : Assigned) (w : Walk) → has_mark w.marks a.literal.var ≡ false → passed clauses trail a w ≡ w
passed-unmarked clauses trail a w f = rw f refl

passed-kept : (clauses : List (List Literal)) (trail : List Assigned) (a : Assigned) (w : Walk) → has_mark w.marks a.literal.var ≡ true → replaces (current_level trail) w.marks a ≡ false
    → passed clauses trail a w ≡ kept trail a w
passed-kept clauses trail a w t f = rw (t, f) refl

passed-replaced : (clauses : List (List Literal)) (trail : List Assigned) (a : Assigned) (w : Walk) → has_mark w.marks a.literal.var ≡ true → replaces (current_level trail) w.marks a ≡ true
    → passed clauses trail a w ≡ replaced clauses trail a w
passed-replaced clauses trail a w t r = rw (t, r) refl

-- the three ways to pass a literal
module _ (clauses : List (List Literal)) (trail : List Assigned) (vars : ℕ) (whole : Treated) (all : List ℕ) (a : Assigned) (before : List Assigned) (w : Walk)
    (r : IsRest clauses trail vars (a ∷ before)) (on : IsOn clauses trail vars whole all (a ∷ before) w) where
  current : ℕ
  current = current_level trail

  apart : Apart (a ∷ before)
  apart = apart-backed clauses (a ∷ before) r.backed

  positive : (b : Assigned) → Member b (a ∷ before) → 0 < b.literal.var
  positive b h = (r.over b h).0

  new : (b : Assigned) → Member b before → b.literal.var ≢ a.literal.var
  new b h = member_of_AllByRecursion (λ (z : Assigned). z.literal.var ≢ a.literal.var) b before apart.0 h

  on-unmarked : has_mark w.marks a.literal.var ≡ false → IsOn clauses trail vars whole all before w
  on-unmarked f =
      let unmarked : is_marked on.walk.marked a ≡ false = sym (on.walk.agrees a (inl refl)) ∙ f in
      let same = treated-passed clauses (current_level trail) on.walk.marked a before unmarked in
      record {
        sized = on.sized;
        pending = pending-passed (current_level trail) a before w.marks f on.pending;
        walk = record {
          marked = on.walk.marked;
          agrees = λ b h. on.walk.agrees b (inr h);
          literals = subst (λ (t : Treated). w.literals ++ map (λ (b : Assigned). negated b.literal) t.kept ≡ map (λ (b : Assigned). negated b.literal) whole.kept) same on.walk.literals;
          levels = subst (λ (t : Treated). w.levels ++ map (λ (b : Assigned). b.level) t.kept ≡ map (λ (b : Assigned). b.level) whole.kept) same on.walk.levels;
          hints = subst (λ (t : Treated). t.reasons ++ reverse w.hints ≡ all) same on.walk.hints;
        };
      }

  on-kept : has_mark w.marks a.literal.var ≡ true → replaces (current_level trail) w.marks a ≡ false → IsOn clauses trail vars whole all before (kept trail a w)
  on-kept t f =
      let marked : is_marked on.walk.marked a ≡ true = sym (on.walk.agrees a (inl refl)) ∙ t in
      let stays : is_replaced (current_level trail) on.walk.marked before a ≡ false =
      sym (same-replaced (current_level trail) w.marks on.walk.marked a before t on.pending (λ b h. on.walk.agrees b (inr h))) ∙ f in
      let same = treated-kept clauses (current_level trail) on.walk.marked a before marked stays in
      let rest : Treated = treated clauses (current_level trail) on.walk.marked before in
      record {
        sized = length-set w.marks.marked (a.literal.var - 1) false ∙ on.sized;
        pending = pending-without (current_level trail) a before w.marks apart positive (omega (arith, (r.over a (inl refl)).1, on.sized)) t on.pending;
        walk = record {
          marked = on.walk.marked;
          agrees = λ b h. has-other w.marks a.literal.var b.literal.var false (w.marks.left - 1) (w.marks.here - one_if (a.level == current_level trail)) (positive a (inl refl)) (positive b (inr h)) (new b h) ∙ on.walk.agrees b (inr h);
          literals = append_assoc w.literals (negated a.literal ∷ []) (map (λ (b : Assigned). negated b.literal) rest.kept)
              ∙ subst (λ (x : Treated). w.literals ++ map (λ (b : Assigned). negated b.literal) x.kept ≡ map (λ (b : Assigned). negated b.literal) whole.kept) same on.walk.literals;
          levels = append_assoc w.levels (a.level ∷ []) (map (λ (b : Assigned). b.level) rest.kept)
              ∙ subst (λ (x : Treated). w.levels ++ map (λ (b : Assigned). b.level) x.kept ≡ map (λ (b : Assigned). b.level) whole.kept) same on.walk.levels;
          hints = subst (λ (x : Treated). x.reasons ++ reverse w.hints ≡ all) same on.walk.hints;
        };
      }

  reason-bounds : (v : ℕ) → Member v (reason_variables clauses a.reason) → (0 < v) × (v ≤ vars)
  reason-bounds v h =
      let (b, in_rest, is) = assigned-literal (a ∷ before) v (reason-assigned clauses before a a.reason r.backed.0 v h) in
      subst (λ n. (0 < n) × (n ≤ vars)) is (r.over b in_rest)

  bounds : (v : ℕ) → Member v (reason_variables clauses a.reason) → (0 < v) × (v ≤ length w.marks.marked)
  bounds v h = ((reason-bounds v h).0, omega (arith, (reason-bounds v h).1, on.sized))

  abbrev more : Marking
  more = with_marks trail (reason_variables clauses a.reason) w.marks

  more-sized : length more.marked ≡ vars
  more-sized = sized-with_marks trail (reason_variables clauses a.reason) w.marks ∙ on.sized

  on-replaced : has_mark w.marks a.literal.var ≡ true → replaces (current_level trail) w.marks a ≡ true → IsOn clauses trail vars whole all before (replaced clauses trail a w)
  on-replaced t f =
      let marked : is_marked on.walk.marked a ≡ true = sym (on.walk.agrees a (inl refl)) ∙ t in
      let goes : is_replaced (current_level trail) on.walk.marked before a ≡ true =
      sym (same-replaced (current_level trail) w.marks on.walk.marked a before t on.pending (λ b h. on.walk.agrees b (inr h))) ∙ f in
      let same = treated-replaced clauses (current_level trail) on.walk.marked a before marked goes in
      let rest : Treated = treated clauses (current_level trail) (on.walk.marked ++ reason_variables clauses a.reason) before in
      record {
        sized = length-set more.marked (a.literal.var - 1) false ∙ more-sized;
        pending = pending-without (current_level trail) a before more apart positive (omega (arith, (r.over a (inl refl)).1, more-sized))
            (has-with_marks trail (reason_variables clauses a.reason) a.literal.var w.marks (positive a (inl refl)) bounds ∙ ap (λ (b : Bool). b || list_any (λ v. v == a.literal.var) (reason_variables clauses a.reason)) t)
            (pending-with_marks trail (a ∷ before) (reason_variables clauses a.reason) w.marks apart (λ b h. ((r.over b h).0, omega (arith, (r.over b h).1, on.sized))) r.levels
            (reason-assigned clauses before a a.reason r.backed.0) on.pending);
        walk = record {
          marked = on.walk.marked ++ reason_variables clauses a.reason;
          agrees = λ b h. has-other more a.literal.var b.literal.var false (more.left - 1) (more.here - one_if (a.level == current_level trail)) (positive a (inl refl)) (positive b (inr h)) (new b h)
              ∙ has-with_marks trail (reason_variables clauses a.reason) b.literal.var w.marks (positive b (inr h)) bounds
              ∙ ap (λ (x : Bool). x || is_marked (reason_variables clauses a.reason) b) (on.walk.agrees b (inr h))
              ∙ sym (list_any-append (λ v. v == b.literal.var) on.walk.marked (reason_variables clauses a.reason));
          literals = subst (λ (x : Treated). w.literals ++ map (λ (b : Assigned). negated b.literal) x.kept ≡ map (λ (b : Assigned). negated b.literal) whole.kept) same on.walk.literals;
          levels = subst (λ (x : Treated). w.levels ++ map (λ (b : Assigned). b.level) x.kept ≡ map (λ (b : Assigned). b.level) whole.kept) same on.walk.levels;
          hints = ap (λ hs. rest.reasons ++ hs) (reverse-append w.hints (option_to_list a.reason))
              ∙ ap (λ hs. rest.reasons ++ (hs ++ reverse w.hints)) (reversed a.reason)
              ∙ sym (append_assoc rest.reasons (option_to_list a.reason) (reverse w.hints))
              ∙ subst (λ (x : Treated). x.reasons ++ reverse w.hints ≡ all) same on.walk.hints;
        };
      } where
        reversed : (o : Option ℕ) → reverse (option_to_list o) ≡ option_to_list o
        reversed None = refl
        reversed (Some id) = refl

  pub on-passed : IsOn clauses trail vars whole all before (passed clauses trail a w)
  on-passed = elim (cases_Bool (has_mark w.marks a.literal.var)) [
    | inl t ↦ elim (cases_Bool (replaces (current_level trail) w.marks a)) [
      | inl goes ↦ subst (IsOn clauses trail vars whole all before) (sym (passed-replaced clauses trail a w t goes)) (on-replaced t goes)
      | inr stays ↦ subst (IsOn clauses trail vars whole all before) (sym (passed-kept clauses trail a w t stays)) (on-kept t stays)
    ]
    | inr f ↦ subst (IsOn clauses trail vars whole all before) (sym (passed-unmarked clauses trail a w f)) (on-unmarked f)
  ]
