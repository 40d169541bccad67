-- The hints of a learned step lead, in the order of the trail, from the literals that are kept to the false
-- clause.
use Rattle.std.proofs.Common.{◌≡◌, ℕ, ◌-◌, ◌<◌, inl, inr, Bool, true, false, ◌==◌, ◌||◌, List, [], ◌∷◌, ◌++◌, get_or, map, reverse, Option, Some, None, slice_get, refl, sym, ◌∙◌, ap, subst, append_assoc}
use mathlib.Core.List.{reverse_aux}
use Rattle.std.specs.Prelude.{option_to_list}
use Rattle.std.proofs.lemmas.Bool.{eq-eqb}
use Rattle.std.proofs.lemmas.Option.{get_or_from_slice_get, slice_get_within}
use Rattle.std.proofs.lemmas.List.Folds.{list_any-append}
use Rattle.bx_logic.proofs.Members.{Member, Member-map, Member-map_cases, Member-append_left, Member-append_right, Member-append_cases, Contains-from_member, Member-from_contains}
use Rattle.bx_logic.proofs.Ordered.{Member-get_or}
use Rattle.bx_cnf.specs.Literals.{Literal, negated}
use Rattle.bx_cnf.specs.Assignments.{IsFalse, IsClauseFalse, LeavesOne}
use Rattle.bx_cnf.proofs.Propagation.{negated-negated}
use Rattle.bx_proof.specs.Steps.{Step}
use Rattle.bx_proof.specs.Accepted.{LeadsToFalse, Follows}
use Rattle.bx_search.specs.States.{Assigned, literals_of, current_level}
use Rattle.bx_search.specs.Learning.{Treated, variables, reason_variables, is_marked, is_replaced, keeping, replacing, treated, treated_from, IsLearned}
use Rattle.bx_search.proofs.Kept.{by_treatment}
use Rattle.bx_search.proofs.Backed.{IsReason, IsBacked, AreBacked, IsConsistent, replaced-reason, consistent}

abbrev pub Within : List Literal → List Literal → Type 0
Within xs ys = (l : Literal) → Member l xs → Member l ys

-- all literals of a trail whose variables are marked are among those taken to be true
abbrev Covers : List ℕ → List Assigned → List Literal → Type 0
Covers marked trail trues = (b : Assigned) → Member b trail → is_marked marked b ≡ true → Member b.literal trues

-- marks
or-true : (b : Bool) → (b || true) ≡ true
or-true true = refl
or-true false = refl

is-marked : (marked : List ℕ) (v : ℕ) (b : Assigned) → Member v marked → b.literal.var ≡ v → is_marked marked b ≡ true
is-marked [] v b h e = absurd h
is-marked (w ∷ marked) v b (inl x) e = rw (eq-eqb w b.literal.var (x ∙ sym e)) refl
is-marked (w ∷ marked) v b (inr h) e = rw (is-marked marked v b h e) (or-true (w == b.literal.var))

more-marked : (marked added : List ℕ) (b : Assigned) → is_marked marked b ≡ true → is_marked (marked ++ added) b ≡ true
more-marked marked added b m = list_any-append (λ var. var == b.literal.var) marked added ∙ rw m refl

pub in-clause : (clause : List Literal) (k : ℕ) (m : Literal) → slice_get clause k ≡ Some m → Member m clause
in-clause clause k m e =
    subst (λ (x : Literal). Member x clause) (get_or_from_slice_get clause k m m e) (Member-get_or clause k m (slice_get_within clause k m e))

-- a variable of the clause of a number
in-variables : (clauses : List (List Literal)) (id : ℕ) (clause : List Literal) (m : Literal) → slice_get clauses (id - 1) ≡ Some clause → Member m clause → Member m.var (variables clauses id)
in-variables clauses id clause m stands h =
    subst (λ (c : List Literal). Member m.var (map (λ (l : Literal). l.var) c)) (sym (get_or_from_slice_get clauses (id - 1) clause [] stands)) (Member-map (λ (l : Literal). l.var) m clause h)

-- what is false by a literal of the trail whose variable is marked is false by those taken to be true
false-by : (marked : List ℕ) (trail : List Assigned) (trues : List Literal) (m : Literal) → Covers marked trail trues → Member m.var marked → Member (negated m) (literals_of trail) → IsFalse trues m
false-by marked trail trues m covers in_marked on =
    let (b, in_trail, is) = Member-map_cases (λ (z : Assigned). z.literal) (negated m) trail on in
    let marks : is_marked marked b ≡ true = is-marked marked m.var b in_marked (ap (λ (z : Literal). z.var) is) in
    Contains-from_member (negated m) trues (subst (λ (x : Literal). Member x trues) is (covers b in_trail marks))

-- what the rest of the walk still has to show, whichever literals are taken to be true by then
abbrev GoesOn : List (List Literal) → List Assigned → List ℕ → List Assigned → List Literal → List ℕ → Type 0
GoesOn clauses whole marked trail trues hints =
    (more : List Literal) → Within trues more → Within more (literals_of whole) → Covers marked trail more → LeadsToFalse clauses more hints

-- a hint names the reason of a literal that is replaced
leads-on : (clauses : List (List Literal)) (whole before : List Assigned) (marked : List ℕ) (trues : List Literal) (a : Assigned) (id : ℕ) (hints : List ℕ)
    → IsConsistent whole → Member a whole → IsReason clauses before a.literal id → GoesOn clauses whole marked (a ∷ before) trues hints
    → GoesOn clauses whole (marked ++ variables clauses id) before trues (id ∷ hints)
leads-on clauses whole before marked trues a id hints apart on reason next more sub inside covers =
    let in_whole : Member a.literal (literals_of whole) = Member-map (λ (z : Assigned). z.literal) a whole on in
    let leaves : LeavesOne more reason.clause a.literal = record {
      place = reason.place;
      stands = reason.here;
      this = λ h. apart a.literal in_whole (inside (negated a.literal) (Member-from_contains (negated a.literal) more h));
      others = λ k m at other. false-by (marked ++ variables clauses id) before more m covers
          (Member-append_right m.var marked (variables clauses id) (in-variables clauses id reason.clause m reason.stands (in-clause reason.clause k m at)))
          (reason.others k m at other);
    } in
    let longer : Within more (more ++ a.literal ∷ []) = λ l h. Member-append_left l more (a.literal ∷ []) h in
    let fits : Within (more ++ a.literal ∷ []) (literals_of whole) = λ l h. elim (Member-append_cases l more (a.literal ∷ []) h) [
      | inl x ↦ inside l x
      | inr x ↦ elim x [ inl e ↦ subst (λ (z : Literal). Member z (literals_of whole)) e in_whole | inr none ↦ absurd none ]
    ] in
    let all : Covers marked (a ∷ before) (more ++ a.literal ∷ []) = λ b h m. elim h [
      | inl e ↦ Member-append_right b.literal more (a.literal ∷ []) (inl (ap (λ (z : Assigned). z.literal) e))
      | inr x ↦ longer b.literal (covers b x (more-marked marked (variables clauses id) b m))
    ] in
    (reason.clause, reason.above, reason.stands, inr (a.literal, leaves, next (more ++ a.literal ∷ []) (λ l h. longer l (sub l h)) fits all))

-- the whole walk
leads : (clauses : List (List Literal)) (current : ℕ) (whole : List Assigned) (marked : List ℕ) (trail : List Assigned) (trues : List Literal) (hints : List ℕ)
    → IsConsistent whole → ((a : Assigned) → Member a trail → Member a whole) → AreBacked clauses trail
    → Within trues (literals_of whole) → GoesOn clauses whole marked trail trues hints
    → Within (literals_of (treated clauses current marked trail).kept) trues
    → LeadsToFalse clauses trues ((treated clauses current marked trail).reasons ++ hints)
leads clauses current whole marked [] trues hints apart part backed inside next = λ kept. next trues (λ l h. h) inside (λ b h m. absurd h)
leads clauses current whole marked (a ∷ before) trues hints apart part backed inside next =
    by_treatment (λ t. Within (literals_of t.kept) trues → LeadsToFalse clauses trues (t.reasons ++ hints)) (is_marked marked a) (is_replaced current marked before a)
    (replacing a (treated clauses current (marked ++ reason_variables clauses a.reason) before)) (keeping a (treated clauses current marked before)) (treated clauses current marked before)
    (λ m r. replaced r (λ id goes kept. leads clauses current whole (marked ++ variables clauses id) before trues (id ∷ hints) apart part_before backed.2 inside goes kept) a.reason backed.0)
    (λ m r kept. leads clauses current whole marked before trues hints apart part_before backed.2 inside
    (λ more sub fits covers. next more sub fits (λ b h marks. elim h [
      | inl e ↦ subst (λ (z : Assigned). Member z.literal more) e (sub a.literal (kept a.literal (inl refl)))
      | inr x ↦ covers b x marks
    ]))
    (λ l h. kept l (inr h)))
    (λ m kept. leads clauses current whole marked before trues hints apart part_before backed.2 inside
    (λ more sub fits covers. next more sub fits (λ b h marks. elim h [
      | inl e ↦ absurd (both (is_marked marked b) marks (subst (λ (z : Assigned). is_marked marked z ≡ false) e m))
      | inr x ↦ covers b x marks
    ]))
    kept)
  where
    part_before : (b : Assigned) → Member b before → Member b whole
    part_before b h = part b (inr h)

    both : (b : Bool) → b ≡ true → b ≡ false → ⊥
    both b t f = no (sym t ∙ f) where
      no : true ≡ false → ⊥
      no h = cc

    replaced : is_replaced current marked before a ≡ true
        → ((id : ℕ) → GoesOn clauses whole (marked ++ variables clauses id) before trues (id ∷ hints)
        → Within (literals_of (treated clauses current (marked ++ variables clauses id) before).kept) trues
        → LeadsToFalse clauses trues ((treated clauses current (marked ++ variables clauses id) before).reasons ++ (id ∷ hints)))
        → (r : Option ℕ) → IsBacked clauses before a.literal a.level r
        → Within (literals_of (treated clauses current (marked ++ reason_variables clauses r) before).kept) trues
        → LeadsToFalse clauses trues (((treated clauses current (marked ++ reason_variables clauses r) before).reasons ++ option_to_list r) ++ hints)
    replaced is again None none kept = absurd (replaced-reason current marked before a none.0 none.1 is)
    replaced is again (Some id) reason kept =
        let walk : Treated = treated clauses current (marked ++ variables clauses id) before in
        let rest : LeadsToFalse clauses trues (walk.reasons ++ (id ∷ hints)) =
        again id (leads-on clauses whole before marked trues a id hints apart (part a (inl refl)) reason next) kept in
        subst (LeadsToFalse clauses trues) (sym (append_assoc walk.reasons (id ∷ []) hints)) rest

-- what is kept stands on the trail
pub kept-within : (clauses : List (List Literal)) (current : ℕ) (marked : List ℕ) (trail : List Assigned) (a : Assigned) → Member a (treated clauses current marked trail).kept → Member a trail
kept-within clauses current marked [] a = λ h. h
kept-within clauses current marked (b ∷ before) a =
    by_treatment (λ t. Member a t.kept → Member a (b ∷ before)) (is_marked marked b) (is_replaced current marked before b)
    (replacing b (treated clauses current (marked ++ reason_variables clauses b.reason) before)) (keeping b (treated clauses current marked before)) (treated clauses current marked before)
    (λ m r h. inr (kept-within clauses current (marked ++ reason_variables clauses b.reason) before a h))
    (λ m r h. elim h [ inl e ↦ inl e | inr x ↦ inr (kept-within clauses current marked before a x) ])
    (λ m h. inr (kept-within clauses current marked before a h))

-- a trail and the same from its end
onto-right : {X : Type 0} (x : X) (xs ys : List X) → Member x ys → Member x (reverse_aux xs ys)
onto-right x [] ys h = h
onto-right x (z ∷ xs) ys h = onto-right x xs (z ∷ ys) (inr h)

pub onto-left : {X : Type 0} (x : X) (xs ys : List X) → Member x xs → Member x (reverse_aux xs ys)
onto-left x [] ys h = absurd h
onto-left x (z ∷ xs) ys (inl e) = onto-right x xs (z ∷ ys) (inl e)
onto-left x (z ∷ xs) ys (inr h) = onto-left x xs (z ∷ ys) h

pub on-reversed : (trail : List Assigned) → Within (literals_of trail) (literals_of (reverse trail))
on-reversed trail l h =
    let (b, on, is) = Member-map_cases (λ (z : Assigned). z.literal) l trail h in
    subst (λ (x : Literal). Member x (literals_of (reverse trail))) is (Member-map (λ (z : Assigned). z.literal) b (reverse trail) (onto-left b trail [] on))

-- a learned step follows from the clauses
pub learned-follows : (clauses : List (List Literal)) (trail : List Assigned) (id : ℕ) (clause : List Literal) (step : Step) → AreBacked clauses (reverse trail)
    → 0 < id → slice_get clauses (id - 1) ≡ Some clause → IsClauseFalse (literals_of trail) clause → IsLearned clauses trail id step → Follows clauses step
learned-follows clauses trail id clause step backed above stands fails learns =
    subst (LeadsToFalse clauses trues) (sym learns.hints)
    (leads clauses (current_level trail) whole (variables clauses id) whole trues (id ∷ []) apart (λ a h. h) backed inside ends kept)
  where
    whole : List Assigned
    whole = reverse trail

    trues : List Literal
    trues = map negated step.literals

    apart : IsConsistent whole
    apart = consistent clauses whole backed

    kept : Within (literals_of (treated_from clauses trail id).kept) trues
    kept l h =
        let (b, on, is) = Member-map_cases (λ (z : Assigned). z.literal) l (treated_from clauses trail id).kept h in
        let has : Member (negated b.literal) step.literals =
        Member-from_contains (negated b.literal) step.literals ((learns.kept (negated b.literal)).1 (Contains-from_member (negated b.literal) _ (Member-map (λ (z : Assigned). negated z.literal) b (treated_from clauses trail id).kept on))) in
        subst (λ (x : Literal). Member x trues) (negated-negated b.literal ∙ is) (Member-map negated (negated b.literal) step.literals has)

    inside : Within trues (literals_of whole)
    inside l h =
        let (m, on, is) = Member-map_cases negated l step.literals h in
        let (b, keeps, same) = Member-map_cases (λ (z : Assigned). negated z.literal) m (treated_from clauses trail id).kept (Member-from_contains m _ ((learns.kept m).0 (Contains-from_member m step.literals on))) in
        subst (λ (x : Literal). Member x (literals_of whole)) (sym (negated-negated b.literal) ∙ ap negated same ∙ is)
        (Member-map (λ (z : Assigned). z.literal) b whole (kept-within clauses (current_level trail) (variables clauses id) whole b keeps))

    ends : GoesOn clauses whole (variables clauses id) whole trues (id ∷ [])
    ends more sub fits covers = (clause, above, stands, inl (shown, refl)) where
      shown : IsClauseFalse more clause
      shown k d below =
          let m : Literal = get_or clause k d in
          false-by (variables clauses id) whole more m covers
          (in-variables clauses id clause m stands (Member-get_or clause k d below))
          (on-reversed trail (negated m) (Member-from_contains (negated m) (literals_of trail) (fails k d below)))
