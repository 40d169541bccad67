-- Where hints lead, one hint after the other.
use Rattle.std.proofs.Common.{◌≡◌, ℕ, suc, ◌+◌, ◌-◌, ◌<◌, List, [], ◌∷◌, ◌++◌, length, drop, get_or, true, Some, sym, ◌∙◌, ap, subst, inl, inr, arith, drop-cons, length-drop}
use Rattle.std.proofs.Math.ListN.{drop_of_length-le}
use Rattle.std.proofs.lemmas.Bool.{eqb-true, eq-eqb}
use Rattle.std.specs.Prelude.{◌↔◌, slice_get, nat_eq}
use Rattle.bx_cnf.specs.Literals.{Literal}
use Rattle.bx_cnf.specs.Assignments.{IsClauseFalse, LeavesOne}
use Rattle.bx_proof.specs.Accepted.{LeadsToFalse}
use Rattle.bx_check.proofs.Lefts.{one_item, not_false, one_left}

pub at_false : (clauses : List (List Literal)) (trues : List Literal) (h : ℕ) (hs : List ℕ) (c : List Literal) → 0 < h → slice_get clauses (h - 1) ≡ Some c → IsClauseFalse trues c → LeadsToFalse clauses trues (h ∷ hs) ↔ (hs ≡ [])
at_false clauses trues h hs c above at is_false = (to, λ end. (c, above, at, inl (is_false, end))) where
  to : LeadsToFalse clauses trues (h ∷ hs) → hs ≡ []
  to leads =
      let (d, _, at_d, how) = leads in
      elim how [
        | inl end ↦ end.1
        | inr go ↦ absurd (not_false trues c go.0 (subst (λ e. LeavesOne trues e go.0) (one_item clauses (h - 1) d c at_d at) go.1) is_false)
      ]

pub at_one : (clauses : List (List Literal)) (trues : List Literal) (h : ℕ) (hs : List ℕ) (c : List Literal) (l : Literal) → 0 < h → slice_get clauses (h - 1) ≡ Some c → LeavesOne trues c l → LeadsToFalse clauses trues (h ∷ hs) ↔ LeadsToFalse clauses (trues ++ l ∷ []) hs
at_one clauses trues h hs c l above at one = (to, λ rest. (c, above, at, inr (l, one, rest))) where
  to : LeadsToFalse clauses trues (h ∷ hs) → LeadsToFalse clauses (trues ++ l ∷ []) hs
  to leads =
      let (d, _, at_d, how) = leads in
      let same : d ≡ c = one_item clauses (h - 1) d c at_d at in
      elim how [
        | inl end ↦ absurd (not_false trues c l one (subst (IsClauseFalse trues) same end.0))
        | inr go ↦ subst (λ m. LeadsToFalse clauses (trues ++ m ∷ []) hs) (one_left trues c go.0 l (subst (λ e. LeavesOne trues e go.0) same go.1) one) go.2
      ]

pub at_more : (clauses : List (List Literal)) (trues : List Literal) (h : ℕ) (hs : List ℕ) (c : List Literal) → slice_get clauses (h - 1) ≡ Some c → (IsClauseFalse trues c → ⊥) → ((l : Literal) → LeavesOne trues c l → ⊥) → LeadsToFalse clauses trues (h ∷ hs) → ⊥
at_more clauses trues h hs c at not_all not_one leads =
    let (d, _, at_d, how) = leads in
    let same : d ≡ c = one_item clauses (h - 1) d c at_d at in
    elim how [
      | inl end ↦ not_all (subst (IsClauseFalse trues) same end.0)
      | inr go ↦ not_one go.0 (subst (λ e. LeavesOne trues e go.0) same go.1)
    ]

-- the hints from a place on
hints_at : (hints : List ℕ) (k : ℕ) → k < length hints → drop k hints ≡ get_or hints k 0 ∷ drop (k + 1) hints
hints_at hints k within =
    let next : suc k ≡ k + 1 = omega arith in
    drop-cons hints k 0 within ∙ ap (λ n. get_or hints k 0 ∷ drop n hints) next

pub ends_at : (clauses : List (List Literal)) (trues old : List Literal) (hints : List ℕ) (k : ℕ) (c : List Literal) → k < length hints → 0 < get_or hints k 0 → slice_get clauses (get_or hints k 0 - 1) ≡ Some c → IsClauseFalse trues c → (LeadsToFalse clauses trues (drop k hints) → LeadsToFalse clauses old hints) → (LeadsToFalse clauses old hints → LeadsToFalse clauses trues (drop k hints)) → (nat_eq (k + 1) (length hints) ≡ true) ↔ LeadsToFalse clauses old hints
ends_at clauses trues old hints k c within above at is_false whole rest =
    let here = hints_at hints k within in
    let at_end = at_false clauses trues (get_or hints k 0) (drop (k + 1) hints) c above at is_false in (
      λ e. let last : k + 1 ≡ length hints = eqb-true (k + 1) (length hints) e in
          whole (subst (LeadsToFalse clauses trues) (sym here) (at_end.1 (drop_of_length-le hints {i = k + 1} (omega arith)))),
      λ leads. let nil : drop (k + 1) hints ≡ [] = at_end.0 (subst (LeadsToFalse clauses trues) here (rest leads)) in
          let none : length hints - (k + 1) ≡ 0 = sym (length-drop (k + 1) hints) ∙ ap length nil in
          eq-eqb (k + 1) (length hints) (omega arith),
    )

pub goes_on_at : (clauses : List (List Literal)) (trues now old : List Literal) (hints : List ℕ) (k : ℕ) (c : List Literal) (l : Literal) → k < length hints → 0 < get_or hints k 0 → slice_get clauses (get_or hints k 0 - 1) ≡ Some c → LeavesOne trues c l → now ≡ trues ++ l ∷ [] → (LeadsToFalse clauses trues (drop k hints) → LeadsToFalse clauses old hints) → (LeadsToFalse clauses old hints → LeadsToFalse clauses trues (drop k hints)) → (LeadsToFalse clauses now (drop (k + 1) hints) → LeadsToFalse clauses old hints) × (LeadsToFalse clauses old hints → LeadsToFalse clauses now (drop (k + 1) hints))
goes_on_at clauses trues now old hints k c l within above at one is_now whole rest =
    let here = hints_at hints k within in
    let next = at_one clauses trues (get_or hints k 0) (drop (k + 1) hints) c l above at one in (
      λ leads. whole (subst (LeadsToFalse clauses trues) (sym here) (next.1 (subst (λ ts. LeadsToFalse clauses ts (drop (k + 1) hints)) is_now leads))),
      λ leads. subst (λ ts. LeadsToFalse clauses ts (drop (k + 1) hints)) (sym is_now) (next.0 (subst (LeadsToFalse clauses trues) here (rest leads))),
    )

pub stops_at : (clauses : List (List Literal)) (trues old : List Literal) (hints : List ℕ) (k : ℕ) (c : List Literal) → k < length hints → slice_get clauses (get_or hints k 0 - 1) ≡ Some c → (IsClauseFalse trues c → ⊥) × ((l : Literal) → LeavesOne trues c l → ⊥) → (LeadsToFalse clauses old hints → LeadsToFalse clauses trues (drop k hints)) → LeadsToFalse clauses old hints → ⊥
stops_at clauses trues old hints k c within at more rest leads =
    at_more clauses trues (get_or hints k 0) (drop (k + 1) hints) c at more.0 more.1 (subst (LeadsToFalse clauses trues) (hints_at hints k within) (rest leads))
