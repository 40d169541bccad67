-- A reader that goes from line to line, and stops where no line goes on, stops at the first bad line.
use Rattle.std.proofs.Common.{◌≡◌, ℕ, zero, suc, ◌<◌, List, [], ◌∷◌, ◌++◌, length, refl, sym, ◌∙◌, ap, subst, inl, inr, arith, append_assoc}
use Rattle.std.proofs.lemmas.Bool.{cases_order}
use Rattle.bx_lines.specs.Lines.{IsLine, ended, text_of, first_lines, IsFirstBadLine}
use Rattle.bx_lines.specs.Grammars.{Grammar, Lead, IsText, CanEnd, IsLineGrammar, IsStuck}
use Rattle.bx_lines.proofs.FirstLines.{first_lines_line, same_line, first_lines_front, no_first_lines}

pub one_bad_line : (texts : List ℕ → Type 0) (bytes : List ℕ) (j k : ℕ) → IsFirstBadLine texts bytes j → IsFirstBadLine texts bytes k → j ≡ k
one_bad_line texts bytes j k a b =
    elim (cases_order j k) [
      | inl same ↦ same
      | inr other ↦ elim other [ inl lt ↦ absurd (a.bad (b.before j lt)) | inr gt ↦ absurd (b.bad (a.before k gt)) ]
    ]

pub no_bad_line : (texts : List ℕ → Type 0) (bytes : List ℕ) (k : ℕ) → texts bytes → IsFirstBadLine texts bytes k → ⊥
no_bad_line texts bytes k is bad = bad.bad (bytes, is, refl)

-- bytes that no text goes on with, behind lines that lead to a state that is stuck
clash : {S : Type 0} (g : Grammar S) → IsLineGrammar g → (front lines : List (List ℕ)) (from stuck end : S) (rest : List ℕ) → Lead g.goes from front stuck → IsStuck g stuck rest → Lead g.goes from lines end → g.ends end → first_lines (suc (length front)) (text_of front ++ rest) ≡ first_lines (suc (length front)) (text_of lines) → ⊥
clash g is [] [] from stuck end rest at held to ends e =
    held.no_end (no_first_lines 0 rest e) (subst g.ends (sym to ∙ at) ends)
clash g is [] (l ∷ ls) from stuck end rest at held to ends e =
    let (mid, goes, more) = to in
    let first : first_lines 1 rest ≡ ended l ++ [] = e ∙ first_lines_line 0 l (text_of ls) (is.lines from l mid goes) in
    let front = first_lines_front 1 rest in
    held.no_line l mid front.0 (subst (λ s. g.goes s l mid) at goes) (front.1 ∙ ap (λ xs. xs ++ front.0) first)
clash g is (f ∷ fs) [] from stuck end rest at held to ends e =
    let nothing : ended f ++ text_of fs ++ rest ≡ [] = no_first_lines (suc (length fs)) (text_of (f ∷ fs) ++ rest) e in
    no_bytes f (text_of fs ++ rest) (sym (append_assoc (ended f) (text_of fs) rest) ∙ nothing) where
      no_bytes : (a x : List ℕ) → ended a ++ x ≡ [] → ⊥
      no_bytes [] x e = cc
      no_bytes (b ∷ bs) x e = cc
clash g is (f ∷ fs) (l ∷ ls) from stuck end rest at held to ends e =
    let (mid, goes_f, at') = at in
    let (mid', goes_l, to') = to in
    let line_f : IsLine f = is.lines from f mid goes_f in
    let line_l : IsLine l = is.lines from l mid' goes_l in
    let left : first_lines (suc (suc (length fs))) (text_of (f ∷ fs) ++ rest) ≡ ended f ++ first_lines (suc (length fs)) (text_of fs ++ rest) = ap (first_lines (suc (suc (length fs)))) (append_assoc (ended f) (text_of fs) rest) ∙ first_lines_line (suc (length fs)) f (text_of fs ++ rest) line_f in
    let right : first_lines (suc (suc (length fs))) (text_of (l ∷ ls)) ≡ ended l ++ first_lines (suc (length fs)) (text_of ls) = first_lines_line (suc (length fs)) l (text_of ls) line_l in
    let same = same_line f l (first_lines (suc (length fs)) (text_of fs ++ rest)) (first_lines (suc (length fs)) (text_of ls)) line_f line_l (sym left ∙ e ∙ right) in
    let state : mid ≡ mid' = is.one from l mid mid' (subst (λ x. g.goes from x mid) same.0 goes_f) goes_l in
    clash g is fs ls mid' stuck end rest (subst (λ s. Lead g.goes s fs stuck) state at') held to' ends same.1

-- up to each line that leads on, the bytes begin a text
begins : {S : Type 0} (g : Grammar S) → IsLineGrammar g → (front : List (List ℕ)) (from to : S) (rest : List ℕ) (j : ℕ) → Lead g.goes from front to → CanEnd g from → j < suc (length front) → (lines : List (List ℕ)) × (end : S) × Lead g.goes from lines end × g.ends end × (first_lines j (text_of front ++ rest) ≡ first_lines j (text_of lines))
begins g is front from to rest zero lead can le = (can.0, can.1, can.2, can.3, refl)
begins g is [] from to rest (suc j) lead can le = absurd (omega arith)
begins g is (f ∷ fs) from to rest (suc j) lead can le =
    let (mid, goes, more) = lead in
    let line : IsLine f = is.lines from f mid goes in
    let inner = begins g is fs mid to rest j more (is.each from f mid goes) (omega arith) in
    let left : first_lines (suc j) (text_of (f ∷ fs) ++ rest) ≡ ended f ++ first_lines j (text_of fs ++ rest) = ap (first_lines (suc j)) (append_assoc (ended f) (text_of fs) rest) ∙ first_lines_line j f (text_of fs ++ rest) line in
    let right : first_lines (suc j) (text_of (f ∷ inner.0)) ≡ ended f ++ first_lines j (text_of inner.0) = first_lines_line j f (text_of inner.0) line in
    (f ∷ inner.0, inner.1, (mid, goes, inner.2), inner.3, left ∙ ap (λ xs. ended f ++ xs) inner.4 ∙ sym right)

-- lines that lead from the start to a state, behind which nothing goes on
pub stuck_at : {S : Type 0} (g : Grammar S) → IsLineGrammar g → (front : List (List ℕ)) (state : S) (rest bytes : List ℕ) → Lead g.goes g.start front state → bytes ≡ text_of front ++ rest → IsStuck g state rest → IsFirstBadLine (IsText g) bytes (suc (length front))
stuck_at g is front state rest bytes lead split held = record {
  bad = λ begun.
      let (text, has, e) = begun in
      let (end, it) = has in
      clash g is front it.lines g.start state end rest lead held it.lead it.last (ap (first_lines (suc (length front))) (sym split) ∙ e ∙ ap (first_lines (suc (length front))) it.spelled);
  before = λ j lt.
      let b = begins g is front g.start state rest j lead is.start lt in
      (text_of b.0, (b.1, record { lines = b.0; lead = b.2; last = b.3; spelled = refl }), ap (first_lines j) split ∙ b.4);
}

-- one line more
pub lead_more : {S : Type 0} (goes : S → List ℕ → S → Type 0) (lines : List (List ℕ)) (from mid to : S) (line : List ℕ) → Lead goes from lines mid → goes mid line to → Lead goes from (lines ++ line ∷ []) to
lead_more goes [] from mid to line lead h = (to, subst (λ s. goes s line to) (sym lead) h, refl)
lead_more goes (l ∷ ls) from mid to line lead h = let (next, first, rest) = lead in (next, first, lead_more goes ls next mid to line rest h)

-- two ways along the same lines end in one state
pub one_state : {S : Type 0} (g : Grammar S) → IsLineGrammar g → (lines : List (List ℕ)) (from a b : S) → Lead g.goes from lines a → Lead g.goes from lines b → a ≡ b
one_state g is [] from a b to_a to_b = sym to_a ∙ to_b
one_state g is (l ∷ ls) from a b to_a to_b =
    let (mid, first, rest) = to_a in
    let (mid', first', rest') = to_b in
    one_state g is ls mid' a b (subst (λ s. Lead g.goes s ls a) (is.one from l mid mid' first first') rest) rest'
