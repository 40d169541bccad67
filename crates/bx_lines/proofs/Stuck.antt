-- Where the first bad line of bytes is, lines lead to a state at whose rest no line goes on.
use Rattle.std.proofs.Common.{◌≡◌, ℕ, zero, suc, ◌+◌, ◌-◌, ◌≤◌, List, [], ◌∷◌, ◌++◌, length, refl, sym, ◌∙◌, ap, subst, inl, inr, arith, append_assoc, length-append}
use Rattle.std.proofs.lemmas.Grind.{flat_map-append}
use Rattle.std.proofs.lemmas.List.{append-nil, append_cancel_left}
use Rattle.std.specs.Prelude.{◌⊎◌}
use Rattle.std.specs.List.{AllByRecursion}
use Rattle.bx_lines.specs.Lines.{IsLine, ended, text_of, first_lines, IsFirstBadLine}
use Rattle.bx_lines.specs.Grammars.{Grammar, Lead, IsText, IsLineGrammar}
use Rattle.bx_lines.proofs.FirstLines.{first_lines_line, first_lines_front, no_first_lines}
use Rattle.bx_lines.proofs.BadLines.{lead_more}

pub no_bytes : (line more : List ℕ) → [] ≡ ended line ++ more → ⊥
no_bytes [] more e = cc
no_bytes (b ∷ bs) more e = cc

-- the first line of bytes, and the others
pub first_split : (k : ℕ) (bytes line x : List ℕ) → IsLine line → first_lines (suc k) bytes ≡ ended line ++ x → (more : List ℕ) × (bytes ≡ ended line ++ more) × (first_lines k more ≡ x)
first_split k bytes line x is e =
    let front = first_lines_front (suc k) bytes in
    let more = x ++ front.0 in
    let split : bytes ≡ ended line ++ more = front.1 ∙ ap (λ bs. bs ++ front.0) e ∙ append_assoc (ended line) x front.0 in
    let both : ended line ++ first_lines k more ≡ ended line ++ x = sym (first_lines_line k line more is) ∙ sym (ap (first_lines (suc k)) split) ∙ e in
    (more, split, append_cancel_left (ended line) (first_lines k more) x both)

-- some first lines of bytes, and the others
pub front_split : (ls : List (List ℕ)) (k : ℕ) (bytes x : List ℕ) → AllByRecursion IsLine ls → first_lines k bytes ≡ text_of ls ++ x → (more : List ℕ) × (length ls ≤ k) × (bytes ≡ text_of ls ++ more) × (x ≡ first_lines (k - length ls) more)
front_split [] k bytes x are e = let same : k - 0 ≡ k = omega arith in (bytes, (omega arith), refl, sym e ∙ ap (λ n. first_lines n bytes) (sym same))
front_split (l ∷ ls) zero bytes x are e = absurd (no_bytes l (text_of ls ++ x) (e ∙ append_assoc (ended l) (text_of ls) x))
front_split (l ∷ ls) (suc k) bytes x are e =
    let (more, split, rest) = first_split k bytes l (text_of ls ++ x) are.0 (e ∙ append_assoc (ended l) (text_of ls) x) in
    let (last, le, splits, same) = front_split ls k more x are.1 rest in
    let left : k - length ls ≡ suc k - suc (length ls) = omega arith in
    (last, (omega (arith, le)), split ∙ ap (λ bs. ended l ++ bs) splits ∙ sym (append_assoc (ended l) (text_of ls) last), same ∙ ap (λ n. first_lines n last) left)

pub front_lines : (ls : List (List ℕ)) (x : List ℕ) → AllByRecursion IsLine ls → first_lines (length ls) (text_of ls ++ x) ≡ text_of ls
front_lines [] x are = refl
front_lines (l ∷ ls) x are = ap (first_lines (suc (length ls))) (append_assoc (ended l) (text_of ls) x) ∙ first_lines_line (length ls) l (text_of ls ++ x) are.0 ∙ ap (λ bs. ended l ++ bs) (front_lines ls x are.1)

all_push : {X : Type 0} (P : X → Type 0) (xs : List X) (x : X) → AllByRecursion P xs → P x → AllByRecursion P (xs ++ x ∷ [])
all_push P [] x all is = (is, tt)
all_push P (y ∷ ys) x all is = (all.0, all_push P ys x all.1 is)

pub lead_on : {S : Type 0} (goes : S → List ℕ → S → Type 0) (xs ys : List (List ℕ)) (a b c : S) → Lead goes a xs b → Lead goes b ys c → Lead goes a (xs ++ ys) c
lead_on goes [] ys a b c x y = subst (λ s. Lead goes s ys c) (sym x) y
lead_on goes (l ∷ ls) ys a b c x y = let (mid, go, rest) = x in (mid, go, lead_on goes ls ys mid b c rest y)

pub are_lines : {S : Type 0} (g : Grammar S) → IsLineGrammar g → (ls : List (List ℕ)) (from to : S) → Lead g.goes from ls to → AllByRecursion IsLine ls
are_lines g is [] from to x = tt
are_lines g is (l ∷ ls) from to x = let (mid, goes, rest) = x in (is.lines from l mid goes, are_lines g is ls mid to rest)

-- as many lines as are good lead on, or the bytes are a text
walk : {S : Type 0} (g : Grammar S) → IsLineGrammar g → (k : ℕ) (ls : List (List ℕ)) (from end : S) (bytes : List ℕ) → Lead g.goes from ls end → first_lines k bytes ≡ first_lines k (text_of ls) → ((front : List (List ℕ)) × (state : S) × (rest : List ℕ) × Lead g.goes from front state × (bytes ≡ text_of front ++ rest) × (length front ≡ k)) ⊎ (bytes ≡ text_of ls)
walk g is zero ls from end bytes lead e = inl ([], from, bytes, refl, refl, refl)
walk g is (suc k) [] from end bytes lead e = inr (no_first_lines k bytes e)
walk g is (suc k) (l ∷ ls) from end bytes lead e =
    let (mid, goes, more_lead) = lead in
    let line : IsLine l = is.lines from l mid goes in
    let (more, split, rest) = first_split k bytes l (first_lines k (text_of ls)) line (e ∙ first_lines_line k l (text_of ls) line) in
    elim (walk g is k ls mid end more more_lead rest) [
      | inl w ↦ let (front, state, last, way, splits, size) = w in inl (l ∷ front, state, last, (mid, goes, way), split ∙ ap (λ bs. ended l ++ bs) splits ∙ sym (append_assoc (ended l) (text_of front) last), ap suc size)
      | inr whole ↦ inr (split ∙ ap (λ bs. ended l ++ bs) whole)
    ]

-- behind these lines no line goes on
pub record IsStuckBehind {S : Type 0} (g : Grammar S) (bytes : List ℕ) (k : ℕ) : Type 0 where
  pub front : List (List ℕ)
  pub state : S
  pub rest : List ℕ
  pub lead : Lead g.goes g.start front state
  pub split : bytes ≡ text_of front ++ rest
  pub count : suc (length front) ≡ k
  pub no_line : (line : List ℕ) (to : S) (behind : List ℕ) → g.goes state line to → rest ≡ ended line ++ behind → ⊥

-- a line that goes on leaves a text with more of these lines
goes_on : {S : Type 0} (g : Grammar S) → IsLineGrammar g → (bytes : List ℕ) (front : List (List ℕ)) (state : S) (rest line behind : List ℕ) (to : S) → Lead g.goes g.start front state → bytes ≡ text_of front ++ rest → g.goes state line to → rest ≡ ended line ++ behind → (text : List ℕ) × IsText g text × (first_lines (suc (length front)) bytes ≡ first_lines (suc (length front)) text)
goes_on g is bytes front state rest line behind to lead split goes at =
    let lines : List (List ℕ) = front ++ line ∷ [] in
    let way = lead_more g.goes front g.start state to line lead goes in
    let can = is.each state line to goes in
    let are = are_lines g is lines g.start to way in
    let size : suc (length front) ≡ length lines = omega (arith, length-append front (line ∷ [])) in
    let whole : bytes ≡ text_of lines ++ behind = split ∙ ap (λ bs. text_of front ++ bs) at ∙ sym (append_assoc (text_of front) (ended line) behind) ∙ ap (λ bs. (text_of front ++ bs) ++ behind) (sym (append-nil (ended line))) ∙ ap (λ bs. bs ++ behind) (sym (flat_map-append ended front (line ∷ []))) in
    let left : first_lines (length lines) bytes ≡ text_of lines = ap (first_lines (length lines)) whole ∙ front_lines lines behind are in
    let right : first_lines (length lines) (text_of (lines ++ can.0)) ≡ text_of lines = ap (first_lines (length lines)) (flat_map-append ended lines can.0) ∙ front_lines lines (text_of can.0) are in
    (text_of (lines ++ can.0), (can.1, record { lines = lines ++ can.0; lead = lead_on g.goes lines can.0 g.start to can.1 way can.2; last = can.3; spelled = refl }), subst (λ n. first_lines n bytes ≡ first_lines n (text_of (lines ++ can.0))) (sym size) (left ∙ sym right))

pub stuck_behind : {S : Type 0} (g : Grammar S) → IsLineGrammar g → (bytes : List ℕ) (k : ℕ) → IsFirstBadLine (IsText g) bytes k → IsStuckBehind g bytes k
stuck_behind g is bytes zero bad =
    let can = is.start in
    absurd (bad.bad (text_of can.0, (can.1, record { lines = can.0; lead = can.2; last = can.3; spelled = refl }), refl))
stuck_behind g is bytes (suc k) bad =
    let (text, has, e) = bad.before k (omega arith) in
    let (end, it) = has in
    elim (walk g is k it.lines g.start end bytes it.lead (e ∙ ap (first_lines k) it.spelled)) [
      | inl w ↦
          let (front, state, rest, lead, split, size) = w in
          record {
            front = front;
            state = state;
            rest = rest;
            lead = lead;
            split = split;
            count = ap suc size;
            no_line = λ line to behind goes at.
                let (more, is_text, same) = goes_on g is bytes front state rest line behind to lead split goes at in
                bad.bad (more, is_text, subst (λ n. first_lines (suc n) bytes ≡ first_lines (suc n) more) size same);
          }
      | inr whole ↦ absurd (bad.bad (bytes, (end, record { lines = it.lines; lead = it.lead; last = it.last; spelled = whole }), refl))
    ]
