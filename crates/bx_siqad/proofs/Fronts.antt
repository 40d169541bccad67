-- The texts of designs as a grammar by lines, in which a state is the lines so far. So lines that begin those of
-- a design, behind which no line goes on, come before the first bad line.
use Rattle.std.proofs.Common.{◌≡◌, ℕ, suc, List, [], ◌∷◌, ◌++◌, length, refl, sym, ◌∙◌, ap, subst, append_assoc}
use Rattle.std.proofs.lemmas.List.{append-nil}
use Rattle.std.specs.List.{AllByRecursion}
use Rattle.bx_lines.specs.Lines.{IsLine, ended, text_of, IsFirstBadLine}
use Rattle.bx_lines.specs.Grammars.{Grammar, Lead, IsText, CanEnd, IsLineGrammar, IsStuck}
use Rattle.bx_lines.proofs.BadLines.{stuck_at}
use Rattle.bx_siqad.specs.Designs.{Drawing, IsDrawing}
use Rattle.bx_siqad.specs.Texts.{design_lines, IsDesignText}
use Rattle.bx_siqad.proofs.OneLine.{design_are_lines}

-- lines that begin those of a design
pub record Begins (front : List (List ℕ)) : Type 0 where
  pub drawing : Drawing
  pub is : IsDrawing drawing
  pub more : List (List ℕ)
  pub whole : design_lines drawing ≡ front ++ more

abbrev Goes : List (List ℕ) → List ℕ → List (List ℕ) → Type 0
Goes from line to = Begins to × (to ≡ from ++ line ∷ [])

abbrev Ends : List (List ℕ) → Type 0
Ends lines = (d : Drawing) × IsDrawing d × (design_lines d ≡ lines)

abbrev design_grammar : Grammar (List (List ℕ))
design_grammar = record { start = []; goes = Goes; ends = Ends }

-- from lines that begin those of a design, the others lead on
lead_front : (d : Drawing) → IsDrawing d → (ls before more : List (List ℕ)) → design_lines d ≡ before ++ (ls ++ more) → Lead Goes before ls (before ++ ls)
lead_front d is [] before more whole = sym (append-nil before)
lead_front d is (l ∷ ls) before more whole =
    let next = before ++ l ∷ [] in
    let split : design_lines d ≡ next ++ (ls ++ more) = whole ∙ sym (append_assoc before (l ∷ []) (ls ++ more)) in
    let there : next ++ ls ≡ before ++ l ∷ ls = append_assoc before (l ∷ []) ls in
    (next, (record { drawing = d; is = is; more = ls ++ more; whole = split }, refl), subst (λ to. Lead Goes next ls to) there (lead_front d is ls next more split))

lead_is : (ls from to : List (List ℕ)) → Lead Goes from ls to → to ≡ from ++ ls
lead_is [] from to lead = sym lead ∙ sym (append-nil from)
lead_is (l ∷ ls) from to lead =
    let (mid, goes, rest) = lead in
    lead_is ls mid to rest ∙ ap (λ xs. xs ++ ls) goes.1 ∙ append_assoc from (l ∷ []) ls

pub all_mid : {X : Type 0} (P : X → Type 0) (xs : List X) (x : X) (ys : List X) → AllByRecursion P (xs ++ x ∷ ys) → P x
all_mid P [] x ys all = all.0
all_mid P (y ∷ xs) x ys all = all_mid P xs x ys all.1

pub line_within : (d : Drawing) (front : List (List ℕ)) (line : List ℕ) (more : List (List ℕ)) → IsDrawing d → design_lines d ≡ front ++ line ∷ more → IsLine line
line_within d front line more is whole = all_mid IsLine front line more (subst (AllByRecursion IsLine) whole (design_are_lines d is))

goes_line : (from : List (List ℕ)) (line : List ℕ) (to : List (List ℕ)) → Goes from line to → IsLine line
goes_line from line to goes =
    let b = goes.0 in
    line_within b.drawing from line b.more b.is (b.whole ∙ ap (λ xs. xs ++ b.more) goes.1 ∙ append_assoc from (line ∷ []) b.more)

can_end : (front : List (List ℕ)) → Begins front → CanEnd design_grammar front
can_end front b =
    let none : b.more ++ [] ≡ b.more = append-nil b.more in
    (b.more, front ++ b.more, lead_front b.drawing b.is b.more front [] (b.whole ∙ ap (λ xs. front ++ xs) (sym none)), (b.drawing, b.is, b.whole))

text_from_design : (bytes : List ℕ) → IsDesignText bytes → IsText design_grammar bytes
text_from_design bytes (d, is) =
    let lines = design_lines d in
    (lines, record { lines = lines; lead = lead_front d is.is lines [] [] (sym (append-nil lines)); last = (d, is.is, refl); spelled = is.spelled })

design_from_text : (bytes : List ℕ) → IsText design_grammar bytes → IsDesignText bytes
design_from_text bytes (lines, is) =
    let (d, drawn, e) = is.last in
    (d, record { is = drawn; spelled = is.spelled ∙ ap text_of (sym (e ∙ lead_is is.lines [] lines is.lead)) })

-- no line of a design goes on behind these, and they don't end one, where these bytes are to come
pub record NoneGoesOn (front : List (List ℕ)) (rest : List ℕ) : Type 0 where
  pub no_line : (d : Drawing) (line behind : List ℕ) (more : List (List ℕ)) → IsDrawing d → design_lines d ≡ front ++ line ∷ more → rest ≡ ended line ++ behind → ⊥
  pub no_end : (d : Drawing) → IsDrawing d → design_lines d ≡ front → rest ≡ [] → ⊥

module _ (start : Begins []) where
  is_line_grammar : IsLineGrammar design_grammar
  is_line_grammar = record {
    lines = λ from line to goes. goes_line from line to goes;
    one = λ from line a b x y. x.1 ∙ sym y.1;
    start = can_end [] start;
    each = λ from line to goes. can_end to goes.0;
  }

  pub first_bad : (front : List (List ℕ)) (rest bytes : List ℕ) → Begins front → bytes ≡ text_of front ++ rest → NoneGoesOn front rest → IsFirstBadLine IsDesignText bytes (suc (length front))
  first_bad front rest bytes b split none =
      let stuck : IsStuck design_grammar front rest = record {
        no_line = λ line to behind goes at. (let g = goes.0 in
            none.no_line g.drawing line behind g.more g.is (g.whole ∙ ap (λ xs. xs ++ g.more) goes.1 ∙ append_assoc front (line ∷ []) g.more) (at ∙ ap (λ bs. bs ++ behind) (append-nil (ended line))));
        no_end = λ empty ends. none.no_end ends.0 ends.1 ends.2 empty;
      } in
      let bad = stuck_at design_grammar is_line_grammar front front rest bytes (lead_front b.drawing b.is front [] b.more b.whole) split stuck in
      record {
        bad = λ begun. bad.bad (begun.0, text_from_design begun.0 begun.1, begun.2);
        before = λ j lt. (let begun = bad.before j lt in (begun.0, design_from_text begun.0 begun.1, begun.2));
      }
