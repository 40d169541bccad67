-- Where it is decided of each state whether a line goes on from it at the front of bytes, and whether a text may end
-- in it, bytes are a text of the grammar, or they have a first bad line.
use Rattle.std.proofs.Common.{◌≡◌, ◌⊎◌, ℕ, zero, suc, ◌<◌, ◌≤◌, List, [], ◌∷◌, ◌++◌, length, inl, inr, refl, sym, ◌∙◌, ap, arith, append_assoc, length-append}
use Rattle.std.proofs.lemmas.Bool.{cases_eq}
use Rattle.std.proofs.lemmas.Grind.{flat_map-append}
use Rattle.std.proofs.lemmas.List.{append-nil}
use Rattle.bx_lines.specs.Lines.{ended, text_of, IsFirstBadLine}
use Rattle.bx_lines.specs.Grammars.{Grammar, Lead, IsText, IsLineGrammar}
use Rattle.bx_lines.proofs.BadLines.{stuck_at, lead_more}

abbrev pub Behind : List ℕ → List ℕ → Type 0
Behind word bytes = (rest : List ℕ) × (bytes ≡ word ++ rest)

-- bytes begin with a word, or they don't
pub behind-decided : (word bytes : List ℕ) → Behind word bytes ⊎ (Behind word bytes → ⊥)
behind-decided [] bytes = inl (bytes, refl)
behind-decided (w ∷ ws) [] = inr (λ (rest, e). cc)
behind-decided (w ∷ ws) (b ∷ bs) = elim (cases_eq b w) [
  | inl e ↦ elim (behind-decided ws bs) [
    | inl (rest, is) ↦ inl (rest, cc)
    | inr never ↦ inr (λ (rest, is). never (rest, cc))
  ]
  | inr other ↦ inr (λ (rest, is). other (cc))
]

-- ---- lines

-- a line goes on from a state at the front of bytes
abbrev pub HasNext : {S : Type 0} → Grammar S → S → List ℕ → Type 0
HasNext {S} g state rest = (line : List ℕ) × ((to : S) × ((behind : List ℕ) × (g.goes state line to × (rest ≡ ended line ++ behind))))

pub shorter : (line bytes rest : List ℕ) → bytes ≡ ended line ++ rest → length rest < length bytes
shorter line bytes rest e = omega (arith, ap length e, length-append (ended line) rest, length-append line (10 ∷ []))

module _ {S : Type 0} (g : Grammar S) (is : IsLineGrammar g) (bytes : List ℕ) where
  abbrev Read : Type 0
  Read = IsText g bytes ⊎ ((k : ℕ) × IsFirstBadLine (IsText g) bytes k)

  -- no line goes on behind these
  stop : (front : List (List ℕ)) (state : S) (rest : List ℕ) → Lead g.goes g.start front state → bytes ≡ text_of front ++ rest → (HasNext g state rest → ⊥) → g.ends state ⊎ (g.ends state → ⊥) → Read
  stop front state rest lead split none end = by rest split none end
    where
      stuck : (rest : List ℕ) → bytes ≡ text_of front ++ rest → (HasNext g state rest → ⊥) → (rest ≡ [] → g.ends state → ⊥) → Read
      stuck rest split none unended = inr (
        suc (length front),
        stuck_at g is front state rest bytes lead split (record {
          no_line = λ line to behind goes at. none (line, (to, (behind, (goes, at ∙ ap (λ bs. bs ++ behind) (append-nil (ended line))))));
          no_end = unended;
        }),
      )

      by : (rest : List ℕ) → bytes ≡ text_of front ++ rest → (HasNext g state rest → ⊥) → g.ends state ⊎ (g.ends state → ⊥) → Read
      by [] split none (inl end) = inl (state, record { lines = front; lead = lead; last = end; spelled = split ∙ append-nil (text_of front) })
      by [] split none (inr never) = stuck [] split none (λ e end. never end)
      by (b ∷ bs) split none end = stuck (b ∷ bs) split none (λ e end. cc)

  go_on : (front : List (List ℕ)) (line rest behind : List ℕ) → bytes ≡ text_of front ++ rest → rest ≡ ended line ++ behind → bytes ≡ text_of (front ++ line ∷ []) ++ behind
  go_on front line rest behind split e =
      split ∙ ap (λ bs. text_of front ++ bs) e ∙ sym (append_assoc (text_of front) (ended line) behind)
      ∙ ap (λ bs. (text_of front ++ bs) ++ behind) (sym (append-nil (ended line)))
      ∙ ap (λ bs. bs ++ behind) (sym (flat_map-append ended front (line ∷ [])))

  module _ (next : (state : S) (rest : List ℕ) → HasNext g state rest ⊎ (HasNext g state rest → ⊥)) (ends : (state : S) → g.ends state ⊎ (g.ends state → ⊥)) where
    -- so many bytes are left at most
    read_on : (most : ℕ) (front : List (List ℕ)) (state : S) (rest : List ℕ) → length rest ≤ most → Lead g.goes g.start front state → bytes ≡ text_of front ++ rest → Read
    read_on zero front state rest few lead split = elim (next state rest) [
      | inl (line, (to, (behind, (goes, e)))) ↦ (let less = shorter line rest behind e in absurd (omega arith))
      | inr none ↦ stop front state rest lead split none (ends state)
    ]
    read_on (suc most) front state rest few lead split = elim (next state rest) [
      | inl (line, (to, (behind, (goes, e)))) ↦
          (let less = shorter line rest behind e in
          read_on most (front ++ line ∷ []) to behind (omega arith) (lead_more g.goes front g.start state to line lead goes) (go_on front line rest behind split e))
      | inr none ↦ stop front state rest lead split none (ends state)
    ]

    pub some_reading : IsText g bytes ⊎ ((k : ℕ) × IsFirstBadLine (IsText g) bytes k)
    some_reading = read_on (length bytes) [] g.start bytes (omega arith) refl refl
