-- Grammars of texts by lines: a way to go on from each line.
use Rattle.std.specs.Prelude.{◌≡◌, ℕ, List, [], ◌∷◌, ◌++◌}
use Rattle.bx_lines.specs.Lines.{IsLine, text_of}

-- where a text begins, how a line leads from one state to another, and in which states a text may end
pub record Grammar (S : Type 0) : Type 1 where
  pub start : S
  pub goes : S → List ℕ → S → Type 0
  pub ends : S → Type 0

-- lines lead from one state to another
abbrev pub Lead : {S : Type 0} → (S → List ℕ → S → Type 0) → S → List (List ℕ) → S → Type 0
Lead goes from [] to = from ≡ to
Lead {S} goes from (l ∷ ls) to = (mid : S) × goes from l mid × Lead goes mid ls to

-- bytes are a text that ends in this state
pub record IsTextTo {S : Type 0} (g : Grammar S) (bytes : List ℕ) (state : S) : Type 0 where
  pub lines : List (List ℕ)
  pub lead : Lead g.goes g.start lines state
  pub last : g.ends state
  pub spelled : bytes ≡ text_of lines

-- bytes are a text of the grammar
abbrev pub IsText : {S : Type 0} → Grammar S → List ℕ → Type 0
IsText {S} g bytes = (state : S) × IsTextTo g bytes state

-- there are lines that lead from a state to one in which a text may end
abbrev pub CanEnd : {S : Type 0} → Grammar S → S → Type 0
CanEnd {S} g state = (lines : List (List ℕ)) × (end : S) × Lead g.goes state lines end × g.ends end

-- A grammar in which a line leads to one state alone, and from the start and each state to which a line
-- leads a text can be ended.
pub record IsLineGrammar {S : Type 0} (g : Grammar S) : Type 0 where
  pub lines : (from : S) (line : List ℕ) (to : S) → g.goes from line to → IsLine line
  pub one : (from : S) (line : List ℕ) (a b : S) → g.goes from line a → g.goes from line b → a ≡ b
  pub start : CanEnd g g.start
  pub each : (from : S) (line : List ℕ) (to : S) → g.goes from line to → CanEnd g to

-- no line goes on from a state at the front of these bytes, nor may a text end where there are no more
pub record IsStuck {S : Type 0} (g : Grammar S) (state : S) (rest : List ℕ) : Type 0 where
  pub no_line : (line : List ℕ) (to : S) (behind : List ℕ) → g.goes state line to → rest ≡ text_of (line ∷ []) ++ behind → ⊥
  pub no_end : rest ≡ [] → g.ends state → ⊥
