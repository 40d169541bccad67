-- What a text says of a formula: it is read line by line, and behind the header word by word, up to where reading is
-- stuck.
use Rattle.std.specs.Prelude.{ℕ, zero, suc, ◌+◌, ◌^◌, ◌==◌, ◌&&◌, Bool, false, not, List, [], ◌∷◌, ◌++◌, length, codes, nat_lt, nat_le, ℤ, pos, negsuc, Option, Some, None, option_and_then, Result, Ok, Err, if◌then◌else◌}
use Rattle.std.specs.List.{list_any}
use Rattle.std.specs.Str.{bytes_eq}
use Rattle.bx_cnf.specs.Literals.{Literal, literal_of}
use Rattle.bx_dimacs.specs.Words.{Line, begins_with, lines_from, last_from, number_of, signed_of}

-- What was read of a formula: how many variables and clauses its header declares, its clauses so far, each as its
-- literals stand in the text, and the literals of one that has no end yet.
pub record FormulaText : Type 0 where
  pub vars : ℕ
  pub count : ℕ
  pub clauses : List (List Literal)
  pub begun : List Literal

-- a literal is the negation of another
abbrev pub are_opposite : Literal → Literal → Bool
are_opposite l m = (l.var == m.var) && (if l.positive then not m.positive else m.positive)

-- a clause is a tautology: a literal and its negation stand there
abbrev pub is_tautology : List Literal → Bool
is_tautology clause = list_any (λ l. list_any (are_opposite l) clause) clause

-- how many variables there are behind a clause: two more where it is a tautology
abbrev pub vars_with : ℕ → List Literal → ℕ
vars_with vars clause = if is_tautology clause then vars + 2 else vars

abbrev pub vars_for : ℕ → List (List Literal) → ℕ
vars_for vars [] = vars
vars_for vars (clause ∷ clauses) = vars_for (vars_with vars clause) clauses

-- nothing behind a header that declares so many variables and clauses
abbrev pub empty_text : ℕ → ℕ → FormulaText
empty_text vars count = record { vars = vars; count = count; clauses = []; begun = [] }

abbrev pub empty_text_of : Option ℕ → Option ℕ → Option FormulaText
empty_text_of None count = None
empty_text_of (Some vars) None = None
empty_text_of (Some vars) (Some count) = Some (empty_text vars count)

-- the header: p cnf VARIABLES CLAUSES
abbrev pub header_of : List (List ℕ) → Option FormulaText
header_of (p ∷ cnf ∷ vars ∷ count ∷ []) =
    if bytes_eq p (codes "p") && bytes_eq cnf (codes "cnf") then empty_text_of (number_of 31 vars) (number_of 32 count) else None
header_of _ = None

-- there are as many clauses as the header declares
abbrev pub is_full : FormulaText → Bool
is_full text = nat_le text.count (length text.clauses)

-- a literal more, whose variable must be declared
abbrev pub with_literal : FormulaText → Literal → Option FormulaText
with_literal text l = if nat_le l.var text.vars then Some (record text { begun = text.begun ++ l ∷ [] }) else None

-- a clause more; where it is a tautology, two variables must be left for it
abbrev pub with_clause : FormulaText → List (List Literal) → Option FormulaText
with_clause text clauses = if nat_lt (vars_for text.vars clauses) (2 ^ 31) then Some (record text { clauses = clauses; begun = [] }) else None

-- a number more, where the word is one: 0 ends the clause
abbrev pub with_number : FormulaText → Option ℤ → Option FormulaText
with_number text None = None
with_number text (Some (pos zero)) = with_clause text (text.clauses ++ text.begun ∷ [])
with_number text (Some (pos (suc n))) = with_literal text (literal_of (pos (suc n)))
with_number text (Some (negsuc n)) = with_literal text (literal_of (negsuc n))

-- a word more, where a clause is still to come or to be end_at
abbrev pub with_word : FormulaText → List ℕ → Option FormulaText
with_word text word = if is_full text then None else with_number text (signed_of word)

abbrev pub with_words : FormulaText → List (List ℕ) → Option FormulaText
with_words text [] = Some text
with_words text (word ∷ words) = option_and_then (λ next. with_words next words) (with_word text word)

-- nothing follows from this line on: all clauses must be there, and have their ends
abbrev pub end_at : ℕ → FormulaText → Result FormulaText ℕ
end_at number text = if is_full text && (length text.begun == 0) then Ok text else Err number

-- reading goes on behind the line of this number, or is stuck there
abbrev pub behind_line : {T : Type 0} → ℕ → Option T → (T → Result T ℕ) → Result T ℕ
behind_line number None rest = Err number
behind_line number (Some text) rest = rest text

-- the lines behind the header, up to one that begins with %, and the number of the line behind the last
abbrev pub read_clauses : FormulaText → List Line → ℕ → Result FormulaText ℕ
read_clauses text [] last = end_at last text
read_clauses text (line ∷ lines) last =
    if begins_with (codes "%") line.1 then end_at line.0 text
    else behind_line line.0 (with_words text line.1) (λ next. read_clauses next lines last)

abbrev pub read_header : List Line → ℕ → Result FormulaText ℕ
read_header [] last = Err last
read_header (line ∷ lines) last = behind_line line.0 (header_of line.1) (λ text. read_clauses text lines last)

-- what the lines behind so many say
abbrev pub clauses_behind : FormulaText → ℕ → List ℕ → Result FormulaText ℕ
clauses_behind text number rest = read_clauses text (lines_from (number + 1) rest) (last_from (number + 1) rest)

abbrev pub header_behind : ℕ → List ℕ → Result FormulaText ℕ
header_behind number rest = read_header (lines_from (number + 1) rest) (last_from (number + 1) rest)

-- what a text says, or the first line of it that can't be read
abbrev pub formula_of : List ℕ → Result FormulaText ℕ
formula_of bytes = header_behind 0 bytes
