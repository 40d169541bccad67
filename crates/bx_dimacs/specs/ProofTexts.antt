-- What a text says of a proof for a formula: it is read line by line, up to the step at which the proof ends, or up to
-- where reading is stuck.
use Rattle.std.specs.Prelude.{ℕ, zero, suc, ◌==◌, ◌&&◌, ◌||◌, Bool, true, false, not, List, [], ◌∷◌, ◌++◌, length, map, codes, nat_lt, nat_le, ℤ, pos, negsuc, Option, Some, None, is_some, option_map, Result, Ok, if◌then◌else◌}
use Rattle.std.specs.List.{list_any, list_all}
use Rattle.bx_cnf.specs.Literals.{Literal, literal_of}
use Rattle.bx_cnf.specs.Formulas.{Formula}
use Rattle.bx_dimacs.specs.Words.{Line, lines_from, begins_with, number_of, signed_of}
use Rattle.bx_dimacs.specs.FormulaTexts.{is_tautology, behind_line}

-- a step as its line has it: its id, its literals, and the ids that its hints are
pub record StepText : Type 0 where
  pub id : ℕ
  pub literals : List Literal
  pub hints : List ℤ

-- what the words of a line do: they add a step, delete clauses, or neither
pub data LineText : Type 0 where
  adds : StepText → LineText
  deletes : LineText
  neither : LineText

-- numbers, and the words behind the 0 that ends them
abbrev pub Numbers : Type 0
Numbers = List ℤ × List (List ℕ)

-- numbers with others in front of them
abbrev pub behind_numbers : List ℤ → Option Numbers → Option Numbers
behind_numbers front rest = option_map (λ r. (front ++ r.0, r.1)) rest

-- a number in front of words, with those that follow it up to a 0
abbrev pub numbers_from : Option ℤ → List (List ℕ) → Option Numbers → Option Numbers
numbers_from None words rest = None
numbers_from (Some (pos zero)) words rest = Some ([], words)
numbers_from (Some (pos (suc n))) words rest = behind_numbers (pos (suc n) ∷ []) rest
numbers_from (Some (negsuc n)) words rest = behind_numbers (negsuc n ∷ []) rest

-- the numbers up to a 0
abbrev pub numbers_of : List (List ℕ) → Option Numbers
numbers_of [] = None
numbers_of (word ∷ words) = numbers_from (signed_of word) words (numbers_of words)

-- a step, where its hints end and nothing stands behind them
abbrev pub with_hints : ℕ → List ℤ → Option Numbers → LineText
with_hints id literals None = neither
with_hints id literals (Some hints) =
    if length hints.1 == 0 then adds (record { id = id; literals = map literal_of literals; hints = hints.0 }) else neither

abbrev pub with_literals : ℕ → Option Numbers → LineText
with_literals id None = neither
with_literals id (Some literals) = with_hints id literals.0 (numbers_of literals.1)

-- behind its id a line has the word d, or literals and hints
abbrev pub behind_id : Option ℕ → List (List ℕ) → LineText
behind_id None words = neither
behind_id (Some id) words = if begins_with (codes "d") words then deletes else with_literals id (numbers_of words)

abbrev pub line_of : List (List ℕ) → LineText
line_of [] = neither
line_of (word ∷ words) = behind_id (number_of 64 word) words

-- What was read of a proof: its steps, and the id of the one behind them, where that one can't pass whatever it says.
pub record ProofText : Type 0 where
  pub steps : List StepText
  pub ill : Option ℕ

abbrev pub ids_of : List StepText → List ℕ
ids_of steps = map (λ step. step.id) steps

-- the last of some ids, or a number where there is none
abbrev pub last_id : ℕ → List ℕ → ℕ
last_id last [] = last
last_id last (id ∷ ids) = last_id id ids

-- literals are a clause over so many variables
abbrev pub is_clause_over : ℕ → List Literal → Bool
is_clause_over vars literals = list_all (λ l. nat_lt 0 l.var && nat_le l.var vars) literals && not (is_tautology literals)

-- a hint names a clause: one of the first so many, or a step by its id
abbrev pub names_clause : ℕ → List ℕ → ℤ → Bool
names_clause count ids (pos n) = (nat_lt 0 n && nat_le n count) || list_any (λ id. id == n) ids
names_clause count ids (negsuc n) = false

-- a step behind those of these ids may pass: it adds a clause over the formula's variables, and has hints, each of
-- which names a clause before it
abbrev pub may_pass : Formula → List ℕ → StepText → Bool
may_pass formula ids step =
    is_clause_over formula.vars step.literals && (list_all (names_clause (length formula.clauses) ids) step.hints && nat_lt 0 (length step.hints))

-- a step more, or one that can't pass
abbrev pub put_step : Formula → ProofText → StepText → ProofText
put_step formula text step =
    if may_pass formula (ids_of text.steps) step then record text { steps = text.steps ++ step ∷ [] } else record text { ill = Some step.id }

-- its id is above those before it and above the numbers of the formula's clauses
abbrev pub with_step : Formula → ProofText → StepText → Option ProofText
with_step formula text step =
    if nat_lt (last_id (length formula.clauses) (ids_of text.steps)) step.id then Some (put_step formula text step) else None

abbrev pub with_line : Formula → ProofText → LineText → Option ProofText
with_line formula text (adds step) = with_step formula text step
with_line formula text deletes = Some text
with_line formula text neither = None

-- it ends: a step is empty, or can't pass
abbrev pub is_over : ProofText → Bool
is_over text = is_some text.ill || list_any (λ step. length step.literals == 0) text.steps

-- what the lines say behind what was read, up to where it ends
abbrev pub read_steps : Formula → ProofText → List Line → Result ProofText ℕ
read_steps formula text [] = Ok text
read_steps formula text (line ∷ lines) =
    if is_over text then Ok text else behind_line line.0 (with_line formula text (line_of line.1)) (λ next. read_steps formula next lines)

abbrev pub no_steps : ProofText
no_steps = record { steps = []; ill = None }

-- what a text says of a proof for a formula, or the first line of it that can't be read
abbrev pub proof_of : Formula → List ℕ → Result ProofText ℕ
proof_of formula bytes = read_steps formula no_steps (lines_from 1 bytes)
