-- What a run says, and how it ends then.
use Rattle.std.specs.Prelude.{ℕ, ◌+◌, Bool, true, List, [], ◌∷◌, ◌++◌, length, codes, decimal, nat_lt, if◌then◌else◌}
use Rattle.bx_desk.specs.Desk.{DeskState, Says, SaysFront}
use Rattle.bx_says.specs.Texts.{Text, spaced}
use Rattle.bx_sat.specs.declared.status.SatStatus.{SatStatus}
use Rattle.bx_sat.specs.declared.status.SatStatus.TheVariants.{Failed}

-- it ended with this status, and the text was said; or the desk failed, and a front of the text was said
pub data EndsSaying (old new : DeskState) (status : SatStatus) (text : Text) : SatStatus → Type 0 where
  done : Says old new text → EndsSaying old new status text status
  failed : SaysFront old new text → EndsSaying old new status text Failed

-- the step of this id is the first that fails
abbrev pub failure_text : ℕ → Text
failure_text id = spaced (codes "s NOT VERIFIED") (decimal id ∷ []) ++ 10 ∷ []

-- this line of the file of this name is the first that can't be read
abbrev pub bad_line_text : Text → ℕ → Text
bad_line_text name line = spaced (codes "c can't read line") (decimal line ∷ codes "of" ∷ name ∷ []) ++ 10 ∷ []

-- what stands in front of a variable that has this value
abbrev pub sign_text : Bool → Text
sign_text value = if value then codes " " else codes " -"

abbrev pub value_word : ℕ → Bool → Text
value_word var value = sign_text value ++ decimal var

-- what stands in front of a word, on the same line or at the start of the next
abbrev pub start_text : Bool → Text
start_text fits = if fits then [] else codes "\nv"

-- whether a word has room behind so many bytes of a line: it has 79 at most, with the one that ends it
abbrev pub has_room : ℕ → Text → Bool
has_room column word = nat_lt (column + length word) 79

-- a word behind so many bytes of a line, or on a line of its own where it has no room there
abbrev pub word_behind : ℕ → Text → Text
word_behind column word = start_text (has_room column word) ++ word

-- how many bytes the line has behind it
abbrev pub column_behind : ℕ → Text → ℕ
column_behind column word = if has_room column word then column + length word else 1 + length word

-- the values of the variables from this one on, behind so many bytes of a line, and the 0 that ends them
abbrev pub values_text : ℕ → ℕ → List Bool → Text
values_text column var [] = word_behind column (value_word 0 true) ++ 10 ∷ []
values_text column var (value ∷ values) =
    word_behind column (value_word var value) ++ values_text (column_behind column (value_word var value)) (var + 1) values

-- there is a solution, which has these values
abbrev pub solution_text : List Bool → Text
solution_text values = codes "s SATISFIABLE\nv" ++ values_text 1 1 values
