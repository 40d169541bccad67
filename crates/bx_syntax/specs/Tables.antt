-- What the tables of the code say of a word. That it is what the word is, is for proofs to say.
use Rattle.std.specs.Prelude.{ℕ, List, Option, Some, None, slice_get}
use Rattle.bx_syntax.specs.declared.terminal.Terminal.{Terminal}
use Rattle.bx_syntax.specs.declared.terminal.Terminal.TheVariants.{Fixed, GateWord, Name, Reserved}
use Rattle.bx_syntax.specs.declared.reserved.Word.{Word}
use Rattle.bx_syntax.specs.declared.reserved.Word.TheVariants.{Mark, Gate}
use Rattle.bx_syntax.specs.declared.reserved.TheConstants.{USED}

-- a reserved word, if the grammar uses it
abbrev pub word_of : Option Word → Terminal
word_of (Some (Mark s)) = Fixed s
word_of (Some (Gate op)) = GateWord op
word_of None = Reserved

-- a word, by its place among the reserved ones
abbrev pub word_at : List ℕ → Option ℕ → Terminal
word_at word None = Name word
word_at word (Some place) = word_of (slice_get USED place)
