-- The words of a line that is put out.
use Rattle.std.specs.Prelude.{ℕ, List, [], ◌∷◌, ◌++◌, decimal, flat_map}
use Rattle.bx_desk.specs.declared.printer.Word.{Word}
use Rattle.bx_desk.specs.declared.printer.Word.TheVariants.{Text, Number}

abbrev pub word_text : Word → List ℕ
word_text (Text bytes) = bytes.now
word_text (Number n) = decimal n

-- words, one right behind the other
abbrev pub joined_text : List Word → List ℕ
joined_text words = flat_map word_text words

-- words, each behind a space
abbrev pub further_text : List Word → List ℕ
further_text words = flat_map (λ word. 32 ∷ word_text word) words

-- a line: a word, and further words, each behind a space
abbrev pub line_text : List ℕ → List Word → List ℕ
line_text first further = first ++ (further_text further ++ 10 ∷ [])
