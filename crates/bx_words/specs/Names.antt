-- Which files are written over which, by the names that the words give them.
use Rattle.std.specs.Prelude.{◌≢◌, ◌++◌, ◌∷◌, ◌||◌, [], Bool, false, List, Option, All}
use Rattle.std.specs.Option.{option_map_or}
use Rattle.std.specs.List.{list_any}
use Rattle.std.specs.Str.{bytes_eq}
use Rattle.clap.specs.Walk.{Row}
use Rattle.bx_words.specs.declared.verbs.File.{File}
use Rattle.bx_words.specs.Verbs.{Text}
use Rattle.bx_words.specs.Clap.{named_in}

-- both files have a name, and it is one
abbrev pub is_same : Option Text → Option Text → Bool
is_same one two = option_map_or (λ a. option_map_or (bytes_eq a) two false) one false

abbrev pub have_one_name : List Row → File → File → Bool
have_one_name found one two = is_same (named_in found one) (named_in found two)

-- a file that is written has the name of one that is read, or of another one that is written
abbrev pub is_written_over : List Row → List File → List File → Bool
is_written_over found read [] = false
is_written_over found read (file ∷ written) =
    list_any (have_one_name found file) read || (list_any (have_one_name found file) written || is_written_over found read written)

-- no name that is written is one that is read, or another one that is written
abbrev pub AreApart : List Text → List Text → Type 0
AreApart read [] = Unit {0}
AreApart read (name ∷ written) = All (λ other. name ≢ other) (read ++ written) × AreApart read written
