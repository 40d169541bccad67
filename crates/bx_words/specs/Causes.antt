-- When each fault is the first one, by itself.
use Rattle.std.specs.Prelude.{◌≡◌, ◌≢◌, ℕ, ◌<◌, true, false, List, Some, None}
use Rattle.std.specs.List.{Contains}
use Rattle.bx_words.specs.declared.opts.Opt.{Opt}
use Rattle.bx_words.specs.declared.verbs.File.{File}
use Rattle.bx_words.specs.declared.verbs.Verb.{Verb}
use Rattle.bx_words.specs.declared.verbs.Verb.TheVariants.{Design}
use Rattle.bx_words.specs.declared.faults.WordFault.{WordFault}
use Rattle.bx_words.specs.declared.faults.WordFault.TheVariants.{Command as NoVerb, Usage, Number, Range, Same, Work}
use Rattle.bx_words.specs.Options.{most_work}
use Rattle.bx_words.specs.Verbs.{Text, files_of, line_of, opts_of, verb_of}
use Rattle.bx_words.specs.Clap.{has_matches, rows, given_in, named_in}
use Rattle.bx_words.specs.Numbers.{AreTaken, first_no_number, first_out_of_range}
use Rattle.bx_words.specs.Words.{limits_of, budget_of, work_of}

-- the first word names the command, and `clap`'s definition of it has matches for the words
pub record IsRead (words : List Text) (verb : Verb) : Type 0 where
  pub first : verb_of words ≡ Some verb
  pub has : has_matches verb words ≡ true

-- the first word names the command, and there are none
pub record IsMisused (words : List Text) (verb : Verb) : Type 0 where
  pub first : verb_of words ≡ Some verb
  pub has : has_matches verb words ≡ false

-- the first option of the command whose text isn't one to ten digits
pub record HasNoNumber (words : List Text) (o : Opt) : Type 0 where
  pub verb : Verb
  pub is_read : IsRead words verb
  pub first : first_no_number (opts_of (line_of verb)) (given_in (rows verb words)) ≡ Some o

-- the first option of the command whose number is out of its range, where each text is one to ten digits
pub record HasOutOfRange (words : List Text) (o : Opt) : Type 0 where
  pub verb : Verb
  pub is_read : IsRead words verb
  pub numbers : first_no_number (opts_of (line_of verb)) (given_in (rows verb words)) ≡ None
  pub first : first_out_of_range (opts_of (line_of verb)) (given_in (rows verb words)) ≡ Some o

-- a command whose options are numbers in their ranges, and which has one name for a file that it writes and for
-- another of its files
pub record HasOneName (words : List Text) : Type 0 where
  pub verb : Verb
  pub is_read : IsRead words verb
  pub taken : AreTaken (opts_of (line_of verb)) (given_in (rows verb words))
  pub file : File
  pub other : File
  pub is_written : Contains (line_of verb).written file
  pub is_file : Contains (files_of (line_of verb)) other
  pub are_two : file ≢ other
  pub name : Text
  pub is_its : named_in (rows verb words) file ≡ Some name
  pub is_others : named_in (rows verb words) other ≡ Some name

-- `design`, where no file is written over another, and with so much work, too much for a search
pub record HasMuchWork (words : List Text) (n : ℕ) : Type 0 where
  pub is_read : IsRead words Design
  pub taken : AreTaken (opts_of (line_of Design)) (given_in (rows Design words))
  pub apart : HasOneName words → ⊥
  pub work : n ≡ work_of (limits_of (given_in (rows Design words))) (budget_of (given_in (rows Design words)))
  pub many : most_work < n

-- why a fault is the first one
abbrev pub IsCause : List Text → WordFault → Type 0
IsCause words NoVerb = verb_of words ≡ None
IsCause words Usage = (verb : Verb) × IsMisused words verb
IsCause words (Number o) = HasNoNumber words o
IsCause words (Range o) = HasOutOfRange words o
IsCause words Same = HasOneName words
IsCause words (Work n) = HasMuchWork words n
