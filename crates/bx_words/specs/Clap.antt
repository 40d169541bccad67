-- What `clap` makes of the words, in its own definitions: each command is a simple command of `clap`, with its
-- files and then its numbers as required positionals, and its options as options that are set once and read as text, no
-- help flag and no version flag.
use Rattle.std.specs.Prelude.{◌≡◌, Bool, true, List, [], ◌++◌, map, Option, Some, IsSome, All}
use Rattle.clap.specs.Walk.{Rule, Row, first_of, is_empty, rows_of}
use Rattle.clap.specs.Matches.{found_of}
use Rattle.clap.specs.declared.parser.matches.ArgMatches.{ArgMatches}
use Rattle.clap.specs.Simple.{App, matches_of, new_rule, new_shape}
use Rattle.clap.specs.Faults.{fault_of}
use Rattle.clap.specs.declared.builder.action.ArgAction.TheVariants.{Set}
use Rattle.bx_words.specs.declared.opts.Opt.{Opt}
use Rattle.bx_words.specs.declared.verbs.File.{File}
use Rattle.bx_words.specs.declared.verbs.Verb.{Verb}
use Rattle.bx_words.specs.Options.{option_name}
use Rattle.bx_words.specs.Verbs.{Text, Line, file_name, files_of, line_of}

abbrev pub file_rule : File → Rule
file_rule file = record (new_rule (file_name file)) { required = true; action = Some Set }

abbrev pub number_rule : Opt → Rule
number_rule number = record (new_rule (option_name number)) { required = true; action = Some Set }

abbrev pub option_rule : Opt → Rule
option_rule option = record (new_rule (option_name option)) { long = Some (option_name option); action = Some Set }

abbrev pub rules_of : Line → List Rule
rules_of line = map file_rule (files_of line) ++ (map number_rule line.numbers ++ map option_rule line.options)

abbrev pub app_of_line : Line → App
app_of_line line = record {
  top = record (new_shape line.name) { disable_help_flag = true; rules = rules_of line };
  subs = [];
}

-- `clap`'s definition of the command has matches for the words
unfoldable pub has_matches : Verb → List Text → Bool
has_matches verb words = is_empty (fault_of (app_of_line (line_of verb)) words)

-- what they are
unfoldable pub rows : Verb → List Text → List Row
rows verb words = matches_of (app_of_line (line_of verb)) words

-- the text that is given for a number, and the name that is given for a file
abbrev pub given_in : List Row → Opt → Option Text
given_in found option = first_of (option_name option) found

abbrev pub named_in : List Row → File → Option Text
named_in found file = first_of (file_name file) found

-- what the code has of them
unfoldable pub rows_in : ArgMatches → List Row
rows_in matches = rows_of (found_of matches)

-- `clap` has what it calls the words' matches, a name for each file of the command, and a text for each of the numbers
-- that are always given
pub record HasFound (verb : Verb) (words : List Text) (matches : ArgMatches) : Type 0 where
  pub taken : has_matches verb words ≡ true
  pub rows_are : rows_in matches ≡ rows verb words
  pub named : All (λ file. IsSome (named_in (rows_in matches) file)) (files_of (line_of verb))
  pub numbered : All (λ number. IsSome (given_in (rows_in matches) number)) (line_of verb).numbers
