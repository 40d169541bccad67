-- The commands: the word of each, the names of its files, its numbers and its options.
use Rattle.std.specs.Prelude.{ℕ, List, [], ◌∷◌, ◌++◌, map, find, codes, Option, None, String, string_bytes}
use Rattle.std.specs.Str.{bytes_eq}
use Rattle.bx_words.specs.declared.opts.Opt.{Opt}
use Rattle.bx_words.specs.declared.opts.Opt.TheVariants.{Area, Width, Height, Budget, Workers, Number, Gates, Extra}
use Rattle.bx_words.specs.declared.verbs.File.{File}
use Rattle.bx_words.specs.declared.verbs.File.TheVariants.{Net, Lib, Design as DesignFile, Cert}
use Rattle.bx_words.specs.declared.verbs.Verb.{Verb}
use Rattle.bx_words.specs.declared.verbs.Verb.TheVariants.{Design, Verify, Extract, Sample}

abbrev pub Text : Type 0
Text = List ℕ

-- words as texts
abbrev pub texts : {A : Type 0} → List (String A) → List Text
texts words = map string_bytes words

abbrev pub file_name : File → Text
file_name Net = codes "NET"
file_name Lib = codes "LIB"
file_name DesignFile = codes "DESIGN"
file_name Cert = codes "CERT"

-- a command's word, the files that it reads, those that it writes, the numbers that stand behind them, and its options
-- in the order in which faults are told of
pub record Line : Type 0 where
  pub name : Text
  pub read : List File
  pub written : List File
  pub numbers : List Opt
  pub options : List Opt

-- the files in the order of the words
abbrev pub files_of : Line → List File
files_of line = line.read ++ line.written

-- all that is a number, in the order in which faults are told of
abbrev pub opts_of : Line → List Opt
opts_of line = line.numbers ++ line.options

abbrev pub line_of : Verb → Line
line_of Design = record {
  name = codes "design";
  read = Net ∷ Lib ∷ [];
  written = DesignFile ∷ Cert ∷ [];
  numbers = [];
  options = Area ∷ Width ∷ Height ∷ Budget ∷ Workers ∷ [];
}
line_of Verify = record {
  name = codes "verify";
  read = Net ∷ Lib ∷ DesignFile ∷ Cert ∷ [];
  written = [];
  numbers = [];
  options = Workers ∷ [];
}
line_of Extract = record {
  name = codes "extract";
  read = Lib ∷ DesignFile ∷ [];
  written = [];
  numbers = [];
  options = [];
}
line_of Sample = record {
  name = codes "sample";
  read = [];
  written = [];
  numbers = Number ∷ Gates ∷ Extra ∷ [];
  options = [];
}

abbrev pub verbs : List Verb
verbs = Design ∷ Verify ∷ Extract ∷ Sample ∷ []

-- the command that the first word names
abbrev pub verb_of : List Text → Option Verb
verb_of [] = None
verb_of (word ∷ rest) = find (λ verb. bytes_eq (line_of verb).name word) verbs
