-- What the words ask a run to do, and what it has of the files that it reads.
use Rattle.std.specs.Prelude.{◌≡◌, ℕ, List, Option, Some, None, IfSome, IsSome, option_and_then}
use Rattle.bx_desk.specs.Desk.{Files}
use Rattle.bx_grid.specs.declared.ratio.Limits.{Limits}
use Rattle.bx_words.specs.Verbs.{Text, verb_of}
use Rattle.bx_words.specs.Clap.{rows, given_in, named_in}
use Rattle.bx_words.specs.Words.{first_fault, limits_of, budget_of}
use Rattle.bx_words.specs.declared.verbs.File.TheVariants.{Net, Lib, Design as DesignFile, Cert}
use Rattle.bx_words.specs.declared.verbs.Verb.TheVariants.{Design}

-- To design the module of a file by the forms of a library, within limits, with a budget for each ratio, and to write
-- design and certificate to two files. How many workers share the work is no part of it.
pub record Task : Type 0 where
  pub net : Text
  pub lib : Text
  pub design : Text
  pub cert : Text
  pub limits : Limits
  pub budget : ℕ

-- nothing is wrong with the words, and they ask for this
pub record IsTask (words : List Text) (task : Task) : Type 0 where
  pub no_fault : first_fault words ≡ None
  pub verb : verb_of words ≡ Some Design
  pub net : named_in (rows Design words) Net ≡ Some task.net
  pub lib : named_in (rows Design words) Lib ≡ Some task.lib
  pub design : named_in (rows Design words) DesignFile ≡ Some task.design
  pub cert : named_in (rows Design words) Cert ≡ Some task.cert
  pub limits : task.limits ≡ limits_of (given_in (rows Design words))
  pub budget : task.budget ≡ budget_of (given_in (rows Design words))

-- the files that a command reads, by their names: that of a module, of a library, of a design and of a certificate
pub record Names : Type 0 where
  pub net : Option Text
  pub lib : Option Text
  pub design : Option Text
  pub cert : Option Text

-- those of a task
abbrev pub read_for : Task → Names
read_for task = record { net = Some task.net; lib = Some task.lib; design = None; cert = None }

-- what is read of them: the text of each, or none where it isn't read or there is no file
pub record Inputs : Type 0 where
  pub net : Option Text
  pub lib : Option Text
  pub design : Option Text
  pub cert : Option Text

-- what these files are read as
abbrev pub inputs_of : Files → Names → Inputs
inputs_of files names = record {
  net = option_and_then files names.net;
  lib = option_and_then files names.lib;
  design = option_and_then files names.design;
  cert = option_and_then files names.cert;
}

-- that is what is read, as far as the desk tells
abbrev pub AreTold : Option Files → (Names → Inputs) → Type 0
AreTold told inputs = IfSome told (λ files. inputs ≡ inputs_of files)

-- the file is there, as far as the desk tells
abbrev pub IsThere : Option Files → Text → Type 0
IsThere told name = IfSome told (λ files. IsSome (files name))
