-- What the words of the commands that write no file ask for: each a job, with the files that it reads.
use Rattle.std.specs.Prelude.{◌≡◌, ℕ, List, Some, None}
use Rattle.bx_words.specs.Verbs.{Text, verb_of}
use Rattle.bx_words.specs.Clap.{rows, given_in, named_in}
use Rattle.bx_words.specs.Words.{first_fault, value_at}
use Rattle.bx_words.specs.declared.opts.Opt.TheVariants.{Number, Gates, Extra}
use Rattle.bx_words.specs.declared.verbs.File.TheVariants.{Net, Lib, Design as DesignFile, Cert}
use Rattle.bx_words.specs.declared.verbs.Verb.{Verb}
use Rattle.bx_words.specs.declared.verbs.Verb.TheVariants.{Extract, Verify, Sample}
use Rattle.bx_engine.specs.Tasks.{Names}

-- to cut the design of a file into forms of the library of another; to judge the design and the certificate of a
-- module's network and a library, all of files, whoever made them; to lay out the sample of three numbers
pub data Job : Type 0 where
  extracts : (lib design : Text) → Job
  verifies : (net lib design cert : Text) → Job
  samples : (number gates extra : ℕ) → Job

-- the command that asks for a job
abbrev pub verb_for : Job → Verb
verb_for (extracts lib design) = Extract
verb_for (verifies net lib design cert) = Verify
verb_for (samples number gates extra) = Sample

-- its files and its numbers, as the words give them
abbrev pub AreGiven : List Text → Job → Type 0
AreGiven words (extracts lib design) =
    (named_in (rows Extract words) Lib ≡ Some lib) × (named_in (rows Extract words) DesignFile ≡ Some design)
AreGiven words (verifies net lib design cert) =
    (named_in (rows Verify words) Net ≡ Some net) × (named_in (rows Verify words) Lib ≡ Some lib)
    × (named_in (rows Verify words) DesignFile ≡ Some design) × (named_in (rows Verify words) Cert ≡ Some cert)
AreGiven words (samples number gates extra) =
    (number ≡ value_at 0 (given_in (rows Sample words)) Number) × (gates ≡ value_at 0 (given_in (rows Sample words)) Gates)
    × (extra ≡ value_at 0 (given_in (rows Sample words)) Extra)

-- nothing is wrong with the words, and they ask for this
pub record IsJob (words : List Text) (job : Job) : Type 0 where
  pub no_fault : first_fault words ≡ None
  pub verb : verb_of words ≡ Some (verb_for job)
  pub given : AreGiven words job

-- the files that are read for it
abbrev pub names_for : Job → Names
names_for (extracts lib design) = record { net = None; lib = Some lib; design = Some design; cert = None }
names_for (samples number gates extra) = record { net = None; lib = None; design = None; cert = None }
names_for (verifies net lib design cert) = record { net = Some net; lib = Some lib; design = Some design; cert = Some cert }
