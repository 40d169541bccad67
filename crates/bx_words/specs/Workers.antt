-- Words that differ in their number of workers alone, and commands that do.
use Rattle.std.specs.Prelude.{◌≡◌, ◌≢◌, List}
use Rattle.bx_words.specs.declared.opts.Opt.{Opt}
use Rattle.bx_words.specs.declared.opts.Opt.TheVariants.{Workers}
use Rattle.bx_words.specs.declared.verbs.File.{File}
use Rattle.bx_words.specs.declared.verbs.Verb.{Verb}
use Rattle.bx_words.specs.declared.commands.DesignCommand.{DesignCommand}
use Rattle.bx_words.specs.declared.commands.VerifyCommand.{VerifyCommand}
use Rattle.bx_words.specs.declared.commands.ExtractCommand.{ExtractCommand}
use Rattle.bx_words.specs.declared.commands.SampleCommand.{SampleCommand}
use Rattle.bx_words.specs.declared.commands.Command.{Command}
use Rattle.bx_words.specs.declared.commands.Command.TheVariants.{Design, Verify, Extract, Sample}
use Rattle.bx_words.specs.Verbs.{Text}
use Rattle.bx_words.specs.Clap.{rows, given_in, named_in}
use Rattle.bx_words.specs.Numbers.{IsTaken}
use Rattle.bx_words.specs.Causes.{IsRead}

-- one command with the same files and the same options, but for the number of workers, which is one that is taken,
-- or isn't given
pub record DifferInWorkers (one other : List Text) : Type 0 where
  pub verb : Verb
  pub one_is_read : IsRead one verb
  pub other_is_read : IsRead other verb
  pub files : (file : File) → named_in (rows verb one) file ≡ named_in (rows verb other) file
  pub options : (option : Opt) → option ≢ Workers → given_in (rows verb one) option ≡ given_in (rows verb other) option
  pub one_is_taken : IsTaken (given_in (rows verb one)) Workers
  pub other_is_taken : IsTaken (given_in (rows verb other)) Workers

-- the same but for the workers
pub record AreOneDesign (c d : DesignCommand) : Type 0 where
  pub net : c.net.now ≡ d.net.now
  pub lib : c.lib.now ≡ d.lib.now
  pub design : c.design.now ≡ d.design.now
  pub cert : c.cert.now ≡ d.cert.now
  pub limits : c.limits ≡ d.limits
  pub budget : c.budget ≡ d.budget

pub record AreOneVerify (c d : VerifyCommand) : Type 0 where
  pub net : c.net.now ≡ d.net.now
  pub lib : c.lib.now ≡ d.lib.now
  pub design : c.design.now ≡ d.design.now
  pub cert : c.cert.now ≡ d.cert.now

pub record AreOneExtract (c d : ExtractCommand) : Type 0 where
  pub lib : c.lib.now ≡ d.lib.now
  pub design : c.design.now ≡ d.design.now

pub record AreOneSample (c d : SampleCommand) : Type 0 where
  pub number : c.number ≡ d.number
  pub gates : c.gates ≡ d.gates
  pub extra : c.extra ≡ d.extra

abbrev pub AskForOne : Command → Command → Type 0
AskForOne (Design c) (Design d) = AreOneDesign c d
AskForOne (Verify c) (Verify d) = AreOneVerify c d
AskForOne (Extract c) (Extract d) = AreOneExtract c d
AskForOne (Sample c) (Sample d) = AreOneSample c d
AskForOne _ _ = ⊥
