-- How the steps of a run end, over what its desk had before.
use Rattle.std.specs.Prelude.{◌≡◌, length, Option, IfSome}
use Rattle.bx_desk.specs.Desk.{DeskState, Files, FailsToLoad}
use Rattle.bx_design.specs.declared.solution.LaidOut.{LaidOut}
use Rattle.bx_dots.specs.GridDots.{AreOffered}
use Rattle.bx_grid.specs.Orders.{IsRatio}
use Rattle.bx_library.specs.Tiles.{Tiles}
use Rattle.bx_network.specs.Networks.{Network}
use Rattle.bx_words.specs.declared.commands.Command.{Command}
use Rattle.bx_words.specs.declared.commands.Command.TheVariants.{Design, Extract, Verify, Sample}
use Rattle.bx_words.specs.declared.commands.DesignCommand.{DesignCommand}
use Rattle.bx_words.specs.declared.commands.ExtractCommand.{ExtractCommand}
use Rattle.bx_words.specs.declared.commands.SampleCommand.{SampleCommand}
use Rattle.bx_words.specs.declared.commands.VerifyCommand.{VerifyCommand}
use Rattle.bx_engine.specs.declared.status.Status.{Status}
use Rattle.bx_engine.specs.declared.status.Status.TheVariants.{ReadFault, WriteFault, NoMemory}
use Rattle.bx_engine.specs.declared.status.Which.{Which}
use Rattle.bx_engine.specs.Answers.{Answer, IsAnswerTo, IsReply}
use Rattle.bx_engine.specs.Effects.{Gives, FailsToGive}
use Rattle.bx_engine.specs.Jobs.{Job, extracts, verifies, samples, names_for}
use Rattle.bx_engine.specs.Runs.{IsReached, IsReachedFor}
use Rattle.bx_engine.specs.Tasks.{Task, Names, Inputs, AreTold, read_for}

-- what the words of `design` ask for
abbrev pub task_of : DesignCommand → Task
task_of d = record {
  net = d.net.now;
  lib = d.lib.now;
  design = d.design.now;
  cert = d.cert.now;
  limits = d.limits;
  budget = d.budget;
}

-- each node of a layout that was found has a place
abbrev pub HasPlaces : Network → Option LaidOut → Type 0
HasPlaces N found = IfSome found (λ laid. length laid.layout.places ≡ length N.nodes)

-- a layout that was found has forms of the library alone, and sides that a design may have
pub record CanBeDrawn (lib : Tiles) (laid : LaidOut) : Type 0 where
  pub offered : AreOffered lib laid.grid
  pub ratio : IsRatio laid.grid.ratio

-- an answer to a task, by what is read for it, as far as the desk tells
pub record HasAnswerTo (told : Option Files) (task : Task) (answer : Answer) : Type 0 where
  pub inputs : Names → Inputs
  pub are_told : AreTold told inputs
  pub is : IsAnswerTo task (inputs (read_for task)) answer

-- the answer was given, or couldn't be
pub data EndsGiving (old new : DeskState) (answer : Answer) : Status → Type 0 where
  given : Gives old new answer → EndsGiving old new answer answer.status
  ungiven : (which : Which) → FailsToGive old new answer which
      → EndsGiving old new answer (WriteFault which)

-- so it is with an answer to the task of `design`; or a file couldn't be read; or memory was refused
pub data EndsDesign (d : DesignCommand) (old new : DeskState) : Status → Type 0 where
  answered : (answer : Answer) (status : Status) → HasAnswerTo old.files (task_of d) answer
      → EndsGiving old new answer status → EndsDesign d old new status
  unread : (which : Which) → IsReached old.files (task_of d) which → FailsToLoad old new
      → EndsDesign d old new (ReadFault which)
  no_memory : new ≡ old → EndsDesign d old new NoMemory

-- what the words of `extract` ask for
abbrev pub extraction_of : ExtractCommand → Job
extraction_of e = extracts e.lib.now e.design.now

-- what those of `verify` ask for, however many workers share it
abbrev pub judgement_of : VerifyCommand → Job
judgement_of v = verifies v.net.now v.lib.now v.design.now v.cert.now

-- what those of `sample` ask for
abbrev pub sampling_of : SampleCommand → Job
sampling_of s = samples s.number s.gates s.extra

-- an answer to a job, by what is read for it, as far as the desk tells
pub record HasReply (told : Option Files) (job : Job) (answer : Answer) : Type 0 where
  pub inputs : Names → Inputs
  pub are_told : AreTold told inputs
  pub is : IsReply job (inputs (names_for job)) answer

-- so it is with an answer to a job
pub data EndsJob (job : Job) (old new : DeskState) : Status → Type 0 where
  replied : (answer : Answer) (status : Status) → HasReply old.files job answer
      → EndsGiving old new answer status → EndsJob job old new status
  unloaded : (which : Which) → IsReachedFor old.files job which → FailsToLoad old new
      → EndsJob job old new (ReadFault which)
  out_of_memory : new ≡ old → EndsJob job old new NoMemory

-- how each command ends
abbrev pub EndsCommand : Command → DeskState → DeskState → Status → Type 0
EndsCommand (Design d) old new status = EndsDesign d old new status
EndsCommand (Extract e) old new status = EndsJob (extraction_of e) old new status
EndsCommand (Verify v) old new status = EndsJob (judgement_of v) old new status
EndsCommand (Sample s) old new status = EndsJob (sampling_of s) old new status
