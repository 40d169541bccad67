-- What a run leaves on a desk: files written whole, or as far as they went, and a text said.
use Rattle.std.specs.Prelude.{◌≡◌, ◌≤◌, ◌++◌, List, [], ◌∷◌, Option, Some, None, option_and_then, option_map}
use Rattle.bx_desk.specs.Desk.{Counts, DeskState, Files, Rose, Starts, FailsToStart, Writes, WritesFront, Says, SaysFront}
use Rattle.bx_verilog.specs.Formulas.{Text}
use Rattle.bx_engine.specs.Answers.{Answer, Written}
use Rattle.bx_engine.specs.Tasks.{Task}
use Rattle.bx_engine.specs.declared.status.Which.{Which}
use Rattle.bx_engine.specs.declared.status.Which.TheVariants.{Output}

-- ---- one file

-- the file was started, and all of its text was written into it; nothing else changed
pub record WritesFile (old new : DeskState) (file : Written) : Type 0 where
  pub begun : DeskState
  pub starts : Starts old begun file.name
  pub writes : Writes begun new file.text

-- the file couldn't be started, or was started and has a front of its text; nothing else changed but the count of
-- such failures
pub data FailsToWrite (old new : DeskState) (file : Written) : Type 0 where
  unstarted : FailsToStart old new file.name → FailsToWrite old new file
  cut_short : (begun : DeskState) → Starts old begun file.name → WritesFront begun new file.text
      → FailsToWrite old new file

-- ---- files, one after the other

-- each of them was written
abbrev pub WritesAll : DeskState → DeskState → List Written → Type 0
WritesAll old new [] = new ≡ old
WritesAll old new (file ∷ files) = (mid : DeskState) × WritesFile old mid file × WritesAll mid new files

-- one of them couldn't be written: those before it were, and none behind it was begun
pub record FailsToWriteAll (old new : DeskState) (files : List Written) (which : Which) : Type 0 where
  pub before : List Written
  pub file : Written
  pub behind : List Written
  pub split : files ≡ before ++ file ∷ behind
  pub is : which ≡ file.which
  pub mid : DeskState
  pub written : WritesAll old mid before
  pub fails : FailsToWrite mid new file

-- ---- answers

-- the answer was given: its files are written, and then its text said, and nothing else changed
pub record Gives (old new : DeskState) (answer : Answer) : Type 0 where
  pub written : DeskState
  pub files : WritesAll old written answer.files
  pub said : Says written new answer.said

-- the answer couldn't be given: one of its files couldn't be written, and nothing was said; or all were, and a front
-- of the text was said
pub data FailsToGive (old new : DeskState) (answer : Answer) : Which → Type 0 where
  unwritten : (which : Which) → FailsToWriteAll old new answer.files which
      → FailsToGive old new answer which
  unsaid : (written : DeskState) → WritesAll old written answer.files
      → SaysFront written new answer.said → FailsToGive old new answer Output

-- what a desk tells to be in a file
abbrev pub file_at : Option Files → Text → Option Text
file_at told name = option_and_then (λ files. files name) told

-- the file of this name has this text, or where there is none is as it was
abbrev pub IsLeft : DeskState → DeskState → Text → Option Text → Type 0
IsLeft old new name (Some text) = file_at new.files name ≡ Some text
IsLeft old new name None = file_at new.files name ≡ file_at old.files name

-- the file of the design has these bytes, or is as it was, and that of the certificate has these; and this text was
-- said behind what was said before
pub record HasGiven (old new : DeskState) (task : Task) (design : Option Text)
    (cert said : Text) : Type 0 where
  pub design_file : IsLeft old new task.design design
  pub cert_file : file_at new.files task.cert ≡ Some cert
  pub says : new.said ≡ option_map (λ before. before ++ said) old.said

-- the files have such bytes, and such a text was said
abbrev pub HasGivenSome : DeskState → DeskState → Task → (Option Text → Text → Text → Type 0) → Type 0
HasGivenSome old new task Are = (design : Option Text) × (cert : Text) × (said : Text)
    × Are design cert said × HasGiven old new task design cert said

-- ---- counts

-- the count of failures of the calls that write to a file, or say, rose
abbrev pub RoseWriting : Which → Counts → Counts → Type 0
RoseWriting Output before now = Rose before.say now.say
RoseWriting _ before now = Rose before.write now.write

-- none of the three rose
pub record NoneRose (before now : Counts) : Type 0 where
  pub load : Rose before.load now.load → ⊥
  pub write : Rose before.write now.write → ⊥
  pub say : Rose before.say now.say → ⊥

-- no count of failures fell
pub record NoneFell (before now : Counts) : Type 0 where
  pub load : before.load ≤ now.load
  pub write : before.write ≤ now.write
  pub say : before.say ≤ now.say
