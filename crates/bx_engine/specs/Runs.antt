-- How a run and its steps end, over what its desk had before.
use Rattle.std.specs.Prelude.{◌≡◌, List, Option, ⊤}
use Rattle.bx_cert.specs.Certs.{Certificate}
use Rattle.bx_logic.specs.Nets.{Netlist}
use Rattle.bx_desk.specs.Desk.{DeskState, Files, FailsToLoad, Says, SaysFront, IsFile}
use Rattle.bx_lex.specs.declared.token.LexFault.{LexFault}
use Rattle.bx_lex.specs.declared.token.LexFault.TheVariants as lex
use Rattle.bx_library.specs.Tiles.{Tiles}
use Rattle.bx_library.specs.declared.fault.LibraryFault.{LibraryFault}
use Rattle.bx_library.specs.declared.fault.LibraryFault.TheVariants as library
use Rattle.bx_siqad.specs.Designs.{Drawing}
use Rattle.bx_syntax.specs.declared.fault.ReadFault.{ReadFault}
use Rattle.bx_syntax.specs.declared.fault.ReadFault.TheVariants as read
use Rattle.bx_syntax.specs.Parts.{ModuleTree}
use Rattle.bx_verilog.specs.declared.fault.NetFault.{NetFault}
use Rattle.bx_verilog.specs.declared.fault.NetFault.TheVariants as nets
use Rattle.bx_verilog.specs.Formulas.{Text}
use Rattle.bx_verilog.specs.Elaboration.{net_of}
use Rattle.bx_network.specs.Networks.{Network}
use Rattle.bx_map.specs.Maps.{mapping_of}
use Rattle.bx_engine.specs.declared.load.NoInput.{NoInput}
use Rattle.bx_engine.specs.declared.load.NoInput.TheVariants.{Fault, Unread, NoMemory}
use Rattle.bx_engine.specs.declared.status.InputFault.{InputFault}
use Rattle.bx_engine.specs.declared.status.InputFault.TheVariants.{Lex, Read, Net, Constant, Nodes, Library}
use Rattle.bx_engine.specs.declared.status.Status.{Status}
use Rattle.bx_engine.specs.declared.status.Status.TheVariants as status
use Rattle.bx_engine.specs.declared.status.Which.{Which}
use Rattle.bx_engine.specs.declared.status.Which.TheVariants.{NetFile, LibFile, DesignFile, CertFile, Output}
use Rattle.bx_engine.specs.Answers.{Answer, IsAnswer}
use Rattle.bx_engine.specs.Effects.{Gives, FailsToGive}
use Rattle.bx_engine.specs.Jobs.{Job, extracts, verifies, samples, IsJob}
use Rattle.bx_engine.specs.Tasks.{Task, Names, Inputs, IsTask, AreTold}
use Rattle.bx_engine.specs.Designs.{IsTakenDesign, IsTakenCert}
use Rattle.bx_engine.specs.Texts.{IsGood, IsMapped, IsConstant, HasManyNodes, IsRefused, IsTaken, IsRefusedLibrary, IsTakenLibrary, network_of}

-- ---- a run

-- an answer that the words give and what is read for them, which is in the desk's files as far as it tells
pub record HasAnswer (words : List Text) (told : Option Files) (answer : Answer) : Type 0 where
  pub inputs : Names → Inputs
  pub are_told : AreTold told inputs
  pub is : IsAnswer words inputs answer

-- a file of a task is come to that is read: the module's, and where that is taken, as far as the desk tells, the
-- library's
abbrev pub IsReached : Option Files → Task → Which → Type 0
IsReached told task NetFile = ⊤
IsReached told task LibFile = (text : Text) × (m : ModuleTree) × IsFile told task.net text × IsTaken text m
IsReached told task _ = ⊥

-- the module, the library or the design of the file of this name is taken, as far as the desk tells
abbrev pub HasTree : Option Files → Text → Type 0
HasTree told name = (text : Text) × (m : ModuleTree) × IsFile told name text × IsTaken text m

abbrev pub HasLibrary : Option Files → Text → Type 0
HasLibrary told name = (text : Text) × (lib : Tiles) × IsFile told name text × IsTakenLibrary text lib

abbrev pub HasDrawing : Option Files → Text → Type 0
HasDrawing told name = (text : Text) × (drawing : Drawing) × IsFile told name text × IsTakenDesign text drawing

-- a file of a job is come to: each where those before it are taken
abbrev pub IsReachedFor : Option Files → Job → Which → Type 0
IsReachedFor told (extracts lib design) LibFile = ⊤
IsReachedFor told (extracts lib design) DesignFile = HasLibrary told lib
IsReachedFor told (extracts lib design) _ = ⊥
IsReachedFor told (verifies net lib design cert) NetFile = ⊤
IsReachedFor told (verifies net lib design cert) LibFile = HasTree told net
IsReachedFor told (verifies net lib design cert) DesignFile = HasTree told net × HasLibrary told lib
IsReachedFor told (verifies net lib design cert) CertFile =
    HasTree told net × HasLibrary told lib × HasDrawing told design
IsReachedFor told (verifies net lib design cert) _ = ⊥
IsReachedFor told (samples number gates extra) _ = ⊥

-- a file of what the words ask for is come to
pub data HasReached (words : List Text) (told : Option Files) (which : Which) : Type 0 where
  by_task : (task : Task) → IsTask words task → IsReached told task which → HasReached words told which
  by_job : (job : Job) → IsJob words job → IsReachedFor told job which → HasReached words told which

-- The answer was given, or couldn't be; or a file couldn't be read; or memory was refused. Nothing else changed.
pub data EndsRun (words : List Text) (old new : DeskState) : Status → Type 0 where
  given : (answer : Answer) → HasAnswer words old.files answer → Gives old new answer
      → EndsRun words old new answer.status
  ungiven : (answer : Answer) (which : Which) → HasAnswer words old.files answer
      → FailsToGive old new answer which → EndsRun words old new (status.WriteFault which)
  unread : (which : Which) → HasReached words old.files which → FailsToLoad old new
      → EndsRun words old new (status.ReadFault which)
  no_memory : new ≡ old → EndsRun words old new status.NoMemory

-- ---- its steps

-- It ended with this status, and the text was said; or the desk failed, and a front of the text was said.
pub data EndsSaying (old new : DeskState) (own : Status) (text : Text) : Status → Type 0 where
  done : Says old new text → EndsSaying old new own text own
  failed : SaysFront old new text → EndsSaying old new own text (status.WriteFault Output)

-- what a fault of a lower reader comes to
abbrev pub lex_end : LexFault → NoInput
lex_end lex.NoMemory = NoMemory
lex_end fault = Fault (Lex fault)

abbrev pub read_end : ReadFault → NoInput
read_end read.NoMemory = NoMemory
read_end fault = Fault (Read fault)

abbrev pub net_end : NetFault → NoInput
net_end nets.NoMemory = NoMemory
net_end fault = Fault (Net fault)

abbrev pub library_end : LibraryFault → NoInput
library_end library.NoMemory = NoMemory
library_end fault = Fault (Library fault)

-- the net is that of the module that is accepted and has this text
pub record HasNet (text : Text) (net : Netlist) : Type 0 where
  pub tree : ModuleTree
  pub good : IsGood text tree
  pub same : net ≡ net_of tree

-- a net is mapped to this network
pub record HasNetwork (net : Netlist) (N : Network) : Type 0 where
  pub is_mapped : IsMapped net
  pub network : N ≡ mapping_of net

-- why a net is not mapped
abbrev pub NetEnds : Netlist → NoInput → Type 0
NetEnds net (Fault (Constant name)) = IsConstant net name
NetEnds net (Fault (Nodes count)) = HasManyNodes net count
NetEnds net (Fault _) = ⊥
NetEnds net Unread = ⊥
NetEnds net NoMemory = ⊤

-- so it is, and the net is mapped so
pub record HasModule (text : Text) (net : Netlist) (N : Network) : Type 0 where
  pub tree : ModuleTree
  pub taken : IsTaken text tree
  pub same : net ≡ net_of tree
  pub network : N ≡ network_of tree

-- so it is with the file of this name, as far as the desk tells
pub record ReadsModule (told : Option Files) (name : Text)
    (net : Netlist) (N : Network) : Type 0 where
  pub text : Text
  pub has_module : HasModule text net N
  pub file : IsFile told name text

-- why no network was made of the text
abbrev pub TextEnds : Text → NoInput → Type 0
TextEnds text (Fault fault) = IsRefused text fault
TextEnds text Unread = ⊥
TextEnds text NoMemory = ⊤

-- the file of this name has the text of this library, as far as the desk tells
pub record ReadsLibrary (told : Option Files) (name : Text) (lib : Tiles) : Type 0 where
  pub text : Text
  pub taken : IsTakenLibrary text lib
  pub file : IsFile told name text

-- why there is no library of the text
abbrev pub LibraryEnds : Text → NoInput → Type 0
LibraryEnds text (Fault fault) = IsRefusedLibrary text fault
LibraryEnds text Unread = ⊥
LibraryEnds text NoMemory = ⊤

-- the file of this name has the text of this design, as far as the desk tells
pub record ReadsDesign (told : Option Files) (name : Text) (drawing : Drawing) : Type 0 where
  pub text : Text
  pub taken : IsTakenDesign text drawing
  pub file : IsFile told name text

-- the file of this name has the text of this certificate, as far as the desk tells
pub record ReadsCert (told : Option Files) (name : Text) (cert : Certificate) : Type 0 where
  pub text : Text
  pub taken : IsTakenCert text cert
  pub file : IsFile told name text

-- why nothing was made of what was read: it is refused so
abbrev pub ReadingEnds : (InputFault → Type 0) → NoInput → Type 0
ReadingEnds IsRefused (Fault fault) = IsRefused fault
ReadingEnds IsRefused Unread = ⊥
ReadingEnds IsRefused NoMemory = ⊤

-- why nothing was made of the file: its text is refused so, or it couldn't be read
abbrev pub FileEnds : (Text → InputFault → Type 0) → DeskState → DeskState → Text → NoInput → Type 0
FileEnds IsRefused old new name (Fault fault) = (new ≡ old)
    × ((text : Text) × IsFile old.files name text × IsRefused text fault)
FileEnds IsRefused old new name Unread = FailsToLoad old new
FileEnds IsRefused old new name NoMemory = new ≡ old
