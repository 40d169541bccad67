-- What a run answers: one status, the files that it writes, in their order, and what it says. It is a function of the
-- words and of what is read for them, and of nothing else.
use Rattle.std.specs.Prelude.{◌≡◌, List, [], ◌∷◌, ◌++◌, Option, Some, None, IsSomeAnd}
use Rattle.bx_cert.specs.Certs.{Certificate}
use Rattle.bx_cert.specs.Texts.{cert_text}
use Rattle.bx_design.specs.Solutions.{IsSolution}
use Rattle.bx_design.specs.declared.solution.LaidOut.{LaidOut}
use Rattle.bx_dots.specs.GridDots.{AreDotsOf}
use Rattle.bx_dots.specs.Permits.{permit_of}
use Rattle.bx_layout.specs.Grids.{FormGrid}
use Rattle.bx_library.specs.Dots.{IsAscending}
use Rattle.bx_library.specs.Tiles.{Tiles}
use Rattle.bx_logic.specs.Nets.{Netlist}
use Rattle.bx_network.specs.Networks.{Network}
use Rattle.bx_siqad.specs.Designs.{Drawing}
use Rattle.bx_siqad.specs.Texts.{design_text}
use Rattle.bx_syntax.specs.Parts.{ModuleTree}
use Rattle.bx_verilog.specs.Elaboration.{net_of}
use Rattle.bx_verilog.specs.Formulas.{Text}
use Rattle.bx_words.specs.Words.{first_fault}
use Rattle.bx_words.specs.declared.faults.WordFault.{WordFault}
use Rattle.bx_engine.specs.declared.status.InputFault.{InputFault}
use Rattle.bx_engine.specs.declared.status.Status.{Status}
use Rattle.bx_engine.specs.declared.status.Status.TheVariants.{Words, Refused}
use Rattle.bx_engine.specs.declared.status.Which.{Which}
use Rattle.bx_engine.specs.declared.status.Which.TheVariants.{DesignFile, CertFile}
use Rattle.bx_engine.specs.Said.{search_text, refusal_text, word_fault_text, input_fault_text}
use Rattle.bx_engine.specs.Jobs.{Job, IsJob, names_for}
use Rattle.bx_engine.specs.Replies.{IsRefusedFor, IsTold}
use Rattle.bx_engine.specs.Statuses.{status_of}
use Rattle.bx_engine.specs.Tasks.{Task, IsTask, Names, Inputs, read_for}
use Rattle.bx_engine.specs.Texts.{AreRefused, AreTaken, network_of}

-- ---- answers

-- a file to be written: which of the files it is, its name and its text
pub record Written : Type 0 where
  pub which : Which
  pub name : Text
  pub text : Text

pub record Answer : Type 0 where
  pub status : Status
  pub files : List Written
  pub said : Text

-- a refusal writes no file
abbrev pub refusal : Status → Text → Answer
refusal status fault = record { status = status; files = []; said = refusal_text fault }

-- ---- designs

-- a design shows a form grid by the dots of a library
pub record Draws (lib : Tiles) (grid : FormGrid) (drawing : Drawing) : Type 0 where
  pub ratio : drawing.ratio ≡ grid.ratio
  pub dots : AreDotsOf lib grid drawing.dots
  pub ascending : IsAscending drawing.dots

-- there is a design where a layout was found, and it shows it
abbrev pub IsDrawn : Tiles → Option LaidOut → Option Drawing → Type 0
IsDrawn lib (Some laid) design = IsSomeAnd design (Draws lib laid.grid)
IsDrawn lib None design = design ≡ None

-- ---- files

abbrev pub design_file : Text → Drawing → Written
design_file name drawing = record { which = DesignFile; name = name; text = design_text drawing }

abbrev pub cert_file : Text → Certificate → Written
cert_file name cert = record { which = CertFile; name = name; text = cert_text cert }

-- the file of the design, if there is one
abbrev pub design_files : Text → Option Drawing → List Written
design_files name (Some drawing) = design_file name drawing ∷ []
design_files name None = []

-- behind it that of the certificate
abbrev pub files_of : Task → Option Drawing → Certificate → List Written
files_of task design cert = design_files task.design design ++ cert_file task.cert cert ∷ []

-- ---- searches

-- a search writes these files, and says its report
abbrev pub search_answer : Task → Netlist → Network → Certificate → Option LaidOut → Option Drawing → Answer
search_answer task net N cert found design = record {
  status = status_of cert.last;
  files = files_of task design cert;
  said = search_text net N cert.last found;
}

module _ (task : Task) where
  -- the solution of a module's network within the limits and the budget of the task, by the forms of a library
  abbrev pub Solves : ModuleTree → Tiles → Certificate → Option LaidOut → Type 0
  Solves m lib cert found =
      IsSolution (network_of m) (permit_of lib) task.limits task.budget cert found

  abbrev pub answer_of : ModuleTree → Certificate → Option LaidOut → Option Drawing → Answer
  answer_of m cert found design = search_answer task (net_of m) (network_of m) cert found design

  -- the status is that of the solution
  abbrev pub IsStatusOf : ModuleTree → Tiles → Status → Type 0
  IsStatusOf m lib status = (cert : Certificate) × (found : Option LaidOut) × Solves m lib cert found
      × (status ≡ status_of cert.last)

-- the answer to a task, by what is read for it
pub data IsAnswerTo (task : Task) (inputs : Inputs) : Answer → Type 0 where
  refused : (fault : InputFault) → AreRefused inputs fault
      → IsAnswerTo task inputs (refusal (Refused fault) (input_fault_text fault))
  searched : (m : ModuleTree) (lib : Tiles) (cert : Certificate) (found : Option LaidOut)
      (design : Option Drawing) → AreTaken inputs m lib → Solves task m lib cert found
      → IsDrawn lib found design → IsAnswerTo task inputs (answer_of task m cert found design)

-- a reply writes no file
abbrev pub reply : Status → Text → Answer
reply status said = record { status = status; files = []; said = said }

-- the answer to a job, by what is read for it
pub data IsReply (job : Job) (inputs : Inputs) : Answer → Type 0 where
  turned_down : (fault : InputFault) → IsRefusedFor job inputs fault
      → IsReply job inputs (refusal (Refused fault) (input_fault_text fault))
  told : (status : Status) (said : Text) → IsTold job inputs status said
      → IsReply job inputs (reply status said)

-- the files that words name to be read
pub data AreRead (words : List Text) : Names → Type 0 where
  for_task : (task : Task) → IsTask words task → AreRead words (read_for task)
  for_job : (job : Job) → IsJob words job → AreRead words (names_for job)

-- the answer to words, by what is read of the files that they name
pub data IsAnswer (words : List Text) (inputs : Names → Inputs) : Answer → Type 0 where
  misused : (fault : WordFault) → first_fault words ≡ Some fault
      → IsAnswer words inputs (refusal (Words fault) (word_fault_text fault))
  answered : (task : Task) (answer : Answer) → IsTask words task
      → IsAnswerTo task (inputs (read_for task)) answer → IsAnswer words inputs answer
  replied : (job : Job) (answer : Answer) → IsJob words job → IsReply job (inputs (names_for job)) answer
      → IsAnswer words inputs answer
