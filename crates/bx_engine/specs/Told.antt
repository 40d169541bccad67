-- What holds of what words ask for and of what is read for it, where a desk tells its files.
use Rattle.std.specs.Prelude.{◌≡◌, List, Some}
use Rattle.bx_cert.specs.Certs.{Certificate}
use Rattle.bx_desk.specs.Desk.{DeskState, Files}
use Rattle.bx_library.specs.Tiles.{Tiles}
use Rattle.bx_siqad.specs.Designs.{Drawing}
use Rattle.bx_syntax.specs.Parts.{ModuleTree}
use Rattle.bx_verilog.specs.Formulas.{Text}
use Rattle.bx_engine.specs.Jobs.{extracts, verifies, IsJob, names_for}
use Rattle.bx_engine.specs.Replies.{AreHeld}
use Rattle.bx_engine.specs.Tasks.{Task, IsTask, Inputs, inputs_of, read_for}
use Rattle.bx_engine.specs.Texts.{AreTaken}

-- so it is with the task of the words and what is read for it
abbrev pub OfTask : List Text → DeskState → (Task → Inputs → Type 0) → Type 0
OfTask words old Is = (task : Task) (files : Files) → IsTask words task → old.files ≡ Some files
    → Is task (inputs_of files (read_for task))

-- so it is with the task, the module and the library, where both are taken
abbrev pub OfModule : List Text → DeskState → (Task → ModuleTree → Tiles → Type 0) → Type 0
OfModule words old Is = (task : Task) (files : Files) → IsTask words task → old.files ≡ Some files
    → (m : ModuleTree) (lib : Tiles) → AreTaken (inputs_of files (read_for task)) m lib → Is task m lib

-- so it is with what is read of a library and of a design that is to be cut
abbrev pub OfExtraction : List Text → DeskState → (Inputs → Type 0) → Type 0
OfExtraction words old Is = (lib design : Text) (files : Files) → IsJob words (extracts lib design)
    → old.files ≡ Some files → Is (inputs_of files (names_for (extracts lib design)))

-- so it is with what is read of the four files of a judgement
abbrev pub OfJudgement : List Text → DeskState → (Inputs → Type 0) → Type 0
OfJudgement words old Is = (net lib design cert : Text) (files : Files)
    → IsJob words (verifies net lib design cert) → old.files ≡ Some files
    → Is (inputs_of files (names_for (verifies net lib design cert)))

-- so it is with the module, the library, the design and the certificate, where all four are taken
abbrev pub OfHeld : List Text → DeskState → (ModuleTree → Tiles → Drawing → Certificate → Type 0) → Type 0
OfHeld words old Is = OfJudgement words old (λ inputs. (m : ModuleTree) (lib : Tiles) (drawing : Drawing)
    (cert : Certificate) → AreHeld inputs m lib drawing cert → Is m lib drawing cert)
