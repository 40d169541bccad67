-- An input has an answer.
use Rattle.std.proofs.Common.{◌≡◌, ◌⊎◌, List, Option, Some, None, inl, inr, refl, arith}
use Rattle.bx_desk.specs.Desk.{Files}
use Rattle.bx_design.proofs.Existence.{some-solution}
use Rattle.bx_design.specs.declared.solution.LaidOut.{LaidOut}
use Rattle.bx_dots.specs.Permits.{permit_of}
use Rattle.bx_library.specs.Tiles.{Tiles}
use Rattle.bx_siqad.specs.Designs.{Drawing}
use Rattle.bx_syntax.specs.Parts.{ModuleTree}
use Rattle.bx_verilog.specs.Formulas.{Text}
use Rattle.bx_words.specs.Words.{first_fault}
use Rattle.bx_words.specs.declared.faults.WordFault.{WordFault}
use Rattle.bx_engine.specs.declared.status.InputFault.{InputFault}
use Rattle.bx_engine.specs.declared.status.Status.TheVariants.{Words, Refused}
use Rattle.bx_engine.specs.Answers.{Answer, IsAnswer, IsAnswerTo, IsDrawn, answer_of, refusal, refused, searched, misused, answered}
use Rattle.bx_engine.specs.Said.{word_fault_text, input_fault_text}
use Rattle.bx_engine.specs.Tasks.{Task, Names, Inputs, IsTask, inputs_of, read_for}
use Rattle.bx_engine.specs.Texts.{IsTaken, IsTakenLibrary, IsRefusedLibrary, AreTaken, by_module, by_library, network_of}
use Rattle.bx_engine.proofs.EachText.{each_text}
use Rattle.bx_engine.proofs.SomeDrawing.{some-drawing}
use Rattle.bx_engine.proofs.Tasks.{limits_are}
use Rattle.bx_engine.proofs.Worth.{network-is}

-- what was found can be drawn
some_drawn : (lib : Tiles) (found : Option LaidOut) → (design : Option Drawing) × IsDrawn lib found design
some_drawn lib (Some laid) = let (drawing, draws) = some-drawing lib laid.grid in (Some drawing, draws)
some_drawn lib None = (None, refl)

pub some_refusal : (words : List Text) (inputs : Names → Inputs) (fault : WordFault) → first_fault words ≡ Some fault → (answer : Answer) × IsAnswer words inputs answer
some_refusal words inputs fault first = (refusal (Words fault) (word_fault_text fault), misused fault first)

module _ (words : List Text) (files : Files) (task : Task) (text book : Text) (asks : IsTask words task) (there : files task.net ≡ Some text) (has : files task.lib ≡ Some book)
    (each : ((fault : InputFault) × IsRefusedLibrary book fault) ⊎ ((lib : Tiles) × IsTakenLibrary book lib)) where
  some_to_both : (m : ModuleTree) (lib : Tiles) → IsTaken text m → IsTakenLibrary book lib → (answer : Answer) × IsAnswerTo task (inputs_of files (read_for task)) answer
  some_to_both m lib taken library =
      let few = taken.is_mapped.few in
      let (cert, found, solves) = some-solution (network_of m) (permit_of lib) task.limits task.budget (network-is text m taken) (omega (arith, few)) (limits_are words task asks) in
      let (design, drawn) = some_drawn lib found in
      let are : AreTaken (inputs_of files (read_for task)) m lib = record {
        net_text = text;
        net_is = there;
        taken = taken;
        lib_text = book;
        lib_is = has;
        taken_library = library;
      } in
      (answer_of task m cert found design, searched m lib cert found design are solves drawn)

  some_to_module : (m : ModuleTree) → IsTaken text m → (answer : Answer) × IsAnswerTo task (inputs_of files (read_for task)) answer
  some_to_module m taken = elim each [
    | inl (fault, is) ↦ (refusal (Refused fault) (input_fault_text fault), refused fault (by_library text book m there taken has is))
    | inr (lib, library) ↦ some_to_both m lib taken library
  ]

  some_to_inputs : (answer : Answer) × IsAnswerTo task (inputs_of files (read_for task)) answer
  some_to_inputs = elim (each_text text) [
    | inl (fault, is) ↦ (refusal (Refused fault) (input_fault_text fault), refused fault (by_module text there is))
    | inr (m, taken) ↦ some_to_module m taken
  ]

  pub some_answer : (answer : Answer) × IsAnswer words (inputs_of files) answer
  some_answer = let (answer, to) = some_to_inputs in (answer, answered task answer asks to)
