-- From how the steps of a run end to how the run ends.
use Rattle.std.proofs.Common.{◌≡◌, ℕ, List, Option, Some, None, length, refl, sym, subst}
use Rattle.bx_cert.specs.Certs.{Certificate}
use Rattle.bx_design.specs.Meaning.{IsMinimal}
use Rattle.bx_design.specs.Solutions.{IsSolution}
use Rattle.bx_design.specs.declared.solution.LaidOut.{LaidOut}
use Rattle.bx_design.proofs.Minimal.{laid-of}
use Rattle.bx_desk.specs.Desk.{Files, DeskState, IsFile}
use Rattle.bx_dots.specs.Permits.{permit_of}
use Rattle.bx_grid.specs.declared.ratio.Limits.{Limits}
use Rattle.bx_layout.specs.Permits.{PermitTest}
use Rattle.bx_library.specs.Tiles.{Tiles}
use Rattle.bx_logic.specs.Nets.{Netlist}
use Rattle.bx_network.specs.Networks.{Network}
use Rattle.bx_siqad.specs.Designs.{Drawing}
use Rattle.bx_verilog.specs.Elaboration.{net_of}
use Rattle.bx_verilog.specs.Formulas.{Text}
use Rattle.bx_words.specs.Verbs.{verb_of}
use Rattle.bx_words.specs.Clap.{rows}
use Rattle.bx_words.specs.Words.{first_fault, IsCommand, IsCommandOf}
use Rattle.bx_words.specs.declared.commands.Command.{Command}
use Rattle.bx_words.specs.declared.commands.Command.TheVariants as command
use Rattle.bx_words.specs.declared.commands.DesignCommand.{DesignCommand}
use Rattle.bx_words.specs.declared.commands.ExtractCommand.{ExtractCommand}
use Rattle.bx_words.specs.declared.commands.SampleCommand.{SampleCommand}
use Rattle.bx_words.specs.declared.commands.VerifyCommand.{VerifyCommand}
use Rattle.bx_words.specs.declared.faults.WordFault.{WordFault}
use Rattle.bx_words.specs.declared.verbs.Verb.{Verb}
use Rattle.bx_words.specs.declared.verbs.Verb.TheVariants as verb
use Rattle.bx_engine.specs.declared.load.NoInput.{NoInput}
use Rattle.bx_engine.specs.declared.load.NoInput.TheVariants.{Fault, Unread}
use Rattle.bx_engine.specs.declared.status.InputFault.{InputFault}
use Rattle.bx_engine.specs.declared.status.Status.{Status}
use Rattle.bx_engine.specs.declared.status.Status.TheVariants.{Refused, ReadFault, Words}
use Rattle.bx_engine.specs.declared.status.Which.TheVariants.{LibFile}
use Rattle.bx_engine.specs.Answers.{Answer, IsAnswerTo, IsDrawn, refused, searched, misused, answered, replied, refusal, search_answer}
use Rattle.bx_engine.specs.Jobs.{Job, IsJob}
use Rattle.bx_engine.specs.Runs.{HasAnswer, HasReached, by_task, by_job, EndsRun, given, ungiven, unread, no_memory, EndsSaying, ReadsModule, ReadsLibrary, FileEnds}
use Rattle.bx_engine.specs.Said.{refusal_text, input_fault_text, word_fault_text}
use Rattle.bx_engine.specs.Steps.{task_of, HasPlaces, HasAnswerTo, EndsGiving, given as was_given, ungiven as was_ungiven, EndsDesign, HasReply, EndsJob, replied as job_replied, unloaded, out_of_memory, extraction_of, judgement_of, sampling_of, EndsCommand, answered as task_answered, unread as task_unread, no_memory as task_no_memory}
use Rattle.bx_engine.specs.Tasks.{Task, Names, Inputs, IsTask, AreTold, inputs_of, read_for}
use Rattle.bx_engine.specs.Texts.{AreTaken, IsRefused, IsRefusedLibrary, by_module, by_library, network_of}
use Rattle.bx_engine.proofs.Endings.{gives_refusal}

-- ---- the task

-- a command without a fault is a task
is_task : (words : List Text) (d : DesignCommand) → first_fault words ≡ None → IsCommand words (command.Design d) → IsTask words (task_of d)
is_task words d no_fault is = by_verb is.verb is.first is.says where
  by_verb : (own : Verb) → verb_of words ≡ Some own → IsCommandOf own (rows own words) (command.Design d) → IsTask words (task_of d)
  by_verb verb.Extract first says = absurd says
  by_verb verb.Verify first says = absurd says
  by_verb verb.Sample first says = absurd says
  by_verb verb.Design first says = record {
    no_fault = no_fault;
    verb = first;
    net = says.net;
    lib = says.lib;
    design = says.design;
    cert = says.cert;
    limits = says.limits;
    budget = says.budget;
  }

-- the answer to a task is one to the words
has_answer : (words : List Text) (told : Option Files) (task : Task) (answer : Answer) → IsTask words task → HasAnswerTo told task answer → HasAnswer words told answer
has_answer words told task answer is has = record { inputs = has.inputs; are_told = has.are_told; is = answered task answer is has.is }

-- an answer to the words was given, or couldn't be
gives : (words : List Text) (old new : DeskState) (answer : Answer) (status : Status) → HasAnswer words old.files answer → EndsGiving old new answer status → EndsRun words old new status
gives words old new answer status has (was_given h) = given answer has h
gives words old new answer status has (was_ungiven which h) = ungiven answer which has h

serves_task : (words : List Text) (d : DesignCommand) (old new : DeskState) (status : Status) → IsTask words (task_of d) → EndsDesign d old new status → EndsRun words old new status
serves_task words d old new status is (task_answered answer s has ends) = gives words old new answer s (has_answer words old.files (task_of d) answer is has) ends
serves_task words d old new status is (task_unread which reached fails) = unread which (by_task (task_of d) is reached) fails
serves_task words d old new status is (task_no_memory same) = no_memory same

-- ---- a job

is_extraction : (words : List Text) (e : ExtractCommand) → first_fault words ≡ None → IsCommand words (command.Extract e) → IsJob words (extraction_of e)
is_extraction words e no_fault is = by_verb is.verb is.first is.says where
  by_verb : (own : Verb) → verb_of words ≡ Some own → IsCommandOf own (rows own words) (command.Extract e) → IsJob words (extraction_of e)
  by_verb verb.Extract first says = record { no_fault = no_fault; verb = first; given = (says.lib, says.design) }
  by_verb verb.Design first says = absurd says
  by_verb verb.Verify first says = absurd says
  by_verb verb.Sample first says = absurd says

is_judgement : (words : List Text) (v : VerifyCommand) → first_fault words ≡ None → IsCommand words (command.Verify v) → IsJob words (judgement_of v)
is_judgement words v no_fault is = by_verb is.verb is.first is.says where
  by_verb : (own : Verb) → verb_of words ≡ Some own → IsCommandOf own (rows own words) (command.Verify v) → IsJob words (judgement_of v)
  by_verb verb.Verify first says = record { no_fault = no_fault; verb = first; given = (says.net, says.lib, says.design, says.cert) }
  by_verb verb.Design first says = absurd says
  by_verb verb.Extract first says = absurd says
  by_verb verb.Sample first says = absurd says

is_sampling : (words : List Text) (s : SampleCommand) → first_fault words ≡ None → IsCommand words (command.Sample s) → IsJob words (sampling_of s)
is_sampling words s no_fault is = by_verb is.verb is.first is.says where
  by_verb : (own : Verb) → verb_of words ≡ Some own → IsCommandOf own (rows own words) (command.Sample s) → IsJob words (sampling_of s)
  by_verb verb.Sample first says = record { no_fault = no_fault; verb = first; given = (says.number, says.gates, says.extra) }
  by_verb verb.Design first says = absurd says
  by_verb verb.Extract first says = absurd says
  by_verb verb.Verify first says = absurd says

-- a reply is an answer to the words
has_reply : (words : List Text) (told : Option Files) (job : Job) (answer : Answer) → IsJob words job → HasReply told job answer → HasAnswer words told answer
has_reply words told job answer is has = record { inputs = has.inputs; are_told = has.are_told; is = replied job answer is has.is }

serves_job : (words : List Text) (job : Job) (old new : DeskState) (status : Status) → IsJob words job → EndsJob job old new status → EndsRun words old new status
serves_job words job old new status is (job_replied answer s has ends) = gives words old new answer s (has_reply words old.files job answer is has) ends
serves_job words job old new status is (unloaded which reached fails) = unread which (by_job job is reached) fails
serves_job words job old new status is (out_of_memory same) = no_memory same

-- a command was served
pub serves : (words : List Text) (old new : DeskState) (c : Command) (status : Status) → EndsCommand c old new status → first_fault words ≡ None → IsCommand words c → EndsRun words old new status
serves words old new (command.Design d) status ends no_fault is = serves_task words d old new status (is_task words d no_fault is) ends
serves words old new (command.Extract e) status ends no_fault is = serves_job words (extraction_of e) old new status (is_extraction words e no_fault is) ends
serves words old new (command.Verify v) status ends no_fault is = serves_job words (judgement_of v) old new status (is_judgement words v no_fault is) ends
serves words old new (command.Sample s) status ends no_fault is = serves_job words (sampling_of s) old new status (is_sampling words s no_fault is) ends

-- words that are refused
pub serves_misuse : (words : List Text) (fault : WordFault) (old new : DeskState) (status : Status) → EndsSaying old new (Words fault) (refusal_text (word_fault_text fault)) status → first_fault words ≡ Some fault → EndsRun words old new status
serves_misuse words fault old new status ends first =
    gives words old new (refusal (Words fault) (word_fault_text fault)) status (by_told old.files) (gives_refusal old new (Words fault) (word_fault_text fault) status ends)
  where
    by_told : (told : Option Files) → HasAnswer words told (refusal (Words fault) (word_fault_text fault))
    by_told None = record { inputs = λ names. record { net = None; lib = None; design = None; cert = None }; are_told = tt; is = misused fault first }
    by_told (Some files) = record { inputs = inputs_of files; are_told = refl; is = misused fault first }

-- ---- what is read

-- a load that leaves the desk as it was
pub same_desk : (d : DesignCommand) (old mid new : DeskState) (status : Status) → mid ≡ old → EndsDesign d mid new status → EndsDesign d old new status
same_desk d old mid new status same h = subst (λ (x : DeskState). EndsDesign d x new status) same h

pub same_reads : (name : Text) (net : Netlist) (N : Network) (old mid : DeskState) → mid ≡ old → ReadsModule old.files name net N → ReadsModule mid.files name net N
same_reads name net N old mid same h = subst (λ (d : DeskState). ReadsModule d.files name net N) (sym same) h

pub same_library : (name : Text) (lib : Tiles) (old mid : DeskState) → mid ≡ old → ReadsLibrary old.files name lib → ReadsLibrary mid.files name lib
same_library name lib old mid same h = subst (λ (d : DeskState). ReadsLibrary d.files name lib) (sym same) h

-- the texts of a module and of a library, as what is read for a task
pub record WereRead (told : Option Files) (task : Task) (net lib : Text) : Type 0 where
  pub inputs : Names → Inputs
  pub are_told : AreTold told inputs
  pub net_is : (inputs (read_for task)).net ≡ Some net
  pub lib_is : (inputs (read_for task)).lib ≡ Some lib

were_read : (told : Option Files) (task : Task) (net lib : Text) → IsFile told task.net net → IsFile told task.lib lib → WereRead told task net lib
were_read None task net lib is too = record { inputs = λ names. record { net = Some net; lib = Some lib; design = None; cert = None }; are_told = tt; net_is = refl; lib_is = refl }
were_read (Some files) task net lib is too = record { inputs = inputs_of files; are_told = refl; net_is = is; lib_is = too }

-- the refusal of a module whose text was read
refused_module : (told : Option Files) (task : Task) (net : Text) (fault : InputFault) → IsFile told task.net net → IsRefused net fault → HasAnswerTo told task (refusal (Refused fault) (input_fault_text fault))
refused_module None task net fault is why = record { inputs = λ names. record { net = Some net; lib = None; design = None; cert = None }; are_told = tt; is = refused fault (by_module net refl why) }
refused_module (Some files) task net fault is why = record { inputs = inputs_of files; are_told = refl; is = refused fault (by_module net is why) }

-- it was said or not
says_refusal : (d : DesignCommand) (old mid new : DeskState) (fault : InputFault) (status : Status) → mid ≡ old → HasAnswerTo old.files (task_of d) (refusal (Refused fault) (input_fault_text fault))
    → EndsSaying mid new (Refused fault) (refusal_text (input_fault_text fault)) status → EndsDesign d old new status
says_refusal d old mid new fault status same has ends =
    task_answered (refusal (Refused fault) (input_fault_text fault)) status has
    (gives_refusal old new (Refused fault) (input_fault_text fault) status
    (subst (λ (x : DeskState). EndsSaying x new (Refused fault) (refusal_text (input_fault_text fault)) status) same ends))

-- a module that is refused
pub refuses : (d : DesignCommand) (old mid new : DeskState) (fault : InputFault) (end : NoInput) (status : Status) → EndsSaying mid new (Refused fault) (refusal_text (input_fault_text fault)) status
    → FileEnds IsRefused old mid d.net.now end → end ≡ Fault fault → EndsDesign d old new status
refuses d old mid new fault end status ends ended is =
    let why : FileEnds IsRefused old mid d.net.now (Fault fault) = subst (λ (x : NoInput). FileEnds IsRefused old mid d.net.now x) is ended in
    says_refusal d old mid new fault status why.0 (refused_module old.files (task_of d) why.1.0 fault why.1.1 why.1.2) ends

module _ (d : DesignCommand) (old : DeskState) (net : Netlist) (N : Network) (reads : ReadsModule old.files d.net.now net N) where
  -- a library that is refused
  pub refuses_library : (mid new : DeskState) (fault : InputFault) (end : NoInput) (status : Status) → EndsSaying mid new (Refused fault) (refusal_text (input_fault_text fault)) status
      → FileEnds IsRefusedLibrary old mid d.lib.now end → end ≡ Fault fault → EndsDesign d old new status
  refuses_library mid new fault end status ends ended is =
      let why : FileEnds IsRefusedLibrary old mid d.lib.now (Fault fault) = subst (λ (x : NoInput). FileEnds IsRefusedLibrary old mid d.lib.now x) is ended in
      let read = were_read old.files (task_of d) reads.text why.1.0 reads.file why.1.1 in
      says_refusal d old mid new fault status why.0
      (record {
        inputs = read.inputs;
        are_told = read.are_told;
        is = refused fault (by_library reads.text why.1.0 reads.has_module.tree read.net_is reads.has_module.taken read.lib_is why.1.2);
      }) ends

  -- one that couldn't be read
  pub unread_library : (new : DeskState) (end : NoInput) → FileEnds IsRefusedLibrary old new d.lib.now end → end ≡ Unread → EndsDesign d old new (ReadFault LibFile)
  unread_library new end ended is =
      task_unread LibFile (reads.text, reads.has_module.tree, reads.file, reads.has_module.taken)
      (subst (λ (x : NoInput). FileEnds IsRefusedLibrary old new d.lib.now x) is ended)

module _ (told : Option Files) (task : Task) (net : Netlist) (N : Network) (lib : Tiles) (reads : ReadsModule told task.net net N) (library : ReadsLibrary told task.lib lib) where
  -- the solution of a module's network by the forms of a library is an answer
  pub has_solution : (cert : Certificate) (found : Option LaidOut) (design : Option Drawing) → IsSolution N (permit_of lib) task.limits task.budget cert found → IsDrawn lib found design
      → HasAnswerTo told task (search_answer task net N cert found design)
  has_solution cert found design is drawn =
      let it = reads.has_module in
      let read = were_read told task reads.text library.text reads.file library.file in
      let taken : AreTaken (read.inputs (read_for task)) it.tree lib = record {
        net_text = reads.text;
        net_is = read.net_is;
        taken = it.taken;
        lib_text = library.text;
        lib_is = read.lib_is;
        taken_library = library.taken;
      } in
      let one : IsAnswerTo task (read.inputs (read_for task)) (search_answer task (net_of it.tree) (network_of it.tree) cert found design) =
      searched it.tree lib cert found design taken (subst (λ (M : Network). IsSolution M (permit_of lib) task.limits task.budget cert found) it.network is) drawn in
      record {
        inputs = read.inputs;
        are_told = read.are_told;
        is = subst (λ (n : Netlist). IsAnswerTo task (read.inputs (read_for task)) (search_answer task n N cert found design)) (sym it.same)
            (subst (λ (M : Network). IsAnswerTo task (read.inputs (read_for task)) (search_answer task (net_of it.tree) M cert found design)) (sym it.network) one);
      }

-- the places of a layout that is worth what it should be
pub places-all : (N : Network) (permit : PermitTest) (limits : Limits) (budget : ℕ) (cert : Certificate) (found : Option LaidOut) → IsMinimal N permit limits budget cert found → HasPlaces N found
places-all N permit limits budget cert (Some laid) is = (laid-of N permit limits budget (length cert.sections) laid cert.last is.end_at).legal.placed.places
places-all N permit limits budget cert None is = tt
