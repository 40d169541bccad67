-- What an input gives is one answer, and a settled one, whose files are those of the task.
use Rattle.std.proofs.Common.{◌≡◌, List, [], ◌∷◌, Option, Some, None, sym, ◌∙◌, ap, ap₂, subst}
use Rattle.std.specs.Prelude.{◌≢◌}
use Rattle.std.proofs.lemmas.List.Elements.{All-cons, All-nil}
use Rattle.bx_cert.specs.Certs.{Certificate}
use Rattle.bx_cert.specs.declared.parts.CertLast.{CertLast}
use Rattle.bx_cert.specs.declared.parts.CertLast.TheVariants as told
use Rattle.bx_desk.specs.Desk.{Files}
use Rattle.bx_design.proofs.OneSolution.{one-solution}
use Rattle.bx_design.specs.declared.solution.LaidOut.{LaidOut}
use Rattle.bx_dots.specs.Permits.{permit_of}
use Rattle.bx_library.specs.Tiles.{Tiles}
use Rattle.bx_siqad.specs.Designs.{Drawing}
use Rattle.bx_syntax.specs.Parts.{ModuleTree}
use Rattle.bx_verilog.specs.Formulas.{Text}
use Rattle.bx_words.specs.declared.faults.WordFault.{WordFault}
use Rattle.bx_engine.specs.declared.status.InputFault.{InputFault}
use Rattle.bx_engine.specs.declared.status.Status.TheVariants.{Words, Refused}
use Rattle.bx_engine.specs.Said.{word_fault_text, input_fault_text}
use Rattle.bx_engine.specs.Statuses.{IsSettled, HasSearched, status_of}
use Rattle.bx_engine.specs.Tasks.{Task, Names, Inputs, IsTask, inputs_of, read_for}
use Rattle.bx_engine.specs.Texts.{network_of}
use Rattle.bx_engine.specs.declared.status.Which.TheVariants.{Output}
use Rattle.bx_engine.specs.Answers.{Answer, Solves, IsDrawn, IsAnswerTo, IsAnswer, IsReply, AreRead, for_task, for_job, refusal, design_file, cert_file, files_of, answer_of, refused, searched, turned_down, told as is_told, misused, answered, replied}
use Rattle.bx_engine.proofs.Drawings.{one-drawn}
use Rattle.bx_engine.specs.Jobs.{Job, IsJob, names_for}
use Rattle.bx_engine.proofs.Effects.{AreFiles, AreOthers}
use Rattle.bx_engine.proofs.Jobs.{one_job, no_task, one_reply, settled_reply}
use Rattle.bx_engine.proofs.Readings.{inputs_refused_once, inputs_not_both, inputs_taken_once}
use Rattle.bx_engine.proofs.Tasks.{one_task}

-- ---- statuses

pub status_searched : (last : CertLast) → HasSearched (status_of last)
status_searched (told.Found ratio spots) = tt
status_searched (told.Undecided ratio spent) = tt
status_searched told.NoneWithin = tt

status_settled : (last : CertLast) → IsSettled (status_of last)
status_settled (told.Found ratio spots) = tt
status_settled (told.Undecided ratio spent) = tt
status_settled told.NoneWithin = tt

-- ---- the answer to a task

-- the files of a search are files, and go to the two names of the task
files_are : (task : Task) (design : Option Drawing) (cert : Certificate) → AreFiles (files_of task design cert)
files_are task (Some drawing) cert =
    All-cons (λ f. f.which ≢ Output) (design_file task.design drawing) (cert_file task.cert cert ∷ []) (λ e. cc)
    (All-cons (λ f. f.which ≢ Output) (cert_file task.cert cert) [] (λ e. cc) (All-nil (λ f. f.which ≢ Output)))
files_are task None cert = All-cons (λ f. f.which ≢ Output) (cert_file task.cert cert) [] (λ e. cc) (All-nil (λ f. f.which ≢ Output))

files_others : (task : Task) (design : Option Drawing) (cert : Certificate) (q : Text) → task.design ≢ q → task.cert ≢ q → AreOthers q (files_of task design cert)
files_others task (Some drawing) cert q d c =
    All-cons (λ f. f.name ≢ q) (design_file task.design drawing) (cert_file task.cert cert ∷ []) d
    (All-cons (λ f. f.name ≢ q) (cert_file task.cert cert) [] c (All-nil (λ f. f.name ≢ q)))
files_others task None cert q d c = All-cons (λ f. f.name ≢ q) (cert_file task.cert cert) [] c (All-nil (λ f. f.name ≢ q))

module _ (task : Task) (inputs : Inputs) where
  pub one_to_inputs : (one other : Answer) → IsAnswerTo task inputs one → IsAnswerTo task inputs other → one ≡ other
  one_to_inputs _ _ (refused f is) (refused g are) =
      ap (λ (x : InputFault). refusal (Refused x) (input_fault_text x)) (inputs_refused_once inputs f g is are)
  one_to_inputs _ _ (refused f is) (searched m lib cert found design taken solves drawn) = absurd (inputs_not_both inputs m lib f taken is)
  one_to_inputs _ _ (searched m lib cert found design taken solves drawn) (refused f is) = absurd (inputs_not_both inputs m lib f taken is)
  one_to_inputs _ _ (searched m lib cert found design taken solves drawn) (searched n book other last sketch takes are draws) =
      let same = inputs_taken_once inputs m n lib book taken takes in
      let one = one-solution (network_of n) (permit_of book) task.limits task.budget cert other found last
      (subst (λ (l : Tiles). Solves task n l cert found) same.1 (subst (λ (t : ModuleTree). Solves task t lib cert found) same.0 solves)) are in
      let designs : design ≡ sketch = one-drawn book last design sketch
      (subst (λ (o : Option LaidOut). IsDrawn book o design) one.1 (subst (λ (l : Tiles). IsDrawn l found design) same.1 drawn)) draws in
      ap (λ (t : ModuleTree). answer_of task t cert found design) same.0
      ∙ ap₂ (λ (c : Certificate) (o : Option LaidOut). answer_of task n c o design) one.0 one.1
      ∙ ap (λ (d : Option Drawing). answer_of task n other last d) designs

  settled_to_inputs : (answer : Answer) → IsAnswerTo task inputs answer → IsSettled answer.status
  settled_to_inputs _ (refused f is) = tt
  settled_to_inputs _ (searched m lib cert found design taken solves drawn) = status_settled cert.last

  files_to_inputs : (answer : Answer) → IsAnswerTo task inputs answer → AreFiles answer.files
  files_to_inputs _ (refused f is) = All-nil (λ f. f.which ≢ Output)
  files_to_inputs _ (searched m lib cert found design taken solves drawn) = files_are task design cert

  others_to_inputs : (answer : Answer) (q : Text) → IsAnswerTo task inputs answer → task.design ≢ q → task.cert ≢ q → AreOthers q answer.files
  others_to_inputs _ q (refused f is) d c = All-nil (λ f. f.name ≢ q)
  others_to_inputs _ q (searched m lib cert found design taken solves drawn) d c = files_others task design cert q d c

-- ---- the answer to a job

module _ (job : Job) (inputs : Inputs) where
  files_of_reply : (answer : Answer) → IsReply job inputs answer → AreFiles answer.files
  files_of_reply _ (turned_down f is) = All-nil (λ f. f.which ≢ Output)
  files_of_reply _ (is_told s t is) = All-nil (λ f. f.which ≢ Output)

  others_of_reply : (answer : Answer) (q : Text) → IsReply job inputs answer → AreOthers q answer.files
  others_of_reply _ q (turned_down f is) = All-nil (λ f. f.name ≢ q)
  others_of_reply _ q (is_told s t is) = All-nil (λ f. f.name ≢ q)

-- ---- the answer to words

module _ (words : List Text) (inputs : Names → Inputs) where
  -- an answer to words that ask for a task is one to the task
  pub to_task : (answer : Answer) (task : Task) → IsAnswer words inputs answer → IsTask words task → IsAnswerTo task (inputs (read_for task)) answer
  to_task _ task (misused f is) asks = let lost : Some f ≡ None = sym is ∙ asks.no_fault in absurd (cc)
  to_task _ task (answered other answer are is) asks =
      subst (λ (t : Task). IsAnswerTo t (inputs (read_for t)) answer) (one_task words other task are asks) is
  to_task _ task (replied job answer are is) asks = absurd (no_task words job task are asks)

  -- and one to words that ask for a job is one to the job
  pub to_job : (answer : Answer) (job : Job) → IsAnswer words inputs answer → IsJob words job → IsReply job (inputs (names_for job)) answer
  to_job _ job (misused f is) asks = let lost : Some f ≡ None = sym is ∙ asks.no_fault in absurd (cc)
  to_job _ job (answered task answer are is) asks = absurd (no_task words job task asks are)
  to_job _ job (replied other answer are is) asks =
      subst (λ (j : Job). IsReply j (inputs (names_for j)) answer) (one_job words other job are asks) is

  pub one_answer : (one other : Answer) → IsAnswer words inputs one → IsAnswer words inputs other → one ≡ other
  one_answer _ _ (misused f is) (misused g are) =
      let same : Some f ≡ Some g = sym is ∙ are in
      let faults : f ≡ g = cc in
      ap (λ (x : WordFault). refusal (Words x) (word_fault_text x)) faults
  one_answer _ _ (misused f is) (answered task answer asks to) = let lost : Some f ≡ None = sym is ∙ asks.no_fault in absurd (cc)
  one_answer _ _ (misused f is) (replied job answer asks to) = let lost : Some f ≡ None = sym is ∙ asks.no_fault in absurd (cc)
  one_answer _ other (replied job one asks to) are = one_reply job (inputs (names_for job)) one other to (to_job other job are asks)
  one_answer one _ (answered task a asks to) (misused f is) = let lost : Some f ≡ None = sym is ∙ asks.no_fault in absurd (cc)
  one_answer _ other (answered task one asks to) are = one_to_inputs task (inputs (read_for task)) one other to (to_task other task are asks)

  pub settled_answer : (answer : Answer) → IsAnswer words inputs answer → IsSettled answer.status
  settled_answer _ (misused f is) = tt
  settled_answer _ (answered task answer asks to) = settled_to_inputs task (inputs (read_for task)) answer to
  settled_answer _ (replied job answer asks to) = settled_reply job (inputs (names_for job)) answer to

  pub answer_files : (answer : Answer) → IsAnswer words inputs answer → AreFiles answer.files
  answer_files _ (misused f is) = All-nil (λ f. f.which ≢ Output)
  answer_files _ (answered task answer asks to) = files_to_inputs task (inputs (read_for task)) answer to
  answer_files _ (replied job answer asks to) = files_of_reply job (inputs (names_for job)) answer to

  -- the only files that are written are the task's
  pub answer_others : (answer : Answer) (q : Text) → IsAnswer words inputs answer → ((task : Task) → IsTask words task → (task.design ≢ q) × (task.cert ≢ q)) → AreOthers q answer.files
  answer_others _ q (misused f is) apart = All-nil (λ f. f.name ≢ q)
  answer_others _ q (answered task answer asks to) apart = others_to_inputs task (inputs (read_for task)) answer q to (apart task asks).0 (apart task asks).1
  answer_others _ q (replied job answer asks to) apart = others_of_reply job (inputs (names_for job)) answer q to

-- the answer is a function of the files that are asked for
pub by_names : (words : List Text) (files others : Files) (answer : Answer) → ((names : Names) → AreRead words names → inputs_of others names ≡ inputs_of files names)
    → IsAnswer words (inputs_of files) answer → IsAnswer words (inputs_of others) answer
by_names words files others _ same (misused f is) = misused f is
by_names words files others _ same (answered task answer asks to) =
    answered task answer asks (subst (λ (i : Inputs). IsAnswerTo task i answer) (sym (same (read_for task) (for_task task asks))) to)
by_names words files others _ same (replied job answer asks to) =
    replied job answer asks (subst (λ (i : Inputs). IsReply job i answer) (sym (same (names_for job) (for_job job asks))) to)
