-- What each clause of a run says, from how the run ended.
use Rattle.std.proofs.Common.{◌≡◌, ◌≢◌, ◌⊎◌, inl, inr, ℕ, List, [], ◌∷◌, Option, Some, None, sym, ◌∙◌, ap, subst, refl}
use Rattle.std.specs.Prelude.{IsSome, IsSomeAnd, option_map, ⊤}
use Rattle.bx_cert.specs.Certs.{Certificate}
use Rattle.bx_cert.specs.Texts.{cert_text}
use Rattle.bx_cert.specs.declared.parts.CertLast.{CertLast}
use Rattle.bx_cert.specs.declared.parts.CertLast.TheVariants as last
use Rattle.bx_desk.specs.Desk.{DeskState, Files, FailsToLoad, Rose, Says}
use Rattle.bx_design.proofs.OneSolution.{one-solution}
use Rattle.bx_design.specs.declared.solution.LaidOut.{LaidOut}
use Rattle.bx_dots.specs.Permits.{permit_of}
use Rattle.bx_grid.specs.declared.ratio.Ratio.{Ratio}
use Rattle.bx_library.specs.Tiles.{Tiles}
use Rattle.bx_siqad.specs.Designs.{Drawing}
use Rattle.bx_siqad.specs.Texts.{design_text}
use Rattle.bx_syntax.specs.Parts.{ModuleTree}
use Rattle.bx_verilog.specs.Elaboration.{net_of}
use Rattle.bx_verilog.specs.Formulas.{Text}
use Rattle.bx_words.specs.Words.{first_fault}
use Rattle.bx_words.specs.declared.faults.WordFault.{WordFault}
use Rattle.bx_engine.specs.declared.status.InputFault.{InputFault}
use Rattle.bx_engine.specs.declared.status.Status.{Status}
use Rattle.bx_engine.specs.declared.status.Status.TheVariants.{Found, Undecided, NoneWithin, Minimal, Wrong, Done, Refused, ReadFault, WriteFault, NoMemory, Words}
use Rattle.bx_engine.specs.declared.status.Which.{Which}
use Rattle.bx_engine.specs.Said.{search_text, refusal_text, word_fault_text, input_fault_text}
use Rattle.bx_engine.specs.Statuses.{IsSettled, HasSearched, status_of}
use Rattle.bx_engine.specs.Tasks.{Task, Names, Inputs, IsTask, AreTold, IsThere, inputs_of, read_for}
use Rattle.bx_engine.specs.Texts.{AreRefused, AreTaken, by_module, by_library, network_of}
use Rattle.bx_engine.specs.Answers.{Answer, Solves, IsDrawn, IsStatusOf, IsAnswerTo, IsAnswer, refusal, design_file, cert_file, files_of, answer_of}
use Rattle.bx_engine.specs.Answers.{misused, replied as replies, answered as answers, refused as refused_for, searched as searched_so}
use Rattle.bx_engine.specs.Effects.{WritesAll, Gives, HasGiven, HasGivenSome, IsLeft, FailsToGive, NoneFell, NoneRose, RoseWriting, file_at}
use Rattle.bx_engine.specs.Runs.{HasAnswer, EndsRun, HasReached, given, ungiven, unread, no_memory}
use Rattle.bx_engine.specs.Worth.{IsFound, IsLeftUndecided, IsNoneWithin, IsWorth}
use Rattle.bx_engine.proofs.Answers.{status_searched, one_answer, to_task, settled_answer, answer_files, answer_others}
use Rattle.bx_engine.proofs.Effects.{AreOthers, first_then, file_there, others_there, told_on, given_no_fault, given_others, ungiven_others, none_fell_same, none_fell_ungiven, none_fell_load, rose_ungiven, some_rose, said_on}
use Rattle.bx_engine.specs.Jobs.{Job, IsJob, names_for}
use Rattle.bx_engine.proofs.Jobs.{reply_no_words, reply_refused}
use Rattle.bx_engine.proofs.Readings.{inputs_refused_once, inputs_not_both, inputs_taken_once}
use Rattle.bx_engine.proofs.Tasks.{design_cert}
use Rattle.bx_engine.proofs.Worth.{worth-is}

-- ---- what an answer's status says

settled_search : (s : Status) → HasSearched s → IsSettled s
settled_search (Found ratio) h = tt
settled_search (Refused fault) h = tt
settled_search (Undecided ratio spent) h = tt
settled_search NoneWithin h = tt
settled_search (ReadFault which) h = h
settled_search (WriteFault which) h = h
settled_search NoMemory h = h
settled_search (Words fault) h = tt
settled_search (Minimal ratio) h = tt
settled_search (Wrong part k) h = tt
settled_search Done h = tt

module _ (task : Task) (inputs : Inputs) where
  no_words : (a : Answer) (fault : WordFault) → IsAnswerTo task inputs a → a.status ≡ Words fault → ⊥
  no_words _ fault (refused_for f is) e = let lost : Refused f ≡ Words fault = e in cc
  no_words _ fault (searched_so m lib cert found design taken solves drawn) e = subst HasSearched e (status_searched cert.last)

  refused_of : (a : Answer) (fault : InputFault) → IsAnswerTo task inputs a → a.status ≡ Refused fault → AreRefused inputs fault
  refused_of _ fault (refused_for f is) e =
      let both : Refused f ≡ Refused fault = e in
      let same : f ≡ fault = cc in
      subst (AreRefused inputs) same is
  refused_of _ fault (searched_so m lib cert found design taken solves drawn) e = absurd (subst HasSearched e (status_searched cert.last))

  refused_gives : (a : Answer) (fault : InputFault) → IsAnswerTo task inputs a → AreRefused inputs fault → a.status ≡ Refused fault
  refused_gives _ fault (refused_for f is) h = ap Refused (inputs_refused_once inputs f fault is h)
  refused_gives _ fault (searched_so m lib cert found design taken solves drawn) h = absurd (inputs_not_both inputs m lib fault taken h)

  -- an answer whose status says that the ratios were searched is that of a solution
  pub record IsSolved (m : ModuleTree) (lib : Tiles) (a : Answer) : Type 0 where
    pub cert : Certificate
    pub found : Option LaidOut
    pub design : Option Drawing
    pub solves : Solves task m lib cert found
    pub drawn : IsDrawn lib found design
    pub same : a ≡ answer_of task m cert found design

  searched_of : (a : Answer) → IsAnswerTo task inputs a → HasSearched a.status → (m : ModuleTree) × (lib : Tiles) × AreTaken inputs m lib × IsSolved m lib a
  searched_of _ (refused_for f is) searched = absurd searched
  searched_of _ (searched_so m lib cert found design taken solves drawn) searched =
      (m, lib, taken, record { cert = cert; found = found; design = design; solves = solves; drawn = drawn; same = refl })

  solved_of : (a : Answer) (m : ModuleTree) (lib : Tiles) → IsAnswerTo task inputs a → AreTaken inputs m lib → IsSolved m lib a
  solved_of _ m lib (refused_for f is) taken = absurd (inputs_not_both inputs m lib f taken is)
  solved_of _ m lib (searched_so n book cert found design takes solves drawn) taken =
      let same = inputs_taken_once inputs n m book lib takes taken in
      subst (λ (l : Tiles). IsSolved m l (answer_of task n cert found design)) same.1
      (subst (λ (t : ModuleTree). IsSolved t book (answer_of task n cert found design)) same.0
      (record { cert = cert; found = found; design = design; solves = solves; drawn = drawn; same = refl }))

-- the files of a search, as they are left
module _ (old new : DeskState) (task : Task) (apart : task.design ≢ task.cert) (files : Files) (told : old.files ≡ Some files) where
  cert_left : (design : Option Drawing) (cert : Certificate) → WritesAll old new (files_of task design cert) → file_at new.files task.cert ≡ Some (cert_text cert)
  cert_left (Some drawing) cert all =
      let one = first_then old new (design_file task.design drawing) (cert_file task.cert cert ∷ []) all in
      let two = first_then one.mid new (cert_file task.cert cert) [] one.rest in
      let (later, e) = told_on old one.mid (design_file task.design drawing) one.first files told in
      ap (λ (d : DeskState). file_at d.files task.cert) two.rest ∙ file_there one.mid two.mid (cert_file task.cert cert) two.first later e
  cert_left None cert all =
      let two = first_then old new (cert_file task.cert cert) [] all in
      ap (λ (d : DeskState). file_at d.files task.cert) two.rest ∙ file_there old two.mid (cert_file task.cert cert) two.first files told

  design_left : (design : Option Drawing) (cert : Certificate) → WritesAll old new (files_of task design cert) → IsLeft old new task.design (option_map design_text design)
  design_left (Some drawing) cert all =
      let one = first_then old new (design_file task.design drawing) (cert_file task.cert cert ∷ []) all in
      let two = first_then one.mid new (cert_file task.cert cert) [] one.rest in
      ap (λ (d : DeskState). file_at d.files task.design) two.rest
      ∙ others_there one.mid two.mid (cert_file task.cert cert) two.first task.design (λ e. apart (sym e))
      ∙ file_there old one.mid (design_file task.design drawing) one.first files told
  design_left None cert all =
      let two = first_then old new (cert_file task.cert cert) [] all in
      ap (λ (d : DeskState). file_at d.files task.design) two.rest ∙ others_there old two.mid (cert_file task.cert cert) two.first task.design (λ e. apart (sym e))

-- ---- a run

module _ (words : List Text) (old new : DeskState) where
  -- an answer was given, with this status
  pub record WasGiven (r : Status) : Type 0 where
    pub answer : Answer
    pub has : HasAnswer words old.files answer
    pub same : r ≡ answer.status
    pub gives : Gives old new answer

  was_given : (r : Status) → EndsRun words old new r → IsSettled r → WasGiven r
  was_given _ (given answer has gives) settled = record { answer = answer; has = has; same = refl; gives = gives }
  was_given _ (ungiven answer which has fails) settled = absurd settled
  was_given _ (unread which reached fails) settled = absurd settled
  was_given _ (no_memory same) settled = absurd settled

  pub answered : (r : Status) → EndsRun words old new r → IsSettled r → (answer : Answer) × HasAnswer words old.files answer × (r ≡ answer.status) × Gives old new answer
  answered r o settled = let was = was_given r o settled in (was.answer, was.has, was.same, was.gives)

  -- what is read gives, the files that are told give
  pub told_gives : (answer : Answer) (files : Files) → HasAnswer words old.files answer → old.files ≡ Some files → IsAnswer words (inputs_of files) answer
  told_gives answer files has e =
      let same : has.inputs ≡ inputs_of files = subst (λ (told : Option Files). AreTold told has.inputs) e has.are_told in
      subst (λ (i : Names → Inputs). IsAnswer words i answer) same has.is

  pub exact : (r : Status) → EndsRun words old new r → IsSettled r → (files : Files) → old.files ≡ Some files → (answer : Answer) → IsAnswer words (inputs_of files) answer → (r ≡ answer.status) × Gives old new answer
  exact r o settled files e answer is =
      let was = was_given r o settled in
      let one : was.answer ≡ answer = one_answer words (inputs_of files) was.answer answer (told_gives was.answer files was.has e) is in
      (was.same ∙ ap (λ (a : Answer). a.status) one, subst (λ (a : Answer). Gives old new a) one was.gives)

  -- ---- words

  words_of : (inputs : Names → Inputs) (a : Answer) (fault : WordFault) → IsAnswer words inputs a → a.status ≡ Words fault → first_fault words ≡ Some fault
  words_of inputs _ fault (misused f is) e =
      let both : Words f ≡ Words fault = e in
      let same : f ≡ fault = cc in
      is ∙ ap Some same
  words_of inputs _ fault (answers task a asks to) e = absurd (no_words task (inputs (read_for task)) a fault to e)
  words_of inputs _ fault (replies job a asks to) e = absurd (reply_no_words job (inputs (names_for job)) a fault to e)

  words_give : (inputs : Names → Inputs) (a : Answer) (fault : WordFault) → IsAnswer words inputs a → first_fault words ≡ Some fault → a.status ≡ Words fault
  words_give inputs _ fault (misused f is) e =
      let both : Some f ≡ Some fault = sym is ∙ e in
      let same : f ≡ fault = cc in
      ap Words same
  words_give inputs _ fault (answers task a asks to) e = let lost : None ≡ Some fault = sym asks.no_fault ∙ e in absurd (cc)
  words_give inputs _ fault (replies job a asks to) e = let lost : None ≡ Some fault = sym asks.no_fault ∙ e in absurd (cc)

  pub words_only : (r : Status) → EndsRun words old new r → (fault : WordFault) → r ≡ Words fault → first_fault words ≡ Some fault
  words_only r o fault e =
      let was = was_given r o (subst IsSettled (sym e) tt) in
      words_of was.has.inputs was.answer fault was.has.is (sym was.same ∙ e)

  pub words_all : (r : Status) → EndsRun words old new r → IsSettled r → (fault : WordFault) → first_fault words ≡ Some fault → r ≡ Words fault
  words_all r o settled fault e =
      let was = was_given r o settled in
      was.same ∙ words_give was.has.inputs was.answer fault was.has.is e

  -- ---- refusals

  -- a refusal writes no file
  said_refusal : (s : Status) (fault : Text) → Gives old new (refusal s fault) → Says old new (refusal_text fault)
  said_refusal s fault gives = subst (λ (d : DeskState). Says d new (refusal_text fault)) gives.files gives.said

  said_to_words : (inputs : Names → Inputs) (a : Answer) (fault : WordFault) → IsAnswer words inputs a → a.status ≡ Words fault → Gives old new a → Says old new (refusal_text (word_fault_text fault))
  said_to_words inputs _ fault (misused f is) e gives =
      let both : Words f ≡ Words fault = e in
      let same : f ≡ fault = cc in
      subst (λ (x : WordFault). Says old new (refusal_text (word_fault_text x))) same (said_refusal (Words f) (word_fault_text f) gives)
  said_to_words inputs _ fault (answers task a asks to) e gives = absurd (no_words task (inputs (read_for task)) a fault to e)
  said_to_words inputs _ fault (replies job a asks to) e gives = absurd (reply_no_words job (inputs (names_for job)) a fault to e)

  said_to_task : (task : Task) (inputs : Inputs) (a : Answer) (fault : InputFault) → IsAnswerTo task inputs a → a.status ≡ Refused fault → Gives old new a → Says old new (refusal_text (input_fault_text fault))
  said_to_task task inputs _ fault (refused_for f is) e gives =
      let both : Refused f ≡ Refused fault = e in
      let same : f ≡ fault = cc in
      subst (λ (x : InputFault). Says old new (refusal_text (input_fault_text x))) same (said_refusal (Refused f) (input_fault_text f) gives)
  said_to_task task inputs _ fault (searched_so m lib cert found design taken solves drawn) e gives = absurd (subst HasSearched e (status_searched cert.last))

  said_of_input : (inputs : Names → Inputs) (a : Answer) (fault : InputFault) → IsAnswer words inputs a → a.status ≡ Refused fault → Gives old new a → Says old new (refusal_text (input_fault_text fault))
  said_of_input inputs _ fault (misused f is) e gives = let lost : Words f ≡ Refused fault = e in absurd (cc)
  said_of_input inputs _ fault (answers task a asks to) e gives = said_to_task task (inputs (read_for task)) a fault to e gives
  said_of_input inputs _ fault (replies job a asks to) e gives =
      said_refusal (Refused fault) (input_fault_text fault)
      (subst (λ (x : Answer). Gives old new x) (reply_refused job (inputs (names_for job)) a fault to e).1 gives)

  pub words_said : (r : Status) → EndsRun words old new r → (fault : WordFault) → r ≡ Words fault → Says old new (refusal_text (word_fault_text fault))
  words_said r o fault e =
      let was = was_given r o (subst IsSettled (sym e) tt) in
      said_to_words was.has.inputs was.answer fault was.has.is (sym was.same ∙ e) was.gives

  pub refused_said : (r : Status) → EndsRun words old new r → (fault : InputFault) → r ≡ Refused fault → Says old new (refusal_text (input_fault_text fault))
  refused_said r o fault e =
      let was = was_given r o (subst IsSettled (sym e) tt) in
      said_of_input was.has.inputs was.answer fault was.has.is (sym was.same ∙ e) was.gives

  -- ---- a desk that tells its files

  module _ (task : Task) (files : Files) (asks : IsTask words task) (told : old.files ≡ Some files) where
    to_told : (a : Answer) → HasAnswer words old.files a → IsAnswerTo task (inputs_of files (read_for task)) a
    to_told a has = to_task words (inputs_of files) a task (told_gives a files has told) asks

    pub refused_only : (r : Status) → EndsRun words old new r → (fault : InputFault) → r ≡ Refused fault → AreRefused (inputs_of files (read_for task)) fault
    refused_only r o fault e =
        let was = was_given r o (subst IsSettled (sym e) tt) in
        refused_of task (inputs_of files (read_for task)) was.answer fault (to_told was.answer was.has) (sym was.same ∙ e)

    pub refused : (r : Status) → EndsRun words old new r → IsSettled r → (fault : InputFault) → AreRefused (inputs_of files (read_for task)) fault → r ≡ Refused fault
    refused r o settled fault h =
        let was = was_given r o settled in
        was.same ∙ refused_gives task (inputs_of files (read_for task)) was.answer fault (to_told was.answer was.has) h

    -- the solution that was answered
    pub record WasSolved (m : ModuleTree) (lib : Tiles) (r : Status) : Type 0 where
      pub cert : Certificate
      pub found : Option LaidOut
      pub design : Option Drawing
      pub solves : Solves task m lib cert found
      pub drawn : IsDrawn lib found design
      pub same : r ≡ status_of cert.last
      pub has_given : HasGiven old new task (option_map design_text design) (cert_text cert) (search_text (net_of m) (network_of m) cert.last found)

    it_has_given : (m : ModuleTree) (cert : Certificate) (found : Option LaidOut) (design : Option Drawing) → Gives old new (answer_of task m cert found design)
        → HasGiven old new task (option_map design_text design) (cert_text cert) (search_text (net_of m) (network_of m) cert.last found)
    it_has_given m cert found design gives =
        let apart = design_cert words task asks in
        record {
          design_file = unsaid (option_map design_text design) (design_left old gives.written task apart files told design cert gives.files);
          cert_file = ap (λ (d : DeskState). file_at d.files task.cert) gives.said ∙ cert_left old gives.written task apart files told design cert gives.files;
          says = said_on old new (answer_of task m cert found design) gives;
        }
      where
        unsaid : (text : Option Text) → IsLeft old gives.written task.design text → IsLeft old new task.design text
        unsaid (Some text) left = ap (λ (d : DeskState). file_at d.files task.design) gives.said ∙ left
        unsaid None left = ap (λ (d : DeskState). file_at d.files task.design) gives.said ∙ left

    was_solved : (r : Status) → EndsRun words old new r → IsSettled r → (m : ModuleTree) (lib : Tiles) → AreTaken (inputs_of files (read_for task)) m lib → WasSolved m lib r
    was_solved r o settled m lib taken =
        let was = was_given r o settled in
        let is = solved_of task (inputs_of files (read_for task)) was.answer m lib (to_told was.answer was.has) taken in
        record {
          cert = is.cert;
          found = is.found;
          design = is.design;
          solves = is.solves;
          drawn = is.drawn;
          same = was.same ∙ ap (λ (a : Answer). a.status) is.same;
          has_given = it_has_given m is.cert is.found is.design (subst (λ (a : Answer). Gives old new a) is.same was.gives);
        }

    pub searched_only : (r : Status) → EndsRun words old new r → HasSearched r → (m : ModuleTree) × (lib : Tiles) × AreTaken (inputs_of files (read_for task)) m lib × IsStatusOf task m lib r
    searched_only r o searched =
        let was = was_given r o (settled_search r searched) in
        let is = searched_of task (inputs_of files (read_for task)) was.answer (to_told was.answer was.has) (subst HasSearched was.same searched) in
        (is.0, is.1, is.2, (is.3.cert, is.3.found, is.3.solves, was.same ∙ ap (λ (a : Answer). a.status) is.3.same))

    pub taken_solved : (r : Status) → EndsRun words old new r → IsSettled r → (m : ModuleTree) (lib : Tiles) → AreTaken (inputs_of files (read_for task)) m lib → IsStatusOf task m lib r
    taken_solved r o settled m lib taken = let was = was_solved r o settled m lib taken in (was.cert, was.found, was.solves, was.same)

    module _ (m : ModuleTree) (lib : Tiles) (taken : AreTaken (inputs_of files (read_for task)) m lib) where
      -- what a status says of what was given
      abbrev SaysOf : Status → Option Text → Text → Text → Type 0
      SaysOf (Found ratio) design cert said = IsSomeAnd design (λ bytes. IsFound task m lib ratio bytes cert said)
      SaysOf (Undecided ratio spent) design cert said = (design ≡ None) × IsLeftUndecided task m lib ratio spent cert said
      SaysOf NoneWithin design cert said = (design ≡ None) × IsNoneWithin task m lib cert said
      SaysOf status design cert said = ⊤

      says_of : (last : CertLast) (design : Option Text) (cert said : Text) → IsWorth task m lib last design cert said → SaysOf (status_of last) design cert said
      says_of (last.Found ratio spots) design cert said is = is
      says_of (last.Undecided ratio spent) design cert said is = is
      says_of last.NoneWithin design cert said is = is

      given_so : (r s : Status) → EndsRun words old new r → r ≡ s → IsSettled s → HasGivenSome old new task (SaysOf s)
      given_so r s o e settled =
          let was = was_solved r o (subst IsSettled (sym e) settled) m lib taken in
          let said : Text = search_text (net_of m) (network_of m) was.cert.last was.found in
          let drawn : Option Text = option_map design_text was.design in
          let is = says_of was.cert.last drawn (cert_text was.cert) said
          (worth-is words task asks taken.net_text m taken.taken lib was.cert was.found was.solves taken.lib_text taken.taken_library was.design was.drawn) in
          (drawn, cert_text was.cert, said, subst (λ (x : Status). SaysOf x drawn (cert_text was.cert) said) (sym was.same ∙ e) is, was.has_given)

      pub found : (r : Status) → EndsRun words old new r → (ratio : Ratio) → r ≡ Found ratio → HasGivenSome old new task (SaysOf (Found ratio))
      found r o ratio e = given_so r (Found ratio) o e tt

      pub undecided : (r : Status) → EndsRun words old new r → (ratio : Ratio) (spent : ℕ) → r ≡ Undecided ratio spent → HasGivenSome old new task (SaysOf (Undecided ratio spent))
      undecided r o ratio spent e = given_so r (Undecided ratio spent) o e tt

      pub none_within : (r : Status) → EndsRun words old new r → r ≡ NoneWithin → HasGivenSome old new task (SaysOf NoneWithin)
      none_within r o e = given_so r NoneWithin o e tt

      pub searched : (r : Status) → EndsRun words old new r → IsSettled r → (cert : Certificate) (layout : Option LaidOut) → Solves task m lib cert layout → r ≡ status_of cert.last
      searched r o settled cert layout solves =
          let was = was_solved r o settled m lib taken in
          was.same ∙ ap (λ (c : Certificate). status_of c.last) (one-solution (network_of m) (permit_of lib) task.limits task.budget was.cert cert was.found layout was.solves solves).0

  -- ---- the files are there

  is_there : (told : Option Files) (inputs : Names → Inputs) (task : Task) → AreTold told inputs → IsSome (inputs (read_for task)).net → IsThere told task.net
  is_there None inputs task same is = tt
  is_there (Some t) inputs task same is = subst (λ (i : Names → Inputs). IsSome (i (read_for task)).net) same is

  library_is_there : (told : Option Files) (inputs : Names → Inputs) (task : Task) → AreTold told inputs → IsSome (inputs (read_for task)).lib → IsThere told task.lib
  library_is_there None inputs task same is = tt
  library_is_there (Some t) inputs task same is = subst (λ (i : Names → Inputs). IsSome (i (read_for task)).lib) same is

  some_is : (o : Option Text) (text : Text) → o ≡ Some text → IsSome o
  some_is o text e = subst (λ (p : Option Text). IsSome p) (sym e) refl

  net_read : (task : Task) (inputs : Inputs) (a : Answer) → IsAnswerTo task inputs a → IsSome inputs.net
  net_read task inputs _ (refused_for f (by_module text is why)) = some_is inputs.net text is
  net_read task inputs _ (refused_for f (by_library text lib m is taken has why)) = some_is inputs.net text is
  net_read task inputs _ (searched_so m lib cert layout design taken solves drawn) = some_is inputs.net taken.net_text taken.net_is

  lib_read : (task : Task) (inputs : Inputs) (a : Answer) → IsAnswerTo task inputs a → HasSearched a.status → IsSome inputs.lib
  lib_read task inputs _ (refused_for f is) was = absurd was
  lib_read task inputs _ (searched_so m lib cert layout design taken solves drawn) was = some_is inputs.lib taken.lib_text taken.lib_is

  pub there : (r : Status) → EndsRun words old new r → IsSettled r → (task : Task) → IsTask words task → IsThere old.files task.net
  there r o settled task asks =
      let was = was_given r o settled in
      is_there old.files was.has.inputs task was.has.are_told (net_read task (was.has.inputs (read_for task)) was.answer (to_task words was.has.inputs was.answer task was.has.is asks))

  pub library_there : (r : Status) → EndsRun words old new r → HasSearched r → (task : Task) → IsTask words task → IsThere old.files task.lib
  library_there r o searched task asks =
      let was = was_given r o (settled_search r searched) in
      library_is_there old.files was.has.inputs task was.has.are_told
      (lib_read task (was.has.inputs (read_for task)) was.answer (to_task words was.has.inputs was.answer task was.has.is asks) (subst HasSearched was.same searched))

  -- ---- faults, and what stays

  -- an answer has no status that isn't settled
  unsettled : (a : Answer) (s : Status) → HasAnswer words old.files a → a.status ≡ s → IsSettled s
  unsettled a s has e = subst IsSettled e (settled_answer words has.inputs a has.is)

  pub settled_no_fault : (r : Status) → EndsRun words old new r → IsSettled r → new.faults ≡ old.faults
  settled_no_fault r o settled = let was = was_given r o settled in given_no_fault old new was.answer was.gives

  pub read_fault : (r : Status) → EndsRun words old new r → (which : Which) → r ≡ ReadFault which → HasReached words old.files which × FailsToLoad old new
  read_fault _ (given answer has gives) which e = absurd (unsettled answer (ReadFault which) has e)
  read_fault _ (ungiven answer other has fails) which e = let lost : WriteFault other ≡ ReadFault which = e in absurd (cc)
  read_fault _ (unread other reached fails) which e =
      let same : ReadFault other ≡ ReadFault which = e in
      let is : other ≡ which = cc in
      (subst (HasReached words old.files) is reached, fails)
  read_fault _ (no_memory same) which e = let lost : NoMemory ≡ ReadFault which = e in absurd (cc)

  pub write_fault : (r : Status) → EndsRun words old new r → (which : Which) → r ≡ WriteFault which → (answer : Answer) × HasAnswer words old.files answer × FailsToGive old new answer which
  write_fault _ (given answer has gives) which e = absurd (unsettled answer (WriteFault which) has e)
  write_fault _ (ungiven answer other has fails) which e =
      let same : WriteFault other ≡ WriteFault which = e in
      let is : other ≡ which = cc in
      (answer, has, subst (λ (w : Which). FailsToGive old new answer w) is fails)
  write_fault _ (unread other reached fails) which e = let lost : ReadFault other ≡ WriteFault which = e in absurd (cc)
  write_fault _ (no_memory same) which e = let lost : NoMemory ≡ WriteFault which = e in absurd (cc)

  pub read_rose : (r : Status) → EndsRun words old new r → (which : Which) → r ≡ ReadFault which → Rose old.faults.load new.faults.load
  read_rose r o which e = (read_fault r o which e).1.rose

  pub write_rose : (r : Status) → EndsRun words old new r → (which : Which) → r ≡ WriteFault which → RoseWriting which old.faults new.faults
  write_rose r o which e = let (answer, has, fails) = write_fault r o which e in rose_ungiven old new answer (answer_files words has.inputs answer has.is) which fails

  pub complete : (r : Status) → EndsRun words old new r → NoneRose old.faults new.faults → (r ≡ NoMemory) ⊎ IsSettled r
  complete _ (given answer has gives) none = inr (settled_answer words has.inputs answer has.is)
  complete _ (ungiven answer which has fails) none = absurd (some_rose old new answer which fails none)
  complete _ (unread which reached fails) none = absurd (none.load fails.rose)
  complete _ (no_memory same) none = inl refl

  pub no_memory_stays : (r : Status) → EndsRun words old new r → r ≡ NoMemory → new ≡ old
  no_memory_stays _ (given answer has gives) e = absurd (unsettled answer NoMemory has e)
  no_memory_stays _ (ungiven answer which has fails) e = let lost : WriteFault which ≡ NoMemory = e in absurd (cc)
  no_memory_stays _ (unread which reached fails) e = let lost : ReadFault which ≡ NoMemory = e in absurd (cc)
  no_memory_stays _ (no_memory same) e = same

  pub none_fell : (r : Status) → EndsRun words old new r → NoneFell old.faults new.faults
  none_fell _ (given answer has gives) = none_fell_same old.faults new.faults (given_no_fault old new answer gives)
  none_fell _ (ungiven answer which has fails) = none_fell_ungiven old new answer which fails
  none_fell _ (unread which reached fails) = none_fell_load old new fails
  none_fell _ (no_memory same) = none_fell_same old.faults new.faults (ap (λ (d : DeskState). d.faults) same)

  -- a file that no answer writes stays
  stays : (r : Status) → EndsRun words old new r → (q : Text) → ((a : Answer) → HasAnswer words old.files a → AreOthers q a.files) → file_at new.files q ≡ file_at old.files q
  stays _ (given answer has gives) q others = given_others old new answer q (others answer has) gives
  stays _ (ungiven answer which has fails) q others = ungiven_others old new answer q (others answer has) which fails
  stays _ (unread which reached fails) q others = ap (λ (d : DeskState). file_at d.files q) fails.kept
  stays _ (no_memory same) q others = ap (λ (d : DeskState). file_at d.files q) same

  pub others_stay : (r : Status) → EndsRun words old new r → (name : Text) → ((task : Task) → IsTask words task → (task.design ≢ name) × (task.cert ≢ name)) → file_at new.files name ≡ file_at old.files name
  others_stay r o name apart = stays r o name (λ a has. answer_others words has.inputs a name has.is apart)

  pub unwritten_stay : (r : Status) → EndsRun words old new r → (files : Files) → old.files ≡ Some files → (answer : Answer) → IsAnswer words (inputs_of files) answer → (name : Text) → AreOthers name answer.files
      → file_at new.files name ≡ file_at old.files name
  unwritten_stay r o files told answer is name others =
      stays r o name (λ a has. subst (λ (x : Answer). AreOthers name x.files) (one_answer words (inputs_of files) answer a is (told_gives a files has told)) others)
