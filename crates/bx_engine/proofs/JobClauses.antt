-- What each clause of a run says of the commands that write no file, from how the run ended.
use Rattle.std.proofs.Common.{◌≡◌, ℕ, List, Option, Some, None, refl, sym, ◌∙◌, ap, ap₂, subst}
use Rattle.bx_cert.specs.Certs.{Certificate}
use Rattle.bx_desk.specs.Desk.{DeskState, Files, Says}
use Rattle.bx_design.specs.Solutions.{IsSolution}
use Rattle.bx_design.specs.declared.solution.LaidOut.{LaidOut}
use Rattle.bx_dots.specs.Permits.{permit_of}
use Rattle.bx_grid.specs.declared.ratio.Ratio.{Ratio}
use Rattle.bx_layout.specs.Grids.{FormGrid}
use Rattle.bx_library.specs.Tiles.{Tiles}
use Rattle.bx_siqad.specs.Designs.{Drawing}
use Rattle.bx_syntax.specs.Parts.{ModuleTree}
use Rattle.bx_verify.specs.Answers.{IsVerdict}
use Rattle.bx_verify.specs.Failing.{NoneFails, IsFirstToFail}
use Rattle.bx_verify.specs.Meaning.{IsMinimal, Means}
use Rattle.bx_verify.specs.declared.verdict.Part.{Part}
use Rattle.bx_verify.specs.declared.verdict.Verdict.{Verdict}
use Rattle.bx_verify.specs.declared.verdict.Verdict.TheVariants as verdict
use Rattle.bx_verilog.specs.Elaboration.{net_of}
use Rattle.bx_verilog.specs.Formulas.{Text}
use Rattle.bx_engine.specs.declared.status.InputFault.{InputFault}
use Rattle.bx_engine.specs.declared.status.Status.{Status}
use Rattle.bx_engine.specs.declared.status.Status.TheVariants.{Refused, Done, Minimal, Wrong}
use Rattle.bx_engine.specs.Answers.{Answer, IsReply, turned_down, told as is_told, reply}
use Rattle.bx_engine.specs.Effects.{Gives, file_at}
use Rattle.bx_engine.specs.Grids.{TellsGrid}
use Rattle.bx_engine.specs.Jobs.{Job, extracts, verifies, samples, IsJob, names_for}
use Rattle.bx_engine.specs.Replies.{IsUnextracted, IsExtracted, IsUnjudged, AreHeld, IsRefusedFor, IsTold}
use Rattle.bx_engine.specs.Runs.{EndsRun}
use Rattle.bx_engine.specs.Samples.{sample_inputs, sample_limits, summary_text}
use Rattle.bx_engine.specs.Statuses.{IsSettled, status_of}
use Rattle.bx_engine.specs.Tasks.{Task, Names, Inputs, IsTask, inputs_of}
use Rattle.bx_engine.specs.Texts.{AreRefused, AreTaken, network_of}
use Rattle.bx_engine.specs.Verdicts.{status_for, verdict_text}
use Rattle.bx_engine.proofs.Answers.{to_job}
use Rattle.bx_engine.proofs.Clauses.{answered, told_gives, others_stay}
use Rattle.bx_engine.proofs.Jobs.{HasTold, settled_told, no_task, reply_refused, refused_reply, reply_told, extracted_or_not, extracted_once, judged_or_not, of_all, cert_once}

-- a reply was said, and nothing was written
says_reply : (old new : DeskState) (s : Status) (t : Text) → Gives old new (reply s t) → Says old new t
says_reply old new s t gives = subst (λ (d : DeskState). Says d new t) gives.files gives.said

module _ (words : List Text) (old new : DeskState) (r : Status) (o : EndsRun words old new r) where
  -- nothing is written for a job
  pub jobs_stay : (job : Job) → IsJob words job → (name : Text) → file_at new.files name ≡ file_at old.files name
  jobs_stay job asks name = others_stay words old new r o name (λ task is. absurd (no_task words job task asks is))

  module _ (job : Job) (files : Files) (asks : IsJob words job) (told : old.files ≡ Some files) where
    abbrev read : Inputs
    read = inputs_of files (names_for job)

    -- the reply that was given
    record WasReplied : Type 0 where
      pub answer : Answer
      pub is : IsReply job read answer
      pub same : r ≡ answer.status
      pub gives : Gives old new answer

    was_replied : IsSettled r → WasReplied
    was_replied settled =
        let was = answered words old new r o settled in
        record {
          answer = was.0;
          is = to_job words (inputs_of files) was.0 job (told_gives words old new was.0 files was.1 told) asks;
          same = was.2;
          gives = was.3;
        }

    pub job_refused_only : (fault : InputFault) → r ≡ Refused fault → IsRefusedFor job read fault
    job_refused_only fault e =
        let was = was_replied (subst IsSettled (sym e) tt) in
        (reply_refused job read was.answer fault was.is (sym was.same ∙ e)).0

    pub job_refused : IsSettled r → (fault : InputFault) → IsRefusedFor job read fault → r ≡ Refused fault
    job_refused settled fault h =
        let was = was_replied settled in
        was.same ∙ refused_reply job read was.answer fault was.is h

    -- what was told
    pub record WasTold : Type 0 where
      pub said : Text
      pub is : IsTold job read r said
      pub says : Says old new said

    told_as : (a : Answer) → IsReply job read a → r ≡ a.status → Gives old new a → ((fault : InputFault) → IsRefusedFor job read fault → a.status ≡ Refused fault → ⊥) → WasTold
    told_as _ (turned_down f x) same gives not = absurd (not f x refl)
    told_as _ (is_told s t x) same gives not = record {
      said = t;
      is = subst (λ (z : Status). IsTold job read z t) (sym same) x;
      says = says_reply old new s t gives;
    }

    -- something was, where nothing is refused
    pub was_told : IsSettled r → ((fault : InputFault) → IsRefusedFor job read fault → ⊥) → WasTold
    was_told settled not =
        let was = was_replied settled in
        told_as was.answer was.is was.same was.gives (λ f x e. not f x)

    -- and where the status says so
    pub status_told : HasTold r → WasTold
    status_told h =
        let was = was_replied (settled_told r h) in
        told_as was.answer was.is was.same was.gives (λ f x e. subst HasTold (was.same ∙ e) h)

  -- ---- to extract

  module _ (lib design : Text) (files : Files) (asks : IsJob words (extracts lib design)) (told : old.files ≡ Some files) where
    abbrev cut_from : Inputs
    cut_from = inputs_of files (names_for (extracts lib design))

    pub unextracted_only : (fault : InputFault) → r ≡ Refused fault → IsUnextracted cut_from fault
    unextracted_only = job_refused_only (extracts lib design) files asks told

    pub unextracted : IsSettled r → (fault : InputFault) → IsUnextracted cut_from fault → r ≡ Refused fault
    unextracted = job_refused (extracts lib design) files asks told

    pub extracted_only : r ≡ Done → (grid : FormGrid) × IsExtracted cut_from grid
    extracted_only e =
        let was = status_told (extracts lib design) files asks told (subst HasTold (sym e) tt) in
        (was.is.grid, was.is.extracted)

    pub extracted : IsSettled r → (grid : FormGrid) → IsExtracted cut_from grid → (r ≡ Done) × ((said : Text) × TellsGrid grid said × Says old new said)
    extracted settled grid is =
        let was = was_told (extracts lib design) files asks told settled (λ f x. extracted_or_not cut_from grid f is x) in
        (was.is.done, (was.said, subst (λ (g : FormGrid). TellsGrid g was.said) (extracted_once cut_from was.is.grid grid was.is.extracted is) was.is.tells, was.says))

  -- ---- to verify

  module _ (net lib design cert : Text) (files : Files) (asks : IsJob words (verifies net lib design cert)) (told : old.files ≡ Some files) where
    abbrev judged_from : Inputs
    judged_from = inputs_of files (names_for (verifies net lib design cert))

    pub unjudged_only : (fault : InputFault) → r ≡ Refused fault → IsUnjudged judged_from fault
    unjudged_only = job_refused_only (verifies net lib design cert) files asks told

    pub unjudged : IsSettled r → (fault : InputFault) → IsUnjudged judged_from fault → r ≡ Refused fault
    unjudged = job_refused (verifies net lib design cert) files asks told

    module _ (m : ModuleTree) (book : Tiles) (drawing : Drawing) (c : Certificate) (held : AreHeld judged_from m book drawing c) where
      -- the verdict that was told
      record WasJudged : Type 0 where
        pub verdict : Verdict
        pub judged : IsVerdict (network_of m) book drawing c verdict
        pub means : Means (net_of m) book drawing c verdict
        pub same : r ≡ status_for verdict
        pub says : Says old new (verdict_text c verdict)

      was_judged : IsSettled r → WasJudged
      was_judged settled =
          let was = was_told (verifies net lib design cert) files asks told settled (λ f x. judged_or_not judged_from m book drawing c f held x) in
          let it = was.is in
          record {
            verdict = it.verdict;
            judged = of_all judged_from (λ (n : ModuleTree) (l : Tiles) (d : Drawing) (b : Certificate). IsVerdict (network_of n) l d b it.verdict) it.m m it.lib book it.drawing drawing it.cert c it.held held it.judged;
            means = of_all judged_from (λ (n : ModuleTree) (l : Tiles) (d : Drawing) (b : Certificate). Means (net_of n) l d b it.verdict) it.m m it.lib book it.drawing drawing it.cert c it.held held it.means;
            same = it.status_is;
            says = subst (λ (t : Text). Says old new t)
                (it.printed ∙ ap (λ (b : Certificate). verdict_text b it.verdict) (cert_once judged_from it.cert c it.held.certificate held.certificate)) was.says;
          }

      pub judged : IsSettled r → (v : Verdict) × IsVerdict (network_of m) book drawing c v × (r ≡ status_for v) × Says old new (verdict_text c v)
      judged settled = let was = was_judged settled in (was.verdict, was.judged, was.same, was.says)

      minimal_by : (v : Verdict) (ratio : Ratio) → status_for v ≡ Minimal ratio → v ≡ verdict.Minimal ratio
      minimal_by (verdict.Minimal q) ratio e =
          let both : Minimal q ≡ Minimal ratio = e in
          let same : q ≡ ratio = cc in
          ap verdict.Minimal same
      minimal_by (verdict.Wrong p k) ratio e = let lost : Wrong p k ≡ Minimal ratio = e in absurd (cc)

      pub minimal : (ratio : Ratio) → r ≡ Minimal ratio → NoneFails (network_of m) book drawing c × IsMinimal (net_of m) book drawing c ratio
      minimal ratio e =
          let was = was_judged (subst IsSettled (sym e) tt) in
          let same : was.verdict ≡ verdict.Minimal ratio = minimal_by was.verdict ratio (sym was.same ∙ e) in
          let judged : IsVerdict (network_of m) book drawing c (verdict.Minimal ratio) = subst (IsVerdict (network_of m) book drawing c) same was.judged in
          let means : Means (net_of m) book drawing c (verdict.Minimal ratio) = subst (Means (net_of m) book drawing c) same was.means in
          (judged.1, means)

      wrong_by : (v : Verdict) (part : Part) (k : ℕ) → status_for v ≡ Wrong part k → v ≡ verdict.Wrong part k
      wrong_by (verdict.Minimal q) part k e = let lost : Minimal q ≡ Wrong part k = e in absurd (cc)
      wrong_by (verdict.Wrong p j) part k e =
          let both : Wrong p j ≡ Wrong part k = e in
          let parts : p ≡ part = cc in
          let numbers : j ≡ k = cc in
          ap₂ verdict.Wrong parts numbers

      pub wrong : (part : Part) (k : ℕ) → r ≡ Wrong part k → IsFirstToFail (network_of m) book drawing c part k
      wrong part k e =
          let was = was_judged (subst IsSettled (sym e) tt) in
          subst (IsVerdict (network_of m) book drawing c) (wrong_by was.verdict part k (sym was.same ∙ e)) was.judged

  -- ---- to sample

  module _ (n g e : ℕ) (asks : IsJob words (samples n g e)) where
    record WasSampled : Type 0 where
      pub inputs : Inputs
      pub answer : Answer
      pub is : IsReply (samples n g e) inputs answer
      pub same : r ≡ answer.status
      pub gives : Gives old new answer

    was_sampled : IsSettled r → WasSampled
    was_sampled settled =
        let was = answered words old new r o settled in
        record {
          inputs = was.1.inputs (names_for (samples n g e));
          answer = was.0;
          is = to_job words was.1.inputs was.0 (samples n g e) was.1.is asks;
          same = was.2;
          gives = was.3;
        }

    pub unsampled_only : (fault : InputFault) → r ≡ Refused fault → AreRefused (sample_inputs n g e) fault
    unsampled_only fault x =
        let was = was_sampled (subst IsSettled (sym x) tt) in
        (reply_refused (samples n g e) was.inputs was.answer fault was.is (sym was.same ∙ x)).0

    pub unsampled : IsSettled r → (fault : InputFault) → AreRefused (sample_inputs n g e) fault → r ≡ Refused fault
    unsampled settled fault h =
        let was = was_sampled settled in
        was.same ∙ refused_reply (samples n g e) was.inputs was.answer fault was.is h

    module _ (m : ModuleTree) (lib : Tiles) (taken : AreTaken (sample_inputs n g e) m lib) (cert : Certificate) (found : Option LaidOut)
        (solves : IsSolution (network_of m) (permit_of lib) sample_limits 2000 cert found) where
      pub sampled : IsSettled r → (r ≡ status_of cert.last) × Says old new (summary_text n g e (network_of m) cert)
      sampled settled =
          let was = was_sampled settled in
          let is = reply_told (samples n g e) was.inputs was.answer (status_of cert.last) (summary_text n g e (network_of m) cert) was.is (record {
            m = m;
            lib = lib;
            taken = taken;
            cert = cert;
            found = found;
            solves = solves;
            status_is = refl;
            printed = refl;
          }) in (
            was.same ∙ ap (λ (a : Answer). a.status) is,
            says_reply old new (status_of cert.last) (summary_text n g e (network_of m) cert) (subst (λ (a : Answer). Gives old new a) is was.gives),
          )
