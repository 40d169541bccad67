-- What words ask for is one job at most, and each job has one answer.
use Rattle.std.proofs.Common.{◌≡◌, ◌⊎◌, ℕ, List, Option, Some, None, refl, sym, ◌∙◌, ap, ap₂, subst}
use Rattle.std.specs.Prelude.{◌↔◌, Bool, true, false, IsTrue, ⊤}
use Rattle.std.proofs.lemmas.Option.{same_Some}
use Rattle.bx_cert.specs.Certs.{Certificate}
use Rattle.bx_cert.specs.declared.parts.CertLast.{CertLast}
use Rattle.bx_cert.specs.declared.parts.CertLast.TheVariants as last
use Rattle.bx_design.proofs.OneSolution.{one-solution}
use Rattle.bx_design.specs.Solutions.{IsSolution}
use Rattle.bx_dots.specs.Cuts.{IsCut}
use Rattle.bx_dots.specs.Permits.{permit_of}
use Rattle.bx_layout.specs.Grids.{FormGrid, IsSound}
use Rattle.bx_library.specs.Tiles.{Tiles}
use Rattle.bx_siqad.specs.Designs.{Drawing}
use Rattle.bx_syntax.specs.Parts.{ModuleTree}
use Rattle.bx_verify.proofs.Parts.{verdict-once}
use Rattle.bx_verify.specs.Answers.{IsVerdict}
use Rattle.bx_verify.specs.declared.verdict.Verdict.{Verdict}
use Rattle.bx_verify.specs.declared.verdict.Verdict.TheVariants as verdict
use Rattle.bx_verilog.specs.Formulas.{Text}
use Rattle.bx_words.specs.Verbs.{verb_of}
use Rattle.bx_words.specs.Clap.{rows, named_in}
use Rattle.bx_words.specs.declared.faults.WordFault.{WordFault}
use Rattle.bx_words.specs.declared.verbs.File.TheVariants.{Net, Lib, Design as DesignFile, Cert}
use Rattle.bx_words.specs.declared.verbs.Verb.{Verb}
use Rattle.bx_words.specs.declared.verbs.Verb.TheVariants.{Design, Extract, Verify, Sample}
use Rattle.bx_words.proofs.CauseLemmas.{one_verb}
use Rattle.bx_engine.specs.declared.status.InputFault.{InputFault}
use Rattle.bx_engine.specs.declared.status.Status.{Status}
use Rattle.bx_engine.specs.declared.status.Status.TheVariants.{Found, Undecided, NoneWithin, Done, Minimal, Wrong, Refused, ReadFault, WriteFault, NoMemory, Words}
use Rattle.bx_engine.specs.Designs.{IsRefusedDesign, IsTakenDesign, IsRefusedCut, IsRefusedCert, IsTakenCert}
use Rattle.bx_engine.specs.Grids.{TellsGrid, grid_text}
use Rattle.bx_engine.specs.Jobs.{Job, extracts, verifies, samples, IsJob, verb_for}
use Rattle.bx_engine.specs.Samples.{sample_inputs, sample_limits, summary_text, TellsSampled}
use Rattle.bx_engine.specs.Replies.{Holds, IsBad, HoldsModule, HoldsLibrary, HoldsDesign, HoldsCert, IsUnextracted, bad_library, bad_design, uncut, IsExtracted, TellsExtracted, IsUnjudged, by_net, by_lib, by_design, by_cert, AreHeld, TellsJudged, IsRefusedFor, IsTold}
use Rattle.bx_engine.specs.Answers.{Answer, IsReply, turned_down, told, refusal, reply}
use Rattle.bx_engine.specs.Said.{input_fault_text}
use Rattle.bx_engine.specs.Statuses.{IsSettled, status_of}
use Rattle.bx_engine.specs.Tasks.{Task, Inputs, IsTask}
use Rattle.bx_engine.specs.Texts.{IsRefused, IsTaken, IsRefusedLibrary, IsTakenLibrary, network_of}
use Rattle.bx_engine.specs.Verdicts.{status_for, verdict_text}
use Rattle.bx_engine.proofs.Designs.{design_refused_once, design_not_both, one_drawing, cert_refused_once, cert_not_both, one_certificate, cut_refused_once, cut_not_both, one_grid}
use Rattle.bx_engine.proofs.Readings.{inputs_refused_once, inputs_not_both, inputs_taken_once, refused_once, not_both, one_module, library_refused_once, library_not_both, one_library}

-- ---- one job

some_once : {A : Type 0} (o : Option A) (x y : A) → o ≡ Some x → o ≡ Some y → x ≡ y
some_once o x y e f = let same : Some x ≡ Some y = sym e ∙ f in cc

not_design : (job : Job) → verb_for job ≡ Design → ⊥
not_design (extracts lib design) e = cc
not_design (verifies net lib design cert) e = cc
not_design (samples number gates extra) e = cc

module _ (words : List Text) where
  pub one_job : (a b : Job) → IsJob words a → IsJob words b → a ≡ b
  one_job (extracts lib design) (extracts book drawing) x y =
      ap₂ extracts (some_once (named_in (rows Extract words) Lib) lib book x.given.0 y.given.0)
      (some_once (named_in (rows Extract words) DesignFile) design drawing x.given.1 y.given.1)
  one_job (verifies n l d c) (verifies m k e f) x y =
      let nets = some_once (named_in (rows Verify words) Net) n m x.given.0 y.given.0 in
      let libs = some_once (named_in (rows Verify words) Lib) l k x.given.1 y.given.1 in
      let designs = some_once (named_in (rows Verify words) DesignFile) d e x.given.2 y.given.2 in
      let certs = some_once (named_in (rows Verify words) Cert) c f x.given.3 y.given.3 in
      ap₂ (λ (a : Text) (b : Text). verifies a b d c) nets libs ∙ ap₂ (λ (a : Text) (b : Text). verifies m k a b) designs certs
  one_job (extracts lib design) (verifies m k e f) x y =
      let lost : Extract ≡ Verify = one_verb (verb_of words) Extract Verify x.verb y.verb in absurd (cc)
  one_job (verifies m k e f) (extracts lib design) x y =
      let lost : Extract ≡ Verify = one_verb (verb_of words) Extract Verify y.verb x.verb in absurd (cc)
  one_job (samples n g e) (samples m h f) x y =
      ap₂ (λ (a : ℕ) (b : ℕ). samples a b e) (x.given.0 ∙ sym y.given.0) (x.given.1 ∙ sym y.given.1) ∙ ap (λ (a : ℕ). samples m h a) (x.given.2 ∙ sym y.given.2)
  one_job (extracts lib design) (samples n g e) x y =
      let lost : Extract ≡ Sample = one_verb (verb_of words) Extract Sample x.verb y.verb in absurd (cc)
  one_job (samples n g e) (extracts lib design) x y =
      let lost : Extract ≡ Sample = one_verb (verb_of words) Extract Sample y.verb x.verb in absurd (cc)
  one_job (verifies m k d c) (samples n g e) x y =
      let lost : Verify ≡ Sample = one_verb (verb_of words) Verify Sample x.verb y.verb in absurd (cc)
  one_job (samples n g e) (verifies m k d c) x y =
      let lost : Verify ≡ Sample = one_verb (verb_of words) Verify Sample y.verb x.verb in absurd (cc)

  pub no_task : (job : Job) (task : Task) → IsJob words job → IsTask words task → ⊥
  no_task job task x y = not_design job (one_verb (verb_of words) (verb_for job) Design x.verb y.verb)

-- ---- one file

module _ (A : Type 0) (Takes : Text → A → Type 0) (Refuses : Text → InputFault → Type 0) (file : Option Text) where
  holds_once : ((t : Text) (a b : A) → Takes t a → Takes t b → a ≡ b) → (a b : A) → Holds A Takes file a → Holds A Takes file b → a ≡ b
  holds_once once a b x y = once y.text a b (subst (λ (t : Text). Takes t a) (same_Some x.text y.text (sym x.is ∙ y.is)) x.taken) y.taken

  bad_once : ((t : Text) (f g : InputFault) → Refuses t f → Refuses t g → f ≡ g) → (f g : InputFault) → IsBad Refuses file f → IsBad Refuses file g → f ≡ g
  bad_once once f g x y = once y.text f g (subst (λ (t : Text). Refuses t f) (same_Some x.text y.text (sym x.is ∙ y.is)) x.why) y.why

  not_held : ((t : Text) (a : A) (f : InputFault) → Takes t a → Refuses t f → ⊥) → (a : A) (f : InputFault) → Holds A Takes file a → IsBad Refuses file f → ⊥
  not_held apart a f x y = apart y.text a f (subst (λ (t : Text). Takes t a) (same_Some x.text y.text (sym x.is ∙ y.is)) x.taken) y.why

module _ (inputs : Inputs) where
  module_once : (a b : ModuleTree) → HoldsModule inputs a → HoldsModule inputs b → a ≡ b
  module_once = holds_once ModuleTree IsTaken IsRefused inputs.net one_module

  module_bad_once : (f g : InputFault) → IsBad IsRefused inputs.net f → IsBad IsRefused inputs.net g → f ≡ g
  module_bad_once = bad_once ModuleTree IsTaken IsRefused inputs.net refused_once

  module_held : (m : ModuleTree) (f : InputFault) → HoldsModule inputs m → IsBad IsRefused inputs.net f → ⊥
  module_held = not_held ModuleTree IsTaken IsRefused inputs.net not_both

  library_once : (a b : Tiles) → HoldsLibrary inputs a → HoldsLibrary inputs b → a ≡ b
  library_once = holds_once Tiles IsTakenLibrary IsRefusedLibrary inputs.lib one_library

  library_bad_once : (f g : InputFault) → IsBad IsRefusedLibrary inputs.lib f → IsBad IsRefusedLibrary inputs.lib g → f ≡ g
  library_bad_once = bad_once Tiles IsTakenLibrary IsRefusedLibrary inputs.lib library_refused_once

  library_held : (l : Tiles) (f : InputFault) → HoldsLibrary inputs l → IsBad IsRefusedLibrary inputs.lib f → ⊥
  library_held = not_held Tiles IsTakenLibrary IsRefusedLibrary inputs.lib library_not_both

  drawing_once : (a b : Drawing) → HoldsDesign inputs a → HoldsDesign inputs b → a ≡ b
  drawing_once = holds_once Drawing IsTakenDesign IsRefusedDesign inputs.design one_drawing

  drawing_bad_once : (f g : InputFault) → IsBad IsRefusedDesign inputs.design f → IsBad IsRefusedDesign inputs.design g → f ≡ g
  drawing_bad_once = bad_once Drawing IsTakenDesign IsRefusedDesign inputs.design design_refused_once

  drawing_held : (d : Drawing) (f : InputFault) → HoldsDesign inputs d → IsBad IsRefusedDesign inputs.design f → ⊥
  drawing_held = not_held Drawing IsTakenDesign IsRefusedDesign inputs.design design_not_both

  pub cert_once : (a b : Certificate) → HoldsCert inputs a → HoldsCert inputs b → a ≡ b
  cert_once = holds_once Certificate IsTakenCert IsRefusedCert inputs.cert one_certificate

  cert_bad_once : (f g : InputFault) → IsBad IsRefusedCert inputs.cert f → IsBad IsRefusedCert inputs.cert g → f ≡ g
  cert_bad_once = bad_once Certificate IsTakenCert IsRefusedCert inputs.cert cert_refused_once

  cert_held : (c : Certificate) (f : InputFault) → HoldsCert inputs c → IsBad IsRefusedCert inputs.cert f → ⊥
  cert_held = not_held Certificate IsTakenCert IsRefusedCert inputs.cert cert_not_both

  -- ---- to extract

  -- what holds of the library and the drawing that are read holds of others that are
  of_both : (P : Tiles → Drawing → Type 0) (l k : Tiles) (d e : Drawing) → HoldsLibrary inputs l → HoldsLibrary inputs k → HoldsDesign inputs d → HoldsDesign inputs e → P l d → P k e
  of_both P l k d e a b x y p =
      subst (λ (z : Drawing). P k z) (drawing_once d e x y) (subst (λ (z : Tiles). P z d) (library_once l k a b) p)

  pub unextracted_once : (f g : InputFault) → IsUnextracted inputs f → IsUnextracted inputs g → f ≡ g
  unextracted_once f g (bad_library x) (bad_library y) = library_bad_once f g x y
  unextracted_once f g (bad_library x) (bad_design l h y) = absurd (library_held l f h x)
  unextracted_once f g (bad_library x) (uncut l d h k y) = absurd (library_held l f h x)
  unextracted_once f g (bad_design l h x) (bad_library y) = absurd (library_held l g h y)
  unextracted_once f g (bad_design l h x) (bad_design k j y) = drawing_bad_once f g x y
  unextracted_once f g (bad_design l h x) (uncut k d j i y) = absurd (drawing_held d f i x)
  unextracted_once f g (uncut l d h k x) (bad_library y) = absurd (library_held l g h y)
  unextracted_once f g (uncut l d h k x) (bad_design i j y) = absurd (drawing_held d g k y)
  unextracted_once f g (uncut l d h k x) (uncut i e j o y) =
      cut_refused_once i e f g j.taken.is (of_both (λ (z : Tiles) (w : Drawing). IsRefusedCut z w f) l i d e h j k o x) y

  pub extracted_or_not : (grid : FormGrid) (f : InputFault) → IsExtracted inputs grid → IsUnextracted inputs f → ⊥
  extracted_or_not grid f is (bad_library x) = library_held is.lib f is.library x
  extracted_or_not grid f is (bad_design l h x) = drawing_held is.drawing f is.design x
  extracted_or_not grid f is (uncut l d h k x) =
      cut_not_both is.lib is.drawing grid f is.library.taken.is is.cut
      (of_both (λ (z : Tiles) (w : Drawing). IsRefusedCut z w f) l is.lib d is.drawing h is.library k is.design x)

  pub extracted_once : (a b : FormGrid) → IsExtracted inputs a → IsExtracted inputs b → a ≡ b
  extracted_once a b x y =
      one_grid y.lib y.drawing a b y.library.taken.is
      (of_both (λ (z : Tiles) (w : Drawing). IsCut z w.ratio w.dots a) x.lib y.lib x.drawing y.drawing x.library y.library x.design y.design x.cut) y.cut

-- a grid is sound or isn't
one_truth : (P : Type 0) (a b : Bool) → (IsTrue a ↔ P) → (IsTrue b ↔ P) → a ≡ b
one_truth P true true x y = refl
one_truth P false false x y = refl
one_truth P true false x y = let lost : IsTrue false = y.1 (x.0 refl) in absurd (cc)
one_truth P false true x y = let lost : IsTrue false = x.1 (y.0 refl) in absurd (cc)

-- and is told in one way
pub grid_told_once : (grid : FormGrid) (s t : Text) → TellsGrid grid s → TellsGrid grid t → s ≡ t
grid_told_once grid s t x y = x.printed ∙ ap (λ (b : Bool). grid_text grid b) (one_truth (IsSound grid) x.sound y.sound x.is y.is) ∙ sym y.printed

pub extracted_told_once : (inputs : Inputs) (r s : Status) (t u : Text) → TellsExtracted inputs r t → TellsExtracted inputs s u → (r ≡ s) × (t ≡ u)
extracted_told_once inputs r s t u x y = (
  x.done ∙ sym y.done,
  grid_told_once y.grid t u (subst (λ (g : FormGrid). TellsGrid g t) (extracted_once inputs x.grid y.grid x.extracted y.extracted) x.tells) y.tells,
)

-- ---- to verify

module _ (inputs : Inputs) where
  pub unjudged_once : (f g : InputFault) → IsUnjudged inputs f → IsUnjudged inputs g → f ≡ g
  unjudged_once f g (by_net x) (by_net y) = module_bad_once inputs f g x y
  unjudged_once f g (by_net x) (by_lib m h y) = absurd (module_held inputs m f h x)
  unjudged_once f g (by_net x) (by_design m l h k y) = absurd (module_held inputs m f h x)
  unjudged_once f g (by_net x) (by_cert m l d h k j y) = absurd (module_held inputs m f h x)
  unjudged_once f g (by_lib m h x) (by_net y) = absurd (module_held inputs m g h y)
  unjudged_once f g (by_lib m h x) (by_lib n k y) = library_bad_once inputs f g x y
  unjudged_once f g (by_lib m h x) (by_design n l k j y) = absurd (library_held inputs l f j x)
  unjudged_once f g (by_lib m h x) (by_cert n l d k j i y) = absurd (library_held inputs l f j x)
  unjudged_once f g (by_design m l h k x) (by_net y) = absurd (module_held inputs m g h y)
  unjudged_once f g (by_design m l h k x) (by_lib n j y) = absurd (library_held inputs l g k y)
  unjudged_once f g (by_design m l h k x) (by_design n i j o y) = drawing_bad_once inputs f g x y
  unjudged_once f g (by_design m l h k x) (by_cert n i d j o p y) = absurd (drawing_held inputs d f p x)
  unjudged_once f g (by_cert m l d h k j x) (by_net y) = absurd (module_held inputs m g h y)
  unjudged_once f g (by_cert m l d h k j x) (by_lib n o y) = absurd (library_held inputs l g k y)
  unjudged_once f g (by_cert m l d h k j x) (by_design n i o p y) = absurd (drawing_held inputs d g j y)
  unjudged_once f g (by_cert m l d h k j x) (by_cert n i e o p q y) = cert_bad_once inputs f g x y

  pub judged_or_not : (m : ModuleTree) (lib : Tiles) (drawing : Drawing) (cert : Certificate) (f : InputFault) → AreHeld inputs m lib drawing cert → IsUnjudged inputs f → ⊥
  judged_or_not m lib drawing cert f are (by_net x) = module_held inputs m f are.net x
  judged_or_not m lib drawing cert f are (by_lib n h x) = library_held inputs lib f are.library x
  judged_or_not m lib drawing cert f are (by_design n l h k x) = drawing_held inputs drawing f are.design x
  judged_or_not m lib drawing cert f are (by_cert n l d h k j x) = cert_held inputs cert f are.certificate x

  -- what holds of what is read holds of others that are read
  pub of_all : (P : ModuleTree → Tiles → Drawing → Certificate → Type 0) (m n : ModuleTree) (l k : Tiles) (d e : Drawing) (c b : Certificate) → AreHeld inputs m l d c → AreHeld inputs n k e b → P m l d c → P n k e b
  of_all P m n l k d e c b x y p =
      subst (λ (z : Certificate). P n k e z) (cert_once inputs c b x.certificate y.certificate)
      (subst (λ (z : Drawing). P n k z c) (drawing_once inputs d e x.design y.design)
      (subst (λ (z : Tiles). P n z d c) (library_once inputs l k x.library y.library)
      (subst (λ (z : ModuleTree). P z l d c) (module_once inputs m n x.net y.net) p)))

  -- one verdict is told
  pub judged_once : (r : Status) (t : Text) (was : TellsJudged inputs r t) (m : ModuleTree) (lib : Tiles) (drawing : Drawing) (cert : Certificate) (v : Verdict)
      → AreHeld inputs m lib drawing cert → IsVerdict (network_of m) lib drawing cert v → (r ≡ status_for v) × (t ≡ verdict_text cert v)
  judged_once r t was m lib drawing cert v are is =
      let same : was.verdict ≡ v = verdict-once (network_of m) lib drawing cert was.verdict v
      (of_all (λ (n : ModuleTree) (l : Tiles) (d : Drawing) (c : Certificate). IsVerdict (network_of n) l d c was.verdict) was.m m was.lib lib was.drawing drawing was.cert cert was.held are was.judged) is in
      let certs : was.cert ≡ cert = cert_once inputs was.cert cert was.held.certificate are.certificate in (
        was.status_is ∙ ap status_for same,
        was.printed ∙ ap₂ (λ (c : Certificate) (w : Verdict). verdict_text c w) certs same,
      )

  pub judged_told_once : (r s : Status) (t u : Text) → TellsJudged inputs r t → TellsJudged inputs s u → (r ≡ s) × (t ≡ u)
  judged_told_once r s t u x y =
      let one = judged_once r t x y.m y.lib y.drawing y.cert y.verdict y.held y.judged in
      (one.0 ∙ sym y.status_is, one.1 ∙ sym y.printed)

-- ---- to sample

-- one solution is told
pub sampled_told_once : (n g e : ℕ) (r s : Status) (t u : Text) → TellsSampled n g e r t → TellsSampled n g e s u → (r ≡ s) × (t ≡ u)
sampled_told_once n g e r s t u x y =
    let same = inputs_taken_once (sample_inputs n g e) x.m y.m x.lib y.lib x.taken y.taken in
    let moved : IsSolution (network_of y.m) (permit_of y.lib) sample_limits 2000 x.cert x.found =
    subst (λ (l : Tiles). IsSolution (network_of y.m) (permit_of l) sample_limits 2000 x.cert x.found) same.1
    (subst (λ (m : ModuleTree). IsSolution (network_of m) (permit_of x.lib) sample_limits 2000 x.cert x.found) same.0 x.solves) in
    let certs : x.cert ≡ y.cert = (one-solution (network_of y.m) (permit_of y.lib) sample_limits 2000 x.cert y.cert x.found y.found moved y.solves).0 in (
      x.status_is ∙ ap (λ (c : Certificate). status_of c.last) certs ∙ sym y.status_is,
      x.printed ∙ ap₂ (λ (m : ModuleTree) (c : Certificate). summary_text n g e (network_of m) c) same.0 certs ∙ sym y.printed,
    )

-- ---- each job

module _ (inputs : Inputs) where
  pub job_refused_once : (job : Job) (f g : InputFault) → IsRefusedFor job inputs f → IsRefusedFor job inputs g → f ≡ g
  job_refused_once (extracts lib design) f g x y = unextracted_once inputs f g x y
  job_refused_once (verifies net lib design cert) f g x y = unjudged_once inputs f g x y
  job_refused_once (samples n k e) f g x y = inputs_refused_once (sample_inputs n k e) f g x y

  pub job_not_both : (job : Job) (f : InputFault) (s : Status) (t : Text) → IsTold job inputs s t → IsRefusedFor job inputs f → ⊥
  job_not_both (extracts lib design) f s t x y = extracted_or_not inputs x.grid f x.extracted y
  job_not_both (verifies net lib design cert) f s t x y = judged_or_not inputs x.m x.lib x.drawing x.cert f x.held y
  job_not_both (samples n g e) f s t x y = inputs_not_both (sample_inputs n g e) x.m x.lib f x.taken y

  pub job_told_once : (job : Job) (r s : Status) (t u : Text) → IsTold job inputs r t → IsTold job inputs s u → (r ≡ s) × (t ≡ u)
  job_told_once (extracts lib design) r s t u x y = extracted_told_once inputs r s t u x y
  job_told_once (verifies net lib design cert) r s t u x y = judged_told_once inputs r s t u x y
  job_told_once (samples n g e) r s t u x y = sampled_told_once n g e r s t u x y

-- ---- statuses

-- what was asked for was told
abbrev pub HasTold : Status → Type 0
HasTold (Found ratio) = ⊤
HasTold (Undecided ratio spent) = ⊤
HasTold NoneWithin = ⊤
HasTold (Minimal ratio) = ⊤
HasTold (Wrong part k) = ⊤
HasTold Done = ⊤
HasTold (Refused fault) = ⊥
HasTold (ReadFault which) = ⊥
HasTold (WriteFault which) = ⊥
HasTold NoMemory = ⊥
HasTold (Words fault) = ⊥

pub settled_told : (s : Status) → HasTold s → IsSettled s
settled_told (Found ratio) h = tt
settled_told (Undecided ratio spent) h = tt
settled_told NoneWithin h = tt
settled_told (Minimal ratio) h = tt
settled_told (Wrong part k) h = tt
settled_told Done h = tt
settled_told (Refused fault) h = absurd h
settled_told (ReadFault which) h = absurd h
settled_told (WriteFault which) h = absurd h
settled_told NoMemory h = absurd h
settled_told (Words fault) h = absurd h

verdict_told : (v : Verdict) → HasTold (status_for v)
verdict_told (verdict.Minimal ratio) = tt
verdict_told (verdict.Wrong part k) = tt

search_told : (l : CertLast) → HasTold (status_of l)
search_told (last.Found ratio spots) = tt
search_told (last.Undecided ratio spent) = tt
search_told last.NoneWithin = tt

-- ---- replies

module _ (job : Job) (inputs : Inputs) where
  told_status : (s : Status) (t : Text) → IsTold job inputs s t → HasTold s
  told_status s t x = by_job job x where
    by_job : (own : Job) → IsTold own inputs s t → HasTold s
    by_job (extracts lib design) y = subst HasTold (sym y.done) tt
    by_job (verifies net lib design cert) y = subst HasTold (sym y.status_is) (verdict_told y.verdict)
    by_job (samples number gates extra) y = subst HasTold (sym y.status_is) (search_told y.cert.last)

  pub one_reply : (a b : Answer) → IsReply job inputs a → IsReply job inputs b → a ≡ b
  one_reply _ _ (turned_down f x) (turned_down g y) = ap (λ (z : InputFault). refusal (Refused z) (input_fault_text z)) (job_refused_once inputs job f g x y)
  one_reply _ _ (turned_down f x) (told s t y) = absurd (job_not_both inputs job f s t y x)
  one_reply _ _ (told s t y) (turned_down f x) = absurd (job_not_both inputs job f s t y x)
  one_reply _ _ (told r t x) (told s u y) = let same = job_told_once inputs job r s t u x y in ap₂ reply same.0 same.1

  pub settled_reply : (a : Answer) → IsReply job inputs a → IsSettled a.status
  settled_reply _ (turned_down f x) = tt
  settled_reply _ (told s t x) = settled_told s (told_status s t x)

  pub reply_no_words : (a : Answer) (fault : WordFault) → IsReply job inputs a → a.status ≡ Words fault → ⊥
  reply_no_words _ fault (turned_down f x) e = let lost : Refused f ≡ Words fault = e in cc
  reply_no_words _ fault (told s t x) e = subst HasTold e (told_status s t x)

  pub reply_refused : (a : Answer) (fault : InputFault) → IsReply job inputs a → a.status ≡ Refused fault → IsRefusedFor job inputs fault × (a ≡ refusal (Refused fault) (input_fault_text fault))
  reply_refused _ fault (turned_down f x) e =
      let both : Refused f ≡ Refused fault = e in
      let same : f ≡ fault = cc in
      (subst (IsRefusedFor job inputs) same x, ap (λ (z : InputFault). refusal (Refused z) (input_fault_text z)) same)
  reply_refused _ fault (told s t x) e = absurd (subst HasTold e (told_status s t x))

  pub refused_reply : (a : Answer) (fault : InputFault) → IsReply job inputs a → IsRefusedFor job inputs fault → a.status ≡ Refused fault
  refused_reply _ fault (turned_down f x) y = ap Refused (job_refused_once inputs job f fault x y)
  refused_reply _ fault (told s t x) y = absurd (job_not_both inputs job fault s t x y)

  -- a reply that isn't a refusal tells what was asked for
  pub told_reply : (a : Answer) → IsReply job inputs a → HasTold a.status → IsTold job inputs a.status a.said × (a ≡ reply a.status a.said)
  told_reply _ (turned_down f x) h = absurd h
  told_reply _ (told s t x) h = (x, refl)

  -- so does one where that can be told
  pub reply_told : (a : Answer) (s : Status) (t : Text) → IsReply job inputs a → IsTold job inputs s t → a ≡ reply s t
  reply_told a s t x y = one_reply a (reply s t) x (told s t y)
