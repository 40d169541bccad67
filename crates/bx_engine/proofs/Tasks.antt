-- What words ask for is one task, whatever number of workers they give; its options lie in their ranges, and no file is
-- written over another.
use Rattle.std.proofs.Common.{◌≡◌, ℕ, ◌≤◌, List, [], ◌∷◌, Option, Some, refl, sym, ap, ◌∙◌, subst, arith}
use Rattle.std.specs.Prelude.{◌≢◌}
use Rattle.std.proofs.lemmas.List.Elements.{All-head, All-tail}
use Rattle.bx_grid.specs.Orders.{AreLimits}
use Rattle.bx_grid.specs.declared.ratio.Limits.{Limits}
use Rattle.bx_words.specs.Verbs.{Text, verb_of}
use Rattle.bx_words.specs.Clap.{rows, given_in, named_in}
use Rattle.bx_words.specs.Names.{AreApart}
use Rattle.bx_words.specs.Words.{limits_of, value_at}
use Rattle.bx_words.specs.Workers.{DifferInWorkers}
use Rattle.bx_words.specs.declared.opts.Opt.{Opt}
use Rattle.bx_words.specs.declared.opts.Opt.TheVariants.{Area, Width, Height, Budget, Workers, Number, Gates, Extra}
use Rattle.bx_words.specs.declared.verbs.File.{File}
use Rattle.bx_words.specs.declared.verbs.File.TheVariants.{Net, Lib, Design as DesignFile, Cert}
use Rattle.bx_words.specs.declared.verbs.Verb.{Verb}
use Rattle.bx_words.specs.declared.verbs.Verb.TheVariants.{Design, Extract, Verify, Sample}
use Rattle.bx_words.proofs.CauseLemmas.{one_verb}
use Rattle.bx_words.proofs.Faultless.{IsFaultless, faultless, names_apart}
use Rattle.bx_words.proofs.Taken.{value_within}
use Rattle.bx_words.proofs.Workers.{faults, limits_same, budget_same}
use Rattle.bx_engine.specs.Answers.{Answer, IsAnswer, misused, answered, replied}
use Rattle.bx_engine.specs.Jobs.{Job, extracts, verifies, samples, IsJob, verb_for}
use Rattle.bx_engine.specs.Tasks.{Task, Names, Inputs, IsTask}

-- ---- one task

some_once : {A : Type 0} (o : Option A) (x y : A) → o ≡ Some x → o ≡ Some y → x ≡ y
some_once o x y e f = let same : Some x ≡ Some y = sym e ∙ f in cc

abbrev task_of : Text → Text → Text → Text → Limits → ℕ → Task
task_of net lib design cert limits budget = record { net = net; lib = lib; design = design; cert = cert; limits = limits; budget = budget }

pub one_task : (words : List Text) (a b : Task) → IsTask words a → IsTask words b → a ≡ b
one_task words a b x y =
    let nets : a.net ≡ b.net = some_once (named_in (rows Design words) Net) a.net b.net x.net y.net in
    let libs : a.lib ≡ b.lib = some_once (named_in (rows Design words) Lib) a.lib b.lib x.lib y.lib in
    let designs : a.design ≡ b.design = some_once (named_in (rows Design words) DesignFile) a.design b.design x.design y.design in
    let certs : a.cert ≡ b.cert = some_once (named_in (rows Design words) Cert) a.cert b.cert x.cert y.cert in
    let limits : a.limits ≡ b.limits = x.limits ∙ sym y.limits in
    let budgets : a.budget ≡ b.budget = x.budget ∙ sym y.budget in
    ap (λ (n : Text). task_of n a.lib a.design a.cert a.limits a.budget) nets
    ∙ ap (λ (n : Text). task_of b.net n a.design a.cert a.limits a.budget) libs
    ∙ ap (λ (n : Text). task_of b.net b.lib n a.cert a.limits a.budget) designs
    ∙ ap (λ (n : Text). task_of b.net b.lib b.design n a.limits a.budget) certs
    ∙ ap (λ (l : Limits). task_of b.net b.lib b.design b.cert l a.budget) limits
    ∙ ap (λ (n : ℕ). task_of b.net b.lib b.design b.cert b.limits n) budgets

-- ---- words with which nothing is wrong

module _ (words : List Text) (task : Task) (is : IsTask words task) where
  is_faultless : IsFaultless words Design
  is_faultless = faultless words Design is.no_fault is.verb

  pub limits_are : AreLimits task.limits
  limits_are =
      let given = given_in (rows Design words) in
      let area = value_within given 0 Area (is_faultless.taken Area (0, omega arith, refl)) in
      let width = value_within given (limits_of given).area Width (is_faultless.taken Width (1, omega arith, refl)) in
      let height = value_within given (limits_of given).area Height (is_faultless.taken Height (2, omega arith, refl)) in
      rw is.limits (record {
        some_area = area.least;
        some_width = width.least;
        some_height = height.least;
        area = area.most;
        width = width.most;
        height = height.most;
      })

  pub budget_is : task.budget ≤ 67108864
  budget_is = rw is.budget (value_within (given_in (rows Design words)) (limits_of (given_in (rows Design words))).area Budget (is_faultless.taken Budget (3, omega arith, refl))).most

  are_apart : AreApart (task.net ∷ task.lib ∷ []) (task.design ∷ task.cert ∷ [])
  are_apart = names_apart (rows Design words) task.net task.lib task.design task.cert is.net is.lib is.design is.cert is_faultless.apart

  pub design_net : task.design ≢ task.net
  design_net = All-head (λ other. task.design ≢ other) task.net (task.lib ∷ task.cert ∷ []) are_apart.0

  design_rest : task.design ≢ task.lib × (task.design ≢ task.cert)
  design_rest =
      let rest = All-tail (λ other. task.design ≢ other) task.net (task.lib ∷ task.cert ∷ []) are_apart.0 in (
        All-head (λ other. task.design ≢ other) task.lib (task.cert ∷ []) rest,
        All-head (λ other. task.design ≢ other) task.cert [] (All-tail (λ other. task.design ≢ other) task.lib (task.cert ∷ []) rest),
      )

  pub design_lib : task.design ≢ task.lib
  design_lib = design_rest.0

  pub design_cert : task.design ≢ task.cert
  design_cert = design_rest.1

  pub cert_net : task.cert ≢ task.net
  cert_net = All-head (λ other. task.cert ≢ other) task.net (task.lib ∷ []) are_apart.1.0

  pub cert_lib : task.cert ≢ task.lib
  cert_lib = All-head (λ other. task.cert ≢ other) task.lib [] (All-tail (λ other. task.cert ≢ other) task.net (task.lib ∷ []) are_apart.1.0)

-- ---- numbers of workers

module _ (one other : List Text) (d : DifferInWorkers one other) where
  pub one_for_all : (task : Task) → IsTask one task → IsTask other task
  one_for_all task is = record {
    no_fault = sym (faults one other d) ∙ is.no_fault;
    verb = subst (λ (v : Verb). verb_of other ≡ Some v) (sym verb_is) d.other_is_read.first;
    net = sym (names Net) ∙ is.net;
    lib = sym (names Lib) ∙ is.lib;
    design = sym (names DesignFile) ∙ is.design;
    cert = sym (names Cert) ∙ is.cert;
    limits = is.limits ∙ limits_same (given_in (rows Design one)) (given_in (rows Design other)) options;
    budget = is.budget ∙ budget_same (given_in (rows Design one)) (given_in (rows Design other)) options;
  } where
    verb_is : Design ≡ d.verb
    verb_is = one_verb (verb_of one) Design d.verb is.verb d.one_is_read.first

    names : (f : File) → named_in (rows Design one) f ≡ named_in (rows Design other) f
    names f = subst (λ (v : Verb). named_in (rows v one) f ≡ named_in (rows v other) f) (sym verb_is) (d.files f)

    options : (o : Opt) → o ≢ Workers → given_in (rows Design one) o ≡ given_in (rows Design other) o
    options o not_workers = subst (λ (v : Verb). given_in (rows v one) o ≡ given_in (rows v other) o) (sym verb_is) (d.options o not_workers)

  same_verb : (v : Verb) → verb_of one ≡ Some v → v ≡ d.verb
  same_verb v e = one_verb (verb_of one) v d.verb e d.one_is_read.first

  verb_too : (v : Verb) → verb_of one ≡ Some v → verb_of other ≡ Some v
  verb_too v e = subst (λ (w : Verb). verb_of other ≡ Some w) (sym (same_verb v e)) d.other_is_read.first

  names_too : (v : Verb) → verb_of one ≡ Some v → (f : File) (name : Text) → named_in (rows v one) f ≡ Some name → named_in (rows v other) f ≡ Some name
  names_too v e f name is = sym (subst (λ (w : Verb). named_in (rows w one) f ≡ named_in (rows w other) f) (sym (same_verb v e)) (d.files f)) ∙ is

  number_too : (o : Opt) → o ≢ Workers → verb_of one ≡ Some Sample → (n : ℕ) → n ≡ value_at 0 (given_in (rows Sample one)) o → n ≡ value_at 0 (given_in (rows Sample other)) o
  number_too o not_workers e n is =
      let given : given_in (rows Sample one) o ≡ given_in (rows Sample other) o =
      subst (λ (w : Verb). given_in (rows w one) o ≡ given_in (rows w other) o) (sym (same_verb Sample e)) (d.options o not_workers) in
      is ∙ ap (λ (x : Option Text). value_at 0 (λ p. x) o) given

  job_for_all : (job : Job) → IsJob one job → IsJob other job
  job_for_all (extracts lib design) is = record {
    no_fault = sym (faults one other d) ∙ is.no_fault;
    verb = verb_too Extract is.verb;
    given = (names_too Extract is.verb Lib lib is.given.0, names_too Extract is.verb DesignFile design is.given.1);
  }
  job_for_all (verifies net lib design cert) is = record {
    no_fault = sym (faults one other d) ∙ is.no_fault;
    verb = verb_too Verify is.verb;
    given = (
      names_too Verify is.verb Net net is.given.0,
      names_too Verify is.verb Lib lib is.given.1,
      names_too Verify is.verb DesignFile design is.given.2,
      names_too Verify is.verb Cert cert is.given.3,
    );
  }
  job_for_all (samples number gates extra) is = record {
    no_fault = sym (faults one other d) ∙ is.no_fault;
    verb = verb_too Sample is.verb;
    given = (
      number_too Number (λ e. cc) is.verb number is.given.0,
      number_too Gates (λ e. cc) is.verb gates is.given.1,
      number_too Extra (λ e. cc) is.verb extra is.given.2,
    );
  }

  pub answer_for_all : (inputs : Names → Inputs) (answer : Answer) → IsAnswer one inputs answer → IsAnswer other inputs answer
  answer_for_all inputs _ (misused fault is) = misused fault (sym (faults one other d) ∙ is)
  answer_for_all inputs answer (answered task _ asks to) = answered task answer (one_for_all task asks) to
  answer_for_all inputs answer (replied job _ asks to) = replied job answer (job_for_all job asks) to
