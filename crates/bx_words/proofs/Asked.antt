-- Words with which nothing is wrong say a command.
use Rattle.std.proofs.Common.{◌≡◌, ℕ, ◌≤◌, nat_lt, Bool, true, false, List, Option, Some, None, refl, sym, ap, ◌∙◌, arith, IsSome}
use Rattle.std.specs.Prelude.{if◌then◌else◌}
use Rattle.std.specs.Option.{option_map_or}
use Rattle.std.proofs.lemmas.Bool.{ltb-false, true≢false}
use Rattle.bx_words.specs.declared.opts.Opt.{Opt}
use Rattle.bx_words.specs.declared.opts.Opt.TheVariants.{Area, Width, Height, Workers, Number as SampleNumber, Gates, Extra}
use Rattle.bx_words.specs.declared.verbs.File.{File}
use Rattle.bx_words.specs.declared.verbs.File.TheVariants as file
use Rattle.bx_words.specs.declared.verbs.Verb.{Verb}
use Rattle.bx_words.specs.declared.verbs.Verb.TheVariants.{Design, Verify, Extract, Sample}
use Rattle.bx_words.specs.declared.faults.WordFault.TheVariants.{Command as NoVerb, Work}
use Rattle.bx_words.specs.declared.commands.Command.{Command}
use Rattle.bx_words.specs.declared.commands.Command.TheVariants as command
use Rattle.bx_words.specs.declared.commands.DesignCommand.{DesignCommand}
use Rattle.bx_words.specs.declared.commands.VerifyCommand.{VerifyCommand}
use Rattle.bx_words.specs.declared.commands.ExtractCommand.{ExtractCommand}
use Rattle.bx_words.specs.declared.commands.SampleCommand.{SampleCommand}
use Rattle.bx_words.specs.Options.{most_work}
use Rattle.bx_words.specs.Verbs.{Text, verb_of}
use Rattle.bx_words.specs.Clap.{given_in, named_in, rows}
use Rattle.bx_words.specs.Words.{first_fault, verb_fault, limits_of, budget_of, workers_of, value_at, work_of, work_fault, IsCommand}
use Rattle.bx_words.proofs.Faultless.{faultless, names_apart}
use Rattle.bx_words.proofs.Taken.{value_within}
use Rattle.bx_words.proofs.Walks.{named}

-- what stands in an option that isn't empty
abbrev the : {X : Type 0} (o : Option X) → IsSome o → X
the None some = absurd (true≢false (sym some))
the (Some x) some = x

the_is : {X : Type 0} (o : Option X) (some : IsSome o) → o ≡ Some (the o some)
the_is None some = absurd (true≢false (sym some))
the_is (Some x) some = refl

little_work : (n : ℕ) → work_fault n ≡ None → n ≤ most_work
little_work n none = go (nat_lt most_work n) refl none
  where
    go : (b : Bool) → nat_lt most_work n ≡ b → (if b then Some (Work n) else None) ≡ None → n ≤ most_work
    go true e none = cc
    go false e none = ltb-false most_work n e

module _ (words : List Text) (no_fault : first_fault words ≡ None) where
  design : verb_of words ≡ Some Design → (c : Command) × IsCommand words c
  design first =
      let found = rows Design words in
      let given = given_in found in
      let is = faultless words Design no_fault first in
      let names = named Design words is.has in
      let name = λ (f : File) (k : ℕ) (e : IsSome (named_in found f)). the (named_in found f) e in
      let net = names 0 file.Net (omega arith) in
      let lib = names 1 file.Net (omega arith) in
      let design = names 2 file.Net (omega arith) in
      let cert = names 3 file.Net (omega arith) in
      let area = value_within given 0 Area (is.taken Area (0, omega arith, refl)) in
      let width = value_within given (limits_of given).area Width (is.taken Width (1, omega arith, refl)) in
      let height = value_within given (limits_of given).area Height (is.taken Height (2, omega arith, refl)) in
      let workers = value_within given (limits_of given).area Workers (is.taken Workers (4, omega arith, refl)) in
      let asked : DesignCommand = record {
        net = record { ref_ptr = (0, 0); now = the (named_in found file.Net) net };
        lib = record { ref_ptr = (0, 0); now = the (named_in found file.Lib) lib };
        design = record { ref_ptr = (0, 0); now = the (named_in found file.Design) design };
        cert = record { ref_ptr = (0, 0); now = the (named_in found file.Cert) cert };
        limits = limits_of given;
        budget = budget_of given;
        workers = workers_of given;
        limits_are = record {
          some_area = area.least;
          some_width = width.least;
          some_height = height.least;
          area = area.most;
          width = width.most;
          height = height.most;
        };
        apart = names_apart found _ _ _ _ (the_is (named_in found file.Net) net) (the_is (named_in found file.Lib) lib)
            (the_is (named_in found file.Design) design) (the_is (named_in found file.Cert) cert) is.apart;
        work = little_work (work_of (limits_of given) (budget_of given)) is.own;
        some_workers = workers.least;
        few_workers = workers.most;
      } in (
        command.Design asked,
        record {
          verb = Design;
          first = first;
          says = record {
            net = the_is (named_in found file.Net) net;
            lib = the_is (named_in found file.Lib) lib;
            design = the_is (named_in found file.Design) design;
            cert = the_is (named_in found file.Cert) cert;
            limits = refl;
            budget = refl;
            workers = refl;
          };
        },
      )

  verify : verb_of words ≡ Some Verify → (c : Command) × IsCommand words c
  verify first =
      let found = rows Verify words in
      let given = given_in found in
      let is = faultless words Verify no_fault first in
      let names = named Verify words is.has in
      let net = names 0 file.Net (omega arith) in
      let lib = names 1 file.Net (omega arith) in
      let design = names 2 file.Net (omega arith) in
      let cert = names 3 file.Net (omega arith) in
      let workers = value_within given 0 Workers (is.taken Workers (0, omega arith, refl)) in
      let asked : VerifyCommand = record {
        net = record { ref_ptr = (0, 0); now = the (named_in found file.Net) net };
        lib = record { ref_ptr = (0, 0); now = the (named_in found file.Lib) lib };
        design = record { ref_ptr = (0, 0); now = the (named_in found file.Design) design };
        cert = record { ref_ptr = (0, 0); now = the (named_in found file.Cert) cert };
        workers = value_at 0 given Workers;
        some_workers = workers.least;
        few_workers = workers.most;
      } in (
        command.Verify asked,
        record {
          verb = Verify;
          first = first;
          says = record {
            net = the_is (named_in found file.Net) net;
            lib = the_is (named_in found file.Lib) lib;
            design = the_is (named_in found file.Design) design;
            cert = the_is (named_in found file.Cert) cert;
            workers = refl;
          };
        },
      )

  extract : verb_of words ≡ Some Extract → (c : Command) × IsCommand words c
  extract first =
      let found = rows Extract words in
      let is = faultless words Extract no_fault first in
      let names = named Extract words is.has in
      let lib = names 0 file.Net (omega arith) in
      let design = names 1 file.Net (omega arith) in
      let asked : ExtractCommand = record {
        lib = record { ref_ptr = (0, 0); now = the (named_in found file.Lib) lib };
        design = record { ref_ptr = (0, 0); now = the (named_in found file.Design) design };
      } in (
        command.Extract asked,
        record {
          verb = Extract;
          first = first;
          says = record {
            lib = the_is (named_in found file.Lib) lib;
            design = the_is (named_in found file.Design) design;
          };
        },
      )

  sample : verb_of words ≡ Some Sample → (c : Command) × IsCommand words c
  sample first =
      let given = given_in (rows Sample words) in
      let is = faultless words Sample no_fault first in
      let number = value_within given 0 SampleNumber (is.taken SampleNumber (0, omega arith, refl)) in
      let gates = value_within given 0 Gates (is.taken Gates (1, omega arith, refl)) in
      let extra = value_within given 0 Extra (is.taken Extra (2, omega arith, refl)) in
      let asked : SampleCommand = record {
        number = value_at 0 given SampleNumber;
        gates = value_at 0 given Gates;
        extra = value_at 0 given Extra;
        number_is = number.most;
        some_gates = gates.least;
        few_gates = gates.most;
        few_extra = extra.most;
      } in (
        command.Sample asked,
        record {
          verb = Sample;
          first = first;
          says = record { number = refl; gates = refl; extra = refl };
        },
      )

  pub asked : (c : Command) × IsCommand words c
  asked = go (verb_of words) refl
    where
      go : (verb : Option Verb) → verb_of words ≡ verb → (c : Command) × IsCommand words c
      go None e = let fault : Some NoVerb ≡ None = sym (ap (λ v. option_map_or (verb_fault words) v (Some NoVerb)) e) ∙ no_fault in cc
      go (Some Design) e = design e
      go (Some Verify) e = verify e
      go (Some Extract) e = extract e
      go (Some Sample) e = sample e
