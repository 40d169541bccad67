-- All numbers of workers count as one.
use Rattle.std.proofs.Common.{◌≡◌, ℕ, ◌||◌, ◌&&◌, not, Bool, false, List, [], ◌∷◌, Option, Some, None, refl, sym, ap, subst, ◌∙◌}
use Rattle.std.specs.Prelude.{◌≢◌, find, if◌then◌else◌}
use Rattle.std.specs.List.{list_any}
use Rattle.std.specs.Option.{option_map_or}
use Rattle.clap.specs.Walk.{Row}
use Rattle.bx_grid.specs.declared.ratio.Limits.{Limits}
use Rattle.bx_words.specs.declared.opts.Opt.{Opt}
use Rattle.bx_words.specs.declared.opts.Opt.TheVariants.{Area, Width, Height, Budget, Workers, Number as SampleNumber, Gates, Extra}
use Rattle.bx_words.specs.declared.verbs.File.{File}
use Rattle.bx_words.specs.declared.verbs.File.TheVariants as file
use Rattle.bx_words.specs.declared.verbs.Verb.{Verb}
use Rattle.bx_words.specs.declared.verbs.Verb.TheVariants.{Design, Verify, Extract, Sample}
use Rattle.bx_words.specs.declared.faults.WordFault.TheVariants.{Number, Range, Same}
use Rattle.bx_words.specs.declared.commands.Command.{Command}
use Rattle.bx_words.specs.declared.commands.Command.TheVariants as command
use Rattle.bx_words.specs.Options.{default_of}
use Rattle.bx_words.specs.Verbs.{Text, line_of, opts_of, verb_of}
use Rattle.bx_words.specs.Clap.{rows, given_in, named_in}
use Rattle.bx_words.specs.Names.{have_one_name, is_same, is_written_over}
use Rattle.bx_words.specs.Numbers.{Given, IsTaken, is_no_number, is_number, is_out_of_range, is_in_range, number_of, first_no_number, first_out_of_range}
use Rattle.bx_words.specs.Words.{value_at, area_of, limits_of, budget_of, work_of, work_fault, option_fault, or_next, same_fault, own_fault, found_fault, first_fault, IsCommand, IsCommandOf}
use Rattle.bx_words.specs.Workers.{AskForOne, DifferInWorkers}
use Rattle.bx_words.proofs.CauseLemmas.{one_verb, read_fault}

-- ---- tests that agree at each element

find_same : (p q : Opt → Bool) → ((o : Opt) → p o ≡ q o) → (xs : List Opt) → find p xs ≡ find q xs
find_same p q same [] = refl
find_same p q same (x ∷ xs) =
    ap (λ (b : Bool). if b then Some x else find p xs) (same x) ∙ ap (λ rest. if q x then Some x else rest) (find_same p q same xs)

any_same : (p q : File → Bool) → ((x : File) → p x ≡ q x) → (xs : List File) → list_any p xs ≡ list_any q xs
any_same p q same [] = refl
any_same p q same (x ∷ xs) = ap (λ (b : Bool). b || list_any p xs) (same x) ∙ ap (λ (b : Bool). q x || b) (any_same p q same xs)

-- ---- what is found

module _ (a b : List Row) (files : (file : File) → named_in a file ≡ named_in b file) where
  one_name_same : (one two : File) → have_one_name a one two ≡ have_one_name b one two
  one_name_same one two =
      ap (λ x. is_same x (named_in a two)) (files one) ∙ ap (λ y. is_same (named_in b one) y) (files two)

  over_same : (read written : List File) → is_written_over a read written ≡ is_written_over b read written
  over_same read [] = refl
  over_same read (file ∷ written) =
      ap (λ (t : Bool). t || (list_any (have_one_name a file) written || is_written_over a read written))
      (any_same (have_one_name a file) (have_one_name b file) (one_name_same file) read)
      ∙ ap (λ (t : Bool). list_any (have_one_name b file) read || (t || is_written_over a read written))
      (any_same (have_one_name a file) (have_one_name b file) (one_name_same file) written)
      ∙ ap (λ (t : Bool). list_any (have_one_name b file) read || (list_any (have_one_name b file) written || t)) (over_same read written)

module _ (g h : Given) (options : (o : Opt) → o ≢ Workers → g o ≡ h o) where
  value_same : (area : ℕ) (o : Opt) → o ≢ Workers → value_at area g o ≡ value_at area h o
  value_same area o other = ap (λ (t : Option Text). option_map_or number_of t (default_of o area)) (options o other)

  area_same : area_of g ≡ area_of h
  area_same = value_same 0 Area (λ e. cc)

  later_same : (o : Opt) → o ≢ Workers → value_at (area_of g) g o ≡ value_at (area_of h) h o
  later_same o other = ap (λ (n : ℕ). value_at n g o) area_same ∙ value_same (area_of h) o other

  abbrev limits_at : ℕ → ℕ → ℕ → Limits
  limits_at area width height = record { area = area; width = width; height = height }

  pub limits_same : limits_of g ≡ limits_of h
  limits_same =
      ap (λ (n : ℕ). limits_at n (value_at (area_of g) g Width) (value_at (area_of g) g Height)) area_same
      ∙ ap (λ (n : ℕ). limits_at (area_of h) n (value_at (area_of g) g Height)) (later_same Width (λ e. cc))
      ∙ ap (λ (n : ℕ). limits_at (area_of h) (value_at (area_of h) h Width) n) (later_same Height (λ e. cc))

  pub budget_same : budget_of g ≡ budget_of h
  budget_same = later_same Budget (λ e. cc)

  work_same : work_of (limits_of g) (budget_of g) ≡ work_of (limits_of h) (budget_of h)
  work_same = ap (λ l. work_of l (budget_of g)) limits_same ∙ ap (λ n. work_of (limits_of h) n) budget_same

  module _ (p : IsTaken g Workers) (q : IsTaken h Workers) where
    test_same : (test : Option Text → Opt → Bool) → test (g Workers) Workers ≡ false → test (h Workers) Workers ≡ false
        → (o : Opt) → test (g o) o ≡ test (h o) o
    test_same test e f Area = ap (λ t. test t Area) (options Area (λ e. cc))
    test_same test e f Width = ap (λ t. test t Width) (options Width (λ e. cc))
    test_same test e f Height = ap (λ t. test t Height) (options Height (λ e. cc))
    test_same test e f Budget = ap (λ t. test t Budget) (options Budget (λ e. cc))
    test_same test e f Workers = e ∙ sym f
    test_same test e f SampleNumber = ap (λ t. test t SampleNumber) (options SampleNumber (λ e. cc))
    test_same test e f Gates = ap (λ t. test t Gates) (options Gates (λ e. cc))
    test_same test e f Extra = ap (λ t. test t Extra) (options Extra (λ e. cc))

    first_no_number_same : (xs : List Opt) → first_no_number xs g ≡ first_no_number xs h
    first_no_number_same =
        find_same (is_no_number g) (is_no_number h)
        (test_same (λ text o. option_map_or (λ t. not (is_number t)) text false) p.0 q.0)

    first_out_of_range_same : (xs : List Opt) → first_out_of_range xs g ≡ first_out_of_range xs h
    first_out_of_range_same =
        find_same (is_out_of_range g) (is_out_of_range h)
        (test_same (λ text o. option_map_or (λ t. is_number t && not (is_in_range o (number_of t))) text false) p.1 q.1)

    option_fault_same : (xs : List Opt) → option_fault xs g ≡ option_fault xs h
    option_fault_same xs =
        ap (λ n. or_next (option_map_or (λ o. Some (Number o)) n None) (option_map_or (λ o. Some (Range o)) (first_out_of_range xs g) None))
        (first_no_number_same xs)
        ∙ ap (λ r. or_next (option_map_or (λ o. Some (Number o)) (first_no_number xs h) None) (option_map_or (λ o. Some (Range o)) r None))
        (first_out_of_range_same xs)

-- ---- words

module _ (one other : List Text) (d : DifferInWorkers one other) where
  abbrev found : List Row
  found = rows d.verb one

  abbrev found_too : List Row
  found_too = rows d.verb other

  own_same : (verb : Verb) → own_fault verb found ≡ own_fault verb found_too
  own_same Verify = refl
  own_same Extract = refl
  own_same Sample = refl
  own_same Design = ap work_fault (work_same (given_in found) (given_in found_too) d.options)

  same_same : (verb : Verb) → same_fault verb found ≡ same_fault verb found_too
  same_same verb =
      ap (λ (t : Bool). if t then Some Same else None) (over_same found found_too d.files (line_of verb).read (line_of verb).written)

  found_same : found_fault d.verb found ≡ found_fault d.verb found_too
  found_same =
      ap (λ f. or_next f (or_next (same_fault d.verb found) (own_fault d.verb found)))
      (option_fault_same (given_in found) (given_in found_too) d.options d.one_is_taken d.other_is_taken (opts_of (line_of d.verb)))
      ∙ ap (λ f. or_next (option_fault (opts_of (line_of d.verb)) (given_in found_too)) (or_next f (own_fault d.verb found))) (same_same d.verb)
      ∙ ap (λ f. or_next (option_fault (opts_of (line_of d.verb)) (given_in found_too)) (or_next (same_fault d.verb found_too) f)) (own_same d.verb)

  pub faults : first_fault one ≡ first_fault other
  faults = read_fault one d.verb d.one_is_read ∙ found_same ∙ sym (read_fault other d.verb d.other_is_read)

  some_once : (o p : Option Text) (x y : Text) → o ≡ p → o ≡ Some x → p ≡ Some y → x ≡ y
  some_once o p x y same e f = let both : Some x ≡ Some y = sym e ∙ same ∙ f in cc

  -- both name the same files and the same numbers but that of workers, whatever the command is
  name_same : (verb : Verb) → verb ≡ d.verb → (f : File) (x y : Text) → named_in (rows verb one) f ≡ Some x
      → named_in (rows verb other) f ≡ Some y → x ≡ y
  name_same verb is f x y a b =
      some_once (named_in (rows verb one) f) (named_in (rows verb other) f) x y
      (subst (λ (v : Verb). named_in (rows v one) f ≡ named_in (rows v other) f) (sym is) (d.files f)) a b

  given_same : (verb : Verb) → verb ≡ d.verb → (o : Opt) → o ≢ Workers → given_in (rows verb one) o ≡ given_in (rows verb other) o
  given_same verb is o not_workers =
      subst (λ (v : Verb). given_in (rows v one) o ≡ given_in (rows v other) o) (sym is) (d.options o not_workers)

  ask_for_one : (verb : Verb) → verb ≡ d.verb → (c e : Command) → IsCommandOf verb (rows verb one) c → IsCommandOf verb (rows verb other) e → AskForOne c e
  ask_for_one Design is (command.Design c) (command.Design e) a b = record {
    net = name_same Design is file.Net c.net.now e.net.now a.net b.net;
    lib = name_same Design is file.Lib c.lib.now e.lib.now a.lib b.lib;
    design = name_same Design is file.Design c.design.now e.design.now a.design b.design;
    cert = name_same Design is file.Cert c.cert.now e.cert.now a.cert b.cert;
    limits = a.limits ∙ limits_same (given_in (rows Design one)) (given_in (rows Design other)) (given_same Design is) ∙ sym b.limits;
    budget = a.budget ∙ budget_same (given_in (rows Design one)) (given_in (rows Design other)) (given_same Design is) ∙ sym b.budget;
  }
  ask_for_one Verify is (command.Verify c) (command.Verify e) a b = record {
    net = name_same Verify is file.Net c.net.now e.net.now a.net b.net;
    lib = name_same Verify is file.Lib c.lib.now e.lib.now a.lib b.lib;
    design = name_same Verify is file.Design c.design.now e.design.now a.design b.design;
    cert = name_same Verify is file.Cert c.cert.now e.cert.now a.cert b.cert;
  }
  ask_for_one Extract is (command.Extract c) (command.Extract e) a b = record {
    lib = name_same Extract is file.Lib c.lib.now e.lib.now a.lib b.lib;
    design = name_same Extract is file.Design c.design.now e.design.now a.design b.design;
  }
  ask_for_one Sample is (command.Sample c) (command.Sample e) a b =
      let values = λ (o : Opt) (other_option : o ≢ Workers).
      value_same (given_in (rows Sample one)) (given_in (rows Sample other)) (given_same Sample is) 0 o other_option in
      record {
        number = a.number ∙ values SampleNumber (λ e. cc) ∙ sym b.number;
        gates = a.gates ∙ values Gates (λ e. cc) ∙ sym b.gates;
        extra = a.extra ∙ values Extra (λ e. cc) ∙ sym b.extra;
      }
  ask_for_one Design is (command.Verify c) e a b = absurd a
  ask_for_one Design is (command.Extract c) e a b = absurd a
  ask_for_one Design is (command.Sample c) e a b = absurd a
  ask_for_one Design is (command.Design c) (command.Verify e) a b = absurd b
  ask_for_one Design is (command.Design c) (command.Extract e) a b = absurd b
  ask_for_one Design is (command.Design c) (command.Sample e) a b = absurd b
  ask_for_one Verify is (command.Design c) e a b = absurd a
  ask_for_one Verify is (command.Extract c) e a b = absurd a
  ask_for_one Verify is (command.Sample c) e a b = absurd a
  ask_for_one Verify is (command.Verify c) (command.Design e) a b = absurd b
  ask_for_one Verify is (command.Verify c) (command.Extract e) a b = absurd b
  ask_for_one Verify is (command.Verify c) (command.Sample e) a b = absurd b
  ask_for_one Extract is (command.Design c) e a b = absurd a
  ask_for_one Extract is (command.Verify c) e a b = absurd a
  ask_for_one Extract is (command.Sample c) e a b = absurd a
  ask_for_one Extract is (command.Extract c) (command.Design e) a b = absurd b
  ask_for_one Extract is (command.Extract c) (command.Verify e) a b = absurd b
  ask_for_one Extract is (command.Extract c) (command.Sample e) a b = absurd b
  ask_for_one Sample is (command.Design c) e a b = absurd a
  ask_for_one Sample is (command.Verify c) e a b = absurd a
  ask_for_one Sample is (command.Extract c) e a b = absurd a
  ask_for_one Sample is (command.Sample c) (command.Design e) a b = absurd b
  ask_for_one Sample is (command.Sample c) (command.Verify e) a b = absurd b
  ask_for_one Sample is (command.Sample c) (command.Extract e) a b = absurd b

  pub commands : (c e : Command) → IsCommand one c → IsCommand other e → AskForOne c e
  commands c e a b =
      let one_is : a.verb ≡ d.verb = one_verb (verb_of one) a.verb d.verb a.first d.one_is_read.first in
      let other_is : b.verb ≡ d.verb = one_verb (verb_of other) b.verb d.verb b.first d.other_is_read.first in
      ask_for_one d.verb refl c e (subst (λ (v : Verb). IsCommandOf v (rows v one) c) one_is a.says)
      (subst (λ (v : Verb). IsCommandOf v (rows v other) e) other_is b.says)
