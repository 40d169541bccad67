-- What the words of the command line say: a command, or the first thing that is wrong with them.
use Rattle.std.specs.Prelude.{◌≡◌, ℕ, ◌*◌, List, length, nat_lt, Option, Some, None, Result, Ok, Err, if◌then◌else◌}
use Rattle.std.specs.Option.{option_map_or}
use Rattle.clap.specs.Walk.{Row}
use Rattle.bx_grid.specs.declared.ratio.Limits.{Limits}
use Rattle.bx_grid.specs.Orders.{order}
use Rattle.bx_words.specs.declared.opts.Opt.{Opt}
use Rattle.bx_words.specs.declared.opts.Opt.TheVariants.{Area, Width, Height, Budget, Workers, Number as SampleNumber, Gates, Extra}
use Rattle.bx_words.specs.declared.verbs.File.TheVariants.{Net, Lib, Design as DesignFile, Cert}
use Rattle.bx_words.specs.declared.verbs.Verb.{Verb}
use Rattle.bx_words.specs.declared.verbs.Verb.TheVariants.{Design, Verify, Extract, Sample}
use Rattle.bx_words.specs.declared.faults.WordFault.{WordFault}
use Rattle.bx_words.specs.declared.faults.WordFault.TheVariants.{Command as NoVerb, Usage, Number, Range, Same, Work}
use Rattle.bx_words.specs.declared.faults.NoCommand.{NoCommand}
use Rattle.bx_words.specs.declared.faults.NoCommand.TheVariants.{Fault, NoMemory}
use Rattle.bx_words.specs.declared.commands.DesignCommand.{DesignCommand}
use Rattle.bx_words.specs.declared.commands.VerifyCommand.{VerifyCommand}
use Rattle.bx_words.specs.declared.commands.ExtractCommand.{ExtractCommand}
use Rattle.bx_words.specs.declared.commands.SampleCommand.{SampleCommand}
use Rattle.bx_words.specs.declared.commands.Command.{Command}
use Rattle.bx_words.specs.declared.commands.Command.TheVariants.{Design as DesignOf, Verify as VerifyOf, Extract as ExtractOf, Sample as SampleOf}
use Rattle.bx_words.specs.Options.{default_of, most_work}
use Rattle.bx_words.specs.Verbs.{Text, line_of, opts_of, verb_of}
use Rattle.bx_words.specs.Clap.{has_matches, rows, given_in, named_in}
use Rattle.bx_words.specs.Names.{is_written_over}
use Rattle.bx_words.specs.Numbers.{Given, number_of, first_no_number, first_out_of_range}

-- ---- options with their defaults

-- the number that is given for an option, or what it is at this area where none is
abbrev pub value_at : ℕ → Given → Opt → ℕ
value_at area given option = option_map_or number_of (given option) (default_of option area)

abbrev pub area_of : Given → ℕ
area_of given = value_at 0 given Area

abbrev pub limits_of : Given → Limits
limits_of given = record {
  area = area_of given;
  width = value_at (area_of given) given Width;
  height = value_at (area_of given) given Height;
}

abbrev pub budget_of : Given → ℕ
budget_of given = value_at (area_of given) given Budget

abbrev pub workers_of : Given → ℕ
workers_of given = value_at (area_of given) given Workers

-- the budget times the number of ratios
abbrev pub work_of : Limits → ℕ → ℕ
work_of limits budget = budget * length (order limits)

-- ---- the first fault

-- the first of two that there is
abbrev pub or_next : Option WordFault → Option WordFault → Option WordFault
or_next (Some fault) next = Some fault
or_next None next = next

abbrev pub option_fault : List Opt → Given → Option WordFault
option_fault options given = or_next
    (option_map_or (λ option. Some (Number option)) (first_no_number options given) None)
    (option_map_or (λ option. Some (Range option)) (first_out_of_range options given) None)

abbrev pub same_fault : Verb → List Row → Option WordFault
same_fault verb found = if is_written_over found (line_of verb).read (line_of verb).written then Some Same else None

abbrev pub work_fault : ℕ → Option WordFault
work_fault work = if nat_lt most_work work then Some (Work work) else None

-- what is wrong with a command whose options are numbers in their ranges and whose files are apart
abbrev pub own_fault : Verb → List Row → Option WordFault
own_fault Design found = work_fault (work_of (limits_of (given_in found)) (budget_of (given_in found)))
own_fault Verify found = None
own_fault Extract found = None
own_fault Sample found = None

abbrev pub found_fault : Verb → List Row → Option WordFault
found_fault verb found =
    or_next (option_fault (opts_of (line_of verb)) (given_in found)) (or_next (same_fault verb found) (own_fault verb found))

abbrev pub verb_fault : List Text → Verb → Option WordFault
verb_fault words verb = if has_matches verb words then found_fault verb (rows verb words) else Some Usage

-- the first thing that is wrong with the words
abbrev pub first_fault : List Text → Option WordFault
first_fault words = option_map_or (verb_fault words) (verb_of words) (Some NoVerb)

-- ---- the command

-- `design`, with what is found in its words
pub record IsDesign (found : List Row) (d : DesignCommand) : Type 0 where
  pub net : named_in found Net ≡ Some d.net.now
  pub lib : named_in found Lib ≡ Some d.lib.now
  pub design : named_in found DesignFile ≡ Some d.design.now
  pub cert : named_in found Cert ≡ Some d.cert.now
  pub limits : d.limits ≡ limits_of (given_in found)
  pub budget : d.budget ≡ budget_of (given_in found)
  pub workers : d.workers ≡ workers_of (given_in found)

-- `verify`, likewise
pub record IsVerify (found : List Row) (v : VerifyCommand) : Type 0 where
  pub net : named_in found Net ≡ Some v.net.now
  pub lib : named_in found Lib ≡ Some v.lib.now
  pub design : named_in found DesignFile ≡ Some v.design.now
  pub cert : named_in found Cert ≡ Some v.cert.now
  pub workers : v.workers ≡ value_at 0 (given_in found) Workers

-- `extract`, likewise
pub record IsExtract (found : List Row) (e : ExtractCommand) : Type 0 where
  pub lib : named_in found Lib ≡ Some e.lib.now
  pub design : named_in found DesignFile ≡ Some e.design.now

-- `sample`, likewise
pub record IsSample (found : List Row) (s : SampleCommand) : Type 0 where
  pub number : s.number ≡ value_at 0 (given_in found) SampleNumber
  pub gates : s.gates ≡ value_at 0 (given_in found) Gates
  pub extra : s.extra ≡ value_at 0 (given_in found) Extra

-- a command, with what is found in its words
abbrev pub IsCommandOf : Verb → List Row → Command → Type 0
IsCommandOf Design found (DesignOf d) = IsDesign found d
IsCommandOf Verify found (VerifyOf v) = IsVerify found v
IsCommandOf Extract found (ExtractOf e) = IsExtract found e
IsCommandOf Sample found (SampleOf s) = IsSample found s
IsCommandOf _ found _ = ⊥

-- the words say this command
pub record IsCommand (words : List Text) (c : Command) : Type 0 where
  pub verb : Verb
  pub first : verb_of words ≡ Some verb
  pub says : IsCommandOf verb (rows verb words) c

-- the answer to the words: their command where nothing is wrong with them, and else the first fault; want of
-- memory may come at any time
abbrev pub IsAnswer : List Text → Result Command NoCommand → Type 0
IsAnswer words (Ok c) = (first_fault words ≡ None) × IsCommand words c
IsAnswer words (Err (Fault fault)) = first_fault words ≡ Some fault
IsAnswer words (Err NoMemory) = Unit {0}
