-- What a command was asked for.
use Rattle.std.specs.Prelude.{ℕ, Option, option_map}
use Rattle.std.specs.Borrow.{Bor}
use Rattle.bx_says.specs.Texts.{Text}
use Rattle.bx_sat.specs.declared.command.Command.{Command}
use Rattle.bx_sat.specs.declared.command.Command.TheVariants.{Check, Solve, SolveFast}
use Rattle.bx_sat.specs.declared.workers.Workers.{Workers}
use Rattle.bx_sat.specs.Words.{Request, check, solve, solve_fast}

-- the name that may be given for a file
abbrev pub name_of : Option (Bor Text) → Option Text
name_of name = option_map (λ text. text.now) name

abbrev pub number_by : Workers → ℕ
number_by workers = workers.number

abbrev pub request_by : Command → Request
request_by (Check formula proof workers) = check formula.now proof.now (number_by workers)
request_by (Solve formula budget proof) = solve formula.now budget (name_of proof)
request_by (SolveFast formula conflicts proof) = solve_fast formula.now conflicts (name_of proof)
