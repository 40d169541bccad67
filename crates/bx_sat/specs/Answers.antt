-- The status and the text of each answer.
use Rattle.std.specs.Prelude.{ℕ, take, codes}
use Rattle.bx_says.specs.Texts.{Text}
use Rattle.bx_sat.specs.declared.status.SatStatus.{SatStatus}
use Rattle.bx_sat.specs.declared.status.SatStatus.TheVariants.{Verified as IsVerified, NotVerified, Satisfiable as IsSatisfiable, Unsatisfiable as IsUnsatisfiable, Unknown as IsUnknown}
use Rattle.bx_sat.specs.declared.checking.Finding.{Finding}
use Rattle.bx_sat.specs.declared.checking.Finding.TheVariants.{Verified, Fails, Open}
use Rattle.bx_sat.specs.declared.solving.Answer.{Answer}
use Rattle.bx_sat.specs.declared.solving.Answer.TheVariants.{Satisfiable, Unsatisfiable, Unknown}
use Rattle.bx_sat.specs.Sayings.{failure_text, solution_text}

abbrev pub finding_status : Finding → SatStatus
finding_status Verified = IsVerified
finding_status (Fails id) = NotVerified
finding_status Open = NotVerified

abbrev pub finding_text : Finding → Text
finding_text Verified = codes "s VERIFIED\n"
finding_text (Fails id) = failure_text id
finding_text Open = codes "s NOT VERIFIED\n"

abbrev pub answer_status : Answer → SatStatus
answer_status (Satisfiable bits) = IsSatisfiable
answer_status (Unsatisfiable log) = IsUnsatisfiable
answer_status Unknown = IsUnknown

-- of a solution the values of so many variables are said
abbrev pub answer_text : ℕ → Answer → Text
answer_text vars (Satisfiable bits) = solution_text (take vars bits)
answer_text vars (Unsatisfiable log) = codes "s UNSATISFIABLE\n"
answer_text vars Unknown = codes "s UNKNOWN\n"
