use Rattle.std.proofs.Common.{◌≡◌, sym, subst}
use Rattle.bx_desk.specs.Desk.{DeskState}
use Rattle.bx_sat.specs.declared.checking.Finding.{Finding}
use Rattle.bx_sat.specs.declared.status.SatStatus.{SatStatus}
use Rattle.bx_sat.specs.Answers.{finding_status, finding_text}
use Rattle.bx_sat.specs.Sayings.{EndsSaying}
use Rattle.bx_sat.proofs.say.say_finding.Goals as goal

finding_as : (old new : DeskState) (finding is : Finding) (result : SatStatus) → finding ≡ is → EndsSaying old new (finding_status is) (finding_text is) result → EndsSaying old new (finding_status finding) (finding_text finding) result
finding_as old new finding is result same said = subst (λ v. EndsSaying old new (finding_status v) (finding_text v) result) (sym same) said

pub returns-in-Verified : goal.returns-in-Verified
returns-in-Verified g c = finding_as _ _ _ _ _ c.in-Verified.is c.say.ensures

pub returns-in-Open : goal.returns-in-Open
returns-in-Open g c = finding_as _ _ _ _ _ c.in-Open.is c.say-in-Open.ensures
