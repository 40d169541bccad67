-- The exit statuses: those of the SAT competitions, and those of `bestagon` for what goes wrong.
use Rattle.std.specs.Prelude.{ℕ}
use Rattle.bx_sat.specs.declared.status.SatStatus.{SatStatus}
use Rattle.bx_sat.specs.declared.status.SatStatus.TheVariants.{Verified, NotVerified, BadLine, Satisfiable, Unsatisfiable, Unknown, Failed, NoMemory, Words}

abbrev pub exit_status : SatStatus → ℕ
exit_status Verified = 0
exit_status NotVerified = 1
exit_status BadLine = 2
exit_status Satisfiable = 10
exit_status Unsatisfiable = 20
exit_status Unknown = 0
exit_status Failed = 4
exit_status NoMemory = 5
exit_status Words = 6
