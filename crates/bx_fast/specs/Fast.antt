-- What an answer of a fast search says of the formula.
use Rattle.std.specs.Prelude.{◌≡◌, List, Bool, length, ⊤}
use Rattle.bx_cnf.specs.Formulas.{Formula, AllTrue}
use Rattle.bx_proof.specs.Accepted.{IsAccepted}
use Rattle.bx_fast.specs.declared.outcome.FastOutcome.{FastOutcome}
use Rattle.bx_fast.specs.declared.outcome.FastOutcome.TheVariants.{Sat, Unsat, Unknown, Stopped}

-- no bits make all clauses of a formula true
abbrev pub IsUnsolvable : Formula → Type 0
IsUnsolvable formula = (bits : List Bool) → AllTrue bits formula.clauses → ⊥

-- Bits are one for each variable, and make all clauses true. Steps are accepted, and no bits make all clauses
-- true. Where there is no answer, nothing is said.
abbrev pub IsCertified : Formula → FastOutcome → Type 0
IsCertified formula (Sat bits) = (length bits ≡ formula.vars) × AllTrue bits formula.clauses
IsCertified formula (Unsat log) = IsAccepted formula log × IsUnsolvable formula
IsCertified formula Unknown = ⊤
IsCertified formula Stopped = ⊤
