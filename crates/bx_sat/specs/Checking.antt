-- What is found of a proof that was read for a formula.
use Rattle.std.specs.Prelude.{◌≡◌, ℕ, ◌⊎◌, Some, None, slice_get}
use Rattle.bx_cnf.specs.Formulas.{Formula}
use Rattle.bx_proof.specs.Accepted.{IsAccepted}
use Rattle.bx_check.specs.Passing.{AllPass, IsFirstFailure}
use Rattle.bx_dimacs.specs.declared.proof.LratProof.{LratProof}
use Rattle.bx_sat.specs.declared.checking.Finding.{Finding}
use Rattle.bx_sat.specs.declared.checking.Finding.TheVariants.{Verified, Fails, Open}

-- the first step that fails has this id, the file's own: it is the first that doesn't pass, or, where all pass, the
-- one behind them which can't pass whatever it says
abbrev pub IsFailure : Formula → LratProof → ℕ → Type 0
IsFailure formula proof id =
    ((k : ℕ) × IsFirstFailure formula proof.steps.steps k × (slice_get proof.ids.items k ≡ Some id))
    ⊎ (AllPass formula proof.steps.steps × (proof.ill ≡ Some id))

abbrev pub IsNotAccepted : Formula → LratProof → Type 0
IsNotAccepted formula proof = IsAccepted formula proof.steps → ⊥

-- the steps are accepted; or they aren't, and one fails first, or all pass and there is no other
abbrev pub IsFinding : Formula → LratProof → Finding → Type 0
IsFinding formula proof Verified = IsAccepted formula proof.steps
IsFinding formula proof (Fails id) = IsFailure formula proof id × IsNotAccepted formula proof
IsFinding formula proof Open = AllPass formula proof.steps.steps × (proof.ill ≡ None) × IsNotAccepted formula proof
