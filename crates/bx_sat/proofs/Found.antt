-- What is found of a proof that is accepted.
use Rattle.std.proofs.Common.{◌≡◌, refl}
use Rattle.bx_cnf.specs.Formulas.{Formula}
use Rattle.bx_proof.specs.Accepted.{IsAccepted}
use Rattle.bx_dimacs.specs.declared.proof.LratProof.{LratProof}
use Rattle.bx_sat.specs.Checking.{IsFinding}
use Rattle.bx_sat.specs.declared.checking.Finding.{Finding}
use Rattle.bx_sat.specs.declared.checking.Finding.TheVariants.{Verified, Fails, Open}

pub accepted_is_verified : (formula : Formula) (proof : LratProof) (finding : Finding) → IsFinding formula proof finding → IsAccepted formula proof.steps → finding ≡ Verified
accepted_is_verified formula proof Verified is accepted = refl
accepted_is_verified formula proof (Fails id) is accepted = absurd (is.1 accepted)
accepted_is_verified formula proof Open is accepted = absurd (is.2 accepted)
