use Rattle.bx_check.proofs.Sound.{accepted_sound}
use Rattle.bx_dimacs.proofs.Meaning.{formula_true}
use Rattle.bx_sat.proofs.laws.an_accepted_proof_refutes_the_text.Goals as goal

pub returns : goal.returns
returns c = λ text formula log values keeps accepted declared all. accepted_sound formula log _ accepted (formula_true text formula values keeps declared all)
