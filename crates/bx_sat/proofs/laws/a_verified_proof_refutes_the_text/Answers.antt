use Rattle.bx_sat.proofs.Found.{accepted_is_verified}
use Rattle.bx_sat.proofs.laws.a_verified_proof_refutes_the_text.Goals as goal

pub returns-clause-verified : goal.returns-clause-verified
returns-clause-verified c = λ formula proof read steps is proves found. record {
  said = is.said;
  says = is.says;
  clauses = read.clauses;
  keeps = is.keeps;
  steps_said = proves.said;
  steps_say = proves.says;
  log = steps.steps;
  steps = proves.keeps.steps;
  accepted = found;
}

pub returns-clause-exact : goal.returns-clause-exact
returns-clause-exact c = accepted_is_verified
