use Rattle.bx_dimacs.proofs.Written.{log_says}
use Rattle.bx_sat.proofs.laws.a_log_that_is_found_refutes_the_text.Goals as goal

pub returns : goal.returns
returns c = λ formula read log is right.
    let (said, says, kept) = log_says read.clauses log right.0.numbered right.1 right.0.shaped in
    record {
      said = is.said;
      says = is.says;
      clauses = read.clauses;
      keeps = is.keeps;
      steps_said = said;
      steps_say = says;
      log = log;
      steps = kept;
      accepted = right.0;
    }
