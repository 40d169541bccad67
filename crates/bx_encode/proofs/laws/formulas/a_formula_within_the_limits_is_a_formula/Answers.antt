-- The clauses were counted, and looked at, family by family.
use Rattle.bx_encode.proofs.Formed.{clauses-le, formed}
use Rattle.bx_encode.proofs.Framing.{frame-is}
use Rattle.bx_encode.proofs.laws.formulas.a_formula_within_the_limits_is_a_formula.Goals as goal

pub returns-clause-frame : goal.returns-clause-frame
returns-clause-frame c = frame-is

pub returns-clause-formed : goal.returns-clause-formed
returns-clause-formed c N permit r frame = formed N r frame permit

pub returns-clause-few : goal.returns-clause-few
returns-clause-few c N permit r frame = clauses-le N r frame permit
