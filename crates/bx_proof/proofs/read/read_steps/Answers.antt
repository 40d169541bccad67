use Rattle.std.proofs.Common.{Err}
use Rattle.bx_proof.specs.declared.fault.StepFault.TheVariants.{BadStep}
use Rattle.bx_proof.proofs.LogGrammar.{bad_start}
use Rattle.bx_proof.proofs.OneLog.{answers_only, answers_bad, answers_exact}
use Rattle.bx_proof.proofs.read.read_steps.Goals as goal

pub returns-in_default-clause-only : goal.returns-in_default-clause-only
returns-in_default-clause-only c = answers_only c.args.text.now (Err (BadStep 1)) (bad_start c.args.text.now c.in_default.ensures.none)

pub returns-in_default-clause-bad : goal.returns-in_default-clause-bad
returns-in_default-clause-bad c = answers_bad c.args.text.now (Err (BadStep 1)) (bad_start c.args.text.now c.in_default.ensures.none)

pub returns-in_default-clause-exact : goal.returns-in_default-clause-exact
returns-in_default-clause-exact c = answers_exact c.args.text.now (Err (BadStep 1)) (bad_start c.args.text.now c.in_default.ensures.none)

pub returns-clause-only : goal.returns-clause-only
returns-clause-only c = answers_only c.args.text.now c.read_from.result c.read_from.ensures

pub returns-clause-exact : goal.returns-clause-exact
returns-clause-exact c = answers_exact c.args.text.now c.read_from.result c.read_from.ensures
