use Rattle.bx_siqad.proofs.OneDesign.{answers_found, answers_only, answers_bad, answers_exact}
use Rattle.bx_siqad.proofs.read.read_design.Goals as goal

pub returns-clause-found : goal.returns-clause-found
returns-clause-found c = answers_found c.args.bytes.now c.read_whole.result c.read_whole.ensures

pub returns-clause-only : goal.returns-clause-only
returns-clause-only c = answers_only c.args.bytes.now c.read_whole.result c.read_whole.ensures

pub returns-clause-bad : goal.returns-clause-bad
returns-clause-bad c = answers_bad c.args.bytes.now c.read_whole.result c.read_whole.ensures

pub returns-clause-exact : goal.returns-clause-exact
returns-clause-exact c = answers_exact c.args.bytes.now c.read_whole.result c.read_whole.ensures
