use Rattle.std.proofs.Common.{◌∙◌, arith}
use Rattle.std.proofs.lemmas.List.{take_all}
use Rattle.bx_tests_network.proofs.nets.output_names.Goals as goal

pub returns : goal.returns
returns c = c.loop-net.invariant ∙ take_all c.loop-net.net-index c.args.outputs.now (omega arith)
