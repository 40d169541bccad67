use Rattle.bx_grid.specs.declared.count.CountProof.TheVariants.{Late, Crowd, Cut, Pair}
use Rattle.bx_bounds.proofs.Meaning.{no-layout}
use Rattle.bx_bounds.proofs.counting.check_count.Goals as goal

pub returns-in-Late-clause-no_layout : goal.returns-in-Late-clause-no_layout
returns-in-Late-clause-no_layout c = λ yes. no-layout c.args.net.now c.args.ratio (Late c.in-Late.node) c.node_count-nodes.ensures.network (c.is_late.ensures.0 yes)

pub returns-in-Crowd-clause-no_layout : goal.returns-in-Crowd-clause-no_layout
returns-in-Crowd-clause-no_layout c = λ yes. no-layout c.args.net.now c.args.ratio (Crowd c.in-Crowd.first c.in-Crowd.last) c.node_count-nodes.ensures.network (c.is_crowd.ensures.0 yes)

pub returns-in-Cut-clause-no_layout : goal.returns-in-Cut-clause-no_layout
returns-in-Cut-clause-no_layout c = λ yes. no-layout c.args.net.now c.args.ratio (Cut c.in-Cut.row) c.node_count-nodes.ensures.network (c.is_cut.ensures.0 yes)

pub returns-in-Pair-clause-no_layout : goal.returns-in-Pair-clause-no_layout
returns-in-Pair-clause-no_layout c = λ yes. no-layout c.args.net.now c.args.ratio (Pair c.in-Pair.one c.in-Pair.two) c.node_count-nodes.ensures.network (c.is_pair.ensures.0 yes)
