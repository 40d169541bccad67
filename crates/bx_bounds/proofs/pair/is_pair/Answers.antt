use Rattle.std.proofs.Common.{◌∙◌, arith}
use Rattle.bx_bounds.specs.Refutes.{PassesBelow, borders_between}
use Rattle.bx_bounds.proofs.Crossings.{passing-count}
use Rattle.bx_bounds.proofs.Tallied.{more-test}
use Rattle.bx_bounds.proofs.pair.is_pair.Goals as goal

pub returns : goal.returns
returns c =
    let count = passing-count c.args.net.now c.node_count.ensures.network c.requires.few c.args.passing.now.below c.args.passing.now.first c.args.passing.now.second c.requires.passing
    c.args.one c.args.two (omega arith) (omega arith) c.passing_below.ensures.first_fits c.passing_below.ensures.second_fits in
    let says = more-test (PassesBelow c.args.net.now c.args.one c.args.two) _ (borders_between c.args.ratio) c.borders_between.result c.from.result count c.borders_between.ensures (c.from.ensures ∙ c.passing_below.ensures.bits) in
    ((λ e. (omega arith, omega arith, says.0 e)), (λ h. says.1 h.2))
