-- One part more.
use Rattle.std.proofs.Common.{◌*◌, ap}
use Rattle.bx_encode.specs.Variables.{border_count}
use Rattle.bx_encode.specs.Families.{is_used}
use Rattle.bx_encode.proofs.Adding.{adds-more, adds-each, each-done}
use Rattle.bx_encode.proofs.borders.add_is_used.Goals as goal

pub loop-b-preserved : goal.loop-b-preserved
loop-b-preserved c = adds-each _ _ _ _ c.loop-b.b c.loop-b.invariant (adds-more _ _ _ _ _ c.in_ok-add_uses.ensures c.in_ok-add_carries_some.ensures)

pub returns : goal.returns
unfolding is_used
returns c = each-done _ _ _ c.loop-b.b (2 * c.tile_count-b-end.result) (border_count c.args.frame.now.ratio) c.loop-b.auto.b-end c.loop-b-test.false (ap (λ n. 2 * n) c.tile_count-b-end.ensures.is) c.loop-b.invariant
