-- One list of literals more.
use Rattle.std.proofs.Common.{◌*◌, false, ap, ◌∙◌, arith}
use Rattle.bx_encode.specs.Variables.{border_count}
use Rattle.bx_encode.specs.Families.{pairs, carries_once}
use Rattle.bx_encode.proofs.Adding.{adds-each-as, each-done, clause-as, cleared}
use Rattle.bx_encode.proofs.Shapes.{edges-clause}
use Rattle.bx_encode.proofs.borders.add_carries_once.Goals as goal

pub add_pairs-requires : goal.add_pairs-requires
add_pairs-requires c = clause-as _ _ _ _ (c.loop-b.invariant.vars ∙ c.requires.vars) (cleared _ _ _ c.in_ok-add_edges_on.ensures c.clear.ensures.items) (edges-clause _ _ c.loop-b.b false (omega (arith, c.tile_count-b-end.ensures.is)))

pub loop-b-preserved : goal.loop-b-preserved
loop-b-preserved c = adds-each-as _ _ _ _ c.loop-b.b _ (ap pairs (cleared _ _ _ c.in_ok-add_edges_on.ensures c.clear.ensures.items)) c.loop-b.invariant c.in_ok-add_pairs.ensures

pub returns : goal.returns
unfolding carries_once
returns c = each-done _ _ _ c.loop-b.b (2 * c.tile_count-b-end.result) (border_count c.args.frame.now.ratio) c.loop-b.auto.b-end c.loop-b-test.false (ap (λ n. 2 * n) c.tile_count-b-end.ensures.is) c.loop-b.invariant
