use Rattle.std.proofs.Common.{arith}
use Rattle.bx_siqad.proofs.Stops.{lines_more}
use Rattle.bx_siqad.proofs.read.behind_lines.Goals as goal

pub loop-line-preserved : goal.loop-line-preserved
loop-line-preserved c = record {
  spelled = lines_more c.args.lines.now c.loop-line.line-index _ c.args.text.now c.loop-line.rest.now c.in-Some.next.now (omega arith) c.loop-line.invariant.spelled c.in-Some.ensures.found;
  number = omega (arith, c.loop-line.invariant.number);
}
