use Rattle.std.proofs.Common.{arith}
use Rattle.bx_map.proofs.FirstConstant.{constant-first, signals-more, made-more, no-constant, all-made}
use Rattle.bx_map.proofs.outputs.output_cells.Goals as goal

pub returns-in-Constant : goal.returns-in-Constant
returns-in-Constant c =
    constant-first c.args.net.now c.args.values.now c.requires.values c.loop-j.j c.output_net.result c.in-Constant.field-0 (omega arith) c.output_net.ensures c.in-Constant.is
    c.loop-j.invariant.signals

pub loop-j-preserved : goal.loop-j-preserved
loop-j-preserved c = record {
  made = made-more c.args.net.now c.args.values.now c.requires.values c.loop-j.j c.output_net.result c.in-Signal.cell c.loop-j.outputs.items c.push.new.self.items (omega arith)
      c.output_net.ensures c.in-Signal.is c.loop-j.invariant.made c.in_ok-push-in-Signal.ensures.items;
  signals = signals-more c.args.net.now c.args.values.now c.requires.values c.loop-j.j c.output_net.result c.in-Signal.cell (omega arith) c.output_net.ensures c.in-Signal.is
      c.loop-j.invariant.signals;
}

pub returns : goal.returns
returns c = (
  no-constant c.args.net.now c.args.values.now c.requires.values c.loop-j.j (omega arith) c.loop-j.invariant.signals,
  all-made c.args.net.now c.args.values.now c.requires.values c.loop-j.j c.loop-j.outputs.items (omega arith) c.loop-j.invariant.made,
)
