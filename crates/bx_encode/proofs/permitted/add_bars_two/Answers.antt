-- The borders are around one tile.
use Rattle.std.proofs.Common.{sym, arith}
use Rattle.bx_forms.specs.declared.side.Side.TheVariants.{Left, Right}
use Rattle.bx_encode.proofs.Barring.{entering-in, border-from}
use Rattle.bx_encode.proofs.permitted.add_bars_two.Goals as goal

pub add_no_way-requires-clause-above : goal.add_no_way-requires-clause-above
add_no_way-requires-clause-above c = omega (arith, entering-in c.args.frame.now.ratio c.args.t c.in-Some.left Left (sym c.in-Some.ensures), border-from c.args.t c.args.lower, c.border.ensures)

pub add_no_way-requires-clause-beside : goal.add_no_way-requires-clause-beside
add_no_way-requires-clause-beside c = omega (arith, entering-in c.args.frame.now.ratio c.args.t c.in-Some-entering.right Right (sym c.in-Some-entering.ensures), c.requires.tile)
