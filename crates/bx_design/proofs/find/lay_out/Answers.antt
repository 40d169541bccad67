use Rattle.std.proofs.Common.{sym, subst}
use Rattle.bx_decode.specs.Meaning.{AreTrue}
use Rattle.bx_layout.specs.Permits.{test_of}
use Rattle.bx_design.proofs.find.lay_out.Goals as goal

pub decode-requires-clause-true_bits : goal.decode-requires-clause-true_bits
decode-requires-clause-true_bits c = subst (AreTrue c.args.net.now (test_of c.args.permit.now) c.args.ratio) (sym c.as_slice.ensures) c.requires.true_bits
