-- The ratio behind the refutations is the one that was found, and its bits are true.
use Rattle.std.proofs.Common.{◌≡◌, length, sym, ◌∙◌, subst}
use Rattle.std.proofs.lemmas.Option.{same_Some}
use Rattle.bx_decode.specs.Meaning.{AreTrue}
use Rattle.bx_design.specs.Making.{HasTrueBits, IsReadable}
use Rattle.bx_grid.specs.declared.ratio.Ratio.{Ratio}
use Rattle.bx_layout.specs.Permits.{test_of}
use Rattle.bx_design.proofs.find.tell.Goals as goal

pub lay_out-requires-clause-true_bits : goal.lay_out-requires-clause-true_bits
lay_out-requires-clause-true_bits c =
    let has : HasTrueBits c.args.net.now (test_of c.args.permit.now) c.args.ratios.now (length c.args.refuted.now) c.in-Found.bits =
    subst (IsReadable c.args.net.now (test_of c.args.permit.now) c.args.ratios.now (length c.args.refuted.now)) c.in-Found.is c.requires.readable in
    let same : has.ratio ≡ c.at-ratio.result = same_Some has.ratio c.at-ratio.result (sym has.at ∙ c.at-ratio.ensures) in
    subst (λ (r : Ratio). AreTrue c.args.net.now (test_of c.args.permit.now) r c.in-Found.bits) same has.true_bits
