use Rattle.std.proofs.Common.{ap, arith, sym, ◌∙◌}
use Rattle.std.proofs.lemmas.List.{take_rest}
use Rattle.bx_lex.specs.Rules.{begins}
use Rattle.bx_lex.proofs.Through.{through_more}
use Rattle.bx_lex.proofs.rules.through.Goals as goal

pub loop-at-preserved : goal.loop-at-preserved
loop-at-preserved c =
    through_more c.args.close.now c.args.text.now c.loop-at.at (omega arith)
    (ap (begins c.args.close.now) (sym (take_rest c.args.text.now c.loop-at.at)) ∙ sym c.starts_with.ensures.value ∙ c.if-starts_with.false)
    c.loop-at.invariant
