-- Two bits more.
use Rattle.std.proofs.Common.{◌+◌, ◌-◌, true, length, set, sym, ap, subst, ◌∙◌}
use Rattle.bx_encode.specs.declared.variable.Variable.TheVariants.{EdgeOn}
use Rattle.bx_encode.specs.Variables.{number}
use Rattle.bx_encode.specs.Bits.{AreBitsSoFar}
use Rattle.bx_encode.proofs.Marking.{border-marked}
use Rattle.bx_encode.proofs.bits.mark_edge.Goals as goal

pub returns : goal.returns
returns c =
    subst (AreBitsSoFar c.args.net.now c.args.layout.now (length c.args.net.now.nodes) (c.args.b + 1)) (sym (c.mark-2.ensures ∙ ap (λ bits. set bits (number c.args.net.now c.args.layout.now.ratio (EdgeOn c.args.e c.args.b) - 1) true) c.mark.ensures))
    (border-marked c.args.net.now c.args.layout.now (length c.args.net.now.nodes) c.args.b c.args.e c.args.bits.now c.requires.placed c.requires.border c.requires.edge c.requires.bits)
