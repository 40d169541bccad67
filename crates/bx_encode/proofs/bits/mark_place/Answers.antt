-- Two bits more.
use Rattle.std.proofs.Common.{◌+◌, ◌-◌, true, set, sym, ap, subst, ◌∙◌}
use Rattle.bx_encode.specs.declared.variable.Variable.TheVariants.{Taken}
use Rattle.bx_encode.specs.Variables.{number}
use Rattle.bx_encode.specs.Bits.{AreBitsSoFar}
use Rattle.bx_encode.proofs.Marking.{place-marked}
use Rattle.bx_encode.proofs.bits.mark_place.Goals as goal

pub returns : goal.returns
returns c =
    subst (AreBitsSoFar c.args.net.now c.args.layout.now (c.args.v + 1) 0) (sym (c.mark-2.ensures ∙ ap (λ bits. set bits (number c.args.net.now c.args.layout.now.ratio (Taken c.args.t) - 1) true) c.mark.ensures))
    (place-marked c.args.net.now c.args.layout.now c.args.v c.args.t c.args.bits.now c.requires.placed c.requires.node c.requires.stands c.requires.bits)
