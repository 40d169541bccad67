use Rattle.std.proofs.Common.{ap, arith}
use Rattle.std.proofs.lemmas.List.{get_or_read}
use Rattle.bx_layout.specs.Pins.{Pin}
use Rattle.bx_quick.proofs.Steps.{place_of-is, no_pin}
use Rattle.bx_quick.proofs.pins.place_of.Goals as goal

pub returns-then-port-pin-clause-is : goal.returns-then-port-pin-clause-is
returns-then-port-pin-clause-is c =
    place_of-is c.args.pins.now c.args.port c.loop-at.at (omega arith) c.loop-at.invariant
    (λ lt.
    let e = ap (λ (pin : Pin). pin.port) (get_or_read c.args.pins.now c.loop-at.at c.index-pins-at.result lt c.index-pins-at.is no_pin) in
    let view = ap (λ (pin : Pin). pin.port) c.pin.view_is in
    omega (arith, e, view))

pub returns-clause-is : goal.returns-clause-is
returns-clause-is c =
    place_of-is c.args.pins.now c.args.port _ (omega arith) (λ k lt. c.loop-at.invariant k (omega arith)) (λ lt. absurd (omega (arith, lt)))
