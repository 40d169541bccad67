use Rattle.std.proofs.Common.{ap, ◌∙◌, ◌+◌, ◌-◌, ◌≡◌, map, arith}
use Rattle.bx_verilog.proofs.DriverSteps.{input_from, input_set, inputs_none, inputs_all}
use Rattle.bx_verilog.proofs.drivers.input_drivers.Goals as goal

pub loop-i-init : goal.loop-i-init
loop-i-init c = c.in_ok-named.ensures ∙ inputs_none c.args.names.now c.args.inputs.now _ (omega arith)

pub loop-i-preserved : goal.loop-i-preserved
loop-i-preserved c =
    let e : c.loop-i.i ≡ (c.loop-i.i - 1) + 1 = omega arith in
    input_set c.args.names.now c.args.inputs.now (c.loop-i.i - 1) c.index-inputs-i.result c.loop-i.named.items c.set_driver.new.named.items c.requires.distinct (omega arith) c.index-inputs-i.is
    (c.loop-i.invariant ∙ ap (λ k. map (input_from k c.args.inputs.now) c.args.names.now) e) c.set_driver.ensures

pub returns : goal.returns
returns c =
    let e : c.loop-i.i ≡ 0 = omega arith in
    c.loop-i.invariant ∙ (ap (λ k. map (input_from k c.args.inputs.now) c.args.names.now) e ∙ inputs_all c.args.names.now c.args.inputs.now)
