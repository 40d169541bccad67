use Rattle.std.proofs.Common.{sym}
use Rattle.std.specs.Prelude.{◌≢◌}
use Rattle.std.proofs.lemmas.Result.{err_from_is_err_and, IfErr-weaker, on_ok_weaker}
use Rattle.bx_syntax.specs.Parts.{ModuleTree}
use Rattle.bx_verilog.specs.declared.check.Flaw.TheVariants.{Undriven}
use Rattle.bx_verilog.specs.declared.fault.NetFault.TheVariants.{NoMemory}
use Rattle.bx_verilog.specs.Faults.{IsFault}
use Rattle.bx_verilog.specs.Flaws.{IsFirst}
use Rattle.bx_verilog.specs.Uses.{AreUses}
use Rattle.bx_verilog.proofs.Flaws.{port-fault, output-fault, has-output, drivers-fault, is-driven_once, undriven-fault, is-driven}
use Rattle.bx_verilog.proofs.check.check.Goals as goal

pub returns-in_err-rule_out-clause-faults : goal.returns-in_err-rule_out-clause-faults
returns-in_err-rule_out-clause-faults c =
    let p = err_from_is_err_and c.from_residual.result c.from_residual.ensures.1 in
    rw (p.1, p.2) (λ other m are. port-fault m _ _ are _ (c.in_err-rule_out.ensures.first other))

pub returns-then-not-has_output-clause-faults : goal.returns-then-not-has_output-clause-faults
returns-then-not-has_output-clause-faults c = λ other m are.
    output-fault m _ _ are c.in_ok-rule_out.ensures.none (sym c.if-not-has_output.ensures)

pub returns-in_err-rule_out-2-clause-faults : goal.returns-in_err-rule_out-2-clause-faults
returns-in_err-rule_out-2-clause-faults c =
    let p = err_from_is_err_and c.from_residual-in_err-rule_out-2.result c.from_residual-in_err-rule_out-2.ensures.1 in
    rw (p.1, p.2) (λ other m are.
    drivers-fault m _ _ are (has-output m _ _ are c.in_ok-rule_out.ensures.none (sym c.if-not-has_output.ensures))
    _ (c.in_err-rule_out-2.ensures.first other))

pub returns-clause-driven : goal.returns-clause-driven
returns-clause-driven c = on_ok_weaker c.rule_out-3.result (λ none m are.
    let output = has-output m _ _ are c.in_ok-rule_out.ensures.none (sym c.if-not-has_output.ensures) in
    is-driven m _ _ are (is-driven_once m _ _ are output c.in_ok-rule_out-2.ensures.none) none)
    c.rule_out-3.ensures.none

pub returns-clause-faults : goal.returns-clause-faults
returns-clause-faults c =
    IfErr-weaker c.rule_out-3.result (λ fault. fault ≢ NoMemory → IsFirst Undriven c.args.names.now c.args.uses.now fault)
    (λ fault. fault ≢ NoMemory → (m : ModuleTree) → AreUses m c.args.names.now c.args.uses.now → IsFault m fault)
    (λ fault first other m are.
    let output = has-output m _ _ are c.in_ok-rule_out.ensures.none (sym c.if-not-has_output.ensures) in
    undriven-fault m _ _ are (is-driven_once m _ _ are output c.in_ok-rule_out-2.ensures.none) fault (first other))
    c.rule_out-3.ensures.first
