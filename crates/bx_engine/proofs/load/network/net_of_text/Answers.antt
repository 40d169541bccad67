use Rattle.bx_engine.specs.Texts.{IsText}
use Rattle.bx_engine.proofs.Networks.{ends_so, read_ends, net_ends}
use Rattle.bx_engine.proofs.load.network.net_of_text.Goals as goal

pub returns-in_err-module-clause-err : goal.returns-in_err-module-clause-err
returns-in_err-module-clause-err c =
    ends_so c.args.text.now c.from_residual-in_err-module.result _ c.from_residual-in_err-module.ensures.1
    (read_ends c.args.text.now c.requires c.in_ok-tokens.tokens c.in_err-module.field-0.0 c.in_ok-tokens.ensures.found c.in_err-module.ensures.faults)

pub returns-in_err-net-clause-err : goal.returns-in_err-net-clause-err
returns-in_err-net-clause-err c =
    let is_text : IsText c.args.text.now c.in_ok-module.module = record { found = c.in_ok-tokens.tokens; tokens = c.in_ok-tokens.ensures.found; is_module = c.in_ok-module.ensures.found } in
    ends_so c.args.text.now c.from_residual-in_err-net.result _ c.from_residual-in_err-net.ensures.1
    (net_ends c.args.text.now c.requires c.in_ok-module.module c.in_err-net.field-0.0 is_text c.in_err-net.ensures.faults)
