use Rattle.std.proofs.Common.{subst}
use Rattle.bx_map.specs.declared.map.MapFault.{MapFault}
use Rattle.bx_map.specs.Faults.{IsMapFault}
use Rattle.bx_engine.proofs.Constants.{constant-within}
use Rattle.bx_engine.proofs.load.network.network_of_net.Goals as goal

pub name_of_output-requires : goal.name_of_output-requires
name_of_output-requires c =
    constant-within c.args.net.now c.in-Err-ConstantOutput.port
    (subst (λ (f : MapFault). IsMapFault c.args.net.now 96 f) c.in-Err-ConstantOutput.field-0-is c.in-Err-ConstantOutput.ensures.fault)
