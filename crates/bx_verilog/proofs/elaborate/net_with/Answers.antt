use Rattle.std.proofs.Common.{◌∙◌}
use Rattle.bx_verilog.proofs.Elaborating.{parts-are, parts-net, accepted}
use Rattle.bx_verilog.proofs.elaborate.net_with.Goals as goal

pub new-requires : goal.new-requires
new-requires c =
    let e = parts-are c.args.module.now _ _ _ _ (c.in_ok-name.ensures ∙ (c.as_slice.ensures ∙ c.name.ensures.name)) c.requires.inputs c.in_ok-outputs.ensures c.requires.drivers in
    parts-net c.args.module.now _ c.name.ensures.tree c.requires.driven c.requires.acyclic e

pub returns : goal.returns
returns c =
    let e = parts-are c.args.module.now _ _ _ _ (c.in_ok-name.ensures ∙ (c.as_slice.ensures ∙ c.name.ensures.name)) c.requires.inputs c.in_ok-outputs.ensures c.requires.drivers in
    rw c.new.ensures (accepted c.args.module.now _ c.requires.driven c.requires.acyclic e)
