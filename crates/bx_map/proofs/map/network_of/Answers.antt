use Rattle.std.proofs.Common.{◌≡◌, IfOk, sym, subst}
use Rattle.bx_network.specs.Networks.{Network, IsNetwork}
use Rattle.bx_map.proofs.Mapping.{numbering_of-from}
use Rattle.bx_map.proofs.map.network_of.Goals as goal

pub new-requires : goal.new-requires
new-requires c = subst IsNetwork (sym (numbering_of-from _ _ _ _ c.in_ok-fan_outs.ensures c.in_ok-nodes.ensures c.in_ok-edges.ensures)) c.requires.network

pub returns : goal.returns
returns c =
    subst (λ (n : Network). IfOk c.new.result (λ net. net ≡ n)) (numbering_of-from _ _ _ _ c.in_ok-fan_outs.ensures c.in_ok-nodes.ensures c.in_ok-edges.ensures)
    c.new.ensures
