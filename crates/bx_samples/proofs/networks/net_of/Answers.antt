use Rattle.std.proofs.Common.{ap₂, sym, subst}
use Rattle.bx_network.specs.Networks.{IsNetwork, network_of}
use Rattle.bx_network.proofs.PassingNetworks.{network-passes}
use Rattle.bx_samples.proofs.networks.net_of.Goals as goal

pub new-requires : goal.new-requires
new-requires c =
    subst IsNetwork (sym (ap₂ network_of c.in_ok-nodes.ensures.items c.in_ok-edges.ensures.items)) (network-passes c.args.nodes.now c.args.edges.now c.requires)
