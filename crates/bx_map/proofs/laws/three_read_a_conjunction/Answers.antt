use Rattle.std.proofs.Common.{refl}
use Rattle.bx_map.specs.Walks.{visit, walk}
use Rattle.bx_map.specs.Folds.{folding}
use Rattle.bx_map.specs.Drops.{stay_before, cone_of}
use Rattle.bx_map.specs.FanOuts.{uses, consumers, tree_within, tree_at}
use Rattle.bx_map.specs.Numbers.{fans, nodes_before, fan_edges, edges_before, numbering_of}
use Rattle.bx_map.proofs.laws.three_read_a_conjunction.Goals as goal

pub returns-clause-nodes : goal.returns-clause-nodes
unfolding visit walk folding stay_before cone_of uses consumers tree_within tree_at fans nodes_before fan_edges edges_before numbering_of
returns-clause-nodes c = refl

pub returns-clause-edges : goal.returns-clause-edges
unfolding visit walk folding stay_before cone_of uses consumers tree_within tree_at fans nodes_before fan_edges edges_before numbering_of
returns-clause-edges c = refl
