use Rattle.bx_forms.proofs.Nodes.{sides-counted}
use Rattle.bx_forms.proofs.laws.a_form_has_a_side_for_each_edge_of_its_node.Goals as goal

pub returns-clause-upper : goal.returns-clause-upper
returns-clause-upper c = λ form kind node. (sides-counted form kind node).0

pub returns-clause-lower : goal.returns-clause-lower
returns-clause-lower c = λ form kind node. (sides-counted form kind node).1
