use Rattle.bx_bounds.proofs.Meaning.{not-own}
use Rattle.bx_bounds.proofs.laws.no_node_is_its_own_ancestor.Goals as goal

pub returns : goal.returns
returns c = not-own
