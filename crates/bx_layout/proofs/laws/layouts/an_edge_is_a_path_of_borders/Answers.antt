use Rattle.bx_layout.proofs.Walks.{the-way, all-on-way}
use Rattle.bx_layout.proofs.laws.layouts.an_edge_is_a_path_of_borders.Goals as goal

pub returns : goal.returns
returns c = λ N permit L e edge a b network legal is starts ends. (
  (the-way N L network legal.placed legal.balanced e edge is a b starts ends).0,
  (the-way N L network legal.placed legal.balanced e edge is a b starts ends).1,
  all-on-way N L network legal.placed legal.balanced e edge is a b starts ends,
)
