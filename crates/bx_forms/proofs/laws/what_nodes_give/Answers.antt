use Rattle.std.proofs.Common.{ap, not}
use Rattle.bx_logic.proofs.Operations.{conjunction_two, disjunction_two, parity_two, not_parity_two}
use Rattle.bx_forms.proofs.laws.what_nodes_give.Goals as goal

pub returns-clause-gates : goal.returns-clause-gates
returns-clause-gates c = λ slot. record {
  ands = conjunction_two;
  ors = disjunction_two;
  nands = λ l r. ap not (conjunction_two l r);
  nors = λ l r. ap not (disjunction_two l r);
  xors = parity_two;
  xnors = not_parity_two;
}
