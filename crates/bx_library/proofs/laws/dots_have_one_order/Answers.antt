use Rattle.bx_library.proofs.DotOrder.{before_from_cmp, cmp_from_before, equal_from_cmp, cmp_from_equal, not_before_itself, before_goes_on}
use Rattle.bx_library.proofs.laws.dots_have_one_order.Goals as goal

pub returns : goal.returns
returns c = record {
  before = λ a b. (before_from_cmp a b, cmp_from_before a b);
  equal = λ a b. (equal_from_cmp a b, cmp_from_equal a b);
  itself = not_before_itself;
  goes_on = before_goes_on;
}
