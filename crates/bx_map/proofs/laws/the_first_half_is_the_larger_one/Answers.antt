use Rattle.std.proofs.Common.{refl}
use Rattle.bx_map.specs.FanOuts.{tree_within}
use Rattle.bx_map.proofs.laws.the_first_half_is_the_larger_one.Goals as goal

pub returns-clause-one : goal.returns-clause-one
unfolding tree_within
returns-clause-one c = λ a. refl

pub returns-clause-two : goal.returns-clause-two
unfolding tree_within
returns-clause-two c = λ a b. refl

pub returns-clause-three : goal.returns-clause-three
unfolding tree_within
returns-clause-three c = λ a b d. refl

pub returns-clause-five : goal.returns-clause-five
unfolding tree_within
returns-clause-five c = λ a b d e f. refl
