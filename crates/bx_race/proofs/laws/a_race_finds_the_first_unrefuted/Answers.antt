use Rattle.bx_race.proofs.CoreSteps.{a_race_settles}
use Rattle.bx_race.proofs.laws.a_race_finds_the_first_unrefuted.Goals as goal

pub returns : goal.returns
returns c = a_race_settles
