-- What is read of true bits is a layout that they mean, and what bits mean they say item by item.
use Rattle.bx_decode.proofs.Once.{means-one}
use Rattle.bx_decode.proofs.Reading.{means-some}
use Rattle.bx_decode.proofs.laws.true_bits_mean_one_layout.Goals as goal

pub returns-clause-some : goal.returns-clause-some
returns-clause-some c = means-some

pub returns-clause-one : goal.returns-clause-one
returns-clause-one c = means-one
