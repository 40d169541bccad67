-- A legal layout is placed, so its bits say where its nodes stand and what its borders carry.
use Rattle.bx_decode.proofs.Once.{means-own, means-one}
use Rattle.bx_decode.proofs.laws.the_bits_of_a_layout_mean_it.Goals as goal

pub returns-clause-own : goal.returns-clause-own
returns-clause-own c N permit L bits legal are = means-own N L bits legal.placed are

pub returns-clause-no_other : goal.returns-clause-no_other
returns-clause-no_other c N permit L M bits legal are means = means-one N L.ratio bits M L means (means-own N L bits legal.placed are)
