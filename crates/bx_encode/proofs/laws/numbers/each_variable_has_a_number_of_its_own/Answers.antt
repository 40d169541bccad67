-- The four blocks lie one behind the other, and each place in a block has one row and one column.
use Rattle.bx_encode.proofs.Numbering.{number-above, number-within, number-once, number-some}
use Rattle.bx_encode.proofs.laws.numbers.each_variable_has_a_number_of_its_own.Goals as goal

pub returns-clause-above : goal.returns-clause-above
returns-clause-above c N r x is = number-above N r x

pub returns-clause-within : goal.returns-clause-within
returns-clause-within c = number-within

pub returns-clause-once : goal.returns-clause-once
returns-clause-once c = number-once

pub returns-clause-all : goal.returns-clause-all
returns-clause-all c = number-some
