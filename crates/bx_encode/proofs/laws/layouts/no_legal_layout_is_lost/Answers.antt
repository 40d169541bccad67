-- A layout that were legal would have bits that solve the formula.
use Rattle.bx_encode.proofs.HavingBits.{has-bits, none-legal}
use Rattle.bx_encode.proofs.laws.layouts.no_legal_layout_is_lost.Goals as goal

pub returns-clause-bits : goal.returns-clause-bits
returns-clause-bits c N permit L legal = has-bits N L legal.placed

pub returns-clause-none : goal.returns-clause-none
returns-clause-none c = none-legal
