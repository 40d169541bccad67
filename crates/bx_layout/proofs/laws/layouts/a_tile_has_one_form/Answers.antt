use Rattle.bx_layout.proofs.OnTiles.{carrying-form, one-form, idle-form}
use Rattle.bx_layout.proofs.laws.layouts.a_tile_has_one_form.Goals as goal

pub returns-clause-some : goal.returns-clause-some
returns-clause-some c = λ N permit L t network legal inside h. carrying-form N permit L network legal t inside h

pub returns-clause-once : goal.returns-clause-once
returns-clause-once c = λ N permit L t f g network legal inside p q. one-form N permit L network legal t inside f g p q

pub returns-clause-none : goal.returns-clause-none
returns-clause-none c = λ N permit L t form network legal inside free idle has. idle-form N permit L network legal t inside form free idle has
