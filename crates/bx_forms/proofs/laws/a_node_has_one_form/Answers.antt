use Rattle.bx_forms.proofs.Nodes.{some-form, one-with}
use Rattle.bx_forms.proofs.laws.a_node_has_one_form.Goals as goal

pub returns-clause-some : goal.returns-clause-some
returns-clause-some c = λ kind upper left right above exits. some-form kind upper left right above exits.all

pub returns-clause-once : goal.returns-clause-once
returns-clause-once c = λ kind upper left right f g a b. one-with kind upper _ f g a.uses b.uses
