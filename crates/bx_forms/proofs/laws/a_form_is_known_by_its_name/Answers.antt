use Rattle.bx_forms.proofs.Names.{named-once}
use Rattle.bx_forms.proofs.laws.a_form_is_known_by_its_name.Goals as goal

pub returns : goal.returns
returns c = named-once
