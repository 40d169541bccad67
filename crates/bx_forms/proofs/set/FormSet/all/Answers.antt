use Rattle.bx_forms.specs.Forms.{form_count}
use Rattle.bx_forms.proofs.Lines.{get_or-true}
use Rattle.bx_forms.proofs.set.FormSet.all.Goals as goal

pub returns : goal.returns
returns c = λ form. get_or-true form_count form
