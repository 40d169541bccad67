use Rattle.std.proofs.Common.{◌≡◌, false, get_or, replicate}
use Rattle.bx_forms.specs.Forms.{form_count}
use Rattle.bx_forms.proofs.Lines.{get_or-replicate}
use Rattle.bx_forms.proofs.set.FormSet.none.Goals as goal

pub returns : goal.returns
returns c = λ form in_it. let out : get_or (replicate form_count false) form false ≡ false = get_or-replicate form_count form false in absurd (cc)
