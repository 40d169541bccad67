use Rattle.bx_layout.specs.Permits.{Allows, test_of}
use Rattle.bx_layout.specs.TileForms.{HasForm}
use Rattle.bx_layout.proofs.Verdicts.{none-asked, one-asked}
use Rattle.bx_layout.proofs.legal.is_permitted_on.Goals as goal

pub returns-in-None : goal.returns-in-None
returns-in-None c =
    none-asked (HasForm c.args.net.now c.args.layout.now c.args.tile) (Allows (test_of c.args.permit.now) c.args.layout.now.ratio c.args.tile) c.in-None.ensures.forms

pub returns-in-Some : goal.returns-in-Some
returns-in-Some c =
    one-asked (HasForm c.args.net.now c.args.layout.now c.args.tile) (Allows (test_of c.args.permit.now) c.args.layout.now.ratio c.args.tile) c.in-Some.form c.allows.result
    c.in-Some.ensures.forms c.allows.ensures
