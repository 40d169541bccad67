use Rattle.std.proofs.Common.{◌∷◌, [], refl}
use Rattle.bx_cert.proofs.Lines.{place_there}
use Rattle.bx_cert.proofs.scan.place_at.Goals as goal

pub returns-in_err-rest-clause-none : goal.returns-in_err-rest-clause-none
returns-in_err-rest-clause-none c = rw c.from_residual.ensures (λ spot rest at.
    c.in_err-rest.ensures.none (spot.x ∷ spot.y ∷ []) rest refl (place_there c.args.text.now spot rest at))
