use Rattle.std.proofs.Common.{ℕ, ◌<◌, ◌≡◌, Some, slice_get}
use Rattle.bx_cert.specs.declared.parts.Spot.{Spot}
use Rattle.bx_verify.specs.Failing.{IsOn}
use Rattle.bx_verify.proofs.places.are_on.Given as goal

abbrev pub invariant-loop-spot : goal.invariant-loop-spot
invariant-loop-spot l = (k : ℕ) (s : Spot) → k < l.spot-index → slice_get l.spots k ≡ Some s → IsOn l.ratio s
