-- The places so far.
use Rattle.std.proofs.Common.{◌≡◌, map, take}
use Rattle.bx_design.specs.Certificates.{spot_of}
use Rattle.bx_design.proofs.certificate.make_spots.Given as goal

abbrev pub invariant-loop-t : goal.invariant-loop-t
invariant-loop-t l = l.spots.items ≡ map (spot_of l.ratio) (take l.t-index l.places)
