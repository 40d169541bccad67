-- The certificate of a solution: a section for each ratio that was refuted, in order, and how the search ended.
use Rattle.std.specs.Prelude.{ℕ, List, [], ◌∷◌, map}
use Rattle.bx_grid.specs.declared.ratio.Limits.{Limits}
use Rattle.bx_grid.specs.declared.ratio.Ratio.{Ratio}
use Rattle.bx_grid.specs.Orders.{order}
use Rattle.bx_grid.specs.Tiles.{x_of, y_of}
use Rattle.bx_layout.specs.declared.layout.Layout.{Layout}
use Rattle.bx_proof.specs.declared.refutation.Refutation.{Refutation}
use Rattle.bx_cert.specs.Certs.{Certificate}
use Rattle.bx_cert.specs.declared.parts.CertLast.{CertLast}
use Rattle.bx_cert.specs.declared.parts.Section.{Section}
use Rattle.bx_cert.specs.declared.parts.Spot.{Spot}

-- these ratios, each with its refutation
abbrev pub sections_of : List Ratio → List Refutation → List Section
sections_of [] proofs = []
sections_of (r ∷ ratios) [] = []
sections_of (r ∷ ratios) (proof ∷ proofs) =
    record { ratio = r; proof = proof } ∷ sections_of ratios proofs

-- the column and the row of a tile
abbrev pub spot_of : Ratio → ℕ → Spot
spot_of r t = record { x = x_of r t; y = y_of r t }

-- those of each node
abbrev pub spots_of : Layout → List Spot
spots_of L = map (spot_of L.ratio) L.places

abbrev pub certificate_of : Limits → ℕ → List Refutation → CertLast → Certificate
certificate_of limits budget proofs last = record {
  limits = limits;
  budget = budget;
  sections = sections_of (order limits) proofs;
  last = last;
}
