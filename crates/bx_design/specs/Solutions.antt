-- The solution of a network within limits: what comes of the first ratio of the order that isn't refuted, and the
-- certificate of it.
use Rattle.std.specs.Prelude.{◌≡◌, ℕ, Bool, List, Option, Some, None, length, slice_get}
use Rattle.bx_grid.specs.declared.ratio.Limits.{Limits}
use Rattle.bx_grid.specs.declared.ratio.Ratio.{Ratio}
use Rattle.bx_grid.specs.Orders.{order}
use Rattle.bx_network.specs.Networks.{Network}
use Rattle.bx_layout.specs.Permits.{PermitTest}
use Rattle.bx_layout.specs.TileForms.{IsFormGridOf}
use Rattle.bx_decode.specs.Meaning.{Means}
use Rattle.bx_proof.specs.declared.refutation.Refutation.{Refutation}
use Rattle.bx_cert.specs.Certs.{Certificate}
use Rattle.bx_cert.specs.declared.parts.CertLast.{CertLast}
use Rattle.bx_cert.specs.declared.parts.CertLast.TheVariants as told
use Rattle.bx_verdict.specs.Settling.{AreSettled}
use Rattle.bx_verdict.specs.declared.settled.Last.{Last}
use Rattle.bx_verdict.specs.declared.settled.Last.TheVariants.{Found, Undecided, NoneWithin}
use Rattle.bx_design.specs.declared.solution.LaidOut.{LaidOut}
use Rattle.bx_design.specs.Certificates.{spots_of, certificate_of}

module _ (N : Network) (ratios : List Ratio) (k : ℕ) where
  -- the ratio at this index has the layout that these bits mean, which is given with its form grid, and told with
  -- the places of its nodes
  pub record IsToldFound (bits : List Bool) (last : CertLast)
      (found : Option LaidOut) : Type 0 where
    pub ratio : Ratio
    pub laid : LaidOut
    pub at : slice_get ratios k ≡ Some ratio
    pub means : Means N ratio bits laid.layout
    pub forms : IsFormGridOf N laid.layout laid.grid
    pub told_is : last ≡ told.Found ratio (spots_of laid.layout)
    pub found_is : found ≡ Some laid

  -- so much was spent on the ratio at this index, and this is told
  pub record IsToldUndecided (spent : ℕ) (last : CertLast) : Type 0 where
    pub ratio : Ratio
    pub at : slice_get ratios k ≡ Some ratio
    pub told_is : last ≡ told.Undecided ratio spent

  -- what is known of the last ratio, which is the one at this index, as a certificate tells it, and what was found
  abbrev pub IsTold : Last → CertLast → Option LaidOut → Type 0
  IsTold (Found bits) last found = IsToldFound bits last found
  IsTold (Undecided spent) last found = IsToldUndecided spent last × (found ≡ None)
  IsTold NoneWithin last found = (last ≡ told.NoneWithin) × (found ≡ None)

-- the ratios are settled in their order, and end so; the certificate has a section for each that was refuted
pub record IsSolution (N : Network) (permit : PermitTest) (limits : Limits) (budget : ℕ)
    (cert : Certificate) (found : Option LaidOut) : Type 0 where
  pub proofs : List Refutation
  pub last : Last
  pub settled : AreSettled N permit budget (order limits) proofs last
  pub tells : IsTold N (order limits) (length proofs) last cert.last found
  pub certified : cert ≡ certificate_of limits budget proofs cert.last
