-- What a solution is worth: its certificate refutes each earlier ratio, which so has no legal layout; and what was
-- found is a legal layout, whose form grid is sound and computes the network.
use Rattle.std.specs.Prelude.{◌≡◌, ℕ, List, length, slice_get, Option, Some, None}
use Rattle.bx_grid.specs.declared.ratio.Limits.{Limits}
use Rattle.bx_grid.specs.declared.ratio.Ratio.{Ratio}
use Rattle.bx_grid.specs.Orders.{order}
use Rattle.bx_network.specs.Networks.{Network}
use Rattle.bx_layout.specs.Grids.{IsFormGrid, IsSound}
use Rattle.bx_layout.specs.Legal.{IsLegal}
use Rattle.bx_layout.specs.Permits.{PermitTest}
use Rattle.bx_layout.specs.Pins.{Computes, pins_of}
use Rattle.bx_layout.specs.TileForms.{IsFormGridOf}
use Rattle.bx_cert.specs.Certs.{Certificate}
use Rattle.bx_cert.specs.declared.parts.CertLast.{CertLast}
use Rattle.bx_cert.specs.declared.parts.CertLast.TheVariants.{Found, Undecided, NoneWithin}
use Rattle.bx_cert.specs.declared.parts.Spot.{Spot}
use Rattle.bx_refutes.specs.Refutations.{AreSections, LackLayouts}
use Rattle.bx_verdict.specs.Verdicts.{IsVerdict}
use Rattle.bx_verdict.specs.declared.verdict.Ended.TheVariants as ended
use Rattle.bx_design.specs.declared.solution.LaidOut.{LaidOut}
use Rattle.bx_design.specs.Certificates.{spots_of}

module _ (N : Network) (permit : PermitTest) where
  -- the layout is legal, and its grid of forms is sound and computes the network, however many inputs the
  -- module has
  pub record IsLaidOut (laid : LaidOut) : Type 0 where
    pub legal : IsLegal N permit laid.layout
    pub forms : IsFormGridOf N laid.layout laid.grid
    pub whole : IsFormGrid laid.grid
    pub sound : IsSound laid.grid
    pub computes : (inputs : ℕ) → Computes inputs laid.grid (pins_of N laid.layout) N

  -- so it is with what was found, which has this ratio and these places
  pub record IsFoundWith (ratio : Ratio) (spots : List Spot) (found : Option LaidOut) : Type 0 where
    pub laid : LaidOut
    pub found_is : found ≡ Some laid
    pub sides : laid.layout.ratio ≡ ratio
    pub places : spots ≡ spots_of laid.layout
    pub is : IsLaidOut laid

  -- the ratio at this index was found, or left undecided; or there is none at it
  abbrev pub IsEndAt : Limits → ℕ → ℕ → CertLast → Option LaidOut → Type 0
  IsEndAt limits budget k (Found r spots) found = (slice_get (order limits) k ≡ Some r)
      × IsFoundWith r spots found
  IsEndAt limits budget k (Undecided r spent) found = (slice_get (order limits) k ≡ Some r)
      × (found ≡ None) × IsVerdict N permit r budget (ended.Undecided spent)
  IsEndAt limits budget k NoneWithin found = (k ≡ length (order limits)) × (found ≡ None)

  pub record IsMinimal (limits : Limits) (budget : ℕ) (cert : Certificate)
      (found : Option LaidOut) : Type 0 where
    pub sections : AreSections N permit (order limits) cert.sections
    pub lacking : LackLayouts N permit (order limits) (length cert.sections)
    pub end_at : IsEndAt limits budget (length cert.sections) cert.last found
