-- What can be wrong with a design and its certificate: six parts, in the order in which they are tested, and with
-- each the number that tells where.
use Rattle.std.specs.Prelude.{◌≡◌, ℕ, ◌+◌, ◌*◌, ◌<◌, List, [], ◌∷◌, ◌++◌, length, map, All, slice_get, Some, Err}
use Rattle.bx_bounds.specs.Numbers.{IsLeast}
use Rattle.bx_cert.specs.Certs.{Certificate}
use Rattle.bx_cert.specs.declared.parts.CertLast.{CertLast}
use Rattle.bx_cert.specs.declared.parts.CertLast.TheVariants.{Found, Undecided, NoneWithin}
use Rattle.bx_cert.specs.declared.parts.Section.{Section}
use Rattle.bx_cert.specs.declared.parts.Spot.{Spot}
use Rattle.bx_dots.specs.Cuts.{CutsTo, IsCut}
use Rattle.bx_dots.specs.declared.fault.CutFault.{CutFault}
use Rattle.bx_grid.specs.Orders.{order}
use Rattle.bx_grid.specs.declared.ratio.Ratio.{Ratio}
use Rattle.bx_layout.specs.Grids.{FormGrid}
use Rattle.bx_layout.specs.Permits.{PermitTest}
use Rattle.bx_library.specs.Tiles.{Tiles}
use Rattle.bx_library.specs.declared.dot.Dot.{Dot}
use Rattle.bx_network.specs.Networks.{Network}
use Rattle.bx_refutes.specs.Refutations.{IsRefutedBy}
use Rattle.bx_siqad.specs.Designs.{Drawing}
use Rattle.bx_trace.specs.Traced.{IsTraced}
use Rattle.bx_dots.specs.Permits.{permit_of}
use Rattle.bx_verify.specs.declared.verdict.Part.{Part}
use Rattle.bx_verify.specs.declared.verdict.Part.TheVariants as part

-- ---- what a certificate claims

-- it ends with this ratio as found, and with these places
abbrev pub IsFoundAt : CertLast → Ratio → List Spot → Type 0
IsFoundAt last r spots = last ≡ Found r spots

-- of a certificate that ends with a found ratio: this holds of the ratio and the places
abbrev pub OfFound : CertLast → (Ratio → List Spot → Type 0) → Type 0
OfFound (Found r spots) P = P r spots
OfFound (Undecided r spent) P = ⊥
OfFound NoneWithin P = ⊥

abbrev pub IsFound : CertLast → Type 0
IsFound last = OfFound last (λ r spots. Unit {0})

-- the ratios that it names: those of its sections, and behind them the found one
abbrev pub named : List Section → Ratio → List Ratio
named sections r = map (λ s. s.ratio) sections ++ r ∷ []

-- ---- ratios and proofs

-- the ratio that is named at this index isn't the one that the order has there, if it has one
pub record IsOff (ratios names : List Ratio) (k : ℕ) : Type 0 where
  pub within : k < length names
  pub off : ¬ (slice_get names k ≡ slice_get ratios k)

-- what the section at this index has as a proof doesn't refute its ratio
pub record IsUnproved (N : Network) (permit : PermitTest) (sections : List Section) (k : ℕ) : Type 0 where
  pub section : Section
  pub at : slice_get sections k ≡ Some section
  pub unproved : ¬ IsRefutedBy N permit section.ratio section.proof

-- ---- dots and places

-- something is in the way of cutting these dots into a form grid
abbrev pub IsUncut : Tiles → Ratio → List Dot → Type 0
IsUncut lib r dots = (fault : CutFault) × CutsTo lib r dots (Err fault)

-- a place is on the grid, and is that of a tile
pub record IsOn (r : Ratio) (spot : Spot) : Type 0 where
  pub x : spot.x < r.w
  pub y : spot.y < r.h

abbrev pub tile_of : Ratio → Spot → ℕ
tile_of r spot = spot.y * r.w + spot.x

abbrev pub tiles_of : Ratio → List Spot → List ℕ
tiles_of r spots = map (tile_of r) spots

-- there is a place on the grid for each node, and some layout with these places has this form grid
pub record Fits (N : Network) (g : FormGrid) (spots : List Spot) : Type 0 where
  pub count : length spots ≡ length N.nodes
  pub on : All (IsOn g.ratio) spots
  pub traced : IsTraced N g (tiles_of g.ratio spots)

-- ---- the parts

-- the place of a part in the order
abbrev pub rank : Part → ℕ
rank part.Last = 0
rank part.Missing = 1
rank part.Proof = 2
rank part.Size = 3
rank part.Dots = 4
rank part.Network = 5

module _ (N : Network) (lib : Tiles) (design : Drawing) (cert : Certificate) where
  -- the form grid that the design's dots are cut into is that of no layout with these places
  abbrev pub FitsNot : List Spot → Type 0
  FitsNot spots = (g : FormGrid) → IsCut lib design.ratio design.dots g → ¬ Fits N g spots

  -- the index of the found ratio
  abbrev pub end : ℕ
  end = length cert.sections

  -- a part fails with this number
  abbrev pub Fails : Part → ℕ → Type 0
  Fails part.Last k = (¬ IsFound cert.last) × (k ≡ end)
  Fails part.Missing k = OfFound cert.last (λ r spots.
      IsLeast (IsOff (order cert.limits) (named cert.sections r)) (Some k))
  Fails part.Proof k = IsLeast (IsUnproved N (permit_of lib) cert.sections) (Some k)
  Fails part.Size k = OfFound cert.last (λ r spots. ¬ (design.ratio ≡ r)) × (k ≡ end)
  Fails part.Dots k = IsUncut lib design.ratio design.dots × (k ≡ end)
  Fails part.Network k = OfFound cert.last (λ r spots. FitsNot spots) × (k ≡ end)

  -- none of the parts before this one fails
  abbrev pub NoneBefore : ℕ → Type 0
  NoneBefore n = (p : Part) (k : ℕ) → rank p < n → ¬ Fails p k

  abbrev pub NoneFails : Type 0
  NoneFails = (p : Part) (k : ℕ) → ¬ Fails p k

  -- a part is the first that fails, and fails with this number
  pub record IsFirstToFail (p : Part) (k : ℕ) : Type 0 where
    pub fails : Fails p k
    pub before : NoneBefore (rank p)
