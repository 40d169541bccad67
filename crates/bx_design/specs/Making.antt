-- What telling of the last ratio needs of what is known.
use Rattle.std.specs.Prelude.{◌≡◌, ℕ, ◌<◌, ◌≤◌, Bool, List, length, slice_get, Some, ⊤}
use Rattle.bx_decode.specs.Meaning.{AreTrue}
use Rattle.bx_encode.specs.declared.numbers.TheConstants.{MOST_AREA}
use Rattle.bx_grid.specs.Tiles.{tile_count, IsGrid}
use Rattle.bx_grid.specs.declared.ratio.Ratio.{Ratio}
use Rattle.bx_layout.specs.Permits.{PermitTest}
use Rattle.bx_network.specs.Networks.{Network}
use Rattle.bx_verdict.specs.declared.settled.Last.{Last}
use Rattle.bx_verdict.specs.declared.settled.Last.TheVariants.{Found, Undecided, NoneWithin}

module _ (N : Network) (permit : PermitTest) (ratios : List Ratio) (k : ℕ) where
  -- there is a ratio at this index, which isn't too large, and the bits are true
  pub record HasTrueBits (bits : List Bool) : Type 0 where
    pub ratio : Ratio
    pub at : slice_get ratios k ≡ Some ratio
    pub grid : IsGrid ratio
    pub area : tile_count ratio ≤ MOST_AREA
    pub true_bits : AreTrue N permit ratio bits

  -- so it is where a ratio was found; and where one was left undecided there is one
  abbrev pub IsReadable : Last → Type 0
  IsReadable (Found bits) = HasTrueBits bits
  IsReadable (Undecided spent) = k < length ratios
  IsReadable NoneWithin = ⊤
