-- Why a network isn't laid out: its grid has too many columns, too many tiles, or a form that isn't there.
use Rattle.std.specs.Prelude.{◌≡◌, ℕ, ◌*◌, ◌<◌, ◌≤◌, Bool, List, Contains, Option, Some}
use Rattle.bx_forms.specs.FormSets.{IsIn}
use Rattle.bx_network.specs.Networks.{Network}
use Rattle.bx_quick.specs.declared.quick.QuickFault.{QuickFault}
use Rattle.bx_quick.specs.declared.quick.QuickFault.TheVariants.{TooWide, TooTall, NoForm, NoMemory}
use Rattle.bx_quick.specs.LaneStates.{width_of}
use Rattle.bx_quick.specs.Grids.{height_of, grid_of}

-- each form of these tiles is in the set
abbrev pub AreAllIn : List (Option ℕ) → List Bool → Type 0
AreAllIn tiles forms = (form : ℕ) → Contains tiles (Some form) → IsIn forms form

-- the least form of these tiles that isn't in the set
pub record IsFirstMissingIn (tiles : List (Option ℕ)) (forms : List Bool) (form : ℕ) : Type 0 where
  pub on_grid : Contains tiles (Some form)
  pub missing : IsIn forms form → ⊥
  pub first : (other : ℕ) → other < form → Contains tiles (Some other) → IsIn forms other

-- there is room for the grid: so many columns at most, and so many tiles
pub record Fits (N : Network) (width : ℕ) : Type 0 where
  pub narrow : width_of N ≤ width
  pub few_tiles : width_of N * height_of N ≤ 4194304

-- and each of its forms is in the set
pub record IsPermitted (N : Network) (forms : List Bool) (width : ℕ) : Type 0 where
  pub fits : Fits N width
  pub offered : AreAllIn (grid_of N).tiles forms

-- the fault is right: want of memory always is
abbrev pub IsQuickFault : Network → List Bool → ℕ → QuickFault → Type 0
IsQuickFault N forms width (TooWide s) = (s ≡ width_of N) × (width < s)
IsQuickFault N forms width (TooTall h) = (width_of N ≤ width) × (h ≡ height_of N) × (4194304 < width_of N * h)
IsQuickFault N forms width (NoForm form) = Fits N width × IsFirstMissingIn (grid_of N).tiles forms form
IsQuickFault N forms width NoMemory = Unit {0}
