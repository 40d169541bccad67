-- How the dots of one tile are found and read.
use Rattle.std.specs.Prelude.{◌≡◌, ◌≢◌, ℕ, ◌+◌, ◌-◌, ◌<◌, ◌&&◌, nat_lt, nat_le, Bool, List}
use Rattle.bx_grid.specs.declared.ratio.Ratio.{Ratio}
use Rattle.bx_grid.specs.Tiles.{IsTile}
use Rattle.bx_library.specs.declared.dot.Dot.{Dot}
use Rattle.bx_library.specs.declared.group.Group.{Group}
use Rattle.bx_library.specs.Groups.{group_of}
use Rattle.bx_library.specs.Tiles.{Tiles, form_dots, IsOffered}
use Rattle.bx_dots.specs.declared.fault.CutFault.{CutFault}
use Rattle.bx_dots.specs.declared.fault.CutFault.TheVariants.{StrangeTile, NoMemory}
use Rattle.bx_dots.specs.Cuts.{IsStrange}

-- a dot, so many dimers further left and so many rows further up
abbrev pub moved_back : ℕ → ℕ → Dot → Dot
moved_back n m dot = record { m = dot.m - m; l = dot.l; n = dot.n - n }

-- the dot stands among so many dimers from this one on
abbrev pub is_among : ℕ → ℕ → Dot → Bool
is_among n width dot = nat_le n dot.n && nat_lt dot.n (n + width)

-- the form is offered, is of this group, and has these dots and no others
pub record IsFormWith (lib : Tiles) (wanted : Group) (owns : List Dot) (form : ℕ) : Type 0 where
  pub offered : IsOffered lib form
  pub group : group_of form ≡ wanted
  pub same : form_dots lib form ≡ owns

-- the tile can't be read, unless memory was refused
abbrev pub IsRefusal : Tiles → Ratio → List Dot → ℕ → CutFault → Type 0
IsRefusal lib r dots t fault = fault ≢ NoMemory → (fault ≡ StrangeTile t) × IsStrange lib r dots t

-- a tile can't be read, and it is the least such
pub record IsStrangeFault (lib : Tiles) (r : Ratio) (dots : List Dot) (fault : CutFault) : Type 0 where
  pub tile : ℕ
  pub is : fault ≡ StrangeTile tile
  pub inside : IsTile r tile
  pub strange : IsStrange lib r dots tile
  pub first : (u : ℕ) → u < tile → IsStrange lib r dots u → ⊥
