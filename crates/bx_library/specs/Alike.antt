-- Forms with the same dots, by the lists of the dots of each form in order.
use Rattle.std.specs.Prelude.{◌≡◌, ℕ, ◌<◌, List, [], length, slice_index_or}
use Rattle.bx_library.specs.declared.dot.Dot.{Dot}
use Rattle.bx_library.specs.declared.fault.LibraryFault.{LibraryFault}
use Rattle.bx_library.specs.declared.fault.LibraryFault.TheVariants.{SameDots}
use Rattle.bx_library.specs.Groups.{group_of}

pub record AreSame (all : List (List Dot)) (f g : ℕ) : Type 0 where
  pub order : f < g
  pub group : group_of f ≡ group_of g
  pub offered : 0 < length (slice_index_or all f [])
  pub same : slice_index_or all f [] ≡ slice_index_or all g []

-- the least such f, and of it the least such g
pub record HasSamePair (all : List (List Dot)) (fault : LibraryFault) : Type 0 where
  pub f : ℕ
  pub g : ℕ
  pub same : AreSame all f g
  pub least_f : (e k : ℕ) → e < f → AreSame all e k → ⊥
  pub least_g : (k : ℕ) → k < g → AreSame all f k → ⊥
  pub is : fault ≡ SameDots f g
