-- What can be wrong with a JSON value that is to be a library, and which of its faults is the
-- first.
use Rattle.std.specs.Prelude.{◌≡◌, ◌≢◌, ◌⊎◌, ℕ, ◌<◌, List, [], length, take, Contains, Option, Some, None, IsSome, IsNone, IsSomeAnd}
use Rattle.std.specs.List.{slice_get}
use Rattle.std.specs.declared.cmp.Ordering.TheVariants.{Less}
use Rattle.std.specs.Ordering.{nat_cmp}
use Rattle.std.specs.Cmp.Lexicographic.{slice_cmp}
use Rattle.serde_json.specs.Data.{Data}
use Rattle.serde_json.specs.Find.{get}
use Rattle.bx_forms.specs.Forms.{form_name}
use Rattle.bx_library.specs.declared.dot.Dot.{Dot}
use Rattle.bx_library.specs.declared.fault.Field.TheVariants.{Name, Width, Height, Forms, Of}
use Rattle.bx_library.specs.declared.fault.LibraryFault.{LibraryFault}
use Rattle.bx_library.specs.declared.fault.LibraryFault.TheVariants.{NoMemory, Shape, BadSize, UnknownForm, NoDots, TooManyDots, DotOutside, SameDot, SameDots}
use Rattle.bx_library.specs.Dots.{HaveSameDots}
use Rattle.bx_library.specs.Groups.{group_of}
use Rattle.bx_library.specs.Tiles.{IsWidth, IsHeight, IsInside}
use Rattle.bx_library.specs.Values.{name_of, width_of, height_of, forms_of, width, height, forms, dots_of, form_value, listed_dots}

-- nothing is wrong in this way
abbrev pub IsFree : (LibraryFault → Type 0) → Type 0
IsFree Fault = (fault : LibraryFault) → Fault fault → ⊥

-- it is in this way, unless memory was refused
abbrev pub UnlessRefused : (LibraryFault → Type 0) → LibraryFault → Type 0
UnlessRefused Fault fault = fault ≢ NoMemory → Fault fault

-- what is wrong in the first way, or where nothing is, in the second way
infixr 5 ◌⊳◌
abbrev pub ◌⊳◌ : (LibraryFault → Type 0) → (LibraryFault → Type 0) → LibraryFault → Type 0
(First ⊳ Second) fault = First fault ⊎ (IsFree First × Second fault)

-- this fault, if P holds
pub record Where (P : Type 0) (named : LibraryFault) (fault : LibraryFault) : Type 0 where
  pub holds : P
  pub is : fault ≡ named

-- the least number of which P holds
pub record IsLeast (P : ℕ → Type 0) (k : ℕ) : Type 0 where
  pub holds : P k
  pub none_before : (j : ℕ) → j < k → P j → ⊥

-- the fault of the least number of which P holds
pub record AtLeast (P : ℕ → Type 0) (named : ℕ → LibraryFault) (fault : LibraryFault) : Type 0 where
  pub number : ℕ
  pub least : IsLeast P number
  pub is : fault ≡ named number

-- ---- the fields

abbrev pub HasBadShape : Data → LibraryFault → Type 0
HasBadShape value =
    Where (IsNone (name_of value)) (Shape Name)
    ⊳ Where (IsNone (width_of value)) (Shape Width)
    ⊳ Where (IsNone (height_of value)) (Shape Height)
    ⊳ Where (IsNone (forms_of value)) (Shape Forms)

abbrev pub HasBadSize : ℕ → ℕ → LibraryFault → Type 0
HasBadSize w h = Where (IsWidth w → ⊥) (BadSize Width) ⊳ Where (IsHeight h → ⊥) (BadSize Height)

-- ---- the names of forms

-- a name that stands among the forms, and no form has
pub record IsUnknown (forms : Data) (name : List ℕ) : Type 0 where
  pub stands : IsSome (get name forms)
  pub none : (form : ℕ) → form_name form ≡ Some name → ⊥

-- the least of them in the order of bytes
pub record IsLeastUnknown (forms : Data) (name : List ℕ) : Type 0 where
  pub unknown : IsUnknown forms name
  pub least : (other : List ℕ) → IsUnknown forms other → slice_cmp nat_cmp other name ≢ Less

pub record HasUnknownForm (forms : Data) (fault : LibraryFault) : Type 0 where
  pub name : List ℕ
  pub least : IsLeastUnknown forms name
  pub is : fault ≡ UnknownForm name

-- ---- the dots of a form

-- the k-th dot lies outside the tile, or equals one before it
abbrev pub IsOutsideAt : ℕ → ℕ → List Dot → ℕ → Type 0
IsOutsideAt w h dots k = IsSomeAnd (slice_get dots k) (λ dot. IsInside w h dot → ⊥)

abbrev pub IsRepeatAt : List Dot → ℕ → Type 0
IsRepeatAt dots k = IsSomeAnd (slice_get dots k) (Contains (take k dots))

-- what is wrong with dots that are listed for a form
abbrev pub HasBadDots : ℕ → ℕ → ℕ → List Dot → LibraryFault → Type 0
HasBadDots w h form dots =
    Where (dots ≡ []) (NoDots form)
    ⊳ Where (1024 < length dots) (TooManyDots form)
    ⊳ AtLeast (IsOutsideAt w h dots) (DotOutside form)
    ⊳ AtLeast (IsRepeatAt dots) (SameDot form)

-- what is wrong with what stands under the name of a form, if the form is offered
abbrev pub HasBadForm : ℕ → ℕ → ℕ → Option Data → LibraryFault → Type 0
HasBadForm w h form None = λ _. ⊥
HasBadForm w h form (Some value) =
    Where (IsNone (dots_of value)) (Shape (Of form))
    ⊳ (λ fault. IsSomeAnd (dots_of value) (λ dots. HasBadDots w h form dots fault))

-- that of the form of the least number
pub record HasBadForms (w h : ℕ) (forms : Data) (fault : LibraryFault) : Type 0 where
  pub form : ℕ
  pub bad : HasBadForm w h form (form_value forms form) fault
  pub none_before : (other : ℕ) → other < form →
      IsFree (HasBadForm w h other (form_value forms other))

-- ---- forms that can't be told apart

pub record AreAlike (forms : Data) (f g : ℕ) : Type 0 where
  pub order : f < g
  pub group : group_of f ≡ group_of g
  pub first : IsSome (form_value forms f)
  pub second : IsSome (form_value forms g)
  pub same : HaveSameDots (listed_dots forms f) (listed_dots forms g)

-- the least such f, and of it the least such g
pub record HasSameDots (forms : Data) (fault : LibraryFault) : Type 0 where
  pub f : ℕ
  pub g : ℕ
  pub alike : AreAlike forms f g
  pub least_f : (e k : ℕ) → e < f → AreAlike forms e k → ⊥
  pub least_g : (k : ℕ) → k < g → AreAlike forms f k → ⊥
  pub is : fault ≡ SameDots f g

-- ---- all of it, in order

abbrev pub IsFirstFault : Data → LibraryFault → Type 0
IsFirstFault value =
    HasBadShape value
    ⊳ HasBadSize (width value) (height value)
    ⊳ HasUnknownForm (forms value)
    ⊳ HasBadForms (width value) (height value) (forms value)
    ⊳ HasSameDots (forms value)
