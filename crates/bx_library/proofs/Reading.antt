-- From the parts of a library to what a value gives.
use Rattle.std.proofs.Common.{◌≡◌, ℕ, List, length, inl, inr, subst}
use Rattle.serde_json.specs.Data.{Data}
use Rattle.bx_forms.specs.Forms.{form_count}
use Rattle.bx_library.specs.declared.dot.Dot.{Dot}
use Rattle.bx_library.specs.declared.fault.LibraryFault.{LibraryFault}
use Rattle.bx_library.specs.Alike.{AreSame, HasSamePair}
use Rattle.bx_library.specs.Drawn.{AreDrawn, AreFine}
use Rattle.bx_library.specs.Faults.{IsFree, ◌⊳◌, HasBadShape, HasBadSize, HasUnknownForm, HasBadForms, HasSameDots, IsFirstFault}
use Rattle.bx_library.specs.Readings.{IsLibraryOf}
use Rattle.bx_library.specs.Tiles.{IsWidth, IsHeight, IsLibrary}
use Rattle.bx_library.specs.Values.{width, height, forms}
use Rattle.bx_library.proofs.Pairs.{least_alike, none_alike}
use Rattle.bx_library.proofs.Stages.{free_both}

-- what has been read makes a library
pub library : (w h : ℕ) (forms : Data) (all : List (List Dot)) → IsWidth w → IsHeight h → length all ≡ form_count → AreDrawn w h forms all → ((f g : ℕ) → AreSame all f g → ⊥)
    → IsLibrary (record { width = w; height = h; dots = all })
library w h forms all wide high count drawn none = record {
  width = wide;
  height = high;
  count = count;
  few = λ form. (drawn form).few;
  inside = λ form. (drawn form).inside;
  ascending = λ form. (drawn form).ascending;
  apart = λ f g order offered group same. none f g (record { order = order; group = group; offered = offered; same = same });
}

-- the size and the forms of a value
pub record IsRead (value : Data) (w h : ℕ) (obj : Data) : Type 0 where
  pub width : w ≡ width value
  pub height : h ≡ height value
  pub forms : obj ≡ forms value
  pub free : IsFree (HasBadShape value)

abbrev Later : ℕ → ℕ → Data → LibraryFault → Type 0
Later w h obj = HasUnknownForm obj ⊳ HasBadForms w h obj ⊳ HasSameDots obj

-- the faults behind those of the fields, over what has been read
later : (value : Data) (w h : ℕ) (obj : Data) → IsRead value w h obj → (fault : LibraryFault) → (HasBadSize w h ⊳ Later w h obj) fault → IsFirstFault value fault
later value w h obj is fault has =
    inr (
      is.free,
      subst (λ o. (HasBadSize (width value) (height value) ⊳ Later (width value) (height value) o) fault) is.forms
          (subst (λ y. (HasBadSize (width value) y ⊳ Later (width value) y obj) fault) is.height
          (subst (λ x. (HasBadSize x h ⊳ Later x h obj) fault) is.width has)),
    )

pub bad_size : (value : Data) (w h : ℕ) (obj : Data) → IsRead value w h obj → (fault : LibraryFault) → HasBadSize w h fault → IsFirstFault value fault
bad_size value w h obj is fault has = later value w h obj is fault (inl has)

pub bad_name : (value : Data) (w h : ℕ) (obj : Data) → IsRead value w h obj → IsFree (HasBadSize w h) → (fault : LibraryFault) → HasUnknownForm obj fault → IsFirstFault value fault
bad_name value w h obj is size fault has = later value w h obj is fault (inr (size, inl has))

pub bad_form : (value : Data) (w h : ℕ) (obj : Data) → IsRead value w h obj → IsFree (HasBadSize w h) → IsFree (HasUnknownForm obj) → (fault : LibraryFault) → HasBadForms w h obj fault → IsFirstFault value fault
bad_form value w h obj is size known fault has = later value w h obj is fault (inr (size, inr (known, inl has)))

fine_forms : (w h : ℕ) (obj : Data) → AreFine w h obj → IsFree (HasBadForms w h obj)
fine_forms w h obj fine = λ fault bad. fine bad.form fault bad.bad

pub bad_pair : (value : Data) (w h : ℕ) (obj : Data) (all : List (List Dot)) → IsRead value w h obj → IsFree (HasBadSize w h) → IsFree (HasUnknownForm obj) → AreDrawn w h obj all → AreFine w h obj
    → (fault : LibraryFault) → HasSamePair all fault → IsFirstFault value fault
bad_pair value w h obj all is size known drawn fine fault pair =
    later value w h obj is fault (inr (size, inr (known, inr (fine_forms w h obj fine, least_alike w h obj all drawn fine fault pair))))

no_later : (value : Data) (w h : ℕ) (obj : Data) → IsRead value w h obj → IsFree (HasBadSize w h ⊳ Later w h obj) → IsFree (IsFirstFault value)
no_later value w h obj is free =
    free_both (HasBadShape value) _ is.free (subst (λ o. IsFree (HasBadSize (width value) (height value) ⊳ Later (width value) (height value) o)) is.forms
    (subst (λ y. IsFree (HasBadSize (width value) y ⊳ Later (width value) y obj)) is.height
    (subst (λ x. IsFree (HasBadSize x h ⊳ Later x h obj)) is.width free)))

pub given : (value : Data) (w h : ℕ) (obj : Data) (all : List (List Dot)) → IsRead value w h obj → IsFree (HasBadSize w h) → IsFree (HasUnknownForm obj) → length all ≡ form_count → AreDrawn w h obj all → AreFine w h obj
    → ((f g : ℕ) → AreSame all f g → ⊥) → IsLibraryOf value (record { width = w; height = h; dots = all })
given value w h obj all is size known count drawn fine none = record {
  free = no_later value w h obj is
      (free_both (HasBadSize w h) _ size (free_both (HasUnknownForm obj) _ known (free_both (HasBadForms w h obj) _ (fine_forms w h obj fine) (none_alike w h obj all drawn fine none))));
  width = is.width;
  height = is.height;
  count = count;
  same = λ form. rw (← is.forms) (drawn form).same;
  ascending = λ form. (drawn form).ascending;
}
