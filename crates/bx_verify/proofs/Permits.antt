-- The permit of a library is told by the forms that it offers.
use Rattle.std.proofs.Common.{◌≡◌, ◌↔◌, ℕ, Bool, true, false, List, refl, rules}
use Rattle.std.specs.Prelude.{IsTrue}
use Rattle.std.proofs.Math.Path.{fun_ext}
use Rattle.bx_forms.specs.FormSets.{IsIn}
use Rattle.bx_grid.specs.declared.ratio.Ratio.{Ratio}
use Rattle.bx_layout.specs.Permits.{Allows, PermitTest, test_of}
use Rattle.bx_library.specs.Tiles.{Tiles, IsOffered}
use Rattle.bx_dots.specs.Permits.{permit_of}

same-bool : (a b : Bool) → (IsTrue a → IsTrue b) → (IsTrue b → IsTrue a) → a ≡ b
same-bool true true f g = refl
same-bool true false f g = let t = f refl in absurd (cc)
same-bool false true f g = let t = g refl in absurd (cc)
same-bool false false f g = refl

-- permits that allow the same are one
pub same-permit : (one other : PermitTest) → ((r : Ratio) (t form : ℕ) → Allows one r t form ↔ Allows other r t form) → one ≡ other
same-permit one other both = fun_ext (λ r. fun_ext (λ t. fun_ext (λ form. same-bool (one r t form) (other r t form) (both r t form).0 (both r t form).1)))

pub offered-allowed : (lib : Tiles) (r : Ratio) (t form : ℕ) → IsOffered lib form → Allows (permit_of lib) r t form
offered-allowed lib r t form offered = search rules

pub allowed-offered : (lib : Tiles) (r : Ratio) (t form : ℕ) → Allows (permit_of lib) r t form → IsOffered lib form
allowed-offered lib r t form allowed = search rules

pub library-permit : (lib : Tiles) (forms set : List Bool) → ((form : ℕ) → IsIn set form ↔ IsOffered lib form) → ((r : Ratio) (t form : ℕ) → Allows (test_of forms) r t form ↔ IsIn set form)
    → test_of forms ≡ permit_of lib
library-permit lib forms set offers allows = same-permit (test_of forms) (permit_of lib) (λ r t form. (
  (λ allowed. offered-allowed lib r t form ((offers form).0 ((allows r t form).0 allowed))),
  (λ allowed. (allows r t form).1 ((offers form).1 (allowed-offered lib r t form allowed))),
))
