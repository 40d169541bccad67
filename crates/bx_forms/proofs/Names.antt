-- A form is known by its name.
use Rattle.std.proofs.Common.{◌≡◌, ℕ, Bool, true, List, Option, Some, None, map, refl, ap, sym, ◌∙◌, arith}
use Rattle.std.specs.Prelude.{◌==◌, unwrap_or, option_and_then}
use Rattle.std.specs.List.{list_all, position}
use Rattle.std.specs.Str.{bytes_eq}
use Rattle.std.proofs.lemmas.Bool.{eqb-true}
use Rattle.bx_forms.specs.declared.table.TheConstants.{FORMS}
use Rattle.bx_forms.specs.Forms.{form_count, forms, form_name}
use Rattle.bx_forms.proofs.Lines.{form-tested, named-within}

-- the first form with this name, and a number that no form has where there is none
first_named : List ℕ → ℕ
first_named name = unwrap_or (position (bytes_eq name) (map (λ line. line.0.now) FORMS)) form_count

first_of : Option (List ℕ) → ℕ
first_of None = form_count
first_of (Some name) = first_named name

is_first : ℕ → Bool
is_first form = first_of (form_name form) == form

all-first : list_all is_first forms ≡ true
unfolding is_first first_of first_named
all-first = refl

first-is : (form : ℕ) (name : List ℕ) → form_name form ≡ Some name → first_named name ≡ form
unfolding is_first first_of
first-is form name named =
    sym (ap first_of named) ∙ eqb-true (first_of (form_name form)) form (form-tested is_first all-first form (named-within form name named))

pub named-once : (name : List ℕ) (f g : ℕ) → form_name f ≡ Some name → form_name g ≡ Some name → f ≡ g
named-once name f g a b = sym (first-is f name a) ∙ first-is g name b
