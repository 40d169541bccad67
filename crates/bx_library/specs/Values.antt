-- The parts of a JSON value that a library is made of, each where it has its type.
use Rattle.std.specs.Prelude.{◌≡◌, ℕ, List, [], ◌∷◌, Option, Some, None, option_map, option_and_then, unwrap_or, if◌then◌else◌, nat_lt, codes, IsUtf8}
use Rattle.serde_json.specs.Data.{Data, null, Items, no_items, item}
use Rattle.serde_json.specs.Find.{get, as_str, as_number, as_u64, as_array, as_object}
use Rattle.serde_json.specs.Read.{read}
use Rattle.bx_forms.specs.Forms.{form_name}
use Rattle.bx_library.specs.declared.dot.Dot.{Dot}

-- bytes hold a JSON value
pub record Holds (bytes : List ℕ) (value : Data) : Type 0 where
  pub text : IsUtf8 bytes
  pub reads : read bytes ≡ Some value

-- a whole number that 32 bits hold
abbrev pub whole : Data → Option ℕ
whole value =
    option_and_then (λ n. if nat_lt n 4294967296 then Some n else None)
    (option_and_then as_u64 (as_number value))

abbrev pub dot_from : Option ℕ → Option ℕ → Option ℕ → Option Dot
dot_from (Some n) (Some m) (Some l) = Some (record { m = m; l = l; n = n })
dot_from _ _ _ = None

-- three items, n, m and l; l may be any number here
abbrev pub dot_of_items : Items → Option Dot
dot_of_items (item n (item m (item l no_items))) = dot_from (whole n) (whole m) (whole l)
dot_of_items _ = None

abbrev pub dot_of : Data → Option Dot
dot_of value = option_and_then dot_of_items (as_array value)

-- each item, as a dot
abbrev pub dots_of_items : Items → Option (List Dot)
dots_of_items no_items = Some []
dots_of_items (item d ds) =
    option_and_then (λ dot. option_map (λ dots. dot ∷ dots) (dots_of_items ds)) (dot_of d)

abbrev pub dots_of : Data → Option (List Dot)
dots_of value = option_and_then dots_of_items (as_array value)

-- the four fields
abbrev pub name_of : Data → Option (List ℕ)
name_of value = option_and_then as_str (get (codes "name") value)

abbrev pub width_of : Data → Option ℕ
width_of value = option_and_then whole (get (codes "width") value)

abbrev pub height_of : Data → Option ℕ
height_of value = option_and_then whole (get (codes "height") value)

-- an object
abbrev pub forms_of : Data → Option Data
forms_of value =
    option_and_then (λ forms. option_map (λ _. forms) (as_object forms)) (get (codes "forms") value)

-- the same, where they are there
abbrev pub width : Data → ℕ
width value = unwrap_or (width_of value) 0

abbrev pub height : Data → ℕ
height value = unwrap_or (height_of value) 0

abbrev pub forms : Data → Data
forms value = unwrap_or (forms_of value) null

-- ---- the forms, by the value that stands under `forms`

-- what stands under the name of a form, if the form is offered
abbrev pub form_value : Data → ℕ → Option Data
form_value forms form = option_and_then (λ name. get name forms) (form_name form)

-- the dots that are listed there
abbrev pub listed_dots : Data → ℕ → List Dot
listed_dots forms form = unwrap_or (option_and_then dots_of (form_value forms form)) []
