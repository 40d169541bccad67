-- The text of the sample library: all forms, in the order of their numbers.
use Rattle.std.specs.Prelude.{ℕ, ◌+◌, ◌/◌, ◌%◌, ◌^◌, ◌==◌, List, [], ◌++◌, flat_map, if◌then◌else◌, unwrap_or, codes, decimal}
use Rattle.std.specs.List.{range_with_len}
use Rattle.bx_forms.specs.Forms.{forms, form_name}

-- the dot in column i + 1 of row 3, on the lower atom where this binary digit of a number is 1
abbrev pub digit_text : ℕ → ℕ → List ℕ
digit_text number i = codes ",[" ++ (decimal (i + 1) ++ (codes ",3," ++ (decimal (number / 2 ^ i % 2) ++ codes "]")))

abbrev pub digits_text : ℕ → List ℕ
digits_text number = flat_map (digit_text number) (range_with_len 0 5)

-- nothing stands before the first form, and a comma before each other one
abbrev pub before : ℕ → List ℕ
before form = if form == 0 then codes "" else codes ","

-- the name of a form, and the dot that each form has
abbrev pub front_text : ℕ → List ℕ
front_text form = before form ++ (codes "\"" ++ (unwrap_or (form_name form) [] ++ codes "\":[[1,1,0]"))

-- a form with its dots: the one that each form has, and one for each of five binary digits of its number
abbrev pub form_text : ℕ → List ℕ
form_text form = front_text form ++ (digits_text form ++ codes "]")

abbrev pub forms_text : List ℕ
forms_text = flat_map form_text forms

abbrev pub library_text : List ℕ
library_text = codes "{\"name\":\"sample\",\"width\":8,\"height\":6,\"forms\":{" ++ (forms_text ++ codes "}}")
