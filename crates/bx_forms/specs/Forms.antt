-- What a form means: its name, the sides that it uses, the kind of node that it holds, and what goes
-- out on its lower sides, as the one table has it. A form is its number in the table.
use Rattle.std.specs.Prelude.{◌≡◌, ℕ, ◌<◌, Bool, false, not, is_some, if◌then◌else◌, List, [], ◌∷◌, length, Option, Some, None, map}
use Rattle.std.specs.List.{range_with_len, slice_get}
use Rattle.bx_logic.specs.Op.{conjunction, disjunction, parity, first_value}
use Rattle.bx_forms.specs.declared.kind.Kind.{Kind}
use Rattle.bx_forms.specs.declared.side.Side.{Side}
use Rattle.bx_forms.specs.declared.side.Side.TheVariants.{Left, Right}
use Rattle.bx_forms.specs.declared.side.Sides.{Sides}
use Rattle.bx_forms.specs.declared.table.Function.{Function}
use Rattle.bx_forms.specs.declared.table.Function.TheVariants.{Given, Read, Same, Negation, And, Or, Nand, Nor, Xor, Xnor, Double, Cross}
use Rattle.bx_forms.specs.declared.table.Shape.{Shape}
use Rattle.bx_forms.specs.declared.table.TheConstants.{FORMS}
use Rattle.bx_forms.specs.Kinds.{gives}
use Rattle.bx_forms.specs.Sides.{is_used, side_count, used_values}

-- how many lines the table has
abbrev pub form_count : ℕ
form_count = length FORMS

-- the table has a line with this number
abbrev pub IsForm : ℕ → Type 0
IsForm form = form < form_count

-- the numbers of all lines, in order
abbrev pub forms : List ℕ
forms = range_with_len 0 form_count

abbrev pub form_name : ℕ → Option (List ℕ)
form_name form = slice_get (map (λ line. line.0.now) FORMS) form

abbrev pub shape_of : ℕ → Option Shape
shape_of form = slice_get (map (λ line. line.1) FORMS) form

abbrev pub shape_node : Option Shape → Option Kind
shape_node None = None
shape_node (Some shape) = shape.node

abbrev pub shape_upper : Option Shape → Sides
shape_upper None = record { left = false; right = false }
shape_upper (Some shape) = shape.upper

abbrev pub shape_lower : Option Shape → Sides
shape_lower None = record { left = false; right = false }
shape_lower (Some shape) = shape.lower

-- the second of the values
abbrev pub second_value : List Bool → Bool
second_value [] = false
second_value (b ∷ bs) = first_value bs

-- what goes out on a lower side, for the values that are read, from left to right
abbrev pub function_value : Function → List Bool → Side → Bool
function_value Given reads side = first_value reads
function_value Read reads side = false
function_value Same reads side = first_value reads
function_value Negation reads side = not (first_value reads)
function_value And reads side = conjunction reads
function_value Or reads side = disjunction reads
function_value Nand reads side = not (conjunction reads)
function_value Nor reads side = not (disjunction reads)
function_value Xor reads side = parity reads
function_value Xnor reads side = not (parity reads)
function_value Double reads Left = first_value reads
function_value Double reads Right = second_value reads
function_value Cross reads Left = second_value reads
function_value Cross reads Right = first_value reads

-- the same, for one value, and for one on the left and one on the right
abbrev pub value_of_one : Function → Bool → Side → Bool
value_of_one function b side = function_value function (b ∷ []) side

abbrev pub value_of_two : Side → Function → Bool → Bool → Bool
value_of_two side function l r = function_value function (l ∷ r ∷ []) side

-- what is sent out on a lower side, and false on one that isn't used
abbrev pub shape_sends : Option Shape → List Bool → Side → Bool
shape_sends None reads side = false
shape_sends (Some shape) reads side =
    if is_used shape.lower side then function_value shape.function reads side else false

-- the kind of node that the form holds
abbrev pub form_node : ℕ → Option Kind
form_node form = shape_node (shape_of form)

-- the sides on which something comes in
abbrev pub form_upper : ℕ → Sides
form_upper form = shape_upper (shape_of form)

-- the sides on which something goes out
abbrev pub form_lower : ℕ → Sides
form_lower form = shape_lower (shape_of form)

-- what the form sends out on a lower side, for the values that it reads, from left to right: an input
-- form reads the value that is given from outside, and any other what comes in on the upper sides that
-- it uses
abbrev pub form_sends : ℕ → List Bool → Side → Bool
form_sends form reads side = shape_sends (shape_of form) reads side

-- the form's function: what goes out on a lower side for what comes in on the upper left and right
abbrev pub form_value : ℕ → Bool → Bool → Side → Bool
form_value form left right side = form_sends form (used_values (form_upper form) left right) side

-- a slot that leaves on the left or none, and one that leaves on the right or none, by their side
abbrev pub slot_on : Option ℕ → Option ℕ → Side → Option ℕ
slot_on left right Left = left
slot_on left right Right = right

-- it holds a node of this kind, and uses these sides
pub record IsFormWith (kind : Kind) (upper lower : Sides) (form : ℕ) : Type 0 where
  pub node : form_node form ≡ Some kind
  pub upper_sides : form_upper form ≡ upper
  pub lower_sides : form_lower form ≡ lower

-- The form of a node of this kind: it uses these upper sides, and below it those on which a slot leaves;
-- on each of them it sends what the node gives to that slot.
pub record IsFormOf (kind : Kind) (upper : Sides) (left right : Option ℕ) (form : ℕ) : Type 0 where
  pub uses : IsFormWith kind upper (record { left = is_some left; right = is_some right }) form
  pub sends : (side : Side) (slot : ℕ) → slot_on left right side ≡ Some slot →
      (reads : List Bool) → form_sends form reads side ≡ gives kind reads slot

-- of so many slots each leaves on one of the two sides
pub record AreExits (slots : ℕ) (left right : Option ℕ) : Type 0 where
  pub all : side_count (record { left = is_some left; right = is_some right }) ≡ slots
  pub within : (side : Side) (slot : ℕ) → slot_on left right side ≡ Some slot → slot < slots
  pub apart : (slot : ℕ) → left ≡ Some slot → right ≡ Some slot → ⊥
