-- The forms that hold a node: each line of the table is as its node's kind wants it, so that there is one
-- form for each way in which a node's edges come in and leave.
use Rattle.std.proofs.Common.{◌≡◌, ℕ, ◌+◌, ◌*◌, ◌<◌, Bool, true, false, List, Option, Some, None, is_some, IfSome, if◌then◌else◌, refl, sym, ap, ap₂, ◌∙◌, subst, arith}
use Rattle.bx_forms.specs.declared.kind.Kind.{Kind}
use Rattle.bx_forms.specs.declared.kind.Kind.TheVariants.{Input, Output, Not, Fan, And, Or, Nand, Nor, Xor, Xnor}
use Rattle.bx_forms.specs.declared.side.Side.{Side}
use Rattle.bx_forms.specs.declared.side.Side.TheVariants.{Left, Right}
use Rattle.bx_forms.specs.declared.side.Sides.{Sides}
use Rattle.bx_forms.specs.declared.table.Function.{Function}
use Rattle.bx_forms.specs.declared.table.Function.TheVariants as function
use Rattle.bx_forms.specs.declared.table.Shape.{Shape}
use Rattle.bx_forms.specs.Kinds.{operands, slots, gives}
use Rattle.bx_forms.specs.Sides.{is_used, side_count}
use Rattle.bx_forms.specs.Forms.{IsForm, shape_of, shape_node, shape_upper, shape_lower, shape_sends, form_node, form_upper, form_lower, form_sends, function_value, slot_on, IsFormWith, IsFormOf}
use Rattle.bx_forms.proofs.Lines.{AllForms, at-form, shaped-within}

-- the function of the forms that hold a node of this kind
kind_function : Kind → Function
kind_function Input = function.Given
kind_function Output = function.Read
kind_function Not = function.Negation
kind_function Fan = function.Same
kind_function And = function.And
kind_function Or = function.Or
kind_function Nand = function.Nand
kind_function Nor = function.Nor
kind_function Xor = function.Xor
kind_function Xnor = function.Xnor

place : Bool → ℕ
place left = if left then 0 else 1

-- the form of a node of this kind that uses these sides, where there is one
form_index : Kind → Sides → Sides → ℕ
form_index Input upper lower = 0 + place lower.left
form_index Output upper lower = 2 + place upper.left
form_index Not upper lower = 8 + 2 * place upper.left + place lower.left
form_index Fan upper lower = 12 + place upper.left
form_index And upper lower = 14 + place lower.left
form_index Or upper lower = 16 + place lower.left
form_index Nand upper lower = 18 + place lower.left
form_index Nor upper lower = 20 + place lower.left
form_index Xor upper lower = 22 + place lower.left
form_index Xnor upper lower = 24 + place lower.left

-- what a line says of its function, its number and its sides, and what its node's kind wants there
record Told : Type 0 where
  function : Function
  index : ℕ
  upper : ℕ
  lower : ℕ

told : ℕ → Shape → Told
told form shape = record { function = shape.function; index = form; upper = side_count shape.upper; lower = side_count shape.lower }

wanted : Shape → Kind → Told
wanted shape kind = record { function = kind_function kind; index = form_index kind shape.upper shape.lower; upper = operands kind; lower = slots kind }

IsRight : ℕ → Shape → Kind → Type 0
IsRight form shape kind = told form shape ≡ wanted shape kind

LineIsRight : ℕ → Type 0
LineIsRight form = IfSome (shape_of form) (λ shape. IfSome shape.node (IsRight form shape))

lines-right : AllForms LineIsRight
unfolding LineIsRight IsRight told wanted kind_function form_index place
lines-right =
    (refl, (refl, (refl, (refl, (tt, (tt, (tt, (tt, (refl, (refl, (refl, (refl, (refl, (refl, (refl, (refl, (refl, (refl, (refl, (refl, (refl, (refl, (refl, (refl, (refl, (refl, (tt, (tt, tt))))))))))))))))))))))))))))

right-at : (found : Option Shape) (form : ℕ) (kind : Kind) → shape_of form ≡ found → shape_node found ≡ Some kind → (shape : Shape) × (found ≡ Some shape) × IsRight form shape kind
unfolding LineIsRight
right-at None form kind is node = absurd (cc)
right-at (Some shape) form kind is node =
    let line : LineIsRight form = at-form LineIsRight lines-right form (shaped-within form shape is) in
    let here : IfSome shape.node (IsRight form shape) = subst (λ (o : Option Shape). IfSome o (λ s. IfSome s.node (IsRight form s))) is line in
    (shape, refl, subst (λ (o : Option Kind). IfSome o (IsRight form shape)) node here)

-- what the table says of a form that holds a node of this kind
record IsLineOf (kind : Kind) (form : ℕ) : Type 0 where
  shape : Shape
  is : shape_of form ≡ Some shape
  function : shape.function ≡ kind_function kind
  index : form ≡ form_index kind shape.upper shape.lower
  upper : side_count shape.upper ≡ operands kind
  lower : side_count shape.lower ≡ slots kind

line-of : (form : ℕ) (kind : Kind) → form_node form ≡ Some kind → IsLineOf kind form
unfolding IsRight told wanted
line-of form kind node =
    let (shape, is, right) = right-at (shape_of form) form kind refl node in
    record {
      shape = shape;
      is = is;
      function = ap (λ (t : Told). t.function) right;
      index = ap (λ (t : Told). t.index) right;
      upper = ap (λ (t : Told). t.upper) right;
      lower = ap (λ (t : Told). t.lower) right;
    }

pub node-within : (form : ℕ) (kind : Kind) → form_node form ≡ Some kind → IsForm form
node-within form kind node = let line = line-of form kind node in shaped-within form line.shape line.is

-- a form has a side for each edge of its node
pub sides-counted : (form : ℕ) (kind : Kind) → form_node form ≡ Some kind → (side_count (form_upper form) ≡ operands kind) × (side_count (form_lower form) ≡ slots kind)
sides-counted form kind node =
    let line = line-of form kind node in
    (ap (λ o. side_count (shape_upper o)) line.is ∙ line.upper, ap (λ o. side_count (shape_lower o)) line.is ∙ line.lower)

used-some : (sides : Sides) (side : Side) → is_used sides side ≡ true → 0 < side_count sides
used-some sides Left used = rw used (omega arith)
used-some sides Right used = rw used (omega arith)

-- the function of a form that has a lower side gives what its node gives, to any slot
function-gives : (kind : Kind) (reads : List Bool) (side : Side) (slot : ℕ) → 0 < slots kind → function_value (kind_function kind) reads side ≡ gives kind reads slot
unfolding kind_function
function-gives Input reads side slot some = refl
function-gives Output reads side slot some = absurd (omega arith)
function-gives Not reads side slot some = refl
function-gives Fan reads side slot some = refl
function-gives And reads side slot some = refl
function-gives Or reads side slot some = refl
function-gives Nand reads side slot some = refl
function-gives Nor reads side slot some = refl
function-gives Xor reads side slot some = refl
function-gives Xnor reads side slot some = refl

pub node-sends : (form : ℕ) (kind : Kind) → form_node form ≡ Some kind → (side : Side) (slot : ℕ) → is_used (form_lower form) side ≡ true → (reads : List Bool) → form_sends form reads side ≡ gives kind reads slot
node-sends form kind node side slot used reads =
    let line = line-of form kind node in
    let lower : is_used line.shape.lower side ≡ true = sym (ap (λ o. is_used (shape_lower o) side) line.is) ∙ used in
    let some : 0 < slots kind = let a = used-some line.shape.lower side lower in let b = line.lower in omega arith in
    ap (λ o. shape_sends o reads side) line.is
    ∙ ap (λ (b : Bool). if b then function_value line.shape.function reads side else false) lower
    ∙ ap (λ f. function_value f reads side) line.function
    ∙ function-gives kind reads side slot some

exit-used : (left right : Option ℕ) (side : Side) (slot : ℕ) → slot_on left right side ≡ Some slot → is_used (record { left = is_some left; right = is_some right }) side ≡ true
exit-used left right Left slot e = ap is_some e
exit-used left right Right slot e = ap is_some e

pub form-of : (kind : Kind) (upper : Sides) (left right : Option ℕ) (form : ℕ) → IsFormWith kind upper (record { left = is_some left; right = is_some right }) form → IsFormOf kind upper left right form
form-of kind upper left right form uses = record {
  uses = uses;
  sends = λ side slot on reads. node-sends form kind uses.node side slot (ap (λ sides. is_used sides side) uses.lower_sides ∙ exit-used left right side slot on) reads;
}

-- there is one form at most that holds a node of this kind and uses these sides
pub one-with : (kind : Kind) (upper lower : Sides) (f g : ℕ) → IsFormWith kind upper lower f → IsFormWith kind upper lower g → f ≡ g
one-with kind upper lower f g a b = index f a ∙ sym (index g b)
  where
    index : (form : ℕ) → IsFormWith kind upper lower form → form ≡ form_index kind upper lower
    index form h =
        let line = line-of form kind h.node in
        let up : line.shape.upper ≡ upper = sym (ap shape_upper line.is) ∙ h.upper_sides in
        let low : line.shape.lower ≡ lower = sym (ap shape_lower line.is) ∙ h.lower_sides in
        line.index ∙ ap (λ s. form_index kind s line.shape.lower) up ∙ ap (form_index kind upper) low

abbrev sides_of : Bool → Bool → Sides
sides_of left right = record { left = left; right = right }

-- the same, where what is used below was told one side after the other
pub form-told : (kind : Kind) (upper : Sides) (left right : Option ℕ) (a b : Bool) (form : ℕ) → a ≡ is_some left → b ≡ is_some right → IsFormWith kind upper (record { left = a; right = b }) form → IsFormOf kind upper left right form
form-told kind upper left right a b form p q uses =
    form-of kind upper left right form (record { node = uses.node; upper_sides = uses.upper_sides; lower_sides = uses.lower_sides ∙ ap₂ (λ (x y : Bool). sides_of x y) p q })

pub told-form : (kind : Kind) (upper : Sides) (left right : Option ℕ) (a b : Bool) (form : ℕ) → a ≡ is_some left → b ≡ is_some right → IsFormOf kind upper left right form → IsFormWith kind upper (record { left = a; right = b }) form
told-form kind upper left right a b form p q is =
    record { node = is.uses.node; upper_sides = is.uses.upper_sides; lower_sides = is.uses.lower_sides ∙ ap₂ (λ (x y : Bool). sides_of x y) (sym p) (sym q) }

-- ---- there is a form for each way in which a node's edges come in and leave

With : Kind → Bool → Bool → Bool → Bool → Type 0
With kind a b c d = IsFormWith kind (sides_of a b) (sides_of c d) (form_index kind (sides_of a b) (sides_of c d))

none-used : (P : Bool → Bool → Type 0) → P false false → (a b : Bool) → side_count (sides_of a b) ≡ 0 → P a b
none-used P h true b e = absurd (omega arith)
none-used P h false true e = absurd (omega arith)
none-used P h false false e = h

one-used : (P : Bool → Bool → Type 0) → P true false → P false true → (a b : Bool) → side_count (sides_of a b) ≡ 1 → P a b
one-used P l r true true e = absurd (omega arith)
one-used P l r true false e = l
one-used P l r false true e = r
one-used P l r false false e = absurd (omega arith)

two-used : (P : Bool → Bool → Type 0) → P true true → (a b : Bool) → side_count (sides_of a b) ≡ 2 → P a b
two-used P h true true e = h
two-used P h true false e = absurd (omega arith)
two-used P h false b e = elim b as (λ (v : Bool). side_count (sides_of false v) ≡ 2 → P false v) [ true ↦ λ f. absurd (omega arith) | false ↦ λ f. absurd (omega arith) ] e

gate : (kind : Kind) → With kind true true true false → With kind true true false true → (a b c d : Bool) → side_count (sides_of a b) ≡ 2 → side_count (sides_of c d) ≡ 1 → With kind a b c d
gate kind l r a b c d p q = two-used (λ (x y : Bool). With kind x y c d) (one-used (λ (x y : Bool). With kind true true x y) l r c d q) a b p

with-sides : (kind : Kind) (a b c d : Bool) → side_count (sides_of a b) ≡ operands kind → side_count (sides_of c d) ≡ slots kind → With kind a b c d
unfolding With form_index place
with-sides Input a b c d p q =
    none-used (λ (x y : Bool). With Input x y c d) (one-used (λ (x y : Bool). With Input false false x y) (record { node = refl; upper_sides = refl; lower_sides = refl }) (record { node = refl; upper_sides = refl; lower_sides = refl }) c d q) a b p
with-sides Output a b c d p q =
    none-used (λ (x y : Bool). With Output a b x y) (one-used (λ (x y : Bool). With Output x y false false) (record { node = refl; upper_sides = refl; lower_sides = refl }) (record { node = refl; upper_sides = refl; lower_sides = refl }) a b p) c d q
with-sides Not a b c d p q =
    one-used (λ (x y : Bool). With Not x y c d)
    (one-used (λ (x y : Bool). With Not true false x y) (record { node = refl; upper_sides = refl; lower_sides = refl }) (record { node = refl; upper_sides = refl; lower_sides = refl }) c d q)
    (one-used (λ (x y : Bool). With Not false true x y) (record { node = refl; upper_sides = refl; lower_sides = refl }) (record { node = refl; upper_sides = refl; lower_sides = refl }) c d q)
    a b p
with-sides Fan a b c d p q =
    two-used (λ (x y : Bool). With Fan a b x y) (one-used (λ (x y : Bool). With Fan x y true true) (record { node = refl; upper_sides = refl; lower_sides = refl }) (record { node = refl; upper_sides = refl; lower_sides = refl }) a b p) c d q
with-sides And a b c d p q = gate And (record { node = refl; upper_sides = refl; lower_sides = refl }) (record { node = refl; upper_sides = refl; lower_sides = refl }) a b c d p q
with-sides Or a b c d p q = gate Or (record { node = refl; upper_sides = refl; lower_sides = refl }) (record { node = refl; upper_sides = refl; lower_sides = refl }) a b c d p q
with-sides Nand a b c d p q = gate Nand (record { node = refl; upper_sides = refl; lower_sides = refl }) (record { node = refl; upper_sides = refl; lower_sides = refl }) a b c d p q
with-sides Nor a b c d p q = gate Nor (record { node = refl; upper_sides = refl; lower_sides = refl }) (record { node = refl; upper_sides = refl; lower_sides = refl }) a b c d p q
with-sides Xor a b c d p q = gate Xor (record { node = refl; upper_sides = refl; lower_sides = refl }) (record { node = refl; upper_sides = refl; lower_sides = refl }) a b c d p q
with-sides Xnor a b c d p q = gate Xnor (record { node = refl; upper_sides = refl; lower_sides = refl }) (record { node = refl; upper_sides = refl; lower_sides = refl }) a b c d p q

pub some-form : (kind : Kind) (upper : Sides) (left right : Option ℕ) → side_count upper ≡ operands kind → side_count (sides_of (is_some left) (is_some right)) ≡ slots kind → (form : ℕ) × IsFormOf kind upper left right form
unfolding With
some-form kind upper left right p q =
    let form = form_index kind upper (sides_of (is_some left) (is_some right)) in
    (form, form-of kind upper left right form (with-sides kind upper.left upper.right (is_some left) (is_some right) p q))
