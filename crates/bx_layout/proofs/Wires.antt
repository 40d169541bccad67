-- The forms without a node: there is one for each way in which what comes in above can be sent out below,
-- straight or crossed.
use Rattle.std.proofs.Common.{◌≡◌, ℕ, ◌<◌, ◌↔◌, Bool, true, false, List, Option, Some, None, is_some, MatchOption, IfSome, IsSome, if◌then◌else◌, refl, sym, ap, ap₂, ◌∙◌, subst, arith}
use Rattle.bx_forms.specs.declared.side.Side.{Side}
use Rattle.bx_forms.specs.declared.side.Side.TheVariants.{Left, Right}
use Rattle.bx_forms.specs.declared.side.Sides.{Sides}
use Rattle.bx_forms.specs.declared.table.Shape.{Shape}
use Rattle.bx_forms.specs.Forms.{form_count, IsForm, shape_of, shape_lower, shape_sends, form_node, form_upper, form_lower, form_sends, form_value, function_value}
use Rattle.bx_forms.specs.Sides.{is_used, used_values}
use Rattle.bx_forms.proofs.Lines.{AllForms, at-form}
use Rattle.bx_layout.specs.TileForms.{on_side, upper_from, IsWireOf}

-- nothing is sent out on a side that a form doesn't use
unused-shape : (o : Option Shape) (reads : List Bool) (side : Side) → is_used (shape_lower o) side ≡ false → shape_sends o reads side ≡ false
unused-shape None reads side e = refl
unused-shape (Some shape) reads side e = ap (λ (b : Bool). if b then function_value shape.function reads side else false) e

pub unused-sends : (form : ℕ) (reads : List Bool) (side : Side) → is_used (form_lower form) side ≡ false → form_sends form reads side ≡ false
unused-sends form reads side e = unused-shape (shape_of form) reads side e

-- the number of the wire, and one that no form has where there is none
abbrev pub number_of : Option Side → Option Side → ℕ
number_of None None = form_count
number_of None (Some Left) = 5
number_of None (Some Right) = 7
number_of (Some Left) None = 4
number_of (Some Left) (Some Left) = form_count
number_of (Some Left) (Some Right) = 26
number_of (Some Right) None = 6
number_of (Some Right) (Some Left) = 27
number_of (Some Right) (Some Right) = form_count

-- the upper side from which a lower one has its value, by what goes out there where the left one alone is
-- true, and where the right one alone is
abbrev from_of : Bool → Bool → Option Side
from_of true true = None
from_of true false = Some Left
from_of false true = Some Right
from_of false false = None

abbrev from_at : ℕ → Side → Option Side
from_at form side = from_of (form_value form true false side) (form_value form false true side)

LineIsWire : ℕ → Type 0
LineIsWire form = MatchOption (form_node form) (form ≡ number_of (from_at form Left) (from_at form Right)) (λ kind. Unit {0})

lines-wires : AllForms LineIsWire
unfolding LineIsWire
lines-wires =
    (tt, (tt, (tt, (tt, (refl, (refl, (refl, (refl, (tt, (tt, (tt, (tt, (tt, (tt, (tt, (tt, (tt, (tt, (tt, (tt, (tt, (tt, (tt, (tt, (tt, (tt, (refl, (refl, tt))))))))))))))))))))))))))))

wire-line : (form : ℕ) → IsForm form → form_node form ≡ None → form ≡ number_of (from_at form Left) (from_at form Right)
unfolding LineIsWire
wire-line form inside node =
    let line : LineIsWire form = at-form LineIsWire lines-wires form inside in
    subst (λ (o : Option _). MatchOption o (form ≡ number_of (from_at form Left) (from_at form Right)) (λ kind. Unit {0})) node line

from_of-side : (from : Side) → from_of (on_side true false from) (on_side false true from) ≡ Some from
from_of-side Left = refl
from_of-side Right = refl

-- what a wire sends out says from where it has it
from-told : (form : ℕ) (side : Side) (from : Option Side) → is_used (form_lower form) side ≡ is_some from →
    ((s : Side) → from ≡ Some s → (a b : Bool) → form_value form a b side ≡ on_side a b s) → from_at form side ≡ from
from-told form side None unused sends =
    ap₂ from_of (unused-sends form (used_values (form_upper form) true false) side unused) (unused-sends form (used_values (form_upper form) false true) side unused)
from-told form side (Some s) used sends =
    ap₂ from_of (sends s refl true false) (sends s refl false true) ∙ from_of-side s

pub wire-number : (upper : Sides) (left right : Option Side) (form : ℕ) → IsWireOf upper left right form → form ≡ number_of left right
wire-number upper left right form is =
    wire-line form is.form is.holds_none
    ∙ ap₂ number_of
    (from-told form Left left (ap (λ sides. is_used sides Left) is.lower_sides) (λ s e. is.sends Left s e))
    (from-told form Right right (ap (λ sides. is_used sides Right) is.lower_sides) (λ s e. is.sends Right s e))

Sends : ℕ → Side → Option Side → Type 0
Sends form side from = (s : Side) → from ≡ Some s → (a b : Bool) → form_value form a b side ≡ on_side a b s

-- a wire, by what it sends out on each side
wire-at : (left right : Option Side) (form : ℕ) → IsForm form → form_node form ≡ None → form_upper form ≡ upper_from left right → form_lower form ≡ record { left = is_some left; right = is_some right } →
    Sends form Left left → Sends form Right right → IsWireOf (upper_from left right) left right form
unfolding Sends
wire-at left right form inside node upper lower l r = record { form = inside; holds_none = node; upper_sides = upper; lower_sides = lower; sends = on }
  where
    on : (side s : Side) → on_side left right side ≡ Some s → (a b : Bool) → form_value form a b side ≡ on_side a b s
    on Left s e = l s e
    on Right s e = r s e

never : (form : ℕ) (side : Side) → Sends form side None
unfolding Sends
never form side s e a b = absurd (cc)

always : (form : ℕ) (side from : Side) → ((a b : Bool) → form_value form a b side ≡ on_side a b from) → Sends form side (Some from)
unfolding Sends
always form side from h s e a b = let same : from ≡ s = cc in h a b ∙ ap (on_side a b) same

pub number-wire : (left right : Option Side) → IsForm (number_of left right) → IsWireOf (upper_from left right) left right (number_of left right)
number-wire None None h = absurd (let l : form_count < form_count = h in omega arith)
number-wire (Some Left) (Some Left) h = absurd (let l : form_count < form_count = h in omega arith)
number-wire (Some Right) (Some Right) h = absurd (let l : form_count < form_count = h in omega arith)
number-wire (Some Left) None h = wire-at (Some Left) None 4 h refl refl refl (always 4 Left Left (λ a b. refl)) (never 4 Right)
number-wire None (Some Left) h = wire-at None (Some Left) 5 h refl refl refl (never 5 Left) (always 5 Right Left (λ a b. refl))
number-wire (Some Right) None h = wire-at (Some Right) None 6 h refl refl refl (always 6 Left Right (λ a b. refl)) (never 6 Right)
number-wire None (Some Right) h = wire-at None (Some Right) 7 h refl refl refl (never 7 Left) (always 7 Right Right (λ a b. refl))
number-wire (Some Left) (Some Right) h = wire-at (Some Left) (Some Right) 26 h refl refl refl (always 26 Left Left (λ a b. refl)) (always 26 Right Right (λ a b. refl))
number-wire (Some Right) (Some Left) h = wire-at (Some Right) (Some Left) 27 h refl refl refl (always 27 Left Right (λ a b. refl)) (always 27 Right Left (λ a b. refl))

pub wires : (left right : Option Side) (form : ℕ) → IsWireOf (upper_from left right) left right form ↔ (IsForm form × (form ≡ number_of left right))
wires left right form = (
  (λ is. (is.form, wire-number (upper_from left right) left right form is)),
  (λ (inside, e). subst (IsWireOf (upper_from left right) left right) (sym e) (number-wire left right (subst IsForm e inside))),
)

pub number-right : (from : Side) → number_of None (Some from) ≡ on_side 5 7 from
number-right Left = refl
number-right Right = refl

pub number-left : (from : Side) → number_of (Some from) None ≡ on_side 4 6 from
number-left Left = refl
number-left Right = refl

pub number-both : (a b : Side) → (a ≡ b → ⊥) → number_of (Some a) (Some b) ≡ on_side 26 27 a
number-both Left Left h = absurd (h refl)
number-both Left Right h = refl
number-both Right Left h = refl
number-both Right Right h = absurd (h refl)

-- what the table says at the number of a wire
pub wired : (left right : Option Side) (n : ℕ) (found : Option ℕ) → number_of left right ≡ n → IfSome found (λ form. form ≡ n) → (IsSome found ↔ IsForm n) →
    (form : ℕ) → (found ≡ Some form) ↔ IsWireOf (upper_from left right) left right form
wired left right n None number same some form = (
  (λ e. absurd (cc)),
  (λ is. let (inside, e) = (wires left right form).0 is in let found = some.1 (subst IsForm (e ∙ number) inside) in absurd (cc)),
)
wired left right n (Some m) number same some form = (
  (λ e.
      let found : m ≡ form = cc in
      let at : form ≡ number_of left right = sym found ∙ same ∙ sym number in
      (wires left right form).1 (subst IsForm (sym same ∙ found) (some.0 refl), at)),
  (λ is. let (inside, e) = (wires left right form).0 is in ap Some (same ∙ sym number ∙ sym e)),
)

pub unwired : (left right : Option Side) → left ≡ None → right ≡ None → (form : ℕ) → (None ≡ Some form) ↔ IsWireOf (upper_from left right) left right form
unwired left right l r form = (
  (λ e. absurd (cc)),
  (λ is.
      let (inside, e) = (wires left right form).0 is in
      let at : form ≡ form_count = e ∙ ap₂ number_of l r in
      let low : form < form_count = inside in
      absurd (omega arith)),
)
