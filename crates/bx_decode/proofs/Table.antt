-- What the table says of the sides that a form uses: those by which the clauses against it know it are used.
use Rattle.std.proofs.Common.{◌≡◌, ℕ, ◌<◌, ◌&&◌, ◌||◌, Bool, true, false, not, cond, Option, Some, None, refl, sym, arith}
use Rattle.std.proofs.lemmas.Bool.{false≢true}
use Rattle.bx_forms.specs.declared.kind.Kind.{Kind}
use Rattle.bx_forms.specs.declared.kind.Kind.TheVariants.{Output, Not, Fan}
use Rattle.bx_forms.specs.declared.side.Side.TheVariants.{Left, Right}
use Rattle.bx_forms.specs.declared.side.Sides.{Sides}
use Rattle.bx_forms.specs.declared.table.Shape.{Shape}
use Rattle.bx_forms.specs.Forms.{IsForm, shape_of, shape_node, form_node, form_upper, form_lower}
use Rattle.bx_forms.specs.Sides.{is_used}
use Rattle.bx_forms.proofs.Lines.{AllForms, at-form, shaped-within}
use Rattle.bx_layout.specs.TileForms.{on_side}
use Rattle.bx_encode.specs.Families.{used_side}

abbrev pub any_side : Sides → Bool
any_side sides = sides.left || sides.right

abbrev pub both_sides : Sides → Bool
both_sides sides = sides.left && sides.right

-- a form with a node uses the sides by which the clauses against it know it
abbrev pub known_by : Kind → Sides → Sides → Bool
known_by Output upper lower = any_side upper
known_by Fan upper lower = any_side upper
known_by Not upper lower = any_side upper && any_side lower
known_by _ upper lower = any_side lower

-- a form without one uses one side above and one below, or both and both
abbrev pub as_many : Sides → Sides → Bool
as_many upper lower = cond (both_sides upper) (both_sides lower) (any_side upper && any_side lower && not (both_sides lower))

abbrev pub fits : Option Kind → Sides → Sides → Bool
fits None upper lower = as_many upper lower
fits (Some kind) upper lower = known_by kind upper lower

Fits : ℕ → Type 0
Fits form = fits (form_node form) (form_upper form) (form_lower form) ≡ true

lines-fit : AllForms Fits
unfolding Fits
lines-fit =
    (refl, (refl, (refl, (refl, (refl, (refl, (refl, (refl, (refl, (refl, (refl, (refl, (refl, (refl, (refl, (refl, (refl, (refl, (refl, (refl, (refl, (refl, (refl, (refl, (refl, (refl, (refl, (refl, tt))))))))))))))))))))))))))))

pub line-fits : (form : ℕ) → IsForm form → fits (form_node form) (form_upper form) (form_lower form) ≡ true
unfolding Fits
line-fits form inside = at-form Fits lines-fit form inside

-- a form that holds a node stands in the table
pub holding-within : (form : ℕ) (kind : Kind) → form_node form ≡ Some kind → IsForm form
holding-within form kind e = by (shape_of form) refl e
  where
    by : (o : Option Shape) → shape_of form ≡ o → shape_node o ≡ Some kind → IsForm form
    by None is h = cc
    by (Some shape) is h = shaped-within form shape is

-- ---- the one side that is used

pub used-itself : (sides : Sides) → any_side sides ≡ true → is_used sides (used_side sides) ≡ true
used-itself sides h = by sides.left sides.right h
  where
    by : (a b : Bool) → (a || b) ≡ true → is_used (record { left = a; right = b }) (cond a Left Right) ≡ true
    by true b h = refl
    by false b h = h

-- where one is used and not both, the left one is used exactly where it is that one, and the right one else
pub left-alone : (sides : Sides) → any_side sides ≡ true → both_sides sides ≡ false → sides.left ≡ on_side true false (used_side sides)
left-alone sides some both = by sides.left sides.right some both
  where
    by : (a b : Bool) → (a || b) ≡ true → (a && b) ≡ false → a ≡ on_side true false (cond a Left Right)
    by true b h k = refl
    by false b h k = refl

pub right-alone : (sides : Sides) → any_side sides ≡ true → both_sides sides ≡ false → sides.right ≡ not (on_side true false (used_side sides))
right-alone sides some both = by sides.left sides.right some both
  where
    by : (a b : Bool) → (a || b) ≡ true → (a && b) ≡ false → b ≡ not (on_side true false (cond a Left Right))
    by true b h k = k
    by false b h k = h

-- ---- what `as_many` says

pub both-below : (upper lower : Sides) → as_many upper lower ≡ true → both_sides upper ≡ true → both_sides lower ≡ true
both-below upper lower h both = by (both_sides upper) both h
  where
    by : (b : Bool) → b ≡ true → cond b (both_sides lower) (any_side upper && any_side lower && not (both_sides lower)) ≡ true → both_sides lower ≡ true
    by true e k = k
    by false e k = absurd (false≢true e)

pub record IsSingle (upper lower : Sides) : Type 0 where
  pub above : any_side upper ≡ true
  pub below : any_side lower ≡ true
  pub alone : both_sides lower ≡ false

pub one-each : (upper lower : Sides) → as_many upper lower ≡ true → both_sides upper ≡ false → IsSingle upper lower
one-each upper lower h one = by (both_sides upper) one h
  where
    parts : (a b c : Bool) → (a && b && not c) ≡ true → (a ≡ true) × (b ≡ true) × (c ≡ false)
    parts true true true k = cc
    parts true true false k = (refl, refl, refl)
    parts true false c k = cc
    parts false b c k = cc

    by : (b : Bool) → b ≡ false → cond b (both_sides lower) (any_side upper && any_side lower && not (both_sides lower)) ≡ true → IsSingle upper lower
    by true e k = absurd (false≢true (sym e))
    by false e k = let (a, b, c) = parts (any_side upper) (any_side lower) (both_sides lower) k in record { above = a; below = b; alone = c }
