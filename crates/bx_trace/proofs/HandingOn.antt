-- What a form without a node hands on: from one upper side at most to each lower one, and to one lower side at
-- most from each upper one.
use Rattle.std.proofs.Common.{◌≡◌, ◌↔◌, ℕ, Bool, true, false, not, ◌&&◌, ◌||◌, Option, Some, None, is_some, refl, sym, ap, ap₂, ◌∙◌, subst}
use Rattle.bx_forms.specs.declared.kind.Kind.{Kind}
use Rattle.bx_forms.specs.declared.side.Side.{Side}
use Rattle.bx_forms.specs.declared.side.Side.TheVariants.{Left, Right}
use Rattle.bx_forms.specs.declared.table.Shape.{Shape}
use Rattle.bx_forms.specs.Forms.{IsForm, shape_of, shape_sends, form_node, form_upper, form_value}
use Rattle.bx_forms.specs.Sides.{used_values}
use Rattle.bx_forms.proofs.Lines.{form-tested, shaped-within}
use Rattle.bx_layout.specs.TileForms.{on_side}
use Rattle.bx_trace.specs.Passing.{Passes}

-- ---- a side that is found

pub side-found : (P : Side → Type 0) → ((a b : Side) → P a → P b → a ≡ b) → (s : Side) → P s → (side : Side) → (Some s ≡ Some side) ↔ P side
side-found P one s p side = ((λ e. let same : s ≡ side = cc in subst P same p), (λ q. ap Some (one s side p q)))

pub no-side : (P : Side → Type 0) → (P Left → ⊥) → (P Right → ⊥) → (side : Side) → (None ≡ Some side) ↔ P side
no-side P l r side = ((λ e. absurd (cc)), (λ p. absurd (at side p)))
  where
    at : (s : Side) → P s → ⊥
    at Left p = l p
    at Right p = r p

-- ---- one source

which : (a b : Side) → on_side true false a ≡ on_side true false b → a ≡ b
which Left Left e = refl
which Left Right e = absurd (cc)
which Right Left e = absurd (cc)
which Right Right e = refl

pub one-source : (form : ℕ) (side a b : Side) → Passes form a side → Passes form b side → a ≡ b
one-source form side a b p q = which a b (sym p.0 ∙ q.0)

-- ---- one exit

abbrev hands_on : ℕ → Side → Side → Bool
hands_on form Left side = form_value form true false side && not (form_value form false true side)
hands_on form Right side = not (form_value form true false side) && form_value form false true side

abbrev hands_on_twice : ℕ → Side → Bool
hands_on_twice form from = hands_on form from Left && hands_on form from Right

-- no line without a node hands on twice
abbrev line_is_right : ℕ → Bool
line_is_right form = is_some (form_node form) || (not (hands_on_twice form Left) && not (hands_on_twice form Right))

handed : (form : ℕ) (from side : Side) → Passes form from side → hands_on form from side ≡ true
handed form Left side p = ap₂ (λ (x y : Bool). x && not y) p.0 p.1
handed form Right side p = ap₂ (λ (x y : Bool). not x && y) p.0 p.1

-- only a form of the table hands on
no-shape : (o : Option Shape) (form : ℕ) → shape_of form ≡ o → (from side : Side) → Passes form from side → IsForm form
no-shape None form is Left side p =
    let none : form_value form true false side ≡ false = ap (λ (o : Option Shape). shape_sends o (used_values (form_upper form) true false) side) is in
    let both : true ≡ false = sym p.0 ∙ none in
    absurd (cc)
no-shape None form is Right side p =
    let none : form_value form false true side ≡ false = ap (λ (o : Option Shape). shape_sends o (used_values (form_upper form) false true) side) is in
    let both : true ≡ false = sym p.1 ∙ none in
    absurd (cc)
no-shape (Some shape) form is from side p = shaped-within form shape is

twice-never : (form : ℕ) (from : Side) → form_node form ≡ None → hands_on_twice form from ≡ true → line_is_right form ≡ false
twice-never form Left node twice = ap₂ (λ (o : Option Kind) (b : Bool). is_some o || (not b && not (hands_on_twice form Right))) node twice
twice-never form Right node twice = ap₂ (λ (o : Option Kind) (b : Bool). is_some o || (not (hands_on_twice form Left) && not b)) node twice ∙ neither (hands_on_twice form Left)
  where
    neither : (b : Bool) → (not b && false) ≡ false
    neither true = refl
    neither false = refl

clash : (form : ℕ) (from : Side) → form_node form ≡ None → Passes form from Left → Passes form from Right → ⊥
clash form from node l r =
    let right : line_is_right form ≡ true = form-tested line_is_right refl form (no-shape (shape_of form) form refl from Left l) in
    let wrong = twice-never form from node (ap₂ (λ (x y : Bool). x && y) (handed form from Left l) (handed form from Right r)) in
    let both : true ≡ false = sym right ∙ wrong in
    cc

pub one-exit : (form : ℕ) (from : Side) → form_node form ≡ None → (a b : Side) → Passes form from a → Passes form from b → a ≡ b
one-exit form from node Left Left p q = refl
one-exit form from node Left Right p q = absurd (clash form from node p q)
one-exit form from node Right Left p q = absurd (clash form from node q p)
one-exit form from node Right Right p q = refl
