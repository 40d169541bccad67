-- What a row of the grid of a list of operations takes is what the row above it sends.
use Rattle.std.proofs.Common.{◌≡◌, ℕ, suc, ◌+◌, ◌<◌, ◌≤◌, Bool, true, false, not, Option, Some, None, inl, inr, refl, sym, ap, ap₂, ◌∙◌, arith}
use Rattle.std.specs.Prelude.{◌==◌, ◌&&◌, nat_lt, if◌then◌else◌}
use Rattle.std.proofs.lemmas.Bool.{cases_lt, cases_eq, cases_Bool, lt-ltb, le-ltb, eq-eqb, ne_eqb, eqb-true, and_parts}
use Rattle.bx_forms.specs.declared.side.Sides.{Sides}
use Rattle.bx_forms.specs.Forms.{form_upper, form_lower}
use Rattle.bx_forms.specs.Sides.{side_count}
use Rattle.bx_layout.specs.Grids.{upper_in, lower_in}
use Rattle.bx_quick.specs.declared.operation.Operation.{Operation}
use Rattle.bx_quick.specs.Operations.{is_right_of_two, takes_as_right, gives_as_right}
use Rattle.bx_quick.specs.Grids.{leaves_left, input_of, wire_of, lane_form, lane_tile, operation_tile}
use Rattle.bx_quick.specs.Chains.{takes_count, gives_count, IsStep}

-- ---- tiles

abbrev pub sides : Bool → Bool → Sides
sides a b = record { left = a; right = b }

pub lane-in : (before next : Option Operation) (s x : ℕ) → x < s → lane_tile before next s x ≡ Some (lane_form before next x)
lane-in before next s x h = rw (lt-ltb x s h)

pub lane-out : (before next : Option Operation) (s x : ℕ) → s ≤ x → lane_tile before next s x ≡ None
lane-out before next s x h = rw (le-ltb x s h)

upper-wire : (a b : Bool) → form_upper (wire_of a b) ≡ sides a (not a)
upper-wire true true = refl
upper-wire true false = refl
upper-wire false true = refl
upper-wire false false = refl

lower-wire : (a b : Bool) → form_lower (wire_of a b) ≡ sides b (not b)
lower-wire true true = refl
lower-wire true false = refl
lower-wire false true = refl
lower-wire false false = refl

pub upper-input : (b : Bool) → form_upper (input_of b) ≡ sides false false
upper-input true = refl
upper-input false = refl

lower-input : (b : Bool) → form_lower (input_of b) ≡ sides b (not b)
lower-input true = refl
lower-input false = refl

pub lane-lower : (before next : Option Operation) (x : ℕ) → form_lower (lane_form before next x) ≡ sides (leaves_left next x) (not (leaves_left next x))
lane-lower None next x = lower-input (leaves_left next x)
lane-lower (Some op) next x = lower-wire (gives_as_right op x) (leaves_left next x)

pub lane-upper : (op : Operation) (next : Option Operation) (x : ℕ) → form_upper (lane_form (Some op) next x) ≡ sides (gives_as_right op x) (not (gives_as_right op x))
lane-upper op next x = upper-wire (gives_as_right op x) (leaves_left next x)

pub operation-at : (op : Operation) → operation_tile op op.lane ≡ Some op.form
operation-at op = rw (eq-eqb op.lane op.lane refl)

pub operation-right : (op : Operation) (x : ℕ) → (x ≡ op.lane → ⊥) → takes_as_right op x ≡ true → operation_tile op x ≡ None
operation-right op x other right = rw (ne_eqb x op.lane other, right)

pub operation-wire : (op : Operation) (x : ℕ) → (x ≡ op.lane → ⊥) → takes_as_right op x ≡ false → x < op.lanes → operation_tile op x ≡ Some 4
operation-wire op x other right h = rw (ne_eqb x op.lane other, right, lt-ltb x op.lanes h)

neither : (b : Bool) (o : Option ℕ) → (if b then o else o) ≡ o
neither true o = refl
neither false o = refl

pub operation-out : (op : Operation) (x : ℕ) → (x ≡ op.lane → ⊥) → op.lanes ≤ x → operation_tile op x ≡ None
operation-out op x other h = rw (ne_eqb x op.lane other, le-ltb x op.lanes h) (neither (takes_as_right op x) None)

-- ---- the right one of two

and-none : (a c : Bool) → (a && false && c) ≡ false
and-none true c = refl
and-none false c = refl

pub and-false : (a : Bool) → (a && false) ≡ false
and-false true = refl
and-false false = refl

pub right-is : (u : Sides) (lane x : ℕ) → u.left ≡ true → u.right ≡ true → x ≡ lane + 1 → is_right_of_two u lane x ≡ true
right-is u lane x l r e = rw (l, r, eq-eqb x (lane + 1) e)

pub right-one : (u : Sides) (lane x : ℕ) → u.right ≡ false → is_right_of_two u lane x ≡ false
right-one u lane x r = rw r (and-none u.left (x == lane + 1))

pub right-other : (u : Sides) (lane x : ℕ) → (x ≡ lane + 1 → ⊥) → is_right_of_two u lane x ≡ false
right-other u lane x ne = rw (ne_eqb x (lane + 1) ne) (and-false (u.left && u.right))

pub right-says : (u : Sides) (lane x : ℕ) → is_right_of_two u lane x ≡ true → (u.right ≡ true) × (x ≡ lane + 1)
right-says u lane x e =
    let both = and_parts (u.left && u.right) (x == lane + 1) e in
    ((and_parts u.left u.right both.0).1, eqb-true x (lane + 1) both.1)

-- ---- the four shapes of an operation

count-two : (u : Sides) → u.left ≡ true → u.right ≡ true → side_count u ≡ 2
count-two u l r = rw (l, r)

count-one : (u : Sides) → u.left ≡ true → u.right ≡ false → side_count u ≡ 1
count-one u l r = rw (l, r)

-- it takes one lane or two, and gives one or two
pub data Shape (op : Operation) (next : ℕ) : Type 0 where
  one : (form_upper op.form).right ≡ false → (form_lower op.form).right ≡ false → op.lane < op.lanes → next ≡ op.lanes → Shape op next
  fan : (form_upper op.form).right ≡ false → (form_lower op.form).right ≡ true → op.lane + 1 ≡ op.lanes → next ≡ op.lanes + 1 → Shape op next
  gate : (form_upper op.form).right ≡ true → (form_lower op.form).right ≡ false → op.lane + 2 ≡ op.lanes → next ≡ op.lane + 1 → Shape op next
  pair : (form_upper op.form).right ≡ true → (form_lower op.form).right ≡ true → op.lane + 1 < op.lanes → next ≡ op.lanes → Shape op next

pub shape : (op : Operation) (next : ℕ) → IsStep op next → Shape op next
shape op next step = elim (cases_Bool (form_upper op.form).right) [
  | inl p ↦ (
      let taken : takes_count op ≡ 2 = count-two (form_upper op.form) step.takes_left p in
      let within = step.within in
      let leaves = step.leaves in
      elim (cases_Bool (form_lower op.form).right) [
        | inl q ↦ (let given : gives_count op ≡ 2 = count-two (form_lower op.form) step.gives_left q in pair p q (omega arith) (omega arith))
        | inr q ↦ (
            let given : gives_count op ≡ 1 = count-one (form_lower op.form) step.gives_left q in
            let last : op.lane + takes_count op ≡ op.lanes = step.last (λ e. omega arith) in
            gate p q (omega arith) (omega arith))
      ])
  | inr p ↦ (
      let taken : takes_count op ≡ 1 = count-one (form_upper op.form) step.takes_left p in
      let within = step.within in
      let leaves = step.leaves in
      elim (cases_Bool (form_lower op.form).right) [
        | inl q ↦ (
            let given : gives_count op ≡ 2 = count-two (form_lower op.form) step.gives_left q in
            let last : op.lane + takes_count op ≡ op.lanes = step.last (λ e. omega arith) in
            fan p q (omega arith) (omega arith))
        | inr q ↦ (let given : gives_count op ≡ 1 = count-one (form_lower op.form) step.gives_left q in one p q (omega arith) (omega arith))
      ])
]

pub lane-there : (op : Operation) (next : ℕ) → IsStep op next → (op.lane < op.lanes) × (op.lane < next)
lane-there op next step = at (shape op next step)
  where
    at : Shape op next → (op.lane < op.lanes) × (op.lane < next)
    at (one p q h e) = (omega arith, omega arith)
    at (fan p q h e) = (omega arith, omega arith)
    at (gate p q h e) = (omega arith, omega arith)
    at (pair p q h e) = (omega arith, omega arith)

-- ---- what tiles send and take

module _ (before next : Option Operation) (s x : ℕ) where
  pub lane-left : (lower_in (lane_tile before next s x)).left ≡ (nat_lt x s && leaves_left next x)
  lane-left = elim (cases_lt x s) [
    | inl h ↦ ap (λ o. (lower_in o).left) (lane-in before next s x h) ∙ ap (λ (u : Sides). u.left) (lane-lower before next x) ∙ sym (ap (λ (b : Bool). b && leaves_left next x) (lt-ltb x s h))
    | inr h ↦ ap (λ o. (lower_in o).left) (lane-out before next s x h) ∙ sym (ap (λ (b : Bool). b && leaves_left next x) (le-ltb x s h))
  ]

  pub lane-right : (lower_in (lane_tile before next s x)).right ≡ (nat_lt x s && not (leaves_left next x))
  lane-right = elim (cases_lt x s) [
    | inl h ↦ ap (λ o. (lower_in o).right) (lane-in before next s x h) ∙ ap (λ (u : Sides). u.right) (lane-lower before next x) ∙ sym (ap (λ (b : Bool). b && not (leaves_left next x)) (lt-ltb x s h))
    | inr h ↦ ap (λ o. (lower_in o).right) (lane-out before next s x h) ∙ sym (ap (λ (b : Bool). b && not (leaves_left next x)) (le-ltb x s h))
  ]

module _ (op : Operation) (next : Option Operation) (s x : ℕ) where
  pub lane-takes_left : (upper_in (lane_tile (Some op) next s x)).left ≡ (nat_lt x s && gives_as_right op x)
  lane-takes_left = elim (cases_lt x s) [
    | inl h ↦ ap (λ o. (upper_in o).left) (lane-in (Some op) next s x h) ∙ ap (λ (u : Sides). u.left) (lane-upper op next x) ∙ sym (ap (λ (b : Bool). b && gives_as_right op x) (lt-ltb x s h))
    | inr h ↦ ap (λ o. (upper_in o).left) (lane-out (Some op) next s x h) ∙ sym (ap (λ (b : Bool). b && gives_as_right op x) (le-ltb x s h))
  ]

  pub lane-takes_right : (upper_in (lane_tile (Some op) next s x)).right ≡ (nat_lt x s && not (gives_as_right op x))
  lane-takes_right = elim (cases_lt x s) [
    | inl h ↦ ap (λ o. (upper_in o).right) (lane-in (Some op) next s x h) ∙ ap (λ (u : Sides). u.right) (lane-upper op next x) ∙ sym (ap (λ (b : Bool). b && not (gives_as_right op x)) (lt-ltb x s h))
    | inr h ↦ ap (λ o. (upper_in o).right) (lane-out (Some op) next s x h) ∙ sym (ap (λ (b : Bool). b && not (gives_as_right op x)) (le-ltb x s h))
  ]

-- the three kinds of tiles in an operation's row, beside its own
pub data Beside (op : Operation) (x : ℕ) : Type 0 where
  right : takes_as_right op x ≡ true → operation_tile op x ≡ None → Beside op x
  wire : takes_as_right op x ≡ false → x < op.lanes → operation_tile op x ≡ Some 4 → Beside op x
  out : op.lanes ≤ x → operation_tile op x ≡ None → Beside op x

pub beside : (op : Operation) (x : ℕ) → (x ≡ op.lane → ⊥) → Beside op x
beside op x ne = elim (cases_lt x op.lanes) [
  | inl h ↦ elim (cases_Bool (takes_as_right op x)) [
    | inl r ↦ right r (operation-right op x ne r)
    | inr r ↦ wire r h (operation-wire op x ne r h)
  ]
  | inr h ↦ out h (operation-out op x ne h)
]

-- beside the operation nothing is taken or sent on the right
takes-none : (op : Operation) (x : ℕ) → Beside op x → (upper_in (operation_tile op x)).right ≡ false
takes-none op x (right r e) = ap (λ o. (upper_in o).right) e
takes-none op x (wire r h e) = ap (λ o. (upper_in o).right) e
takes-none op x (out h e) = ap (λ o. (upper_in o).right) e

pub sends-none : (op : Operation) (x : ℕ) → Beside op x → (lower_in (operation_tile op x)).right ≡ false
sends-none op x (right r e) = ap (λ o. (lower_in o).right) e
sends-none op x (wire r h e) = ap (λ o. (lower_in o).right) e
sends-none op x (out h e) = ap (λ o. (lower_in o).right) e

pub at-lane : {X : Type 0} (f : Option ℕ → X) (op : Operation) (x : ℕ) → x ≡ op.lane → f (operation_tile op x) ≡ f (Some op.form)
at-lane f op x e = ap (λ z. f (operation_tile op z)) e ∙ ap f (operation-at op)

-- ---- an operation below its lanes

module _ (before : Option Operation) (op : Operation) (next : ℕ) (step : IsStep op next) (x : ℕ) where
  pub operation-takes_left : (upper_in (operation_tile op x)).left ≡ (lower_in (lane_tile before (Some op) op.lanes x)).right
  operation-takes_left = elim (cases_eq x op.lane) [
    | inl e ↦ (
        let there = lane-there op next step in
        let low : x < op.lanes = omega arith in
        at-lane (λ o. (upper_in o).left) op x e
        ∙ step.takes_left
        ∙ sym (lane-right before (Some op) op.lanes x ∙ ap₂ (λ (a b : Bool). a && not b) (lt-ltb x op.lanes low) (right-other (form_upper op.form) op.lane x (λ z. omega arith))))
    | inr ne ↦ other (beside op x ne)
  ]
    where
      other : Beside op x → (upper_in (operation_tile op x)).left ≡ (lower_in (lane_tile before (Some op) op.lanes x)).right
      other (right r e) = ap (λ o. (upper_in o).left) e ∙ sym (lane-right before (Some op) op.lanes x ∙ ap (λ (b : Bool). nat_lt x op.lanes && not b) r ∙ and-false (nat_lt x op.lanes))
      other (wire r h e) = ap (λ o. (upper_in o).left) e ∙ sym (lane-right before (Some op) op.lanes x ∙ ap₂ (λ (a b : Bool). a && not b) (lt-ltb x op.lanes h) r)
      other (out h e) = ap (λ o. (upper_in o).left) e ∙ sym (lane-right before (Some op) op.lanes x ∙ ap (λ (b : Bool). b && not (takes_as_right op x)) (le-ltb x op.lanes h))

  pub operation-takes_right : (upper_in (operation_tile op x)).right ≡ (lower_in (lane_tile before (Some op) op.lanes (x + 1))).left
  operation-takes_right = elim (cases_eq x op.lane) [
    | inl e ↦ at-lane (λ o. (upper_in o).right) op x e ∙ sym (lane-left before (Some op) op.lanes (x + 1) ∙ here e (shape op next step))
    | inr ne ↦ (
        takes-none op x (beside op x ne)
        ∙ sym (lane-left before (Some op) op.lanes (x + 1) ∙ ap (λ (b : Bool). nat_lt (x + 1) op.lanes && b) (right-other (form_upper op.form) op.lane (x + 1) (λ z. ne (omega arith))) ∙ and-false (nat_lt (x + 1) op.lanes)))
  ]
    where
      single : (form_upper op.form).right ≡ false → (nat_lt (x + 1) op.lanes && takes_as_right op (x + 1)) ≡ (form_upper op.form).right
      single p = ap (λ (b : Bool). nat_lt (x + 1) op.lanes && b) (right-one (form_upper op.form) op.lane (x + 1) p) ∙ and-false (nat_lt (x + 1) op.lanes) ∙ sym p

      double : x ≡ op.lane → (form_upper op.form).right ≡ true → op.lane + 1 < op.lanes → (nat_lt (x + 1) op.lanes && takes_as_right op (x + 1)) ≡ (form_upper op.form).right
      double e p h = ap₂ (λ (a b : Bool). a && b) (lt-ltb (x + 1) op.lanes (omega arith)) (right-is (form_upper op.form) op.lane (x + 1) step.takes_left p (omega arith)) ∙ sym p

      here : x ≡ op.lane → Shape op next → (nat_lt (x + 1) op.lanes && takes_as_right op (x + 1)) ≡ (form_upper op.form).right
      here e (one p q h n) = single p
      here e (fan p q h n) = single p
      here e (gate p q h n) = double e p (omega arith)
      here e (pair p q h n) = double e p h

-- ---- lanes below an operation

module _ (op : Operation) (after : Option Operation) (next : ℕ) (step : IsStep op next) where
  pub lane-first : (upper_in (lane_tile (Some op) after next 0)).left ≡ false
  lane-first = lane-takes_left op after next 0 ∙ ap (λ (b : Bool). nat_lt 0 next && b) (right-other (form_lower op.form) op.lane 0 (λ z. omega arith)) ∙ and-false (nat_lt 0 next)

  pub lane-meets_left : (z : ℕ) → (upper_in (lane_tile (Some op) after next (suc z))).left ≡ (lower_in (operation_tile op z)).right
  lane-meets_left z = lane-takes_left op after next (suc z) ∙ elim (cases_eq z op.lane) [
    | inl e ↦ here e (shape op next step) ∙ sym (at-lane (λ o. (lower_in o).right) op z e)
    | inr ne ↦ (
        ap (λ (b : Bool). nat_lt (suc z) next && b) (right-other (form_lower op.form) op.lane (suc z) (λ e. ne (omega arith)))
        ∙ and-false (nat_lt (suc z) next)
        ∙ sym (sends-none op z (beside op z ne)))
  ]
    where
      single : (form_lower op.form).right ≡ false → (nat_lt (suc z) next && gives_as_right op (suc z)) ≡ (form_lower op.form).right
      single q = ap (λ (b : Bool). nat_lt (suc z) next && b) (right-one (form_lower op.form) op.lane (suc z) q) ∙ and-false (nat_lt (suc z) next) ∙ sym q

      double : z ≡ op.lane → (form_lower op.form).right ≡ true → op.lane + 1 < next → (nat_lt (suc z) next && gives_as_right op (suc z)) ≡ (form_lower op.form).right
      double e q h = ap₂ (λ (a b : Bool). a && b) (lt-ltb (suc z) next (omega arith)) (right-is (form_lower op.form) op.lane (suc z) step.gives_left q (omega arith)) ∙ sym q

      here : z ≡ op.lane → Shape op next → (nat_lt (suc z) next && gives_as_right op (suc z)) ≡ (form_lower op.form).right
      here e (one p q h n) = single q
      here e (gate p q h n) = single q
      here e (fan p q h n) = double e q (omega arith)
      here e (pair p q h n) = double e q (omega arith)

  pub lane-meets_right : (x : ℕ) → (upper_in (lane_tile (Some op) after next x)).right ≡ (lower_in (operation_tile op x)).left
  lane-meets_right x = lane-takes_right op after next x ∙ elim (cases_eq x op.lane) [
    | inl e ↦ (
        let there = lane-there op next step in
        let low : x < next = omega arith in
        ap₂ (λ (a b : Bool). a && not b) (lt-ltb x next low) (right-other (form_lower op.form) op.lane x (λ z. omega arith))
        ∙ sym (at-lane (λ o. (lower_in o).left) op x e ∙ step.gives_left))
    | inr ne ↦ other ne (beside op x ne) (shape op next step)
  ]
    where
      -- nothing comes in on the right where the lane is given as the right one of two, or isn't there
      given : gives_as_right op x ≡ true → (nat_lt x next && not (gives_as_right op x)) ≡ false
      given r = ap (λ (b : Bool). nat_lt x next && not b) r ∙ and-false (nat_lt x next)

      gone : next ≤ x → (nat_lt x next && not (gives_as_right op x)) ≡ false
      gone h = ap (λ (b : Bool). b && not (gives_as_right op x)) (le-ltb x next h)

      kept : x < next → gives_as_right op x ≡ false → (nat_lt x next && not (gives_as_right op x)) ≡ true
      kept h r = ap₂ (λ (a b : Bool). a && not b) (lt-ltb x next h) r

      both : (form_lower op.form).right ≡ true → x ≡ op.lane + 1 → gives_as_right op x ≡ true
      both q e = right-is (form_lower op.form) op.lane x step.gives_left q e

      -- the lane at the right of the operation is no wire where the operation takes two
      apart : takes_as_right op x ≡ false → (form_upper op.form).right ≡ true → x ≡ op.lane + 1 → ⊥
      apart r p e = let is = right-is (form_upper op.form) op.lane x step.takes_left p e in cc

      lone : (form_lower op.form).right ≡ false → gives_as_right op x ≡ false
      lone q = right-one (form_lower op.form) op.lane x q

      off : (x ≡ op.lane + 1 → ⊥) → gives_as_right op x ≡ false
      off n = right-other (form_lower op.form) op.lane x n

      below-right : takes_as_right op x ≡ true → Shape op next → (nat_lt x next && not (gives_as_right op x)) ≡ false
      below-right r (one p q h n) = let says = right-says (form_upper op.form) op.lane x r in absurd (cc)
      below-right r (fan p q h n) = let says = right-says (form_upper op.form) op.lane x r in absurd (cc)
      below-right r (gate p q h n) = let says = right-says (form_upper op.form) op.lane x r in gone (omega arith)
      below-right r (pair p q h n) = let says = right-says (form_upper op.form) op.lane x r in given (both q says.1)

      below-wire : (x ≡ op.lane → ⊥) → takes_as_right op x ≡ false → x < op.lanes → Shape op next → (nat_lt x next && not (gives_as_right op x)) ≡ true
      below-wire ne r low (one p q h n) = kept (omega arith) (lone q)
      below-wire ne r low (fan p q h n) = kept (omega arith) (off (λ e. omega arith))
      below-wire ne r low (gate p q h n) = let not_right = apart r p in kept (omega arith) (lone q)
      below-wire ne r low (pair p q h n) = kept (omega arith) (off (apart r p))

      below-out : op.lanes ≤ x → Shape op next → (nat_lt x next && not (gives_as_right op x)) ≡ false
      below-out past (one p q h n) = gone (omega arith)
      below-out past (fan p q h n) = elim (cases_eq x (op.lane + 1)) [
        | inl e ↦ given (both q e)
        | inr ne ↦ gone (omega arith)
      ]
      below-out past (gate p q h n) = gone (omega arith)
      below-out past (pair p q h n) = gone (omega arith)

      other : (x ≡ op.lane → ⊥) → Beside op x → Shape op next → (nat_lt x next && not (gives_as_right op x)) ≡ (lower_in (operation_tile op x)).left
      other ne (right r e) s = below-right r s ∙ sym (ap (λ o. (lower_in o).left) e)
      other ne (wire r h e) s = below-wire ne r h s ∙ sym (ap (λ o. (lower_in o).left) e)
      other ne (out h e) s = below-out h s ∙ sym (ap (λ o. (lower_in o).left) e)
