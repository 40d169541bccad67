-- How many of the literals that are left of a trail are marked, as one is marked or treated.
use Rattle.std.proofs.Common.{◌≡◌, ◌≢◌, ℕ, ◌+◌, ◌-◌, ◌<◌, ◌≤◌, nat_lt, inl, inr, Bool, true, false, ◌==◌, ◌&&◌, ◌||◌, List, [], ◌∷◌, length, get_or, set, refl, sym, ◌∙◌, ap, ap₂, subst, arith}
use Rattle.std.specs.List.{list_any}
use Rattle.std.proofs.lemmas.Bool.{cases_Bool, cases_eq, eqb-true, eq-eqb, ne_eqb}
use Rattle.std.proofs.lemmas.List.{get_or-set_same, get_or-set_other}
use Rattle.bx_logic.proofs.Members.{Member, member_of_AllByRecursion}
use Rattle.bx_search.specs.States.{Assigned, current_level, is_assigned}
use Rattle.bx_search.specs.Marks.{Marking, has_mark, one_if, with_mark, without_mark, with_marks, level_at}
use Rattle.bx_search.proofs.Backed.{IsNew}
use Rattle.bx_search.proofs.Values.{assigned-literal, or-cases}
use Rattle.bx_search.proofs.Marking.{sized-with_mark}

-- how many pass a test
abbrev pub tally : (Assigned → Bool) → List Assigned → ℕ
tally p [] = 0
tally p (a ∷ rest) = one_if (p a) + tally p rest

pub tally-same : (p q : Assigned → Bool) (rest : List Assigned) → ((a : Assigned) → Member a rest → p a ≡ q a) → tally p rest ≡ tally q rest
tally-same p q [] same = refl
tally-same p q (a ∷ rest) same = ap₂ (λ (b : Bool) (n : ℕ). one_if b + n) (same a (inl refl)) (tally-same p q rest (λ b on. same b (inr on)))

pub tally-low : (p : Assigned → Bool) (rest : List Assigned) → tally p rest ≤ length rest
tally-low p [] = omega arith
tally-low p (a ∷ rest) = let low = tally-low p rest in let one = one_low (p a) in omega (arith, low, one) where
  one_low : (b : Bool) → one_if b ≤ 1
  one_low true = omega arith
  one_low false = omega arith

one-zero : (b : Bool) → one_if b ≡ 0 → b ≡ false
one-zero true e = absurd (omega (arith, e))
one-zero false e = refl

pub tally-none : (p : Assigned → Bool) (rest : List Assigned) → tally p rest ≡ 0 → (a : Assigned) → Member a rest → p a ≡ false
tally-none p [] e a h = absurd h
tally-none p (b ∷ rest) e a (inl is) = ap p (sym is) ∙ one-zero (p b) (omega (arith, e))
tally-none p (b ∷ rest) e a (inr h) = tally-none p rest (omega (arith, e)) a h

pub tally-some : (p : Assigned → Bool) (rest : List Assigned) → nat_lt 0 (tally p rest) ≡ list_any p rest
tally-some p [] = refl
tally-some p (a ∷ rest) = first (p a) (tally-some p rest) where
  first : (b : Bool) → nat_lt 0 (tally p rest) ≡ list_any p rest → nat_lt 0 (one_if b + tally p rest) ≡ (b || list_any p rest)
  first true h = grind arith
  first false h = ap (nat_lt 0) plain ∙ h where
    plain : 0 + tally p rest ≡ tally p rest
    plain = omega arith

-- no two are over one variable
abbrev pub Apart : List Assigned → Type 0
Apart [] = Unit {0}
Apart (a ∷ rest) = IsNew a.literal rest × Apart rest

-- one passes that didn't, and the others as before
pub tally-more : (p q : Assigned → Bool) (rest : List Assigned) (b : Assigned) → Member b rest → Apart rest → ((a : Assigned) → Member a rest → a.literal.var ≢ b.literal.var → q a ≡ p a) → p b ≡ false
    → tally q rest ≡ tally p rest + one_if (q b)
tally-more p q [] b h apart others off = absurd h
tally-more p q (a ∷ rest) b (inl is) apart others off =
    let after : tally q rest ≡ tally p rest = tally-same q p rest (λ c on. others c (inr on) (λ e. new c on (e ∙ ap (λ (z : Assigned). z.literal.var) (sym is)))) in
    let old : one_if (p a) ≡ 0 = ap (λ (z : Assigned). one_if (p z)) is ∙ ap one_if off in
    let now : one_if (q a) ≡ one_if (q b) = ap (λ (z : Assigned). one_if (q z)) is in
    omega (arith, after, old, now)
  where
    new : (c : Assigned) → Member c rest → c.literal.var ≢ a.literal.var
    new c on = member_of_AllByRecursion (λ (z : Assigned). z.literal.var ≢ a.literal.var) c rest apart.0 on
tally-more p q (a ∷ rest) b (inr on) apart others off =
    let after : tally q rest ≡ tally p rest + one_if (q b) = tally-more p q rest b on apart.1 (λ c h. others c (inr h)) off in
    let first : one_if (q a) ≡ one_if (p a) = ap one_if (others a (inl refl) (λ e. member_of_AllByRecursion (λ (z : Assigned). z.literal.var ≢ a.literal.var) b rest apart.0 on (sym e))) in
    omega (arith, after, first)

-- marks by place
apart-places : (u v : ℕ) → 0 < u → 0 < v → u ≢ v → u - 1 ≢ v - 1
apart-places u v hu hv n e = n (omega (arith, hu, hv, e))

pub has-set : (m : Marking) (v : ℕ) (b : Bool) (left here : ℕ) → 0 < v → v ≤ length m.marked → has_mark (record { marked = set m.marked (v - 1) b; left = left; here = here }) v ≡ b
has-set m v b left here above within = get_or-set_same m.marked (v - 1) b false (omega (arith, above, within))

pub has-other : (m : Marking) (v w : ℕ) (b : Bool) (left here : ℕ) → 0 < v → 0 < w → w ≢ v → has_mark (record { marked = set m.marked (v - 1) b; left = left; here = here }) w ≡ has_mark m w
has-other m v w b left here above over other = get_or-set_other m.marked (v - 1) (w - 1) b false (apart-places w v over above other)

-- what is marked is of the literals that are left, and counted
pub record IsPending (current : ℕ) (rest : List Assigned) (m : Marking) : Type 0 where
  pub among : (v : ℕ) → 0 < v → has_mark m v ≡ true → is_assigned rest v ≡ true
  pub left : m.left ≡ tally (λ (a : Assigned). has_mark m a.literal.var) rest
  pub here : m.here ≡ tally (λ (a : Assigned). (a.level == current) && has_mark m a.literal.var) rest

and-true : (b : Bool) → (b && true) ≡ b
and-true true = refl
and-true false = refl

and-false : (b : Bool) → (b && false) ≡ false
and-false true = refl
and-false false = refl

or-true : (b : Bool) → (b || true) ≡ true
or-true true = refl
or-true false = refl

pub or-false-right : (b : Bool) → (b || false) ≡ b
or-false-right true = refl
or-false-right false = refl

pub is-assigned : (rest : List Assigned) (b : Assigned) (v : ℕ) → Member b rest → b.literal.var ≡ v → is_assigned rest v ≡ true
is-assigned [] b v h e = absurd h
is-assigned (a ∷ rest) b v (inl is) e = rw (eq-eqb a.literal.var v (ap (λ (z : Assigned). z.literal.var) is ∙ e)) refl
is-assigned (a ∷ rest) b v (inr on) e = rw (is-assigned rest b v on e) (or-true (a.literal.var == v))

abbrev pub ArePositive : List Assigned → Type 0
ArePositive rest = (a : Assigned) → Member a rest → 0 < a.literal.var

pub pending-with_mark : (current : ℕ) (rest : List Assigned) (b : Assigned) (m : Marking) → Apart rest → ArePositive rest → Member b rest → b.literal.var ≤ length m.marked
    → IsPending current rest m → IsPending current rest (with_mark b.literal.var (b.level == current) m)
pending-with_mark current rest b m apart positive on within p = elim (cases_Bool (has_mark m b.literal.var)) [
  | inl t ↦ rw t p
  | inr f ↦ rw f (record { among = among; left = left f; here = here f })
] where
  new : Marking
  new = record { marked = set m.marked (b.literal.var - 1) true; left = m.left + 1; here = m.here + one_if (b.level == current) }

  others : (a : Assigned) → Member a rest → a.literal.var ≢ b.literal.var → has_mark new a.literal.var ≡ has_mark m a.literal.var
  others a h other = has-other m b.literal.var a.literal.var true (m.left + 1) (m.here + one_if (b.level == current)) (positive b on) (positive a h) other

  marked : has_mark new b.literal.var ≡ true
  marked = has-set m b.literal.var true (m.left + 1) (m.here + one_if (b.level == current)) (positive b on) within

  among : (v : ℕ) → 0 < v → has_mark new v ≡ true → is_assigned rest v ≡ true
  among v above h = elim (cases_eq v b.literal.var) [
    | inl same ↦ is-assigned rest b v on (sym same)
    | inr other ↦ p.among v above (sym (has-other m b.literal.var v true (m.left + 1) (m.here + one_if (b.level == current)) (positive b on) above other) ∙ h)
  ]

  left : has_mark m b.literal.var ≡ false → new.left ≡ tally (λ (a : Assigned). has_mark new a.literal.var) rest
  left f =
      let more = tally-more (λ (a : Assigned). has_mark m a.literal.var) (λ (a : Assigned). has_mark new a.literal.var) rest b on apart others f in
      let one : one_if (has_mark new b.literal.var) ≡ 1 = ap one_if marked in
      omega (arith, more, one, p.left)

  here : has_mark m b.literal.var ≡ false → new.here ≡ tally (λ (a : Assigned). (a.level == current) && has_mark new a.literal.var) rest
  here f =
      let more = tally-more (λ (a : Assigned). (a.level == current) && has_mark m a.literal.var) (λ (a : Assigned). (a.level == current) && has_mark new a.literal.var) rest b on apart
      (λ a h other. ap (λ (x : Bool). (a.level == current) && x) (others a h other))
      (ap (λ (x : Bool). (b.level == current) && x) f ∙ and-false (b.level == current)) in
      let one : one_if ((b.level == current) && has_mark new b.literal.var) ≡ one_if (b.level == current) = ap (λ (x : Bool). one_if ((b.level == current) && x)) marked ∙ ap one_if (and-true (b.level == current)) in
      omega (arith, more, one, p.here)

-- several are marked
pub pending-with_marks : (trail rest : List Assigned) (vars : List ℕ) (m : Marking) → Apart rest → ((a : Assigned) → Member a rest → (0 < a.literal.var) × (a.literal.var ≤ length m.marked))
    → ((a : Assigned) → Member a rest → level_at trail a.literal.var ≡ a.level) → ((v : ℕ) → Member v vars → is_assigned rest v ≡ true)
    → IsPending (current_level trail) rest m → IsPending (current_level trail) rest (with_marks trail vars m)
pending-with_marks trail rest [] m apart over levels each p = p
pending-with_marks trail rest (v ∷ vars) m apart over levels each p =
    let (b, on, is) = assigned-literal rest v (each v (inl refl)) in
    let one : IsPending (current_level trail) rest (with_mark b.literal.var (b.level == current_level trail) m) =
    pending-with_mark (current_level trail) rest b m apart (λ a h. (over a h).0) on (over b on).1 p in
    let level : level_at trail v ≡ b.level = ap (level_at trail) (sym is) ∙ levels b on in
    let this : IsPending (current_level trail) rest (with_mark v (level_at trail v == current_level trail) m) =
    subst (λ (n : ℕ). IsPending (current_level trail) rest (with_mark v (n == current_level trail) m)) (sym level)
    (subst (λ (n : ℕ). IsPending (current_level trail) rest (with_mark n (b.level == current_level trail) m)) is one) in
    let size = sized-with_mark v (level_at trail v == current_level trail) m in
    pending-with_marks trail rest vars (with_mark v (level_at trail v == current_level trail) m) apart
    (λ a h. ((over a h).0, omega (arith, (over a h).1, size))) levels (λ w h. each w (inr h)) this

-- which are marked then
has-with_mark : (v w : ℕ) (here : Bool) (m : Marking) → 0 < v → 0 < w → v ≤ length m.marked → has_mark (with_mark v here m) w ≡ (has_mark m w || (v == w))
has-with_mark v w here m above over within = elim (cases_Bool (has_mark m v)) [
  | inl t ↦ rw t (elim (cases_eq v w) [
    | inl same ↦ ap (has_mark m) (sym same) ∙ t ∙ sym (ap (λ (b : Bool). has_mark m w || b) (eq-eqb v w same) ∙ or-true (has_mark m w))
    | inr other ↦ sym (ap (λ (b : Bool). has_mark m w || b) (ne_eqb v w other) ∙ or-false-right (has_mark m w))
  ])
  | inr f ↦ rw f (elim (cases_eq v w) [
    | inl same ↦ ap (λ (n : ℕ). get_or (set m.marked (v - 1) true) (n - 1) false) (sym same) ∙ has-set m v true (m.left + 1) (m.here + one_if here) above within
        ∙ sym (ap (λ (b : Bool). has_mark m w || b) (eq-eqb v w same) ∙ or-true (has_mark m w))
    | inr other ↦ has-other m v w true (m.left + 1) (m.here + one_if here) above over (λ e. other (sym e))
        ∙ sym (ap (λ (b : Bool). has_mark m w || b) (ne_eqb v w other) ∙ or-false-right (has_mark m w))
  ])
]

or-assoc : (a b c : Bool) → ((a || b) || c) ≡ (a || (b || c))
or-assoc true b c = refl
or-assoc false b c = refl

pub has-with_marks : (trail : List Assigned) (vars : List ℕ) (w : ℕ) (m : Marking) → 0 < w → ((v : ℕ) → Member v vars → (0 < v) × (v ≤ length m.marked))
    → has_mark (with_marks trail vars m) w ≡ (has_mark m w || list_any (λ v. v == w) vars)
has-with_marks trail [] w m over each = sym (or-false-right (has_mark m w))
has-with_marks trail (v ∷ vars) w m over each =
    let size = sized-with_mark v (level_at trail v == current_level trail) m in
    let b = each v (inl refl) in
    has-with_marks trail vars w (with_mark v (level_at trail v == current_level trail) m) over (λ u h. ((each u (inr h)).0, omega (arith, (each u (inr h)).1, size)))
    ∙ ap (λ (x : Bool). x || list_any (λ u. u == w) vars) (has-with_mark v w (level_at trail v == current_level trail) m b.0 over b.1)
    ∙ or-assoc (has_mark m w) (v == w) (list_any (λ u. u == w) vars)

-- one that isn't marked is passed
pub pending-passed : (current : ℕ) (a : Assigned) (before : List Assigned) (m : Marking) → has_mark m a.literal.var ≡ false → IsPending current (a ∷ before) m → IsPending current before m
pending-passed current a before m f p = record {
  among = λ v above h. elim (or-cases (a.literal.var == v) (is_assigned before v) (p.among v above h)) [
    | inl same ↦ absurd (both (has_mark m v) h (ap (has_mark m) (sym (eqb-true a.literal.var v same)) ∙ f))
    | inr rest ↦ rest
  ];
  left = let none : one_if (has_mark m a.literal.var) ≡ 0 = ap one_if f in omega (arith, none, p.left);
  here = let none : one_if ((a.level == current) && has_mark m a.literal.var) ≡ 0 = ap (λ (x : Bool). one_if ((a.level == current) && x)) f ∙ ap one_if (and-false (a.level == current)) in omega (arith, none, p.here);
} where
  both : (b : Bool) → b ≡ true → b ≡ false → ⊥
  both b t g = no (sym t ∙ g) where
    no : true ≡ false → ⊥
    no x = cc

-- one that is marked is treated
pub pending-without : (current : ℕ) (a : Assigned) (before : List Assigned) (m : Marking) → Apart (a ∷ before) → ArePositive (a ∷ before) → a.literal.var ≤ length m.marked → has_mark m a.literal.var ≡ true
    → IsPending current (a ∷ before) m → IsPending current before (without_mark a.literal.var (a.level == current) m)
pending-without current a before m apart positive within t p = record {
  among = λ v above h. elim (cases_eq v a.literal.var) [
    | inl same ↦ absurd (both (has_mark new v) h (ap (has_mark new) same ∙ unset))
    | inr other ↦ elim (or-cases (a.literal.var == v) (is_assigned before v) (p.among v above (sym (has-other m a.literal.var v false new.left new.here (positive a (inl refl)) above other) ∙ h))) [
      | inl same ↦ absurd (other (sym (eqb-true a.literal.var v same)))
      | inr rest ↦ rest
    ]
  ];
  left =
      let one : one_if (has_mark m a.literal.var) ≡ 1 = ap one_if t in
      let same = tally-same (λ (b : Assigned). has_mark new b.literal.var) (λ (b : Assigned). has_mark m b.literal.var) before others in
      omega (arith, one, same, p.left);
  here =
      let one : one_if ((a.level == current) && has_mark m a.literal.var) ≡ one_if (a.level == current) = ap (λ (x : Bool). one_if ((a.level == current) && x)) t ∙ ap one_if (and-true (a.level == current)) in
      let same = tally-same (λ (b : Assigned). (b.level == current) && has_mark new b.literal.var) (λ (b : Assigned). (b.level == current) && has_mark m b.literal.var) before (λ b on. ap (λ (x : Bool). (b.level == current) && x) (others b on)) in
      omega (arith, one, same, p.here);
} where
  new : Marking
  new = without_mark a.literal.var (a.level == current) m

  others : (b : Assigned) → Member b before → has_mark new b.literal.var ≡ has_mark m b.literal.var
  others b on = has-other m a.literal.var b.literal.var false new.left new.here (positive a (inl refl)) (positive b (inr on)) (member_of_AllByRecursion (λ (z : Assigned). z.literal.var ≢ a.literal.var) b before apart.0 on)

  unset : has_mark new a.literal.var ≡ false
  unset = has-set m a.literal.var false new.left new.here (positive a (inl refl)) within

  both : (b : Bool) → b ≡ true → b ≡ false → ⊥
  both b x g = no (sym x ∙ g) where
    no : true ≡ false → ⊥
    no y = cc
