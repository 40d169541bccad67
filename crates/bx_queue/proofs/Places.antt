-- Stamps and the place of the search: what a move, a mark and the numbering anew keep, and what is found from the
-- place on.
use Rattle.std.proofs.Common.{◌≡◌, ◌≢◌, ℕ, set, ◌+◌, ◌-◌, ◌<◌, ◌≤◌, ◌^◌, Bool, true, false, not, ◌==◌, nat_lt, cond, if◌then◌else◌, List, [], ◌∷◌, length, replicate, Some, None, Contains, find, get_or, refl, sym, ap, subst, ◌∙◌, arith, ◌⊎◌, inl, inr}
use Rattle.std.specs.List.{AllByRecursion, range_with_len}
use Rattle.std.proofs.lemmas.Bool.{cases_Bool, cond-true, cond-false, cases_eq, ltb-true, ltb-false}
use Rattle.std.proofs.lemmas.List.{get_or_read, get_or-set_same, get_or-set_other, length-set, length-replicate, get_or-replicate}
use Rattle.std.proofs.lemmas.List.Elements.{recursion_from_All}
use Rattle.std.proofs.lemmas.List.FromFn.{length-range_with_len}
use Rattle.bx_logic.specs.Lists.{AreDistinct}
use Rattle.bx_queue.specs.Queue.{Queue, IsQueue, IsVariable, is_taken, first_free, without, moved_to_front}
use Rattle.bx_queue.specs.Ring.{first_of, behind}
use Rattle.bx_queue.specs.Stamps.{DoFall, numbering, AreTakenBefore, IsSearched, nearer, place_after, stamping}
use Rattle.bx_queue.proofs.Orders.{Contains-cases, same_or_not, without-same, without-other, AllByRecursion-without, IsQueue-marks, IsQueue-moved, IsQueue-first, All-variables}
use Rattle.bx_queue.proofs.Rings.{of-each, first-keeps, behind-keeps, length-without, AllBelow-more}

weaker : (P Q : ℕ → Type 0) → ((x : ℕ) → P x → Q x) → (xs : List ℕ) → AllByRecursion P xs → AllByRecursion Q xs
weaker P Q f [] h = tt
weaker P Q f (x ∷ xs) h = (f x h.0, weaker P Q f xs h.1)

-- a fact of each, where another is known of each
weaker_beside : (P Q R : ℕ → Type 0) → ((x : ℕ) → P x → Q x → R x) → (xs : List ℕ) → AllByRecursion P xs → AllByRecursion Q xs → AllByRecursion R xs
weaker_beside P Q R f [] h g = tt
weaker_beside P Q R f (x ∷ xs) h g = (f x h.0 g.0, weaker_beside P Q R f xs h.1 g.1)

-- a fact of a choice
either : {X : Type 0} (P : X → Type 0) (b : Bool) (x y : X) → (b ≡ true → P x) → (b ≡ false → P y) → P (cond b x y)
either P b x y f g = elim (cases_Bool b) [
  | inl holds ↦ subst P (sym (cond-true b x y holds)) (f holds)
  | inr fails ↦ subst P (sym (cond-false b x y fails)) (g fails)
]

-- stamps

DoFall-without : (stamps : List ℕ) (v : ℕ) (xs : List ℕ) → DoFall stamps xs → DoFall stamps (without v xs)
DoFall-without stamps v [] h = tt
DoFall-without stamps v (x ∷ xs) h = elim (same_or_not x v) [
  | inl same ↦ subst (DoFall stamps) (sym (without-same v x xs same.1)) h.2
  | inr other ↦ subst (DoFall stamps) (sym (without-other v x xs other.1)) (h.0, AllByRecursion-without (λ y. get_or stamps y 0 < get_or stamps x 0) v xs h.1, DoFall-without stamps v xs h.2)
]

-- a stamp elsewhere keeps them falling
DoFall-set : (stamps : List ℕ) (v t : ℕ) (xs : List ℕ) → AllByRecursion (λ y. y ≢ v) xs → DoFall stamps xs → DoFall (set stamps v t) xs
DoFall-set stamps v t [] off h = tt
DoFall-set stamps v t (x ∷ xs) off h =
    let e : get_or (set stamps v t) x 0 ≡ get_or stamps x 0 = get_or-set_other stamps v x t 0 off.0 in (
      subst (λ k. 0 < k) (sym e) h.0,
      weaker_beside (λ y. y ≢ v) (λ y. get_or stamps y 0 < get_or stamps x 0) (λ y. get_or (set stamps v t) y 0 < get_or (set stamps v t) x 0)
          (λ y n b. subst (λ k. k < get_or (set stamps v t) x 0) (sym (get_or-set_other stamps v y t 0 n)) (subst (λ k. get_or stamps y 0 < k) (sym e) b)) xs off.1 h.1,
      DoFall-set stamps v t xs off.1 h.2,
    )

-- the first has the greatest
first-greatest : (stamps : List ℕ) (xs : List ℕ) → DoFall stamps xs → AllByRecursion (λ y. get_or stamps y 0 ≤ get_or stamps (first_of xs) 0) xs
first-greatest stamps [] h = tt
first-greatest stamps (x ∷ xs) h = (omega arith, weaker (λ y. get_or stamps y 0 < get_or stamps x 0) (λ y. get_or stamps y 0 ≤ get_or stamps x 0) (λ y b. omega (arith, b)) xs h.1)

-- numbering anew

numbered-other : (v : ℕ) (xs : List ℕ) (top : ℕ) (stamps : List ℕ) → AllByRecursion (λ y. y ≢ v) xs → get_or (numbering xs top stamps) v 0 ≡ get_or stamps v 0
numbered-other v [] top stamps off = refl
numbered-other v (x ∷ xs) top stamps off = numbered-other v xs (top - 1) (set stamps x top) off.1 ∙ get_or-set_other stamps x v top 0 (λ e. off.0 (sym e))

pub length-numbered : (xs : List ℕ) (top : ℕ) (stamps : List ℕ) → length (numbering xs top stamps) ≡ length stamps
length-numbered [] top stamps = refl
length-numbered (x ∷ xs) top stamps = length-numbered xs (top - 1) (set stamps x top) ∙ length-set stamps x top

numbered-first : (x : ℕ) (xs : List ℕ) (top : ℕ) (stamps : List ℕ) → AreDistinct (x ∷ xs) → x < length stamps → get_or (numbering (x ∷ xs) top stamps) x 0 ≡ top
numbered-first x xs top stamps once room = numbered-other x xs (top - 1) (set stamps x top) once.0 ∙ get_or-set_same stamps x top 0 room

room-set : (stamps : List ℕ) (v t : ℕ) (xs : List ℕ) → AllByRecursion (λ y. y < length stamps) xs → AllByRecursion (λ y. y < length (set stamps v t)) xs
room-set stamps v t xs h = subst (λ n. AllByRecursion (λ y. y < n) xs) (sym (length-set stamps v t)) h

numbered-below : (xs : List ℕ) (top : ℕ) (stamps : List ℕ) → AreDistinct xs → AllByRecursion (λ y. y < length stamps) xs
    → AllByRecursion (λ y. get_or (numbering xs top stamps) y 0 ≤ top) xs
numbered-below [] top stamps once room = tt
numbered-below (x ∷ xs) top stamps once room = (
  omega (arith, numbered-first x xs top stamps once room.0),
  weaker (λ y. get_or (numbering xs (top - 1) (set stamps x top)) y 0 ≤ top - 1) (λ y. get_or (numbering (x ∷ xs) top stamps) y 0 ≤ top) (λ y b. omega (arith, b)) xs
      (numbered-below xs (top - 1) (set stamps x top) once.1 (room-set stamps x top xs room.1)),
)

numbered-falls : (xs : List ℕ) (top : ℕ) (stamps : List ℕ) → AreDistinct xs → AllByRecursion (λ y. y < length stamps) xs → length xs ≤ top
    → DoFall (numbering xs top stamps) xs
numbered-falls [] top stamps once room enough = tt
numbered-falls (x ∷ xs) top stamps once room enough =
    let first : get_or (numbering (x ∷ xs) top stamps) x 0 ≡ top = numbered-first x xs top stamps once room.0 in
    let some : 0 < top = omega (arith, enough) in (
      omega (arith, first, some),
      weaker (λ y. get_or (numbering xs (top - 1) (set stamps x top)) y 0 ≤ top - 1) (λ y. get_or (numbering (x ∷ xs) top stamps) y 0 < get_or (numbering (x ∷ xs) top stamps) x 0) (λ y b. omega (arith, b, first, some)) xs
          (numbered-below xs (top - 1) (set stamps x top) once.1 (room-set stamps x top xs room.1)),
      numbered-falls xs (top - 1) (set stamps x top) once.1 (room-set stamps x top xs room.1) (omega (arith, enough)),
    )

-- who moved to the front

stamped-falls : (last : ℕ) (stamps : List ℕ) (v above : ℕ) (xs : List ℕ) → AreDistinct (v ∷ xs) → AllByRecursion (λ y. y < length stamps) (v ∷ xs) → DoFall stamps xs
    → AllByRecursion (λ y. get_or stamps y 0 ≤ above) xs
    → DoFall (stamping last (v ∷ xs) stamps v above) (v ∷ xs)
stamped-falls last stamps v above xs once room fall below =
    either (λ s. DoFall s (v ∷ xs)) (nat_lt above last) (set stamps v (above + 1)) (numbering (v ∷ xs) (length (v ∷ xs)) stamps)
    (λ _.
    let e : get_or (set stamps v (above + 1)) v 0 ≡ above + 1 = get_or-set_same stamps v (above + 1) 0 room.0 in (
      omega (arith, e),
      weaker_beside (λ y. y ≢ v) (λ y. get_or stamps y 0 ≤ above) (λ y. get_or (set stamps v (above + 1)) y 0 < get_or (set stamps v (above + 1)) v 0)
          (λ y n b. let f : get_or (set stamps v (above + 1)) y 0 ≡ get_or stamps y 0 = get_or-set_other stamps v y (above + 1) 0 n in omega (arith, b, e, f)) xs once.0 below,
      DoFall-set stamps v (above + 1) xs once.0 fall,
    ))
    (λ _. numbered-falls (v ∷ xs) (length (v ∷ xs)) stamps once room (omega arith))

stamped-none : (last : ℕ) (stamps : List ℕ) (v above : ℕ) (xs : List ℕ) → AllByRecursion (λ y. y ≢ 0) (v ∷ xs)
    → get_or (stamping last (v ∷ xs) stamps v above) 0 0 ≡ get_or stamps 0 0
stamped-none last stamps v above xs off =
    either (λ s. get_or s 0 0 ≡ get_or stamps 0 0) (nat_lt above last) (set stamps v (above + 1)) (numbering (v ∷ xs) (length (v ∷ xs)) stamps)
    (λ _. get_or-set_other stamps v 0 (above + 1) 0 (λ e. off.0 (sym e)))
    (λ _. numbered-other 0 (v ∷ xs) (length (v ∷ xs)) stamps off)

pub length-stamped : (last : ℕ) (order stamps : List ℕ) (v above : ℕ) → length (stamping last order stamps v above) ≡ length stamps
length-stamped last order stamps v above =
    either (λ (s : List ℕ). length s ≡ length stamps) (nat_lt above last) (set stamps v (above + 1)) (numbering order (length order) stamps)
    (λ _. length-set stamps v (above + 1))
    (λ _. length-numbered order (length order) stamps)

-- places

module _ (taken : List Bool) where
  before-first : (xs : List ℕ) → AreTakenBefore (first_of xs) taken xs
  before-first [] = tt
  before-first (x ∷ xs) = λ n. absurd (n refl)

  before-without : (place v : ℕ) (xs : List ℕ) → v ≢ place → AreTakenBefore place taken xs → AreTakenBefore place taken (without v xs)
  before-without place v [] n h = tt
  before-without place v (x ∷ xs) n h = elim (same_or_not x v) [
    | inl same ↦ subst (AreTakenBefore place taken) (sym (without-same v x xs same.1)) (h (λ e. n (sym same.0 ∙ e))).1
    | inr other ↦ subst (AreTakenBefore place taken) (sym (without-other v x xs other.1)) (λ m. ((h m).0, before-without place v xs n (h m).1))
  ]

  before-behind_without : (v : ℕ) (xs : List ℕ) → AreTakenBefore v taken xs → AreTakenBefore (behind v xs) taken (without v xs)
  before-behind_without v [] h = tt
  before-behind_without v (x ∷ xs) h = elim (same_or_not x v) [
    | inl same ↦
        subst (λ zs. AreTakenBefore (behind v (x ∷ xs)) taken zs) (sym (without-same v x xs same.1))
        (subst (λ p. AreTakenBefore p taken xs) (sym (cond-true (x == v) (first_of xs) (behind v xs) same.1)) (before-first xs))
    | inr other ↦
        subst (λ zs. AreTakenBefore (behind v (x ∷ xs)) taken zs) (sym (without-other v x xs other.1))
        (subst (λ p. AreTakenBefore p taken (x ∷ without v xs)) (sym (cond-false (x == v) (first_of xs) (behind v xs) other.1))
        (λ m. ((h other.0).0, before-behind_without v xs (h other.0).1)))
  ]

  -- the place goes behind a variable that is taken
  pub before-behind : (at : ℕ) (xs : List ℕ) → get_or taken (at - 1) false ≡ true → AreTakenBefore at taken xs → AreTakenBefore (behind at xs) taken xs
  before-behind at [] is h = tt
  before-behind at (x ∷ xs) is h = elim (same_or_not x at) [
    | inl same ↦
        subst (λ p. AreTakenBefore p taken (x ∷ xs)) (sym (cond-true (x == at) (first_of xs) (behind at xs) same.1))
        (λ m. (subst (λ k. get_or taken (k - 1) false ≡ true) (sym same.0) is, before-first xs))
    | inr other ↦
        subst (λ p. AreTakenBefore p taken (x ∷ xs)) (sym (cond-false (x == at) (first_of xs) (behind at xs) other.1))
        (λ m. ((h other.0).0, before-behind at xs is (h other.0).1))
  ]

  -- what is found from the place on
  find-place : (place : ℕ) (xs : List ℕ) → AreTakenBefore place taken xs → Contains xs place → get_or taken (place - 1) false ≡ false
      → find (λ v. not (get_or taken (v - 1) false)) xs ≡ Some place
  find-place place [] h among free = absurd (omega (arith, among.1))
  find-place place (x ∷ xs) h among free = elim (same_or_not x place) [
    | inl same ↦
        cond-true (not (get_or taken (x - 1) false)) (Some x) (find (λ v. not (get_or taken (v - 1) false)) xs) (ap not (ap (λ k. get_or taken (k - 1) false) same.0 ∙ free)) ∙ ap Some same.0
    | inr other ↦ elim (Contains-cases x xs place among) [
      | inl here ↦ absurd (other.0 here)
      | inr rest ↦
          cond-false (not (get_or taken (x - 1) false)) (Some x) (find (λ v. not (get_or taken (v - 1) false)) xs) (ap not (h other.0).0) ∙ find-place place xs (h other.0).1 rest free
    ]
  ]

  find-nowhere : (xs : List ℕ) → AreTakenBefore 0 taken xs → AllByRecursion (λ y. y ≢ 0) xs → find (λ v. not (get_or taken (v - 1) false)) xs ≡ None
  find-nowhere [] h off = refl
  find-nowhere (x ∷ xs) h off = cond-false (not (get_or taken (x - 1) false)) (Some x) (find (λ v. not (get_or taken (v - 1) false)) xs) (ap not (h off.0).0) ∙ find-nowhere xs (h off.0).1 off.1

-- marks

before-taken : (taken : List Bool) (place v : ℕ) (xs : List ℕ) → v - 1 < length taken → AreTakenBefore place taken xs → AreTakenBefore place (set taken (v - 1) true) xs
before-taken taken place v [] room h = tt
before-taken taken place v (x ∷ xs) room h = λ n. (here (h n).0, before-taken taken place v xs room (h n).1) where
  here : get_or taken (x - 1) false ≡ true → get_or (set taken (v - 1) true) (x - 1) false ≡ true
  here is = elim (cases_eq (x - 1) (v - 1)) [
    | inl same ↦ subst (λ k. get_or (set taken (v - 1) true) k false ≡ true) (sym same) (get_or-set_same taken (v - 1) true false room)
    | inr other ↦ get_or-set_other taken (v - 1) (x - 1) true false other ∙ is
  ]

-- a mark elsewhere
mark-other : (taken : List Bool) (v x : ℕ) → 1 ≤ v → 1 ≤ x → x ≢ v → get_or taken (x - 1) false ≡ true → get_or (set taken (v - 1) false) (x - 1) false ≡ true
mark-other taken v x some other n is =
    let apart : x - 1 ≢ v - 1 = λ e. let same : x ≡ v = omega (arith, some, other, e) in n same in
    get_or-set_other taken (v - 1) (x - 1) false false apart ∙ is

-- the place goes to a variable that is freed before it
before-freed : (stamps : List ℕ) (taken : List Bool) (place v : ℕ) (xs : List ℕ) → 1 ≤ v → AllByRecursion (λ y. 1 ≤ y) xs → DoFall stamps xs → Contains xs v
    → get_or stamps place 0 < get_or stamps v 0
    → AreTakenBefore place taken xs → AreTakenBefore v (set taken (v - 1) false) xs
before-freed stamps taken place v [] some each fall among nearer' h = tt
before-freed stamps taken place v (x ∷ xs) some each fall among nearer' h = λ n. elim (Contains-cases x xs v among) [
  | inl here ↦ absurd (n here)
  | inr rest ↦
      let below : get_or stamps v 0 < get_or stamps x 0 = of-each (λ y. get_or stamps y 0 < get_or stamps x 0) xs v fall.1 rest in
      let not_place : x ≢ place = λ e. let same : get_or stamps x 0 ≡ get_or stamps place 0 = ap (λ k. get_or stamps k 0) e in absurd (omega (arith, below, nearer', same)) in
      (mark-other taken v x some each.0 n (h not_place).0, before-freed stamps taken place v xs some each.1 fall.2 rest nearer' (h not_place).1)
]

-- a variable that is freed behind it leaves it
before-kept : (stamps : List ℕ) (taken : List Bool) (place v : ℕ) (xs : List ℕ) → 1 ≤ v → get_or stamps 0 0 ≡ 0 → AllByRecursion (λ y. 1 ≤ y) xs → DoFall stamps xs
    → (place ≡ 0) ⊎ Contains xs place → get_or stamps v 0 ≤ get_or stamps place 0
    → AreTakenBefore place taken xs → AreTakenBefore place (set taken (v - 1) false) xs
before-kept stamps taken place v [] some none each fall among behind' h = tt
before-kept stamps taken place v (x ∷ xs) some none each fall among behind' h = λ n.
    let rest : (place ≡ 0) ⊎ Contains xs place = elim among [
      | inl at_none ↦ inl at_none
      | inr here ↦ elim (Contains-cases x xs place here) [ inl same ↦ absurd (n same) | inr later ↦ inr later ]
    ] in
    let below : get_or stamps place 0 < get_or stamps x 0 = elim rest [
      | inl at_none ↦ let e : get_or stamps place 0 ≡ 0 = ap (λ k. get_or stamps k 0) at_none ∙ none in omega (arith, e, fall.0)
      | inr later ↦ of-each (λ y. get_or stamps y 0 < get_or stamps x 0) xs place fall.1 later
    ] in
    let apart : x ≢ v = λ e. let same : get_or stamps x 0 ≡ get_or stamps v 0 = ap (λ k. get_or stamps k 0) e in absurd (omega (arith, below, behind', same)) in
    (mark-other taken v x some each.0 apart (h n).0, before-kept stamps taken place v xs some none each.1 fall.2 rest behind' (h n).1)

-- how many are left from a number on
abbrev pub left_from : ℕ → List ℕ → ℕ
left_from at [] = 0
left_from at (x ∷ xs) = if x == at then length (x ∷ xs) else left_from at xs

left_from-le : (at : ℕ) (xs : List ℕ) → left_from at xs ≤ length xs
left_from-le at [] = omega arith
left_from-le at (x ∷ xs) = either (λ n. n ≤ length (x ∷ xs)) (x == at) (length (x ∷ xs)) (left_from at xs) (λ _. omega arith) (λ _. omega (arith, left_from-le at xs))

left_from-past : (at x : ℕ) (xs : List ℕ) → at ≢ x → left_from at (x ∷ xs) ≡ left_from at xs
left_from-past at x xs n = elim (same_or_not x at) [
  | inl same ↦ absurd (n (sym same.0))
  | inr other ↦ cond-false (x == at) (length (x ∷ xs)) (left_from at xs) other.1
]

pub left_from-behind : (at : ℕ) (xs : List ℕ) → Contains xs at → AreDistinct xs → AllByRecursion (λ y. y ≢ 0) xs → left_from (behind at xs) xs < left_from at xs
left_from-behind at [] among once off = absurd (omega (arith, among.1))
left_from-behind at (x ∷ xs) among once off = elim (same_or_not x at) [
  | inl same ↦
      let e : behind at (x ∷ xs) ≡ first_of xs = cond-true (x == at) (first_of xs) (behind at xs) same.1 in
      let f : left_from at (x ∷ xs) ≡ length (x ∷ xs) = cond-true (x == at) (length (x ∷ xs)) (left_from at xs) same.1 in
      let apart : first_of xs ≢ x = first-keeps (λ y. y ≢ x) xs (λ z. off.0 (sym z)) once.0 in
      let past : left_from (behind at (x ∷ xs)) (x ∷ xs) ≡ left_from (first_of xs) xs = ap (λ k. left_from k (x ∷ xs)) e ∙ left_from-past (first_of xs) x xs apart in
      omega (arith, past, f, left_from-le (first_of xs) xs)
  | inr other ↦ elim (Contains-cases x xs at among) [
    | inl here ↦ absurd (other.0 here)
    | inr rest ↦
        let e : behind at (x ∷ xs) ≡ behind at xs = cond-false (x == at) (first_of xs) (behind at xs) other.1 in
        let f : left_from at (x ∷ xs) ≡ left_from at xs = cond-false (x == at) (length (x ∷ xs)) (left_from at xs) other.1 in
        let apart : behind at xs ≢ x = behind-keeps (λ y. y ≢ x) at xs (λ z. off.0 (sym z)) once.0 in
        let past : left_from (behind at (x ∷ xs)) (x ∷ xs) ≡ left_from (behind at xs) xs = ap (λ k. left_from k (x ∷ xs)) e ∙ left_from-past (behind at xs) x xs apart in
        omega (arith, past, f, left_from-behind at xs rest once.1 off.1)
  ]
]

-- the queue as a whole

each-variable : (order : List ℕ) (taken : List Bool) → IsQueue (record { order = order; taken = taken }) → AllByRecursion (IsVariable (length taken)) order
each-variable order taken q = recursion_from_All (IsVariable (length taken)) order (All-variables order taken q)

none-off : (order : List ℕ) (taken : List Bool) → IsQueue (record { order = order; taken = taken }) → AllByRecursion (λ y. y ≢ 0) order
none-off order taken q = weaker (IsVariable (length taken)) (λ y. y ≢ 0) (λ y h e. omega (arith, h.0, e)) order (each-variable order taken q)

-- a variable is in the order, and 0 isn't one
place-among : (order : List ℕ) (taken : List Bool) (place : ℕ) → IsQueue (record { order = order; taken = taken }) → place ≤ length taken
    → (place ≡ 0) ⊎ Contains order place
place-among order taken place q h = elim (cases_eq place 0) [
  | inl at_none ↦ inl at_none
  | inr some ↦ inr (q.all place (omega (arith, some), h))
]

pub searched-taken : (order : List ℕ) (taken : List Bool) (stamps : List ℕ) (place v : ℕ) → IsSearched order taken stamps place → IsVariable (length taken) v
    → IsSearched order (set taken (v - 1) true) stamps place
searched-taken order taken stamps place v s h =
    let same : length (set taken (v - 1) true) ≡ length taken = length-set taken (v - 1) true in
    record {
      queue = IsQueue-marks order taken (set taken (v - 1) true) same s.queue;
      fall = s.fall;
      none = s.none;
      each = omega (arith, same, s.each);
      whole = s.whole ∙ sym same;
      few = omega (arith, same, s.few);
      before = before-taken taken place v order (omega (arith, h.0, h.1)) s.before;
      within = omega (arith, same, s.within);
    }

pub searched-freed : (order : List ℕ) (taken : List Bool) (stamps : List ℕ) (place v : ℕ) → IsSearched order taken stamps place → IsVariable (length taken) v
    → IsSearched order (set taken (v - 1) false) stamps (nearer stamps v place)
searched-freed order taken stamps place v s h =
    let same : length (set taken (v - 1) false) ≡ length taken = length-set taken (v - 1) false in
    let each : AllByRecursion (λ y. 1 ≤ y) order = weaker (IsVariable (length taken)) (λ y. 1 ≤ y) (λ y g. g.0) order (each-variable order taken s.queue) in
    record {
      queue = IsQueue-marks order taken (set taken (v - 1) false) same s.queue;
      fall = s.fall;
      none = s.none;
      each = omega (arith, same, s.each);
      whole = s.whole ∙ sym same;
      few = omega (arith, same, s.few);
      before =
          either (λ p. AreTakenBefore p (set taken (v - 1) false) order) (nat_lt (get_or stamps place 0) (get_or stamps v 0)) v place
          (λ e. before-freed stamps taken place v order h.0 each s.fall (s.queue.all v h) (ltb-true (get_or stamps place 0) (get_or stamps v 0) e) s.before)
          (λ e. before-kept stamps taken place v order h.0 s.none each s.fall (place-among order taken place s.queue s.within) (ltb-false (get_or stamps place 0) (get_or stamps v 0) e) s.before);
      within =
          either (λ p. p ≤ length (set taken (v - 1) false)) (nat_lt (get_or stamps place 0) (get_or stamps v 0)) v place
          (λ _. omega (arith, same, h.1))
          (λ _. omega (arith, same, s.within));
    }

before-moved : (order : List ℕ) (taken : List Bool) (place v : ℕ) → AreTakenBefore place taken order
    → AreTakenBefore (place_after order taken place v) taken (moved_to_front v order)
before-moved order taken place v h =
    either (λ p. AreTakenBefore p taken (moved_to_front v order)) (get_or taken (v - 1) false) (if place == v then behind v order else place) v
    (λ is. elim (same_or_not place v) [
      | inl same ↦
          subst (λ p. AreTakenBefore p taken (moved_to_front v order)) (sym (cond-true (place == v) (behind v order) place same.1))
          (λ _. (is, before-behind_without taken v order (subst (λ p. AreTakenBefore p taken order) same.0 h)))
      | inr other ↦
          subst (λ p. AreTakenBefore p taken (moved_to_front v order)) (sym (cond-false (place == v) (behind v order) place other.1))
          (λ _. (is, before-without taken place v order (λ e. other.0 (sym e)) h))
    ])
    (λ _ n. absurd (n refl))

pub searched-moved : (last : ℕ) (order : List ℕ) (taken : List Bool) (stamps : List ℕ) (place v above : ℕ) → IsSearched order taken stamps place
    → IsVariable (length taken) v → above ≡ get_or stamps (first_of order) 0
    → IsSearched (moved_to_front v order) taken (stamping last (moved_to_front v order) stamps v above) (place_after order taken place v)
searched-moved last order taken stamps place v above s h e =
    let queue : IsQueue (record { order = moved_to_front v order; taken = taken }) = IsQueue-moved v order taken h s.queue in
    record {
      queue = queue;
      fall =
          stamped-falls last stamps v above (without v order) queue.once
          (weaker (IsVariable (length taken)) (λ y. y < length stamps) (λ y g. omega (arith, g.1, s.each)) (moved_to_front v order) (each-variable (moved_to_front v order) taken queue))
          (DoFall-without stamps v order s.fall)
          (subst (λ k. AllByRecursion (λ y. get_or stamps y 0 ≤ k) (without v order)) (sym e) (AllByRecursion-without (λ y. get_or stamps y 0 ≤ get_or stamps (first_of order) 0) v order (first-greatest stamps order s.fall)));
      none = stamped-none last stamps v above (without v order) (none-off (moved_to_front v order) taken queue) ∙ s.none;
      each = length-stamped last (moved_to_front v order) stamps v above ∙ s.each;
      whole = omega (arith, length-without v order (s.queue.all v h), s.whole);
      few = s.few;
      before = before-moved order taken place v s.before;
      within =
          either (λ p. p ≤ length taken) (get_or taken (v - 1) false) (if place == v then behind v order else place) v
          (λ _. either (λ p. p ≤ length taken) (place == v) (behind v order) place
          (λ _. behind-keeps (λ y. y ≤ length taken) v order (omega arith) (weaker (IsVariable (length taken)) (λ y. y ≤ length taken) (λ y g. g.1) order (each-variable order taken s.queue)))
          (λ _. s.within))
          (λ _. h.1);
    }

pub room-moved : (order : List ℕ) (taken : List Bool) (stamps : List ℕ) (place v : ℕ) → IsSearched order taken stamps place → IsVariable (length taken) v
    → AllByRecursion (λ y. y < length stamps) (moved_to_front v order)
room-moved order taken stamps place v s h =
    weaker (IsVariable (length taken)) (λ y. y < length stamps) (λ y g. omega (arith, g.1, s.each)) (moved_to_front v order)
    (each-variable (moved_to_front v order) taken (IsQueue-moved v order taken h s.queue))

-- what the search finds from its place on
pub found-none : (order : List ℕ) (taken : List Bool) → IsQueue (record { order = order; taken = taken }) → AreTakenBefore 0 taken order
    → first_free (record { order = order; taken = taken }) ≡ None
found-none order taken q h = find-nowhere taken order h (none-off order taken q)

pub found-some : (order : List ℕ) (taken : List Bool) (place : ℕ) → IsQueue (record { order = order; taken = taken }) → AreTakenBefore place taken order
    → place ≤ length taken → place ≢ 0
    → is_taken (record { order = order; taken = taken }) place ≡ false → first_free (record { order = order; taken = taken }) ≡ Some place
found-some order taken place q h room some free = find-place taken place order h (q.all place (omega (arith, some), room)) free

-- one step of the search
pub behind-within : (order : List ℕ) (taken : List Bool) (at : ℕ) → IsQueue (record { order = order; taken = taken }) → behind at order ≤ length taken
behind-within order taken at q = behind-keeps (λ y. y ≤ length taken) at order (omega arith) (weaker (IsVariable (length taken)) (λ y. y ≤ length taken) (λ y g. g.1) order (each-variable order taken q))

pub behind-less : (order : List ℕ) (taken : List Bool) (at : ℕ) → IsQueue (record { order = order; taken = taken }) → at ≢ 0 → at ≤ length taken
    → left_from (behind at order) order < left_from at order
behind-less order taken at q some room = left_from-behind at order (q.all at (omega (arith, some), room)) q.once (none-off order taken q)

pub length-moved : (order : List ℕ) (taken : List Bool) (stamps : List ℕ) (place v : ℕ) → IsSearched order taken stamps place → IsVariable (length taken) v
    → length (moved_to_front v order) ≡ length taken
length-moved order taken stamps place v s h = omega (arith, length-without v order (s.queue.all v h), s.whole)

-- what is seen of a queue, and what it has inside
pub variable-inside : (order : List ℕ) (taken : List Bool) (q : Queue) (v : ℕ) → record { order = order; taken = taken } ≡ q → IsVariable (length q.taken) v
    → IsVariable (length taken) v
variable-inside order taken q v e h = subst (λ (p : Queue). IsVariable (length p.taken) v) (sym e) h

-- a move as the calls read and write
pub searched-written : (last : ℕ) (order : List ℕ) (taken : List Bool) (stamps : List ℕ) (place v first above after : ℕ) (moved written : List ℕ)
    → IsSearched order taken stamps place → IsVariable (length taken) v
    → moved ≡ moved_to_front v order → first ≡ first_of order → above ≡ get_or stamps first above → written ≡ stamping last moved stamps v above
    → after ≡ place_after order taken place v
    → IsSearched moved taken written after
searched-written last order taken stamps place v first above after moved written s h e f g w a =
    let room : first_of order < length stamps = first-keeps (λ y. y < length stamps) order (omega (arith, s.each)) (weaker (IsVariable (length taken)) (λ y. y < length stamps) (λ y k. omega (arith, k.1, s.each)) order (each-variable order taken s.queue)) in
    let read : above ≡ get_or stamps (first_of order) 0 = get_or_read stamps first above (omega (arith, f, room)) g 0 ∙ ap (λ k. get_or stamps k 0) f in
    let here : written ≡ stamping last (moved_to_front v order) stamps v above = w ∙ ap (λ zs. stamping last zs stamps v above) e in
    subst (λ xs. IsSearched xs taken written after) (sym e)
    (subst (λ ws. IsSearched (moved_to_front v order) taken ws after) (sym here)
    (subst (IsSearched (moved_to_front v order) taken (stamping last (moved_to_front v order) stamps v above)) (sym a)
    (searched-moved last order taken stamps place v above s h read)))

-- the first queue
pub searched-first : (n top : ℕ) → n ≤ top → n < 2 ^ 32
    → IsSearched (range_with_len 1 n) (replicate n false) (numbering (range_with_len 1 n) top (replicate (n + 1) 0)) (first_of (range_with_len 1 n))
searched-first n top enough small =
    let marks : length (replicate n false) ≡ n = length-replicate n false in
    let zeros : List ℕ = replicate (n + 1) 0 in
    let rooms : length zeros ≡ n + 1 = length-replicate (n + 1) 0 in
    let len : length (range_with_len 1 n) ≡ n = length-range_with_len 1 n in
    let queue : IsQueue (record { order = range_with_len 1 n; taken = replicate n false }) = IsQueue-first n (replicate n false) marks in
    record {
      queue = queue;
      fall = numbered-falls (range_with_len 1 n) top zeros queue.once (AllBelow-more 1 n (length zeros) (omega (arith, rooms))) (omega (arith, len, enough));
      none = numbered-other 0 (range_with_len 1 n) top zeros (none-off (range_with_len 1 n) (replicate n false) queue) ∙ get_or-replicate (n + 1) 0 0 0 (omega arith);
      each = length-numbered (range_with_len 1 n) top zeros ∙ omega (arith, rooms, marks);
      whole = len ∙ sym marks;
      few = omega (arith, marks, small);
      before = before-first (replicate n false) (range_with_len 1 n);
      within = first-keeps (λ y. y ≤ length (replicate n false)) (range_with_len 1 n) (omega arith) (weaker (IsVariable (length (replicate n false))) (λ y. y ≤ length (replicate n false)) (λ y g. g.1) (range_with_len 1 n) (each-variable (range_with_len 1 n) (replicate n false) queue));
    }

-- what the search from the place gives, where it reads equal marks
pub none-free : (order : List ℕ) (taken marks : List Bool) (place : ℕ) → IsQueue (record { order = order; taken = taken }) → marks ≡ taken → place ≡ 0
    → AreTakenBefore place marks order
    → first_free (record { order = order; taken = taken }) ≡ None
none-free order taken marks place q e z h = found-none order taken q (subst (λ t. AreTakenBefore 0 t order) e (subst (λ p. AreTakenBefore p marks order) z h))

pub first-free : (order : List ℕ) (taken marks : List Bool) (place : ℕ) → IsQueue (record { order = order; taken = taken }) → marks ≡ taken → place ≢ 0
    → place ≤ length marks → AreTakenBefore place marks order
    → (place ≢ 0 → is_taken (record { order = order; taken = marks }) place ≡ false) → first_free (record { order = order; taken = taken }) ≡ Some place
first-free order taken marks place q e some room h free =
    found-some order taken place q (subst (λ t. AreTakenBefore place t order) e h) (subst (λ (t : List Bool). place ≤ length t) e room) some (subst (λ t. is_taken (record { order = order; taken = t }) place ≡ false) e (free some))

-- the first queue, as the calls make it
pub searched-made : (n top first : ℕ) (order : List ℕ) (taken : List Bool) (stamps written : List ℕ) → n ≤ top → n < 2 ^ 32 → order ≡ range_with_len 1 n
    → taken ≡ replicate n false → stamps ≡ replicate (n + 1) 0 → written ≡ numbering order top stamps → first ≡ first_of order
    → IsSearched order taken written first
searched-made n top first order taken stamps written enough small e f g w p =
    let start : List ℕ = range_with_len 1 n in
    let zeros : List ℕ = replicate (n + 1) 0 in
    let is_written : written ≡ numbering start top zeros = w ∙ (ap (λ xs. numbering xs top stamps) e ∙ ap (numbering start top) g) in
    let is_first : first ≡ first_of start = p ∙ ap first_of e in
    subst (λ xs. IsSearched xs taken written first) (sym e)
    (subst (λ ts. IsSearched start ts written first) (sym f)
    (subst (λ ws. IsSearched start (replicate n false) ws first) (sym is_written)
    (subst (IsSearched start (replicate n false) (numbering start top zeros)) (sym is_first) (searched-first n top enough small))))
