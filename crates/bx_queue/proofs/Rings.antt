-- Linked lists: what writes elsewhere keep, what taking a number out and putting it first leave, and that the links
-- are walked along the list.
use Rattle.std.proofs.Common.{◌≡◌, ◌≢◌, ℕ, suc, zero, set, ◌+◌, ◌-◌, ◌<◌, ◌≤◌, ◌==◌, if◌then◌else◌, List, [], ◌∷◌, ◌++◌, length, Contains, get_or, refl, sym, ap, subst, ◌∙◌, arith, inl, inr}
use Rattle.std.specs.List.{AllByRecursion, range_with_len}
use Rattle.std.proofs.lemmas.Bool.{cond-true, cond-false}
use Rattle.std.proofs.lemmas.List.{get_or_read, get_or-set_same, get_or-set_other, length-set, get_or_append_left, get_or_push, length-append}
use Rattle.std.proofs.lemmas.List.Elements.{All-contains, All-from_recursion}
use Rattle.std.proofs.lemmas.List.FromFn.{length-range_with_len, get_or-range_with_len}
use Rattle.bx_logic.specs.Lists.{AreDistinct}
use Rattle.bx_queue.specs.Queue.{without, moved_to_front}
use Rattle.bx_queue.specs.Ring.{first_of, behind, walk, linked_list, IsLinked, IsRing}
use Rattle.bx_queue.specs.Stamps.{numbering}
use Rattle.bx_queue.proofs.Orders.{Contains-cases, same_or_not, without-same, without-other, AreDistinct-without, AllByRecursion-without, without-gone, AllBelow-range, AreDistinct-range}

-- what holds of each holds of one that stands in the list
pub of-each : (P : ℕ → Type 0) (xs : List ℕ) (x : ℕ) → AllByRecursion P xs → Contains xs x → P x
of-each P xs x all h = All-contains P xs x (All-from_recursion P xs all) h

-- who stands before the number, where p stands before the list
abbrev before : ℕ → ℕ → List ℕ → ℕ
before p v [] = p
before p v (x ∷ xs) = if x == v then p else before x v xs

-- a fact of 0, or of what stands before the list, and of each of it is one of each neighbour
module _ (P : ℕ → Type 0) where
  pub first-keeps : (xs : List ℕ) → P 0 → AllByRecursion P xs → P (first_of xs)
  first-keeps [] h all = h
  first-keeps (x ∷ xs) h all = all.0

  pub behind-keeps : (v : ℕ) (xs : List ℕ) → P 0 → AllByRecursion P xs → P (behind v xs)
  behind-keeps v [] h all = h
  behind-keeps v (x ∷ xs) h all = elim (same_or_not x v) [
    | inl same ↦ subst P (sym (cond-true (x == v) (first_of xs) (behind v xs) same.1)) (first-keeps xs h all.1)
    | inr other ↦ subst P (sym (cond-false (x == v) (first_of xs) (behind v xs) other.1)) (behind-keeps v xs h all.1)
  ]

  before-keeps : (p v : ℕ) (xs : List ℕ) → P p → AllByRecursion P xs → P (before p v xs)
  before-keeps p v [] h all = h
  before-keeps p v (x ∷ xs) h all = elim (same_or_not x v) [
    | inl same ↦ subst P (sym (cond-true (x == v) p (before x v xs) same.1)) h
    | inr other ↦ subst P (sym (cond-false (x == v) p (before x v xs) other.1)) (before-keeps x v xs all.0 all.1)
  ]

-- the links say who stands before a number, and who behind it
linked-first : (next previous : List ℕ) (p : ℕ) (xs : List ℕ) → IsLinked next previous p xs → get_or next p 0 ≡ first_of xs
linked-first next previous p [] h = h.0
linked-first next previous p (x ∷ xs) h = h.0

linked-behind : (next previous : List ℕ) (p v : ℕ) (xs : List ℕ) → IsLinked next previous p xs → Contains xs v → get_or next v 0 ≡ behind v xs
linked-behind next previous p v [] l h = absurd (omega (arith, h.1))
linked-behind next previous p v (x ∷ xs) l h = elim (same_or_not x v) [
  | inl same ↦ ap (λ k. get_or next k 0) (sym same.0) ∙ (linked-first next previous x xs l.2 ∙ sym (cond-true (x == v) (first_of xs) (behind v xs) same.1))
  | inr other ↦ elim (Contains-cases x xs v h) [
    | inl here ↦ absurd (other.0 here)
    | inr rest ↦ linked-behind next previous x v xs l.2 rest ∙ sym (cond-false (x == v) (first_of xs) (behind v xs) other.1)
  ]
]

linked-before : (next previous : List ℕ) (p v : ℕ) (xs : List ℕ) → IsLinked next previous p xs → Contains xs v → get_or previous v 0 ≡ before p v xs
linked-before next previous p v [] l h = absurd (omega (arith, h.1))
linked-before next previous p v (x ∷ xs) l h = elim (same_or_not x v) [
  | inl same ↦ ap (λ k. get_or previous k 0) (sym same.0) ∙ (l.1 ∙ sym (cond-true (x == v) p (before x v xs) same.1))
  | inr other ↦ elim (Contains-cases x xs v h) [
    | inl here ↦ absurd (other.0 here)
    | inr rest ↦ linked-before next previous x v xs l.2 rest ∙ sym (cond-false (x == v) p (before x v xs) other.1)
  ]
]

-- writes elsewhere keep a list linked
frame-next : (a c : ℕ) (next previous : List ℕ) (p : ℕ) (xs : List ℕ) → p ≢ a → AllByRecursion (λ y. y ≢ a) xs → IsLinked next previous p xs
    → IsLinked (set next a c) previous p xs
frame-next a c next previous p [] n off l = (get_or-set_other next a p c 0 n ∙ l.0, l.1)
frame-next a c next previous p (x ∷ xs) n off l = (get_or-set_other next a p c 0 n ∙ l.0, l.1, frame-next a c next previous x xs off.0 off.1 l.2)

frame-previous : (b c : ℕ) (next previous : List ℕ) (p : ℕ) (xs : List ℕ) → 0 ≢ b → AllByRecursion (λ y. y ≢ b) xs → IsLinked next previous p xs
    → IsLinked next (set previous b c) p xs
frame-previous b c next previous p [] n off l = (l.0, get_or-set_other previous b 0 c 0 n ∙ l.1)
frame-previous b c next previous p (x ∷ xs) n off l = (l.0, get_or-set_other previous b x c 0 off.0 ∙ l.1, frame-previous b c next previous x xs n off.1 l.2)

-- the first of the list is passed by
skipped : (next previous : List ℕ) (p x : ℕ) (xs : List ℕ) → p < length next → first_of xs < length previous → AllByRecursion (λ y. y ≢ p) xs → AreDistinct xs
    → AllByRecursion (λ y. y ≢ 0) xs
    → IsLinked next previous x xs → IsLinked (set next p (first_of xs)) (set previous (first_of xs) p) p xs
skipped next previous p x [] room both off once none l = (get_or-set_same next p 0 0 room, get_or-set_same previous 0 p 0 both)
skipped next previous p x (y ∷ ys) room both off once none l = (
  get_or-set_same next p y 0 room,
  get_or-set_same previous y p 0 both,
  frame-previous y p (set next p y) previous y ys (λ e. none.0 (sym e)) once.0 (frame-next p y next previous y ys off.0 off.1 l.2),
)

-- the same with equal neighbours and an equal list
alike : (next previous : List ℕ) (p a b c d : ℕ) (xs ys : List ℕ) → a ≡ c → b ≡ d → xs ≡ ys → IsLinked (set next c d) (set previous d c) p ys
    → IsLinked (set next a b) (set previous b a) p xs
alike next previous p a b c d xs ys e f g l =
    subst (λ k. IsLinked (set next k b) (set previous b k) p xs) (sym e)
    (subst (λ k. IsLinked (set next c k) (set previous k c) p xs) (sym f)
    (subst (IsLinked (set next c d) (set previous d c) p) (sym g) l))

-- a number is out when those beside it are linked to each other
taken_out : (next previous : List ℕ) (p v : ℕ) (xs : List ℕ) → Contains xs v → p < length next → 0 < length next → AllByRecursion (λ y. y < length next) xs
    → length previous ≡ length next
    → AllByRecursion (λ y. y ≢ p) xs → AreDistinct xs → AllByRecursion (λ y. y ≢ 0) xs → IsLinked next previous p xs
    → IsLinked (set next (before p v xs) (behind v xs)) (set previous (behind v xs) (before p v xs)) p (without v xs)
taken_out next previous p v [] h room some within both off once none l = absurd (omega (arith, h.1))
taken_out next previous p v (x ∷ xs) h room some within both off once none l = elim (same_or_not x v) [
  | inl same ↦
      alike next previous p _ _ p (first_of xs) _ xs (cond-true (x == v) p (before x v xs) same.1) (cond-true (x == v) (first_of xs) (behind v xs) same.1) (without-same v x xs same.1)
      (skipped next previous p x xs room (subst (λ n. first_of xs < n) (sym both) (first-keeps (λ y. y < length next) xs some within.1)) off.1 once.1 none.1 l.2)
  | inr other ↦ elim (Contains-cases x xs v h) [
    | inl here ↦ absurd (other.0 here)
    | inr rest ↦
        let p_off : before x v xs ≢ p = before-keeps (λ y. y ≢ p) x v xs off.0 off.1 in
        let x_off : behind v xs ≢ x = behind-keeps (λ y. y ≢ x) v xs (λ e. none.0 (sym e)) once.0 in
        alike next previous p _ _ (before x v xs) (behind v xs) _ (x ∷ without v xs) (cond-false (x == v) p (before x v xs) other.1) (cond-false (x == v) (first_of xs) (behind v xs) other.1) (without-other v x xs other.1) (
          get_or-set_other next (before x v xs) p (behind v xs) 0 (λ e. p_off (sym e)) ∙ l.0,
          get_or-set_other previous (behind v xs) x (before x v xs) 0 (λ e. x_off (sym e)) ∙ l.1,
          taken_out next previous x v xs rest within.0 some within.1 both once.0 once.1 none.1 l.2,
        )
  ]
]

-- a number that isn't in the list is put before its first
put_first : (next previous : List ℕ) (v : ℕ) (ys : List ℕ) → v < length next → 0 < length next → AllByRecursion (λ y. y < length next) ys → length previous ≡ length next
    → v ≢ 0 → AllByRecursion (λ y. y ≢ 0) ys → AllByRecursion (λ y. y ≢ v) ys → AreDistinct ys → IsLinked next previous 0 ys
    → IsLinked (set (set next v (first_of ys)) 0 v) (set (set previous (first_of ys) v) v 0) 0 (v ∷ ys)
put_first next previous v ys room some within both not_none none off once l = (
  get_or-set_same (set next v (first_of ys)) 0 v 0 (omega (arith, length-set next v (first_of ys))),
  get_or-set_same (set previous (first_of ys) v) v 0 0 (omega (arith, length-set previous (first_of ys) v)),
  rest ys within none off once l,
) where
  rest : (zs : List ℕ) → AllByRecursion (λ y. y < length next) zs → AllByRecursion (λ y. y ≢ 0) zs → AllByRecursion (λ y. y ≢ v) zs → AreDistinct zs
      → IsLinked next previous 0 zs
      → IsLinked (set (set next v (first_of zs)) 0 v) (set (set previous (first_of zs) v) v 0) v zs
  rest [] within' none' off' once' l' = (
    get_or-set_other (set next v 0) 0 v v 0 not_none ∙ get_or-set_same next v 0 0 room,
    get_or-set_other (set previous 0 v) v 0 0 0 (λ e. not_none (sym e)) ∙ get_or-set_same previous 0 v 0 (omega arith),
  )
  rest (y ∷ zs) within' none' off' once' l' = (
    get_or-set_other (set next v y) 0 v v 0 not_none ∙ get_or-set_same next v y 0 room,
    get_or-set_other (set previous y v) v y 0 0 off'.0 ∙ get_or-set_same previous y v 0 (omega (arith, within'.0)),
    frame-previous v 0 (set (set next v y) 0 v) (set previous y v) y zs (λ e. not_none (sym e)) off'.1
        (frame-previous y v (set (set next v y) 0 v) previous y zs (λ e. none'.0 (sym e)) once'.0
        (frame-next 0 v (set next v y) previous y zs none'.0 none'.1
        (frame-next v y next previous y zs off'.0 off'.1 l'.2))),
  )

-- the links are walked along the list
walk-linked : (next previous : List ℕ) (p : ℕ) (xs : List ℕ) → IsLinked next previous p xs → walk next p (length xs) ≡ xs
walk-linked next previous p [] l = refl
walk-linked next previous p (x ∷ xs) l = ap (λ y. y ∷ walk next y (length xs)) l.0 ∙ ap (λ zs. x ∷ zs) (walk-linked next previous x xs l.2)

pub linked_list-is : (order next previous : List ℕ) → IsRing order next previous → linked_list next ≡ order
linked_list-is order next previous r =
    let e : length next - 1 ≡ length order = omega (arith, r.room) in
    ap (walk next 0) e ∙ walk-linked next previous 0 order r.linked

pub length-without : (v : ℕ) (xs : List ℕ) → Contains xs v → length (without v xs) + 1 ≡ length xs
length-without v [] h = absurd (omega (arith, h.1))
length-without v (x ∷ xs) h = elim (same_or_not x v) [
  | inl same ↦ ap (λ zs. length zs + 1) (without-same v x xs same.1) ∙ omega arith
  | inr other ↦ elim (Contains-cases x xs v h) [
    | inl here ↦ absurd (other.0 here)
    | inr rest ↦ ap (λ zs. length zs + 1) (without-other v x xs other.1) ∙ omega (arith, length-without v xs rest)
  ]
]

-- what the calls read
pub ring-first : (order next previous : List ℕ) → IsRing order next previous → get_or next 0 0 ≡ first_of order
ring-first order next previous r = linked-first next previous 0 order r.linked

pub ring-behind : (order next previous : List ℕ) (v : ℕ) → IsRing order next previous → Contains order v → get_or next v 0 ≡ behind v order
ring-behind order next previous v r h = linked-behind next previous 0 v order r.linked h

pub ring-room : (order next previous : List ℕ) (v : ℕ) → IsRing order next previous → Contains order v → v < length next
ring-room order next previous v r h = of-each (λ y. y < length next) order v r.within h

pub next-room : (order next previous : List ℕ) (v : ℕ) → IsRing order next previous → Contains order v → get_or next v 0 < length next
next-room order next previous v r h = subst (λ y. y < length next) (sym (ring-behind order next previous v r h)) (behind-keeps (λ y. y < length next) v order (omega (arith, r.room)) r.within)

pub previous-room : (order next previous : List ℕ) (v : ℕ) → IsRing order next previous → Contains order v → get_or previous v 0 < length next
previous-room order next previous v r h =
    subst (λ y. y < length next) (sym (linked-before next previous 0 v order r.linked h)) (before-keeps (λ y. y < length next) 0 v order (omega (arith, r.room)) r.within)

-- the links where the number is out
abbrev pub next_without : List ℕ → List ℕ → ℕ → List ℕ
next_without next previous v = set next (get_or previous v 0) (get_or next v 0)

abbrev pub previous_without : List ℕ → List ℕ → ℕ → List ℕ
previous_without next previous v = set previous (get_or next v 0) (get_or previous v 0)

-- the links where it is first
abbrev pub next_moved : List ℕ → List ℕ → ℕ → List ℕ
next_moved next previous v = set (set (next_without next previous v) v (get_or (next_without next previous v) 0 0)) 0 v

abbrev pub previous_moved : List ℕ → List ℕ → ℕ → List ℕ
previous_moved next previous v = set (set (previous_without next previous v) (get_or (next_without next previous v) 0 0) v) v 0

ring-without : (order next previous : List ℕ) (v : ℕ) → IsRing order next previous → Contains order v
    → IsLinked (next_without next previous v) (previous_without next previous v) 0 (without v order)
ring-without order next previous v r h =
    alike next previous 0 _ _ (before 0 v order) (behind v order) _ (without v order) (linked-before next previous 0 v order r.linked h) (ring-behind order next previous v r h) refl
    (taken_out next previous 0 v order h (omega (arith, r.room)) (omega (arith, r.room)) r.within r.both r.once.0 r.once.1 r.once.0 r.linked)

pub first_without-room : (order next previous : List ℕ) (v : ℕ) → IsRing order next previous → Contains order v → get_or (next_without next previous v) 0 0 < length next
first_without-room order next previous v r h =
    subst (λ y. y < length next) (sym (linked-first (next_without next previous v) (previous_without next previous v) 0 (without v order) (ring-without order next previous v r h)))
    (first-keeps (λ y. y < length next) (without v order) (omega (arith, r.room)) (AllByRecursion-without (λ y. y < length next) v order r.within))

pub ring-moved : (order next previous : List ℕ) (v : ℕ) → IsRing order next previous → Contains order v
    → IsRing (moved_to_front v order) (next_moved next previous v) (previous_moved next previous v)
ring-moved order next previous v r h =
    let n1 : List ℕ = next_without next previous v in
    let p1 : List ℕ = previous_without next previous v in
    let first : ℕ = get_or n1 0 0 in
    let ln : length n1 ≡ length next = length-set next (get_or previous v 0) (get_or next v 0) in
    let lp : length p1 ≡ length previous = length-set previous (get_or next v 0) (get_or previous v 0) in
    let same : length (next_moved next previous v) ≡ length next = length-set (set n1 v first) 0 v ∙ (length-set n1 v first ∙ ln) in
    let other : length (previous_moved next previous v) ≡ length previous = length-set (set p1 first v) v 0 ∙ (length-set p1 first v ∙ lp) in
    let out : IsLinked n1 p1 0 (without v order) = ring-without order next previous v r h in
    let is_first : first ≡ first_of (without v order) = linked-first n1 p1 0 (without v order) out in
    let not_none : v ≢ 0 = of-each (λ y. y ≢ 0) order v r.once.0 h in
    let room : v < length next = ring-room order next previous v r h in
    let within : AllByRecursion (λ y. y < length next) (without v order) = AllByRecursion-without (λ y. y < length next) v order r.within in
    let none : AllByRecursion (λ y. y ≢ 0) (without v order) = AllByRecursion-without (λ y. y ≢ 0) v order r.once.0 in
    let gone : AllByRecursion (λ y. y ≢ v) (without v order) = without-gone v order r.once.1 in
    let once : AreDistinct (without v order) = AreDistinct-without v order r.once.1 in
    record {
      linked =
          subst (λ f. IsLinked (set (set n1 v f) 0 v) (set (set p1 f v) v 0) 0 (v ∷ without v order)) (sym is_first)
          (put_first n1 p1 v (without v order) (subst (λ n. v < n) (sym ln) room) (omega (arith, r.room, ln)) (subst (λ n. AllByRecursion (λ y. y < n) (without v order)) (sym ln) within) (lp ∙ (r.both ∙ sym ln)) not_none none gone once out);
      once = ((not_none, none), (gone, once));
      within = subst (λ n. AllByRecursion (λ y. y < n) (v ∷ without v order)) (sym same) (room, within);
      room = omega (arith, same, r.room, length-without v order h);
      both = other ∙ (r.both ∙ sym same);
    }

-- ascending numbers
pub AllBelow-more : (a n m : ℕ) → a + n ≤ m → AllByRecursion (λ y. y < m) (range_with_len a n)
AllBelow-more a zero m h = tt
AllBelow-more a (suc n) m h = (omega (arith, h), AllBelow-more (a + 1) n m (omega (arith, h)))

ascending-linked : (n p m : ℕ) → p + m ≡ n → IsLinked (range_with_len 1 n ++ 0 ∷ []) (n ∷ range_with_len 0 n) p (range_with_len (p + 1) m)
ascending-linked n p zero e =
    let at : n ≡ p = omega (arith, e) in
    (subst (λ k. get_or (range_with_len 1 n ++ 0 ∷ []) k 0 ≡ 0) at (get_or_push (range_with_len 1 n) 0 0 n (length-range_with_len 1 n)), at)
ascending-linked n p (suc m) e =
    let below : p < length (range_with_len 1 n) = omega (arith, e, length-range_with_len 1 n) in
    let one : suc p ≡ p + 1 = omega arith in (
      get_or_append_left (range_with_len 1 n) (0 ∷ []) 0 p below ∙ (get_or-range_with_len 1 n p 0 (omega (arith, e)) ∙ omega arith),
      subst (λ k. get_or (n ∷ range_with_len 0 n) k 0 ≡ p) one (get_or-range_with_len 0 n p 0 (omega (arith, e)) ∙ omega arith),
      ascending-linked n (p + 1) m (omega (arith, e)),
    )

pub ring-ascending : (n : ℕ) → IsRing (range_with_len 1 n) (range_with_len 1 n ++ 0 ∷ []) (n ∷ range_with_len 0 n)
ring-ascending n =
    let len : length (range_with_len 1 n ++ 0 ∷ []) ≡ n + 1 = length-append (range_with_len 1 n) (0 ∷ []) ∙ omega (arith, length-range_with_len 1 n) in
    record {
      linked = ascending-linked n 0 n (omega arith);
      once = (AllBelow-range 1 n 0 (omega arith), AreDistinct-range 1 n);
      within = AllBelow-more 1 n (length (range_with_len 1 n ++ 0 ∷ [])) (omega (arith, len));
      room = omega (arith, len, length-range_with_len 1 n);
      both = omega (arith, len, length-range_with_len 0 n);
    }

-- the same, as the calls read and write: the reads are given by equations
pub ring-written : (order next previous : List ℕ) (v here there first : ℕ) → IsRing order next previous → Contains order v
    → here ≡ get_or previous v 0 → there ≡ get_or next v 0 → first ≡ get_or (set next here there) 0 0
    → IsRing (moved_to_front v order) (set (set (set next here there) v first) 0 v) (set (set (set previous there here) first v) v 0)
ring-written order next previous v here there first r h e f g =
    let out : set next here there ≡ next_without next previous v = cc in
    let is_first : first ≡ get_or (next_without next previous v) 0 0 = g ∙ ap (λ zs. get_or zs 0 0) out in
    let n : set (set (set next here there) v first) 0 v ≡ next_moved next previous v = cc in
    let p : set (set (set previous there here) first v) v 0 ≡ previous_moved next previous v = cc in
    subst (λ zs. IsRing (moved_to_front v order) zs (set (set (set previous there here) first v) v 0)) (sym n)
    (subst (IsRing (moved_to_front v order) (next_moved next previous v)) (sym p) (ring-moved order next previous v r h))

-- the list that the links make is theirs
pub ring-itself : (order next previous : List ℕ) → IsRing order next previous → IsRing (linked_list next) next previous
ring-itself order next previous r = subst (λ xs. IsRing xs next previous) (sym (linked_list-is order next previous r)) r

-- who stands in the list that is seen stands in that of the links
pub stands : (next order : List ℕ) (v : ℕ) → linked_list next ≡ order → Contains order v → Contains (linked_list next) v
stands next order v e h = subst (λ xs. Contains xs v) (sym e) h

-- one step of numbering along the links
pub number-more : (next stamps wanted : List ℕ) (at x left less top lower : ℕ) → left ≡ suc less → lower ≡ top - 1 → x ≡ get_or next at 0
    → AllByRecursion (λ v. v < length next) (walk next at left) → AllByRecursion (λ v. v < length stamps) (walk next at left)
    → numbering (walk next at left) top stamps ≡ wanted
    → (x < length next) × AllByRecursion (λ v. v < length next) (walk next x less) × AllByRecursion (λ v. v < length (set stamps x top)) (walk next x less) × (numbering (walk next x less) lower (set stamps x top) ≡ wanted)
number-more next stamps wanted at x left less top lower e f g room other h =
    let steps : walk next at left ≡ x ∷ walk next x less = ap (walk next at) e ∙ ap (λ y. y ∷ walk next y less) (sym g) in
    let rooms : AllByRecursion (λ v. v < length next) (x ∷ walk next x less) = subst (AllByRecursion (λ v. v < length next)) steps room in
    let others : AllByRecursion (λ v. v < length stamps) (x ∷ walk next x less) = subst (AllByRecursion (λ v. v < length stamps)) steps other in (
      rooms.0,
      rooms.1,
      subst (λ n. AllByRecursion (λ v. v < n) (walk next x less)) (sym (length-set stamps x top)) others.1,
      ap (λ k. numbering (walk next x less) k (set stamps x top)) f ∙ (ap (λ zs. numbering zs top stamps) (sym steps) ∙ h),
    )

-- what is read beside a number: who stands before it and behind it
pub beside-read : (next previous : List ℕ) (v here there : ℕ) → IsRing (linked_list next) next previous → Contains (linked_list next) v → here ≡ get_or previous v here
    → there ≡ get_or next v there
    → (here ≡ get_or previous v 0) × (there ≡ get_or next v 0) × (here < length next) × (there < length next)
beside-read next previous v here there r h e f =
    let room : v < length next = ring-room (linked_list next) next previous v r h in
    let one : here ≡ get_or previous v 0 = get_or_read previous v here (omega (arith, room, r.both)) e 0 in
    let other : there ≡ get_or next v 0 = get_or_read next v there room f 0 in (
      one,
      other,
      omega (arith, one, previous-room (linked_list next) next previous v r h),
      omega (arith, other, next-room (linked_list next) next previous v r h),
    )

-- what is read as the first when the number is out
pub first-read : (next previous : List ℕ) (v here there first : ℕ) → IsRing (linked_list next) next previous → Contains (linked_list next) v
    → here ≡ get_or previous v here → there ≡ get_or next v there
    → first ≡ get_or (set next here there) 0 first → (first ≡ get_or (set next here there) 0 0) × (first < length next)
first-read next previous v here there first r h e f g =
    let both = beside-read next previous v here there r h e f in
    let one : first ≡ get_or (set next here there) 0 0 = get_or_read (set next here there) 0 first (omega (arith, length-set next here there, r.room)) g 0 in
    let same : set next here there ≡ next_without next previous v = ap (λ k. set next k there) both.0 ∙ ap (set next (get_or previous v 0)) both.1 in
    (one, subst (λ k. k < length next) (sym (one ∙ ap (λ zs. get_or zs 0 0) same)) (first_without-room (linked_list next) next previous v r h))

-- the links that are written are those of the list with the number at its front
pub links-moved : (next previous : List ℕ) (v here there first : ℕ) → IsRing (linked_list next) next previous → Contains (linked_list next) v
    → here ≡ get_or previous v here → there ≡ get_or next v there
    → first ≡ get_or (set next here there) 0 first
    → IsRing (moved_to_front v (linked_list next)) (set (set (set next here there) v first) 0 v) (set (set (set previous there here) first v) v 0)
links-moved next previous v here there first r h e f g =
    let both = beside-read next previous v here there r h e f in
    ring-written (linked_list next) next previous v here there first r h both.0 both.1 (first-read next previous v here there first r h e f g).0
