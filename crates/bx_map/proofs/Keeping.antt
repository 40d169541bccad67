-- The cells that stay: they rise, with each stays what it reads, and each is read by one that stays or
-- by an output.
use Rattle.std.proofs.Common.{◌≡◌, ℕ, zero, suc, ◌+◌, ◌-◌, ◌<◌, ◌≤◌, ◌==◌, nat_lt, Bool, true, false, cond, List, [], ◌∷◌, ◌++◌, length, map, get_or, refl, sym, ◌∙◌, ap, subst, arith, inl, inr, ◌⊎◌}
use Rattle.std.specs.List.{AllByRecursion, count_by}
use Rattle.std.proofs.lemmas.Bool.{cases_eq, cases_lt, cases_Bool, eq-eqb, eqb-true, lt-ltb, le-ltb, or_cases, or_left, or_right, cond-true, cond-false}
use Rattle.std.proofs.lemmas.List.{length-append, get_or_append_left, get_or-append_right}
use Rattle.std.proofs.lemmas.List.Folds.{list_any-append}
use Rattle.std.proofs.lemmas.List.Sums.{sum_by-cons}
use Rattle.bx_logic.proofs.Lists.{all-append, all-weaker}
use Rattle.bx_network.specs.Networks.{one_if}
use Rattle.bx_map.specs.declared.cell.Cell.{Cell}
use Rattle.bx_map.specs.Cells.{cell_at, operands_of, ReadsEarlier}
use Rattle.bx_map.specs.Walks.{has}
use Rattle.bx_map.specs.Drops.{stay_before, rank}
use Rattle.bx_map.proofs.Tallies.{tally, tally-append}

abbrev pub Has : List ℕ → ℕ → Type 0
Has xs n = has xs n ≡ true

abbrev equals : ℕ → ℕ → Bool
equals n m = m == n

pub has-left : (xs ys : List ℕ) (n : ℕ) → Has xs n → Has (xs ++ ys) n
has-left xs ys n h = list_any-append (equals n) xs ys ∙ or_left (has xs n) (has ys n) h

pub has-right : (xs ys : List ℕ) (n : ℕ) → Has ys n → Has (xs ++ ys) n
has-right xs ys n h = list_any-append (equals n) xs ys ∙ or_right (has xs n) (has ys n) h

pub has-cases : (xs ys : List ℕ) (n : ℕ) → Has (xs ++ ys) n → Has xs n ⊎ Has ys n
has-cases xs ys n h = or_cases (has xs n) (has ys n) (sym (list_any-append (equals n) xs ys) ∙ h)

pub has-one : (n : ℕ) → Has (n ∷ []) n
has-one n = or_left (n == n) false (eq-eqb n n refl)

pub has-one_same : (m n : ℕ) → Has (m ∷ []) n → m ≡ n
has-one_same m n h = elim (or_cases (m == n) false h) [ inl e ↦ eqb-true m n e | inr f ↦ absurd (cc) ]

pub has-itself : (P : ℕ → Type 0) (xs : List ℕ) → ((n : ℕ) → Has xs n → P n) → AllByRecursion P xs
has-itself P [] h = tt
has-itself P (x ∷ xs) h = (h x (or_left (x == x) (has xs x) (eq-eqb x x refl)), has-itself P xs (λ n m. h n (or_right (x == n) (has xs n) m)))

pub all-has : (P : ℕ → Type 0) (xs : List ℕ) (n : ℕ) → AllByRecursion P xs → Has xs n → P n
all-has P [] n a h = absurd (cc)
all-has P (x ∷ xs) n a h =
    elim (or_cases (x == n) (has xs n) h) [
      | inl e ↦ subst P (eqb-true x n e) a.0
      | inr m ↦ all-has P xs n a.1 m
    ]

pub has-map : (f : ℕ → ℕ) (xs : List ℕ) (n : ℕ) → Has xs n → Has (map f xs) (f n)
has-map f [] n h = absurd (cc)
has-map f (x ∷ xs) n h =
    elim (or_cases (x == n) (has xs n) h) [
      | inl e ↦ or_left (f x == f n) (has (map f xs) (f n)) (eq-eqb (f x) (f n) (ap f (eqb-true x n e)))
      | inr m ↦ or_right (f x == f n) (has (map f xs) (f n)) (has-map f xs n m)
    ]

pub has-get_or : (xs : List ℕ) (k : ℕ) → k < length xs → Has xs (get_or xs k 0)
has-get_or [] k l = absurd (omega arith)
has-get_or (x ∷ xs) zero l = or_left (x == x) (has xs x) (eq-eqb x x refl)
has-get_or (x ∷ xs) (suc k) l = or_right (x == get_or xs k 0) (has xs (get_or xs k 0)) (has-get_or xs k (omega arith))

pub has-found : (xs : List ℕ) (n : ℕ) → Has xs n → (k : ℕ) × (k < length xs) × (get_or xs k 0 ≡ n)
has-found [] n h = absurd (cc)
has-found (x ∷ xs) n h =
    elim (or_cases (x == n) (has xs n) h) [
      | inl e ↦ (0, (omega arith), eqb-true x n e)
      | inr m ↦ let (k, l, at) = has-found xs n m in (suc k, (omega arith), at)
    ]

-- what stays of one cell more

pub stay_before-wants : (cells : List Cell) (i : ℕ) (wanted : List ℕ) → Has wanted i →
    stay_before cells (suc i) wanted ≡ stay_before cells i (operands_of (cell_at cells i) ++ wanted) ++ i ∷ []
unfolding stay_before
stay_before-wants cells i wanted h =
    cond-true (has wanted i) (stay_before cells i (operands_of (cell_at cells i) ++ wanted) ++ i ∷ []) (stay_before cells i wanted) h

pub stay_before-lacks : (cells : List Cell) (i : ℕ) (wanted : List ℕ) → has wanted i ≡ false → stay_before cells (suc i) wanted ≡ stay_before cells i wanted
unfolding stay_before
stay_before-lacks cells i wanted h =
    cond-false (has wanted i) (stay_before cells i (operands_of (cell_at cells i) ++ wanted) ++ i ∷ []) (stay_before cells i wanted) h

-- each is greater than those before it
pub data Rising : List ℕ → Type 0 where
  none : Rising []
  more : (xs : List ℕ) (n : ℕ) → AllByRecursion (λ x. x < n) xs → Rising xs → Rising (xs ++ n ∷ [])

pub stay_before-within : (cells : List Cell) (n : ℕ) (wanted : List ℕ) → AllByRecursion (λ i. i < n) (stay_before cells n wanted)
unfolding stay_before
stay_before-within cells zero wanted = tt
stay_before-within cells (suc i) wanted =
    elim (cases_Bool (has wanted i)) [
      | inl wants ↦
          let later : List ℕ = operands_of (cell_at cells i) ++ wanted in
          subst (AllByRecursion (λ j. j < suc i)) (sym (stay_before-wants cells i wanted wants))
          (all-append (λ j. j < suc i) (stay_before cells i later) (i ∷ [])
          (all-weaker (λ j. j < i) (λ j. j < suc i) (λ j l. omega arith) (stay_before cells i later) (stay_before-within cells i later)) (omega arith, tt))
      | inr lacks ↦
          subst (AllByRecursion (λ j. j < suc i)) (sym (stay_before-lacks cells i wanted lacks))
          (all-weaker (λ j. j < i) (λ j. j < suc i) (λ j l. omega arith) (stay_before cells i wanted) (stay_before-within cells i wanted))
    ]

pub stay_before-rises : (cells : List Cell) (n : ℕ) (wanted : List ℕ) → Rising (stay_before cells n wanted)
unfolding stay_before
stay_before-rises cells zero wanted = none
stay_before-rises cells (suc i) wanted =
    elim (cases_Bool (has wanted i)) [
      | inl wants ↦
          let later : List ℕ = operands_of (cell_at cells i) ++ wanted in
          subst Rising (sym (stay_before-wants cells i wanted wants)) (more (stay_before cells i later) i (stay_before-within cells i later) (stay_before-rises cells i later))
      | inr lacks ↦ subst Rising (sym (stay_before-lacks cells i wanted lacks)) (stay_before-rises cells i wanted)
    ]

pub wanted-stay : (cells : List Cell) (n : ℕ) (wanted : List ℕ) (i : ℕ) → i < n → Has wanted i → Has (stay_before cells n wanted) i
wanted-stay cells zero wanted i l h = absurd (omega arith)
wanted-stay cells (suc m) wanted i l h =
    elim (cases_Bool (has wanted m)) [
      | inl wants ↦
          let later : List ℕ = operands_of (cell_at cells m) ++ wanted in
          subst (λ (xs : List ℕ). Has xs i) (sym (stay_before-wants cells m wanted wants))
          (elim (cases_eq i m) [
            | inl e ↦ has-right (stay_before cells m later) (m ∷ []) i (subst (λ (j : ℕ). Has (m ∷ []) j) (sym e) (has-one m))
            | inr ne ↦ has-left (stay_before cells m later) (m ∷ []) i (wanted-stay cells m later i (omega arith) (has-right (operands_of (cell_at cells m)) wanted i h))
          ])
      | inr lacks ↦
          subst (λ (xs : List ℕ). Has xs i) (sym (stay_before-lacks cells m wanted lacks))
          (wanted-stay cells m wanted i (elim (cases_eq i m) [
            | inl e ↦ absurd (let t : has wanted m ≡ true = subst (Has wanted) e h in cc)
            | inr ne ↦ omega arith
          ]) h)
    ]

-- what one that stays reads, stays
pub read-stay : (cells : List Cell) → ReadsEarlier cells → (n : ℕ) (wanted : List ℕ) (j a : ℕ) → Has (stay_before cells n wanted) j → Has (operands_of (cell_at cells j)) a →
    Has (stay_before cells n wanted) a
unfolding stay_before
read-stay cells earlier zero wanted j a h r = absurd (cc)
read-stay cells earlier (suc m) wanted j a h r =
    elim (cases_Bool (has wanted m)) [
      | inl wants ↦
          let later : List ℕ = operands_of (cell_at cells m) ++ wanted in
          let is = stay_before-wants cells m wanted wants in
          subst (λ (xs : List ℕ). Has xs a) (sym is)
          (has-left (stay_before cells m later) (m ∷ []) a
          (elim (has-cases (stay_before cells m later) (m ∷ []) j (subst (λ (xs : List ℕ). Has xs j) is h)) [
            | inl low ↦ read-stay cells earlier m later j a low r
            | inr top ↦
                let e = has-one_same m j top in
                let s : Has (operands_of (cell_at cells m)) a = subst (λ (k : ℕ). Has (operands_of (cell_at cells k)) a) (sym e) r in
                wanted-stay cells m later a (all-has (λ b. b < m) (operands_of (cell_at cells m)) a (earlier m) s) (has-left (operands_of (cell_at cells m)) wanted a s)
          ]))
      | inr lacks ↦
          let is = stay_before-lacks cells m wanted lacks in
          subst (λ (xs : List ℕ). Has xs a) (sym is) (read-stay cells earlier m wanted j a (subst (λ (xs : List ℕ). Has xs j) is h) r)
    ]

abbrev pub IsReadBy : List Cell → List ℕ → ℕ → Type 0
IsReadBy cells stay i = (j : ℕ) × Has stay j × Has (operands_of (cell_at cells j)) i

readers-more : (cells : List Cell) (xs ys : List ℕ) (i : ℕ) → IsReadBy cells xs i → IsReadBy cells (xs ++ ys) i
readers-more cells xs ys i (j, h, r) = (j, has-left xs ys j h, r)

-- what stays is wanted, or read by one that stays
pub stay-read : (cells : List Cell) (n : ℕ) (wanted : List ℕ) (i : ℕ) → Has (stay_before cells n wanted) i → Has wanted i ⊎ IsReadBy cells (stay_before cells n wanted) i
unfolding stay_before
stay-read cells zero wanted i h = absurd (cc)
stay-read cells (suc m) wanted i h =
    elim (cases_Bool (has wanted m)) [
      | inl wants ↦
          let reads : List ℕ = operands_of (cell_at cells m) in
          let below : List ℕ = stay_before cells m (reads ++ wanted) in
          let is = stay_before-wants cells m wanted wants in
          subst (λ (xs : List ℕ). Has wanted i ⊎ IsReadBy cells xs i) (sym is)
          (elim (has-cases below (m ∷ []) i (subst (λ (xs : List ℕ). Has xs i) is h)) [
            | inr top ↦ inl (subst (Has wanted) (has-one_same m i top) wants)
            | inl low ↦ elim (stay-read cells m (reads ++ wanted) i low) [
              | inr by ↦ inr (readers-more cells below (m ∷ []) i by)
              | inl w ↦ elim (has-cases reads wanted i w) [
                | inl r ↦ inr (m, has-right below (m ∷ []) m (has-one m), r)
                | inr v ↦ inl v
              ]
            ]
          ])
      | inr lacks ↦
          let is = stay_before-lacks cells m wanted lacks in
          subst (λ (xs : List ℕ). Has wanted i ⊎ IsReadBy cells xs i) (sym is) (stay-read cells m wanted i (subst (λ (xs : List ℕ). Has xs i) is h))
    ]

-- ranks

pub count_by-tally : {X : Type 0} (p : X → Bool) (xs : List X) → count_by p xs ≡ tally p xs
count_by-tally p [] = refl
count_by-tally p (x ∷ xs) = sum_by-cons (λ y. cond (p y) 1 0) x xs ∙ ap (λ (n : ℕ). one_if (p x) + n) (count_by-tally p xs)

abbrev pub place_of : List ℕ → ℕ → ℕ
place_of xs i = tally (λ j. nat_lt j i) xs

one-rises : (x a b : ℕ) → a ≤ b → one_if (nat_lt x a) ≤ one_if (nat_lt x b)
one-rises x a b l =
    elim (cases_lt x a) [
      | inl m ↦ rw (lt-ltb x a m, lt-ltb x b (omega arith)) (omega arith)
      | inr m ↦ rw (le-ltb x a m) (omega arith)
    ]

one-most : (b : Bool) → one_if b ≤ 1
one-most true = omega arith
one-most false = omega arith

place-rises : (xs : List ℕ) (a b : ℕ) → a ≤ b → place_of xs a ≤ place_of xs b
place-rises [] a b l = omega arith
place-rises (x ∷ xs) a b l = let h = one-rises x a b l in let rest = place-rises xs a b l in omega (arith, h, rest)

place-less : (xs : List ℕ) (a b : ℕ) → Has xs a → a < b → place_of xs a < place_of xs b
place-less [] a b h l = absurd (cc)
place-less (x ∷ xs) a b h l =
    elim (or_cases (x == a) (has xs a) h) [
      | inl e ↦
          let same = eqb-true x a e in
          let here = ap one_if (le-ltb x a (omega (arith, same))) in
          let there = ap one_if (lt-ltb x b (omega (arith, same))) in
          let rest = place-rises xs a b (omega arith) in
          omega (arith, here, there, rest)
      | inr m ↦ let here = one-rises x a b (omega arith) in let rest = place-less xs a b m l in omega (arith, here, rest)
    ]

pub place-most : (xs : List ℕ) (a : ℕ) → place_of xs a ≤ length xs
place-most [] a = omega arith
place-most (x ∷ xs) a = let h = one-most (nat_lt x a) in let rest = place-most xs a in omega (arith, h, rest)

place-within : (xs : List ℕ) (a : ℕ) → Has xs a → place_of xs a < length xs
place-within [] a h = absurd (cc)
place-within (x ∷ xs) a h =
    elim (or_cases (x == a) (has xs a) h) [
      | inl e ↦
          let same = eqb-true x a e in
          let here = ap one_if (le-ltb x a (omega (arith, same))) in
          let rest = place-most xs a in
          omega (arith, here, rest)
      | inr m ↦ let here = one-most (nat_lt x a) in let rest = place-within xs a m in omega (arith, here, rest)
    ]

pub place-all : (xs : List ℕ) (a : ℕ) → AllByRecursion (λ x. x < a) xs → place_of xs a ≡ length xs
place-all [] a h = refl
place-all (x ∷ xs) a h =
    let here = ap one_if (lt-ltb x a h.0) in
    let rest = place-all xs a h.1 in
    omega (arith, here, rest)

place-at : (xs : List ℕ) → Rising xs → (k : ℕ) → k < length xs → place_of xs (get_or xs k 0) ≡ k
place-at _ none k l = absurd (omega arith)
place-at _ (more xs n below rises) k l =
    let many = length-append xs (n ∷ []) in
    elim (cases_lt k (length xs)) [
      | inl low ↦
          let i : ℕ = get_or xs k 0 in
          let at : get_or (xs ++ n ∷ []) k 0 ≡ i = get_or_append_left xs (n ∷ []) 0 k low in
          let a = tally-append (λ j. nat_lt j i) xs (n ∷ []) in
          let less : i < n = all-has (λ x. x < n) xs i below (has-get_or xs k low) in
          let b = ap one_if (le-ltb n i (omega (arith, less))) in
          let c = place-at xs rises k low in
          ap (place_of (xs ++ n ∷ [])) at ∙ omega (arith, a, b, c)
      | inr high ↦
          let last : k ≡ length xs = omega (arith, many) in
          let zero_on : k - length xs ≡ 0 = omega (arith, last) in
          let at : get_or (xs ++ n ∷ []) k 0 ≡ n = get_or-append_right xs (n ∷ []) (length xs) k 0 refl high ∙ ap (λ (j : ℕ). get_or (n ∷ []) j 0) zero_on in
          let a = tally-append (λ j. nat_lt j n) xs (n ∷ []) in
          let b = ap one_if (le-ltb n n (omega arith)) in
          let c = place-all xs n below in
          ap (place_of (xs ++ n ∷ [])) at ∙ omega (arith, a, b, c, last)
    ]

pub rank-is : (xs : List ℕ) (a : ℕ) → rank xs a ≡ place_of xs a
rank-is xs a = count_by-tally (λ j. nat_lt j a) xs

pub rank-at : (xs : List ℕ) → Rising xs → (k : ℕ) → k < length xs → rank xs (get_or xs k 0) ≡ k
rank-at xs rises k l = rank-is xs (get_or xs k 0) ∙ place-at xs rises k l

pub rank-less : (xs : List ℕ) (a b : ℕ) → Has xs a → a < b → rank xs a < rank xs b
rank-less xs a b h l = let p = place-less xs a b h l in let q = rank-is xs a in let r = rank-is xs b in omega (arith, p, q, r)

pub rank-within : (xs : List ℕ) (a : ℕ) → Has xs a → rank xs a < length xs
rank-within xs a h = let p = place-within xs a h in let q = rank-is xs a in omega (arith, p, q)

pub at-rank : (xs : List ℕ) → Rising xs → (a : ℕ) → Has xs a → get_or xs (rank xs a) 0 ≡ a
at-rank xs rises a h =
    let (k, l, at) = has-found xs a h in
    ap (λ (j : ℕ). get_or xs j 0) (ap (rank xs) (sym at) ∙ rank-at xs rises k l) ∙ at
