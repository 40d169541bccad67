-- The order as it is found: area by area, and width by width in each area.
use Rattle.std.proofs.Common.{◌≡◌, ℕ, zero, suc, ◌+◌, ◌-◌, ◌<◌, ◌&&◌, Bool, true, false, cond, List, [], ◌∷◌, ◌++◌, map, filter, flat_map, length, get_or, slice_get, Some, refl, sym, ap, ◌∙◌, subst, arith, length-append, append_assoc, add-one}
use Rattle.std.specs.List.{range_with_len}
use Rattle.std.proofs.lemmas.List.{get_or_append_left, get_or-append-add}
use Rattle.std.proofs.lemmas.Option.{get_or_from_slice_get, slice_get-get_or, slice_get_within}
use Rattle.std.proofs.lemmas.Grind.{flat_map-append}
use Rattle.bx_grid.specs.declared.ratio.Ratio.{Ratio}
use Rattle.bx_grid.specs.declared.ratio.Limits.{Limits}
use Rattle.bx_grid.specs.Orders.{divides, of_width, fits, of_area, order}

range_more : (a n : ℕ) → range_with_len a (suc n) ≡ range_with_len a n ++ (a + n) ∷ []
range_more a zero = ap (λ x. x ∷ []) (let e : a ≡ a + zero = omega arith in e)
range_more a (suc n) =
    ap (λ xs. a ∷ xs) (range_more (a + 1) n ∙ ap (λ x. range_with_len (a + 1) n ++ x ∷ []) (let e : a + 1 + n ≡ a + suc n = omega arith in e))

filter-snoc : {X : Type 0} (p : X → Bool) (xs : List X) (x : X) → filter p (xs ++ x ∷ []) ≡ filter p xs ++ cond (p x) (x ∷ []) []
filter-snoc p [] x = refl
filter-snoc {X} p (y ∷ ys) x = step (p y) (filter-snoc p ys x)
  where
    step : (b : Bool) → filter p (ys ++ x ∷ []) ≡ filter p ys ++ cond (p x) (x ∷ []) []
        → cond b (y ∷ filter p (ys ++ x ∷ [])) (filter p (ys ++ x ∷ [])) ≡ cond b (y ∷ filter p ys) (filter p ys) ++ cond (p x) (x ∷ []) []
    step true e = ap (λ (zs : List X). y ∷ zs) e
    step false e = e

map-snoc : {X Y : Type 0} (f : X → Y) (xs : List X) (x : X) → map f (xs ++ x ∷ []) ≡ map f xs ++ f x ∷ []
map-snoc f [] x = refl
map-snoc {X} {Y} f (y ∷ ys) x = ap (λ (zs : List Y). f y ∷ zs) (map-snoc f ys x)

append-nil : {X : Type 0} (xs : List X) → xs ++ [] ≡ xs
append-nil [] = refl
append-nil {X} (x ∷ xs) = ap (λ (zs : List X). x ∷ zs) (append-nil xs)

-- the ratios of one area whose width is at most n
abbrev pub of_area_to : Limits → ℕ → ℕ → List Ratio
of_area_to limits area n = filter (fits limits) (map (of_width area) (filter (divides area) (range_with_len 1 n)))

-- whether a ratio of this width is one of them
abbrev pub is_one : Limits → ℕ → ℕ → Bool
is_one limits area w = divides area w && fits limits (of_width area w)

kept : (limits : Limits) (area n : ℕ) (b : Bool) → filter (fits limits) (map (of_width area) (filter (divides area) (range_with_len 1 n) ++ cond b ((1 + n) ∷ []) []))
    ≡ of_area_to limits area n ++ cond (b && fits limits (of_width area (1 + n))) (of_width area (1 + n) ∷ []) []
kept limits area n true =
    ap (filter (fits limits)) (map-snoc (of_width area) (filter (divides area) (range_with_len 1 n)) (1 + n))
    ∙ filter-snoc (fits limits) (map (of_width area) (filter (divides area) (range_with_len 1 n))) (of_width area (1 + n))
kept limits area n false =
    ap (λ ws. filter (fits limits) (map (of_width area) ws)) (append-nil (filter (divides area) (range_with_len 1 n)))
    ∙ sym (append-nil (of_area_to limits area n))

pub of_area_to-more : (limits : Limits) (area n : ℕ) →
    of_area_to limits area (suc n) ≡ of_area_to limits area n ++ cond (is_one limits area (1 + n)) (of_width area (1 + n) ∷ []) []
of_area_to-more limits area n =
    ap (λ ws. filter (fits limits) (map (of_width area) (filter (divides area) ws))) (range_more 1 n)
    ∙ ap (λ ws. filter (fits limits) (map (of_width area) ws)) (filter-snoc (divides area) (range_with_len 1 n) (1 + n))
    ∙ kept limits area n (divides area (1 + n))

pub of_area_to-next : (limits : Limits) (area n : ℕ) →
    of_area_to limits area (n + 1) ≡ of_area_to limits area n ++ cond (is_one limits area (n + 1)) (of_width area (n + 1) ∷ []) []
of_area_to-next limits area n =
    let next : 1 + n ≡ n + 1 = omega arith in
    ap (of_area_to limits area) (add-one n)
    ∙ of_area_to-more limits area n
    ∙ ap (λ w. of_area_to limits area n ++ cond (is_one limits area w) (of_width area w ∷ []) []) next

pub passed : (limits : Limits) (area n : ℕ) → is_one limits area (n + 1) ≡ false → length (of_area_to limits area (n + 1)) ≡ length (of_area_to limits area n)
passed limits area n e =
    ap length (of_area_to-next limits area n ∙ ap (λ b. of_area_to limits area n ++ cond b (of_width area (n + 1) ∷ []) []) e ∙ append-nil (of_area_to limits area n))

pub counted : (limits : Limits) (area n : ℕ) → is_one limits area (n + 1) ≡ true → length (of_area_to limits area (n + 1)) ≡ length (of_area_to limits area n) + 1
counted limits area n e =
    ap length (of_area_to-next limits area n ∙ ap (λ b. of_area_to limits area n ++ cond b (of_width area (n + 1) ∷ []) []) e)
    ∙ length-append (of_area_to limits area n) (of_width area (n + 1) ∷ [])

-- a list begins with another
record Begins {X : Type 0} (xs ys : List X) : Type 0 where
  rest : List X
  is : ys ≡ xs ++ rest

begins-more : {X : Type 0} (xs ys zs tail : List X) → zs ≡ ys ++ tail → Begins xs ys → Begins xs zs
begins-more {X} xs ys zs tail e b = record { rest = b.rest ++ tail; is = e ∙ ap (λ (vs : List X). vs ++ tail) b.is ∙ append_assoc xs b.rest tail }

begins-here : {X : Type 0} (xs : List X) → Begins xs xs
begins-here xs = record { rest = []; is = sym (append-nil xs) }

begins-get : {X : Type 0} (xs ys : List X) (i : ℕ) (x : X) → Begins xs ys → slice_get xs i ≡ Some x → slice_get ys i ≡ Some x
begins-get {X} xs ys i x b e =
    let l = slice_get_within xs i x e in
    ap (λ (zs : List X). slice_get zs i) b.is
    ∙ slice_get-get_or (xs ++ b.rest) i x (omega (arith, length-append xs b.rest))
    ∙ ap Some (get_or_append_left xs b.rest x i l ∙ get_or_from_slice_get xs i x x e)

of_area_to-begins : (limits : Limits) (area n d : ℕ) → Begins (of_area_to limits area n) (of_area_to limits area (d + n))
of_area_to-begins limits area n zero = subst (λ m. Begins (of_area_to limits area n) (of_area_to limits area m)) (let e : n ≡ zero + n = omega arith in e) (begins-here (of_area_to limits area n))
of_area_to-begins limits area n (suc d) =
    let more = begins-more (of_area_to limits area n) (of_area_to limits area (d + n)) _ _ (of_area_to-more limits area (d + n)) (of_area_to-begins limits area n d) in
    subst (λ m. Begins (of_area_to limits area n) (of_area_to limits area m)) (let e : suc (d + n) ≡ suc d + n = omega arith in e) more

-- the ratio of the next width, where it is one, stands behind those of lesser width
pub of_area-here : (limits : Limits) (area n k : ℕ) → n < area → is_one limits area (n + 1) ≡ true → k ≡ length (of_area_to limits area n) →
    slice_get (of_area limits area) k ≡ Some (of_width area (n + 1))
of_area-here limits area n k less e at =
    let d = area - suc n in
    let whole : d + suc n ≡ area = omega arith in
    let begins = subst (λ m. Begins (of_area_to limits area (suc n)) (of_area_to limits area m)) whole (of_area_to-begins limits area (suc n) d) in
    let step : of_area_to limits area (suc n) ≡ of_area_to limits area n ++ of_width area (n + 1) ∷ [] =
    sym (ap (of_area_to limits area) (add-one n)) ∙ of_area_to-next limits area n ∙ ap (λ b. of_area_to limits area n ++ cond b (of_width area (n + 1) ∷ []) []) e in
    begins-get (of_area_to limits area (suc n)) (of_area limits area) k (of_width area (n + 1)) begins
    (ap (λ rs. slice_get rs k) step ∙ at_end (of_area_to limits area n) (of_width area (n + 1)) k at)
  where
    at_end : (rs : List Ratio) (r : Ratio) (j : ℕ) → j ≡ length rs → slice_get (rs ++ r ∷ []) j ≡ Some r
    at_end rs r j q =
        let place : j ≡ length rs + 0 = omega arith in
        slice_get-get_or (rs ++ r ∷ []) j r (omega (arith, length-append rs (r ∷ [])))
        ∙ ap Some (ap (λ i. get_or (rs ++ r ∷ []) i r) place ∙ get_or-append-add rs (r ∷ []) 0 r)

-- the ratios of the areas up to n
abbrev pub of_areas : Limits → ℕ → List Ratio
of_areas limits n = flat_map (of_area limits) (range_with_len 1 n)

of_areas-more : (limits : Limits) (n : ℕ) → of_areas limits (suc n) ≡ of_areas limits n ++ of_area limits (1 + n)
of_areas-more limits n =
    ap (flat_map (of_area limits)) (range_more 1 n)
    ∙ flat_map-append (of_area limits) (range_with_len 1 n) ((1 + n) ∷ [])
    ∙ ap (λ rs. of_areas limits n ++ rs) (append-nil (of_area limits (1 + n)))

pub length-of_areas : (limits : Limits) (n : ℕ) → length (of_areas limits (n + 1)) ≡ length (of_areas limits n) + length (of_area limits (n + 1))
length-of_areas limits n =
    ap (λ m. length (of_areas limits m)) (add-one n)
    ∙ ap length (of_areas-more limits n)
    ∙ length-append (of_areas limits n) (of_area limits (1 + n))
    ∙ ap (λ m. length (of_areas limits n) + length (of_area limits m)) (let e : 1 + n ≡ n + 1 = omega arith in e)

of_areas-begins : (limits : Limits) (n d : ℕ) → Begins (of_areas limits n) (of_areas limits (d + n))
of_areas-begins limits n zero = subst (λ m. Begins (of_areas limits n) (of_areas limits m)) (let e : n ≡ zero + n = omega arith in e) (begins-here (of_areas limits n))
of_areas-begins limits n (suc d) =
    let more = begins-more (of_areas limits n) (of_areas limits (d + n)) _ _ (of_areas-more limits (d + n)) (of_areas-begins limits n d) in
    subst (λ m. Begins (of_areas limits n) (of_areas limits m)) (let e : suc (d + n) ≡ suc d + n = omega arith in e) more

-- the ratios of the next area stand behind those of lesser area
pub order-here : (limits : Limits) (n i k : ℕ) (r : Ratio) → n < limits.area → slice_get (of_area limits (n + 1)) i ≡ Some r → k ≡ i + length (of_areas limits n) →
    slice_get (order limits) k ≡ Some r
unfolding order
order-here limits n i k r less e at =
    let d = limits.area - suc n in
    let whole : d + suc n ≡ limits.area = omega arith in
    let begins = subst (λ m. Begins (of_areas limits (suc n)) (of_areas limits m)) whole (of_areas-begins limits (suc n) d) in
    let next : n + 1 ≡ 1 + n = omega arith in
    let here : slice_get (of_area limits (1 + n)) i ≡ Some r = subst (λ m. slice_get (of_area limits m) i ≡ Some r) next e in
    begins-get (of_areas limits (suc n)) (of_areas limits limits.area) k r begins
    (ap (λ rs. slice_get rs k) (of_areas-more limits n) ∙ behind (of_areas limits n) (of_area limits (1 + n)) here at)
  where
    behind : (rs ss : List Ratio) → slice_get ss i ≡ Some r → k ≡ i + length rs → slice_get (rs ++ ss) k ≡ Some r
    behind rs ss h q =
        let place : k ≡ length rs + i = omega arith in
        let l = slice_get_within ss i r h in
        slice_get-get_or (rs ++ ss) k r (omega (arith, length-append rs ss))
        ∙ ap Some (ap (λ j. get_or (rs ++ ss) j r) place ∙ get_or-append-add rs ss i r ∙ get_or_from_slice_get ss i r r h)

-- the areas up to the greatest make the order
pub order-whole : (limits : Limits) → length (order limits) ≡ length (of_areas limits limits.area)
unfolding order
order-whole limits = refl
