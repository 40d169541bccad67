-- Numbers, each behind a space, and the 0 that ends them: what stands at the front of bytes is one such list,
-- if the text of a number tells it apart from others and from 0.
use Rattle.std.proofs.Common.{◌≡◌, ℕ, List, [], ◌∷◌, ◌++◌, refl, sym, ◌∙◌, ap, subst, inl, arith, append_assoc}
use Rattle.std.proofs.lemmas.List.{flat_map_more}
use Rattle.std.specs.Prelude.{codes}
use Rattle.std.specs.List.{AllByRecursion, flat_map}
use Rattle.bx_lines.specs.Decimals.{EndsNumber}
use Rattle.bx_proof.specs.Texts.{list_text}
use Rattle.bx_proof.specs.Readings.{IsClosedAt}

-- texts of numbers that tell them apart, and from 0, whatever stands behind
pub record IsSpelling {X : Type 0} (text : X → List ℕ) (P : X → Type 0) : Type 0 where
  pub one : (x y : X) (r s : List ℕ) → P x → P y → EndsNumber r → EndsNumber s → text x ++ r ≡ text y ++ s → (x ≡ y) × (r ≡ s)
  pub some : (x : X) (r s : List ℕ) → P x → EndsNumber r → EndsNumber s → text x ++ r ≡ 48 ∷ s → ⊥

-- numbers, each behind a space
abbrev pub items_text : {X : Type 0} → (X → List ℕ) → List X → List ℕ
items_text text xs = flat_map (λ x. 32 ∷ text x) xs

pub closed_cons : {X : Type 0} (text : X → List ℕ) (x : X) (xs : List X) (r : List ℕ) → list_text text (x ∷ xs) ++ r ≡ 32 ∷ (text x ++ (list_text text xs ++ r))
closed_cons text x xs r = ap (λ bs. bs ++ r) (append_assoc (32 ∷ text x) (items_text text xs) (codes " 0")) ∙ append_assoc (32 ∷ text x) (list_text text xs) r

-- they begin with a space
pub closed_starts : {X : Type 0} (text : X → List ℕ) (xs : List X) (r : List ℕ) → (behind : List ℕ) × (list_text text xs ++ r ≡ 32 ∷ behind)
closed_starts text [] r = (48 ∷ r, refl)
closed_starts text (x ∷ xs) r = (text x ++ (list_text text xs ++ r), closed_cons text x xs r)

pub closed_stops : {X : Type 0} (text : X → List ℕ) (xs : List X) (r : List ℕ) → EndsNumber (list_text text xs ++ r)
closed_stops text xs r =
    let (behind, starts) = closed_starts text xs r in
    let space : EndsNumber (32 ∷ behind) = inl (omega arith) in
    subst EndsNumber (sym starts) space

-- behind a first number there are the others
pub next_of : {X : Type 0} (text : X → List ℕ) (P : X → Type 0) → IsSpelling text P → (bytes word behind : List ℕ) (x : X) (ys : List X) (r : List ℕ) → bytes ≡ 32 ∷ word → word ≡ text x ++ behind → P x → EndsNumber behind → AllByRecursion P ys → IsClosedAt text bytes ys r → (zs : List X) × AllByRecursion P zs × IsClosedAt text behind zs r
next_of text P is bytes word behind x [] r space at px stops each at_closed =
    let e : 32 ∷ word ≡ 32 ∷ 48 ∷ r = sym space ∙ at_closed.spelled in
    let tail : word ≡ 48 ∷ r = cc in
    absurd (is.some x behind r px stops at_closed.stops (sym at ∙ tail))
next_of text P is bytes word behind x (y ∷ ys) r space at px stops each at_closed =
    let e : 32 ∷ word ≡ 32 ∷ (text y ++ (list_text text ys ++ r)) = sym space ∙ at_closed.spelled ∙ closed_cons text y ys r in
    let tail : word ≡ text y ++ (list_text text ys ++ r) = cc in
    let same = is.one x y behind (list_text text ys ++ r) px each.0 stops (closed_stops text ys r) (sym at ∙ tail) in
    (ys, each.1, record { spelled = same.1; stops = at_closed.stops })

-- where neither a number nor 0 stands behind the space, there is no such list
pub no_next : {X : Type 0} (text : X → List ℕ) (P : X → Type 0) (bytes word : List ℕ) (ys : List X) (r : List ℕ) → bytes ≡ 32 ∷ word → ((x : X) (s : List ℕ) → P x → word ≡ text x ++ s → EndsNumber s → ⊥) → ((s : List ℕ) → word ≡ 48 ∷ s → EndsNumber s → ⊥) → AllByRecursion P ys → IsClosedAt text bytes ys r → ⊥
no_next text P bytes word [] r space no_number no_zero each at_closed =
    let e : 32 ∷ word ≡ 32 ∷ 48 ∷ r = sym space ∙ at_closed.spelled in
    let tail : word ≡ 48 ∷ r = cc in
    no_zero r tail at_closed.stops
no_next text P bytes word (y ∷ ys) r space no_number no_zero each at_closed =
    let e : 32 ∷ word ≡ 32 ∷ (text y ++ (list_text text ys ++ r)) = sym space ∙ at_closed.spelled ∙ closed_cons text y ys r in
    let tail : word ≡ text y ++ (list_text text ys ++ r) = cc in
    no_number y (list_text text ys ++ r) each.0 tail (closed_stops text ys r)

-- nor where no space stands at the front
pub no_space : {X : Type 0} (text : X → List ℕ) (bytes : List ℕ) (ys : List X) (r : List ℕ) → ((word : List ℕ) → bytes ≡ 32 ∷ word → ⊥) → IsClosedAt text bytes ys r → ⊥
no_space text bytes ys r none at_closed = let (behind, starts) = closed_starts text ys r in none behind (at_closed.spelled ∙ starts)

pub each_push : {X : Type 0} (P : X → Type 0) (xs : List X) (x : X) → AllByRecursion P xs → P x → AllByRecursion P (xs ++ x ∷ [])
each_push P [] x each is = (is, tt)
each_push P (y ∷ ys) x each is = (each.0, each_push P ys x each.1 is)

-- the numbers so far, and one more
pub one_more : {X : Type 0} (text : X → List ℕ) (bytes rest word behind : List ℕ) (xs : List X) (x : X) → bytes ≡ items_text text xs ++ rest → rest ≡ 32 ∷ word → word ≡ text x ++ behind → bytes ≡ items_text text (xs ++ x ∷ []) ++ behind
one_more text bytes rest word behind xs x so_far space at =
    so_far ∙ ap (λ bs. items_text text xs ++ bs) (space ∙ ap (λ bs. 32 ∷ bs) at) ∙ sym (append_assoc (items_text text xs) (32 ∷ text x) behind)
    ∙ ap (λ bs. bs ++ behind) (flat_map_more (λ y. 32 ∷ text y) [] xs x)

-- the numbers so far, and the 0 that ends them
pub closed_here : {X : Type 0} (text : X → List ℕ) (bytes rest word behind : List ℕ) (xs : List X) → bytes ≡ items_text text xs ++ rest → rest ≡ 32 ∷ word → word ≡ 48 ∷ behind → EndsNumber behind → IsClosedAt text bytes xs behind
closed_here text bytes rest word behind xs so_far space zero stops = record {
  spelled = so_far ∙ ap (λ bs. items_text text xs ++ bs) (space ∙ ap (λ bs. 32 ∷ bs) zero) ∙ sym (append_assoc (items_text text xs) (codes " 0") behind);
  stops = stops;
}

-- there is one such list at the front of bytes
pub one_closed : {X : Type 0} (text : X → List ℕ) (P : X → Type 0) → IsSpelling text P → (bytes : List ℕ) (xs ys : List X) (r s : List ℕ) → AllByRecursion P xs → AllByRecursion P ys → IsClosedAt text bytes xs r → IsClosedAt text bytes ys s → (xs ≡ ys) × (r ≡ s)
one_closed text P is bytes [] [] r s pxs pys a b = let e : 32 ∷ 48 ∷ r ≡ 32 ∷ 48 ∷ s = sym a.spelled ∙ b.spelled in (refl, (cc))
one_closed text P is bytes [] (y ∷ ys) r s pxs pys a b =
    let e : 32 ∷ (text y ++ (list_text text ys ++ s)) ≡ 32 ∷ 48 ∷ r = sym (closed_cons text y ys s) ∙ sym b.spelled ∙ a.spelled in
    let tail : text y ++ (list_text text ys ++ s) ≡ 48 ∷ r = cc in
    absurd (is.some y (list_text text ys ++ s) r pys.0 (closed_stops text ys s) a.stops tail)
one_closed text P is bytes (x ∷ xs) [] r s pxs pys a b =
    let e : 32 ∷ (text x ++ (list_text text xs ++ r)) ≡ 32 ∷ 48 ∷ s = sym (closed_cons text x xs r) ∙ sym a.spelled ∙ b.spelled in
    let tail : text x ++ (list_text text xs ++ r) ≡ 48 ∷ s = cc in
    absurd (is.some x (list_text text xs ++ r) s pxs.0 (closed_stops text xs r) b.stops tail)
one_closed text P is bytes (x ∷ xs) (y ∷ ys) r s pxs pys a b =
    let e : 32 ∷ (text x ++ (list_text text xs ++ r)) ≡ 32 ∷ (text y ++ (list_text text ys ++ s)) = sym (closed_cons text x xs r) ∙ sym a.spelled ∙ b.spelled ∙ closed_cons text y ys s in
    let tail : text x ++ (list_text text xs ++ r) ≡ text y ++ (list_text text ys ++ s) = cc in
    let head = is.one x y (list_text text xs ++ r) (list_text text ys ++ s) pxs.0 pys.0 (closed_stops text xs r) (closed_stops text ys s) tail in
    let inner = one_closed text P is (list_text text xs ++ r) xs ys r s pxs.1 pys.1 (record { spelled = refl; stops = a.stops }) (record { spelled = head.1; stops = b.stops }) in
    (ap (λ z. z ∷ xs) head.0 ∙ ap (λ zs. y ∷ zs) inner.0, inner.1)
