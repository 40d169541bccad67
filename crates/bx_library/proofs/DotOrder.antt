-- The order of dots, as a comparison and as a relation.
use Rattle.std.proofs.Common.{Ordering, Less, Equal, Greater, ◌≡◌, ℕ, ◌<◌, ◌⊎◌, inl, inr, refl, ap, ◌∙◌, arith}
use Rattle.std.proofs.lemmas.Bool.Decides.{nat_tests}
use Rattle.std.proofs.lemmas.Cmp.{ranked, by_ranked}
use Rattle.std.specs.Ordering.{nat_cmp, ordering_then}
use Rattle.bx_library.specs.declared.dot.Dot.{Dot}
use Rattle.bx_library.specs.Dots.{IsBefore, dot_cmp}

-- what one step of a comparison says
then_less : (x y : ℕ) (o : Ordering) → ordering_then (nat_cmp x y) o ≡ Less → (x < y) ⊎ ((x ≡ y) × (o ≡ Less))
then_less x y o h =
    by_ranked (x < y) (x ≡ y) (y < x) (nat_cmp x y) (ranked x y (nat_cmp x y) refl)
    (λ e p. inl p)
    (λ e p. inr (p, rw e at h))
    (λ e p. let no : Greater ≡ Less = rw e at h in cc)

less_then : (x y : ℕ) (o : Ordering) → (x < y) ⊎ ((x ≡ y) × (o ≡ Less)) → ordering_then (nat_cmp x y) o ≡ Less
less_then x y o h =
    by_ranked (x < y) (x ≡ y) (y < x) (nat_cmp x y) (ranked x y (nat_cmp x y) refl)
    (λ e p. rw e)
    (λ e p. rw e (elim h [ inl less ↦ absurd (omega arith) | inr both ↦ both.1 ]))
    (λ e p. elim h [ inl less ↦ absurd (omega arith) | inr both ↦ absurd (omega arith) ])

then_equal : (x y : ℕ) (o : Ordering) → ordering_then (nat_cmp x y) o ≡ Equal → (x ≡ y) × (o ≡ Equal)
then_equal x y o h =
    by_ranked (x < y) (x ≡ y) (y < x) (nat_cmp x y) (ranked x y (nat_cmp x y) refl)
    (λ e p. let no : Less ≡ Equal = rw e at h in cc)
    (λ e p. (p, rw e at h))
    (λ e p. let no : Greater ≡ Equal = rw e at h in cc)

cmp_itself : (x : ℕ) → nat_cmp x x ≡ Equal
cmp_itself x = grind (arith, nat_tests)

nat_less : (x y : ℕ) → nat_cmp x y ≡ Less → x < y
nat_less x y h = grind (arith, nat_tests)

less_nat : (x y : ℕ) → x < y → nat_cmp x y ≡ Less
less_nat x y h = grind (arith, nat_tests)

nat_equal : (x y : ℕ) → nat_cmp x y ≡ Equal → x ≡ y
nat_equal x y h = grind (arith, nat_tests)

pub before_from_cmp : (a b : Dot) → dot_cmp a b ≡ Less → IsBefore a b
before_from_cmp a b h =
    elim (then_less a.m b.m _ h) [
      | inl less ↦ inl less
      | inr tie ↦ inr (
        tie.0,
        elim (then_less a.l b.l _ tie.1) [
          | inl less ↦ inl less
          | inr both ↦ inr (both.0, nat_less a.n b.n both.1)
        ],
      )
    ]

pub cmp_from_before : (a b : Dot) → IsBefore a b → dot_cmp a b ≡ Less
cmp_from_before a b h =
    less_then a.m b.m _ (elim h [
      | inl less ↦ inl less
      | inr tie ↦ inr (
        tie.0,
        less_then a.l b.l _ (elim tie.1 [
          | inl less ↦ inl less
          | inr both ↦ inr (both.0, less_nat a.n b.n both.1)
        ]),
      )
    ])

abbrev dot : ℕ → ℕ → ℕ → Dot
dot m l n = record { m = m; l = l; n = n }

pub same_dot : (a b : Dot) → a.m ≡ b.m → a.l ≡ b.l → a.n ≡ b.n → a ≡ b
same_dot a b m l n = ap (λ x. dot x a.l a.n) m ∙ ap (λ x. dot b.m x a.n) l ∙ ap (λ x. dot b.m b.l x) n

pub equal_from_cmp : (a b : Dot) → dot_cmp a b ≡ Equal → a ≡ b
equal_from_cmp a b h =
    let m = then_equal a.m b.m _ h in
    let l = then_equal a.l b.l _ m.1 in
    same_dot a b m.0 l.0 (nat_equal a.n b.n l.1)

pub dot_cmp_itself : (a : Dot) → dot_cmp a a ≡ Equal
dot_cmp_itself a = rw (cmp_itself a.m, cmp_itself a.l) (cmp_itself a.n)

pub cmp_from_equal : (a b : Dot) → a ≡ b → dot_cmp a b ≡ Equal
cmp_from_equal a b e = rw e (dot_cmp_itself b)

pub not_before_itself : (a : Dot) → IsBefore a a → ⊥
not_before_itself a h = omega arith

pub before_goes_on : (a b c : Dot) → IsBefore a b → IsBefore b c → IsBefore a c
before_goes_on a b c h k =
    elim h [
      | inl less ↦ inl (omega arith)
      | inr tie ↦ elim k [
        | inl less ↦ inl (omega arith)
        | inr tie' ↦ inr (
          tie.0 ∙ tie'.0,
          elim tie.1 [
            | inl less ↦ inl (omega arith)
            | inr both ↦ elim tie'.1 [
              | inl less ↦ inl (omega arith)
              | inr both' ↦ inr (both.0 ∙ both'.0, omega arith)
            ]
          ],
        )
      ]
    ]
