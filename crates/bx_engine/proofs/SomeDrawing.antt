-- A grid of forms has a design: its dots can be told in order.
use Rattle.std.proofs.Common.{◌≡◌, ◌<◌, ◌⊎◌, ℕ, List, [], ◌∷◌, inl, inr, refl, sym, ap, ◌∙◌, subst, arith}
use Rattle.std.proofs.lemmas.List.Sorted.{IsPermutation-refl}
use Rattle.bx_dots.specs.GridDots.{AreDotsOf, grid_dots}
use Rattle.bx_dots.proofs.Listing.{sorted_is}
use Rattle.bx_layout.specs.Grids.{FormGrid}
use Rattle.bx_library.specs.Dots.{IsBefore}
use Rattle.bx_library.specs.Tiles.{Tiles}
use Rattle.bx_library.specs.declared.dot.Dot.{Dot}
use Rattle.bx_library.proofs.DotOrder.{before_goes_on}
use Rattle.bx_logic.proofs.Members.{Member, Contains-from_member, Member-from_contains, AllByRecursion-from_member, member_of_AllByRecursion}
use Rattle.bx_logic.proofs.Ordered.{Ascends, AllPairs-from_ascends}
use Rattle.bx_siqad.specs.Designs.{Drawing}
use Rattle.bx_engine.specs.Answers.{Draws}

-- ---- of two dots one stands before the other, or they are one

three_ways : (a b : ℕ) → (a < b) ⊎ ((a ≡ b) ⊎ (b < a))
three_ways a b = grind arith

one_dot : (a b : Dot) → a.m ≡ b.m → a.l ≡ b.l → a.n ≡ b.n → a ≡ b
one_dot a b m l n = ap (λ (x : ℕ). dot x a.l a.n) m ∙ ap (λ (x : ℕ). dot b.m x a.n) l ∙ ap (λ (x : ℕ). dot b.m b.l x) n where
  dot : ℕ → ℕ → ℕ → Dot
  dot m l n = record { m = m; l = l; n = n }

which_first : (a b : Dot) → IsBefore a b ⊎ ((a ≡ b) ⊎ IsBefore b a)
which_first a b = elim (three_ways a.m b.m) [
  | inl less ↦ inl (inl less)
  | inr rest ↦ elim rest [
    | inr more ↦ inr (inr (inl more))
    | inl m ↦ elim (three_ways a.l b.l) [
      | inl less ↦ inl (inr (m, inl less))
      | inr rest ↦ elim rest [
        | inr more ↦ inr (inr (inr (sym m, inl more)))
        | inl l ↦ elim (three_ways a.n b.n) [
          | inl less ↦ inl (inr (m, inr (l, less)))
          | inr rest ↦ elim rest [
            | inr more ↦ inr (inr (inr (sym m, inr (sym l, more))))
            | inl n ↦ inr (inl (one_dot a b m l n))
          ]
        ]
      ]
    ]
  ]
]

-- ---- dots in order

-- a dot was put among others
record IsPut (d : Dot) (xs ys : List Dot) : Type 0 where
  ascends : Ascends IsBefore ys
  forth : (x : Dot) → Member x ys → (d ≡ x) ⊎ Member x xs
  back : (x : Dot) → (d ≡ x) ⊎ Member x xs → Member x ys

put_dot : (d : Dot) (xs : List Dot) → Ascends IsBefore xs → (ys : List Dot) × IsPut d xs ys
put_dot d [] a = (d ∷ [], record { ascends = (tt, tt); forth = λ x m. m; back = λ x m. m })
put_dot d (x ∷ xs) a = elim (which_first d x) [
  | inl less ↦ (
    d ∷ x ∷ xs,
    record {
      ascends = ((less, AllByRecursion-from_member (IsBefore d) xs (λ y m. before_goes_on d x y less (member_of_AllByRecursion (IsBefore x) y xs a.0 m))), a);
      forth = λ y m. m;
      back = λ y m. m;
    },
  )
  | inr rest ↦ elim rest [
    | inl same ↦ (
      x ∷ xs,
      record {
        ascends = a;
        forth = λ y m. inr m;
        back = λ y h. elim h [ inl e ↦ inl (sym same ∙ e) | inr m ↦ m ];
      },
    )
    | inr more ↦ (
        let (ys, is) = put_dot d xs a.1 in (
          x ∷ ys,
          record {
            ascends = (
              AllByRecursion-from_member (IsBefore x) ys (λ y m. elim (is.forth y m) [
                | inl e ↦ subst (λ (z : Dot). IsBefore x z) e more
                | inr n ↦ member_of_AllByRecursion (IsBefore x) y xs a.0 n
              ]),
              is.ascends,
            );
            forth = λ y h. elim h [
              | inl e ↦ inr (inl e)
              | inr m ↦ elim (is.forth y m) [ inl e ↦ inl e | inr n ↦ inr (inr n) ]
            ];
            back = λ y h. elim h [
              | inl e ↦ inr (is.back y (inl e))
              | inr m ↦ elim m [ inl e ↦ inl e | inr n ↦ inr (is.back y (inr n)) ]
            ];
          },
        )
        )
  ]
]

-- the same dots in order
record IsInOrder (xs ys : List Dot) : Type 0 where
  ascends : Ascends IsBefore ys
  forth : (x : Dot) → Member x ys → Member x xs
  back : (x : Dot) → Member x xs → Member x ys

in_order : (xs : List Dot) → (ys : List Dot) × IsInOrder xs ys
in_order [] = ([], record { ascends = tt; forth = λ x m. m; back = λ x m. m })
in_order (d ∷ xs) =
    let (ys, is) = in_order xs in
    let (zs, put) = put_dot d ys is.ascends in (
      zs,
      record {
        ascends = put.ascends;
        forth = λ x m. elim (put.forth x m) [ inl e ↦ inl e | inr n ↦ inr (is.forth x n) ];
        back = λ x m. elim m [ inl e ↦ put.back x (inl e) | inr n ↦ put.back x (inr (is.back x n)) ];
      },
    )

-- ---- the design

pub some-drawing : (lib : Tiles) (grid : FormGrid) → (drawing : Drawing) × Draws lib grid drawing
some-drawing lib grid =
    let xs = grid_dots lib grid in
    let are : AreDotsOf lib grid xs = sorted_is lib grid xs xs refl (IsPermutation-refl xs) in
    let (ys, is) = in_order xs in (
      record { ratio = grid.ratio; dots = ys },
      record {
        ratio = refl;
        dots = λ dot. (
          (λ h. (are dot).0 (Contains-from_member dot xs (is.forth dot (Member-from_contains dot ys h)))),
          (λ h. Contains-from_member dot ys (is.back dot (Member-from_contains dot xs ((are dot).1 h)))),
        );
        ascending = AllPairs-from_ascends IsBefore ys is.ascends;
      },
    )
