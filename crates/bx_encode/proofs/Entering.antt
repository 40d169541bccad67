-- The borders around a tile: those that enter it rise, and lie before those that leave it.
use Rattle.std.proofs.Common.{◌≡◌, ℕ, zero, suc, ◌+◌, ◌*◌, ◌<◌, ◌≤◌, Bool, true, false, List, [], ◌∷◌, ◌++◌, length, get_or, Some, None, refl, sym, ap, ◌∙◌, subst, arith}
use Rattle.std.specs.Prelude.{Option, option_map, Contains, if◌then◌else◌, nat_lt, ◌&&◌}
use Rattle.bx_forms.specs.declared.side.Side.TheVariants.{Left, Right}
use Rattle.bx_forms.specs.Sides.{opposite}
use Rattle.bx_grid.specs.declared.ratio.Ratio.{Ratio}
use Rattle.bx_grid.specs.Tiles.{IsTile, x_of, y_of, is_odd, one_less, column_beside, tile_at, above, border}
use Rattle.bx_grid.proofs.Neighbours.{above-less}
use Rattle.bx_network.specs.Networks.{Network}
use Rattle.bx_encode.specs.Variables.{border_count}
use Rattle.bx_encode.specs.Families.{list_of, entries, exits}

-- numbers that rise strictly, from one number on to below another
abbrev pub Climbs : ℕ → ℕ → List ℕ → Type 0
Climbs low high [] = low ≤ high
Climbs low high (n ∷ ns) = (low ≤ n) × Climbs (n + 1) high ns

pub climbs-le : (low high : ℕ) (ns : List ℕ) → Climbs low high ns → low ≤ high
climbs-le low high [] h = h
climbs-le low high (n ∷ ns) (above, rest) = omega (arith, climbs-le (n + 1) high ns rest)

pub record IsFrom (low high n : ℕ) : Type 0 where
  pub above : low ≤ n
  pub below : n < high

climbs-at : (low high : ℕ) (ns : List ℕ) (k d : ℕ) → Climbs low high ns → k < length ns → IsFrom low high (get_or ns k d)
climbs-at low high [] k d h inside = absurd (omega arith)
climbs-at low high (n ∷ ns) zero d (above, rest) inside = let le = climbs-le (n + 1) high ns rest in record { above = above; below = omega arith }
climbs-at low high (n ∷ ns) (suc k) d (above, rest) inside =
    let own = climbs-at (n + 1) high ns k d rest (omega arith) in
    record { above = omega (arith, own.above); below = own.below }

pub climbs-in : (low high : ℕ) (ns : List ℕ) (n : ℕ) → Climbs low high ns → Contains ns n → IsFrom low high n
climbs-in low high ns n climbs (k, inside, is) = subst (IsFrom low high) is (climbs-at low high ns k n climbs inside)

-- ---- the two tiles above

record IsAt (r : Ratio) (column row : Option ℕ) (t : ℕ) : Type 0 where
  x : ℕ
  y : ℕ
  column_is : column ≡ Some x
  row_is : row ≡ Some y
  number : y * r.w + x ≡ t

if_same : (b : Bool) (v u : ℕ) → (if b then Some v else None) ≡ Some u → v ≡ u
if_same true v u e = cc
if_same false v u e = cc

at-from : (r : Ratio) (column row : Option ℕ) (t : ℕ) → tile_at r column row ≡ Some t → IsAt r column row t
at-from r None row t e = cc
at-from r (Some x) None t e = cc
at-from r (Some x) (Some y) t e = record { x = x; y = y; column_is = refl; row_is = refl; number = if_same (nat_lt x r.w && nat_lt y r.h) (y * r.w + x) t e }

some-same : (a b : ℕ) → Some a ≡ Some b → a ≡ b
some-same a b e = cc

beside-next : (odd : Bool) (x a b : ℕ) → column_beside odd Left x ≡ Some a → column_beside odd Right x ≡ Some b → a + 1 ≡ b
beside-next true x a b left right = omega (arith, some-same x a left, some-same (x + 1) b right)
beside-next false zero a b left right = cc
beside-next false (suc x) a b left right = omega (arith, some-same x a left, some-same (suc x) b right)

above-next : (r : Ratio) (t u v : ℕ) → above r t Left ≡ Some u → above r t Right ≡ Some v → u + 1 ≡ v
above-next r t u v left right =
    let a = at-from r (column_beside (is_odd (y_of r t)) Left (x_of r t)) (one_less (y_of r t)) u left in
    let b = at-from r (column_beside (is_odd (y_of r t)) Right (x_of r t)) (one_less (y_of r t)) v right in
    let rows : a.y ≡ b.y = some-same a.y b.y (sym a.row_is ∙ b.row_is) in
    let cols = beside-next (is_odd (y_of r t)) (x_of r t) a.x b.x a.column_is b.column_is in
    omega (arith, a.number, b.number, ap (λ y. y * r.w) rows)

climbs-of : (t : ℕ) (o p : Option ℕ) → ((u : ℕ) → o ≡ Some u → u < t) → ((v : ℕ) → p ≡ Some v → v < t) → ((u v : ℕ) → o ≡ Some u → p ≡ Some v → u + 1 ≡ v) →
    Climbs 0 (2 * t) (list_of (option_map (λ u. border u (opposite Left)) o) ++ list_of (option_map (λ u. border u (opposite Right)) p))
climbs-of t None None a b next = omega arith
climbs-of t (Some u) None a b next = (omega arith, omega (arith, a u refl))
climbs-of t None (Some v) a b next = (omega arith, omega (arith, b v refl))
climbs-of t (Some u) (Some v) a b next = (omega arith, (omega (arith, next u v refl refl), omega (arith, b v refl)))

pub entries-climb : (N : Network) (r : Ratio) (t : ℕ) → Climbs 0 (2 * t) (entries N r t)
entries-climb N r t = climbs-of t (above r t Left) (above r t Right) (λ u e. above-less r t u Left e) (λ v e. above-less r t v Right e) (λ u v e f. above-next r t u v e f)

pub exits-climb : (N : Network) (r : Ratio) (t : ℕ) → Climbs (2 * t) (2 * t + 2) (exits N r t)
exits-climb N r t = (omega arith, (omega arith, omega arith))

pub entry-in : (N : Network) (r : Ratio) (t b : ℕ) → IsTile r t → Contains (entries N r t) b → b < border_count r
entry-in N r t b tile own = let from = climbs-in 0 (2 * t) (entries N r t) b (entries-climb N r t) own in omega (arith, from.below)

pub exit-in : (N : Network) (r : Ratio) (t b : ℕ) → IsTile r t → Contains (exits N r t) b → b < border_count r
exit-in N r t b tile own = let from = climbs-in (2 * t) (2 * t + 2) (exits N r t) b (exits-climb N r t) own in omega (arith, from.below)
