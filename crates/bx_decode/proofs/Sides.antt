-- The borders around a tile by their sides, and what enters a tile by one of them.
use Rattle.std.proofs.Common.{◌≡◌, ℕ, [], ◌∷◌, ◌++◌, map, Some, None, inl, inr, refl, sym, ap, ◌∙◌, subst}
use Rattle.std.specs.Prelude.{Option, option_and_then}
use Rattle.bx_logic.proofs.Members.{Member, Member-append_left, Member-append_right, Member-append_cases}
use Rattle.bx_forms.specs.declared.side.Side.{Side}
use Rattle.bx_forms.specs.declared.side.Side.TheVariants.{Left, Right}
use Rattle.bx_grid.specs.declared.ratio.Ratio.{Ratio}
use Rattle.bx_grid.specs.Tiles.{border, entering}
use Rattle.bx_layout.specs.declared.layout.Layout.{Layout}
use Rattle.bx_layout.specs.Layouts.{edge_on, enters}
use Rattle.bx_network.specs.Networks.{Network}
use Rattle.bx_encode.specs.declared.variable.Variable.TheVariants.{EdgeOn}
use Rattle.bx_encode.specs.Variables.{isnt}
use Rattle.bx_encode.specs.Families.{list_of, pairs, entries, exits}

pub exit-of : (N : Network) (r : Ratio) (t : ℕ) (side : Side) → Member (border t side) (exits N r t)
exit-of N r t Left = inl refl
exit-of N r t Right = inr (inl refl)

pub exit-side : (N : Network) (r : Ratio) (t b : ℕ) → Member b (exits N r t) → (side : Side) × (border t side ≡ b)
exit-side N r t b (inl e) = (Left, e)
exit-side N r t b (inr (inl e)) = (Right, e)
exit-side N r t b (inr (inr h)) = absurd h

pub list_of-has : (o : Option ℕ) (b : ℕ) → o ≡ Some b → Member b (list_of o)
list_of-has o b e = subst (λ (p : Option ℕ). Member b (list_of p)) (sym e) (inl refl)

list_of-is : (o : Option ℕ) (b : ℕ) → Member b (list_of o) → o ≡ Some b
list_of-is None b h = absurd h
list_of-is (Some a) b (inl e) = ap Some e
list_of-is (Some a) b (inr h) = absurd h

pub entry-of : (N : Network) (r : Ratio) (t b : ℕ) (side : Side) → entering r t side ≡ Some b → Member b (entries N r t)
entry-of N r t b Left e = Member-append_left b (list_of (entering r t Left)) (list_of (entering r t Right)) (list_of-has (entering r t Left) b e)
entry-of N r t b Right e = Member-append_right b (list_of (entering r t Left)) (list_of (entering r t Right)) (list_of-has (entering r t Right) b e)

pub entry-side : (N : Network) (r : Ratio) (t b : ℕ) → Member b (entries N r t) → (side : Side) × (entering r t side ≡ Some b)
entry-side N r t b m = elim (Member-append_cases b (list_of (entering r t Left)) (list_of (entering r t Right)) m) [
  | inl left ↦ (Left, list_of-is (entering r t Left) b left)
  | inr right ↦ (Right, list_of-is (entering r t Right) b right)
]

-- the two sides of a tile are a pair
pub exit-pair : (N : Network) (r : Ratio) (t e : ℕ) → Member (isnt N r (EdgeOn e (border t Left)) ∷ isnt N r (EdgeOn e (border t Right)) ∷ []) (pairs (map (λ b. isnt N r (EdgeOn e b)) (exits N r t)))
exit-pair N r t e = inl refl

pub entry-pair : (N : Network) (r : Ratio) (t e a b : ℕ) → entering r t Left ≡ Some a → entering r t Right ≡ Some b →
    Member (isnt N r (EdgeOn e a) ∷ isnt N r (EdgeOn e b) ∷ []) (pairs (map (λ c. isnt N r (EdgeOn e c)) (entries N r t)))
entry-pair N r t e a b left right = by (entering r t Left) (entering r t Right) left right
  where
    by : (o p : Option ℕ) → o ≡ Some a → p ≡ Some b → Member (isnt N r (EdgeOn e a) ∷ isnt N r (EdgeOn e b) ∷ []) (pairs (map (λ c. isnt N r (EdgeOn e c)) (list_of o ++ list_of p)))
    by o p x y =
        subst (λ (q : Option ℕ). Member (isnt N r (EdgeOn e a) ∷ isnt N r (EdgeOn e b) ∷ []) (pairs (map (λ c. isnt N r (EdgeOn e c)) (list_of q ++ list_of p)))) (sym x)
        (subst (λ (q : Option ℕ). Member (isnt N r (EdgeOn e a) ∷ isnt N r (EdgeOn e b) ∷ []) (pairs (map (λ c. isnt N r (EdgeOn e c)) (list_of (Some a) ++ list_of q)))) (sym y) (inl refl))

-- ---- on a layout

-- the border by which an edge enters a tile
pub record EntersBy (L : Layout) (t : ℕ) (side : Side) (e : ℕ) : Type 0 where
  pub border : ℕ
  pub is : entering L.ratio t side ≡ Some border
  pub carries : edge_on L border ≡ Some e

pub enters-by : (L : Layout) (t e : ℕ) (side : Side) → enters L t side ≡ Some e → EntersBy L t side e
enters-by L t e side h = on (entering L.ratio t side) refl h
  where
    on : (o : Option ℕ) → entering L.ratio t side ≡ o → option_and_then (edge_on L) o ≡ Some e → EntersBy L t side e
    on None same q = absurd (cc)
    on (Some b) same q = record { border = b; is = same; carries = q }

pub by-enters : (L : Layout) (t e b : ℕ) (side : Side) → entering L.ratio t side ≡ Some b → edge_on L b ≡ Some e → enters L t side ≡ Some e
by-enters L t e b side is carries = ap (option_and_then (edge_on L)) is ∙ carries
