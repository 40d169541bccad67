-- Lines at the front of bytes.
use Rattle.std.proofs.Common.{◌≡◌, ℕ, zero, suc, Bool, true, false, cond, List, [], ◌∷◌, ◌++◌, refl, ◌∙◌, ap, arith}
use Rattle.std.proofs.lemmas.Bool.{ne_eqb}
use Rattle.std.specs.Prelude.{◌==◌}
use Rattle.bx_lines.specs.Lines.{IsLine, ended, first_lines}

first_byte : (b : ℕ) (bs : List ℕ) → IsLine (b ∷ bs) → b ≡ 10 → ⊥
first_byte b bs line e = line (0, omega arith, e)

rest_line : (b : ℕ) (bs : List ℕ) → IsLine (b ∷ bs) → IsLine bs
rest_line b bs line has = line (suc has.0, omega (arith, has.1), has.2)

-- the first line of bytes that begin with a line
pub first_lines_line : (k : ℕ) (line more : List ℕ) → IsLine line → first_lines (suc k) (ended line ++ more) ≡ ended line ++ first_lines k more
first_lines_line k [] more is = refl
first_lines_line k (b ∷ bs) more is =
    ap (λ t. cond t (b ∷ first_lines k (ended bs ++ more)) (b ∷ first_lines (suc k) (ended bs ++ more))) (ne_eqb b 10 (first_byte b bs is))
    ∙ ap (λ xs. b ∷ xs) (first_lines_line k bs more (rest_line b bs is))

-- two lines at the front of the same bytes are one
pub same_line : (l m x y : List ℕ) → IsLine l → IsLine m → ended l ++ x ≡ ended m ++ y → (l ≡ m) × (x ≡ y)
same_line [] [] x y line_l line_m e = (refl, (cc))
same_line [] (b ∷ bs) x y line_l line_m e = let ten : b ≡ 10 = cc in absurd (first_byte b bs line_m ten)
same_line (c ∷ cs) [] x y line_l line_m e = let ten : c ≡ 10 = cc in absurd (first_byte c cs line_l ten)
same_line (c ∷ cs) (b ∷ bs) x y line_l line_m e =
    let head : c ≡ b = cc in
    let tail : ended cs ++ x ≡ ended bs ++ y = cc in
    let rest = same_line cs bs x y (rest_line c cs line_l) (rest_line b bs line_m) tail in
    (ap (λ d. d ∷ cs) head ∙ ap (λ ds. b ∷ ds) rest.0, rest.1)

-- the first lines are a front of the bytes
pub first_lines_front : (k : ℕ) (bytes : List ℕ) → (rest : List ℕ) × (bytes ≡ first_lines k bytes ++ rest)
first_lines_front zero bytes = (bytes, refl)
first_lines_front (suc k) [] = ([], refl)
first_lines_front (suc k) (b ∷ bs) =
    elim (b == 10) as (λ t. (rest : List ℕ) × (b ∷ bs ≡ cond t (b ∷ first_lines k bs) (b ∷ first_lines (suc k) bs) ++ rest)) [
      | true ↦ let f = first_lines_front k bs in (f.0, ap (λ xs. b ∷ xs) f.1)
      | false ↦ let f = first_lines_front (suc k) bs in (f.0, ap (λ xs. b ∷ xs) f.1)
    ]

-- only no bytes have no first line
pub no_first_lines : (k : ℕ) (bytes : List ℕ) → first_lines (suc k) bytes ≡ [] → bytes ≡ []
no_first_lines k [] e = refl
no_first_lines k (b ∷ bs) e = absurd (clash (b == 10) e) where
  clash : (t : Bool) → cond t (b ∷ first_lines k bs) (b ∷ first_lines (suc k) bs) ≡ [] → ⊥
  clash true e = cc
  clash false e = cc
