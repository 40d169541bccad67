-- How many nets of their own formulas and drives have, and what drives these one behind the other.
use Rattle.std.proofs.Common.{◌≡◌, ℕ, suc, ◌+◌, List, [], ◌∷◌, ◌++◌, length, length-append, append_assoc, refl, sym, ap, ◌∙◌, arith}
use Rattle.bx_verilog.specs.Formulas.{Text, Formula, named, constant, negation, pair}
use Rattle.bx_verilog.specs.Drives.{Drive}
use Rattle.bx_verilog.specs.Elaboration.{own, all_own, inner_size, net_numbers, own_drivers, all_own_drivers, inner_drivers}

pub inner_size-append : (xs ys : List Drive) → inner_size (xs ++ ys) ≡ inner_size xs + inner_size ys
inner_size-append [] ys = omega arith
inner_size-append (x ∷ xs) ys = omega (arith, inner_size-append xs ys)

module _ (numbered : Text → ℕ) where
  pub length-net_numbers : (first : ℕ) (xs : List Formula) → length (net_numbers numbered first xs) ≡ length xs
  length-net_numbers first [] = refl
  length-net_numbers first (x ∷ xs) = ap suc (length-net_numbers (first + own x) xs)

  pub length-own_drivers : (first : ℕ) (x : Formula) → length (own_drivers numbered first x) ≡ own x
  length-own_drivers first (named n) = refl
  length-own_drivers first (constant b) = refl
  length-own_drivers first (negation x) = simp length-append (omega (arith, length-own_drivers first x))
  length-own_drivers first (pair o x y) =
      simp length-append (omega (arith, length-own_drivers first x, length-own_drivers (first + own x) y))

  pub length-all_own_drivers : (first : ℕ) (xs : List Formula) → length (all_own_drivers numbered first xs) ≡ all_own xs
  length-all_own_drivers first [] = refl
  length-all_own_drivers first (x ∷ xs) =
      simp length-append (omega (arith, length-own_drivers first x, length-all_own_drivers (first + own x) xs))

  pub length-inner_drivers : (first : ℕ) (ds : List Drive) → length (inner_drivers numbered first ds) ≡ inner_size ds
  length-inner_drivers first [] = refl
  length-inner_drivers first (d ∷ ds) =
      simp length-append (omega (arith, length-all_own_drivers first d.arguments, length-inner_drivers (first + all_own d.arguments) ds))

  pub inner_drivers-append : (first : ℕ) (xs ys : List Drive) →
      inner_drivers numbered first (xs ++ ys) ≡ inner_drivers numbered first xs ++ inner_drivers numbered (first + inner_size xs) ys
  inner_drivers-append first [] ys = ap (λ k. inner_drivers numbered k ys) (omega arith)
  inner_drivers-append first (x ∷ xs) ys =
      let later : first + all_own x.arguments + inner_size xs ≡ first + (all_own x.arguments + inner_size xs) = omega arith in
      ap (λ zs. all_own_drivers numbered first x.arguments ++ zs)
      (inner_drivers-append (first + all_own x.arguments) xs ys
      ∙ ap (λ k. inner_drivers numbered (first + all_own x.arguments) xs ++ inner_drivers numbered k ys) later)
      ∙ sym (append_assoc (all_own_drivers numbered first x.arguments) (inner_drivers numbered (first + all_own x.arguments) xs) (inner_drivers numbered (first + (all_own x.arguments + inner_size xs)) ys))
