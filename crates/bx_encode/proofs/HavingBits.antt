-- Each layout whose places and borders are right has bits: they are set one after the other.
use Rattle.std.proofs.Common.{◌≡◌, ℕ, zero, suc, ◌+◌, ◌≤◌, Bool, false, List, length, replicate, inl, inr, refl, subst, arith}
use Rattle.bx_grid.specs.declared.ratio.Ratio.{Ratio}
use Rattle.bx_network.specs.Networks.{Network, IsNetwork}
use Rattle.bx_network.proofs.Lists.{got-at}
use Rattle.bx_cnf.specs.Formulas.{AllTrue}
use Rattle.bx_layout.specs.declared.layout.Layout.{Layout}
use Rattle.bx_layout.specs.Layouts.{edge_on}
use Rattle.bx_layout.specs.Legal.{IsPlaced, IsLegal}
use Rattle.bx_layout.specs.Permits.{PermitTest}
use Rattle.bx_layout.proofs.Balances.{option-cases}
use Rattle.bx_encode.specs.Variables.{border_count, variable_count}
use Rattle.bx_encode.specs.Formula.{formula}
use Rattle.bx_encode.specs.Bits.{AreBitsOf, AreBitsSoFar}
use Rattle.bx_encode.proofs.Marking.{none-marked, place-marked, border-marked, border-passed, all-marked}
use Rattle.bx_encode.proofs.Solving.{solved}

abbrev HasBitsSoFar : Network → Layout → ℕ → ℕ → Type 0
HasBitsSoFar N L nodes borders = (bits : List Bool) × AreBitsSoFar N L nodes borders bits

module _ (N : Network) (L : Layout) (placed : IsPlaced N L) where
  -- those that speak of the first nodes
  places-set : (k : ℕ) → k ≤ length N.nodes → HasBitsSoFar N L k 0
  places-set zero le = let n = variable_count N L.ratio in (replicate n false, none-marked N L n (replicate n false) refl refl)
  places-set (suc k) le =
      let (bits, so_far) = places-set k (omega arith) in
      let place = got-at L.places k (omega (arith, placed.places)) in
      let next : k + 1 ≡ suc k = omega arith in
      subst (λ m. HasBitsSoFar N L m 0) next (_, place-marked N L k place.item bits placed (omega arith) place.at so_far)

  -- and those that speak of the first borders too
  borders-set : (b : ℕ) → b ≤ border_count L.ratio → HasBitsSoFar N L (length N.nodes) b
  borders-set zero le = places-set (length N.nodes) (omega arith)
  borders-set (suc b) le =
      let (bits, so_far) = borders-set b (omega arith) in
      let next : b + 1 ≡ suc b = omega arith in
      subst (λ m. HasBitsSoFar N L (length N.nodes) m) next (elim (option-cases (edge_on L b)) [
        | inl none ↦ (bits, border-passed N L (length N.nodes) b bits none so_far)
        | inr (e, on) ↦ (_, border-marked N L (length N.nodes) b e bits placed (omega arith) on so_far)
      ])

  pub has-bits : (bits : List Bool) × AreBitsOf N L bits
  has-bits =
      let (bits, so_far) = borders-set (border_count L.ratio) (omega arith) in
      (bits, all-marked N L (length N.nodes) (border_count L.ratio) bits placed.places (omega arith) so_far)

-- so where no bits solve the formula, no layout is legal
pub none-legal : (N : Network) (permit : PermitTest) (r : Ratio) → IsNetwork N → ((bits : List Bool) → length bits ≡ variable_count N r → AllTrue bits (formula N permit r).clauses → ⊥) →
    (L : Layout) → L.ratio ≡ r → IsLegal N permit L → ⊥
none-legal N permit r network unsolved L same legal =
    let (bits, are) = has-bits N L legal.placed in
    subst (λ q. ((bits : List Bool) → length bits ≡ variable_count N q → AllTrue bits (formula N permit q).clauses → ⊥) → ⊥) same
    (λ none. none bits are.all (solved N permit L network legal bits are)) unsolved
