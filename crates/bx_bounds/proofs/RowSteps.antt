-- What one more edge adds to the rows of bits.
use Rattle.std.proofs.Common.{◌≡◌, ◌≢◌, ℕ, ◌+◌, ◌<◌, ◌≤◌, ◌⊎◌, ◌↔◌, List, length, get_or, set, slice_get, Some, bit_or, inl, inr, arith}
use Rattle.bx_network.specs.declared.node.Edge.{Edge}
use Rattle.bx_network.specs.Networks.{Network, IsNetwork}
use Rattle.bx_network.proofs.Networks.{goes-forward}
use Rattle.bx_bounds.specs.Rows.{HasBit, AreRowsOf}
use Rattle.bx_bounds.proofs.BitRows.{bit-or, rows-map, rows-more}
use Rattle.bx_bounds.proofs.Chains.{IsBelowBy, below-more, EntersBy, enters-more, EntersEarly, early-more, early-stay}

module _ (N : Network) (net : IsNetwork N) (few : length N.nodes ≤ 128) (k : ℕ) (e : Edge) (is : slice_get N.edges k ≡ Some e) where
  pub target-low : e.target < 128
  target-low = let low = (goes-forward N net k e is).within in omega arith

  pub source-low : e.source < 128
  source-low = let low = (goes-forward N net k e is).within in let forward = (goes-forward N net k e is).forward in omega arith

  pub below-step : (rows : List ℕ) (own : ℕ) → ((t : ℕ) → HasBit own t ↔ (t ≡ e.target)) → AreRowsOf (IsBelowBy N.edges (k + 1)) rows →
      AreRowsOf (IsBelowBy N.edges k) (set rows e.source (bit_or (get_or rows e.source 0) (bit_or own (get_or rows e.target 0))))
  below-step rows own alone are =
      rows-more (IsBelowBy N.edges (k + 1)) (IsBelowBy N.edges k) (λ t. (t ≡ e.target) ⊎ IsBelowBy N.edges (k + 1) e.target t) rows e.source (bit_or own (get_or rows e.target 0))
      source-low says (below-more N net k e is) are
    where
      says : (t : ℕ) → t < 128 → HasBit (bit_or own (get_or rows e.target 0)) t ↔ ((t ≡ e.target) ⊎ IsBelowBy N.edges (k + 1) e.target t)
      says t low =
          let both = bit-or own (get_or rows e.target 0) t in
          let here = are.each e.target t target-low low in (
            (λ h. elim (both.0 h) [ inl own_bit ↦ inl ((alone t).0 own_bit) | inr further ↦ inr (here.0 further) ]),
            (λ h. both.1 (elim h [ inl same ↦ inl ((alone t).1 same) | inr further ↦ inr (here.1 further) ])),
          )

  pub enters-step : (operand : ℕ) (rows : List ℕ) → AreRowsOf (EntersBy N.edges operand k) rows →
      AreRowsOf (EntersBy N.edges operand (k + 1)) (set rows e.target (bit_or (get_or rows e.target 0) (get_or rows e.source 0)))
  enters-step operand rows are =
      rows-more (EntersBy N.edges operand k) (EntersBy N.edges operand (k + 1)) (EntersBy N.edges operand k e.source) rows e.target (get_or rows e.source 0)
      target-low (λ t low. are.each e.source t source-low low) (enters-more N net operand k e is) are

  pub early-step : (operand : ℕ) (rows : List ℕ) (own : ℕ) → e.operand ≡ operand → ((t : ℕ) → HasBit own t ↔ (t ≡ e.target)) → AreRowsOf (EntersEarly N.edges operand k) rows →
      AreRowsOf (EntersEarly N.edges operand (k + 1)) (set rows e.source (bit_or (get_or rows e.source 0) own))
  early-step operand rows own by alone are =
      rows-more (EntersEarly N.edges operand k) (EntersEarly N.edges operand (k + 1)) (λ t. t ≡ e.target) rows e.source own
      source-low (λ t low. alone t) (early-more N.edges operand k e is by) are

  pub early-kept : (operand : ℕ) (rows : List ℕ) → e.operand ≢ operand → AreRowsOf (EntersEarly N.edges operand k) rows → AreRowsOf (EntersEarly N.edges operand (k + 1)) rows
  early-kept operand rows differ are =
      rows-map (EntersEarly N.edges operand k) (EntersEarly N.edges operand (k + 1)) rows
      (λ u t. let same = early-stay N.edges operand k e is differ u t in (same.1, same.0)) are
