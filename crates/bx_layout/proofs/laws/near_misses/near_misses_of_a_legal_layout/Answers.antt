use Rattle.std.proofs.Common.{◌≡◌, ℕ, false, true, Some, None, inl, inr, refl, arith}
use Rattle.bx_forms.specs.declared.kind.Kind.TheVariants.{Input}
use Rattle.bx_forms.specs.declared.side.Side.TheVariants.{Left, Right}
use Rattle.bx_network.specs.Examples.{node, edge}
use Rattle.bx_layout.proofs.NearMisses.{straight-legal, not-form}
use Rattle.bx_layout.proofs.laws.near_misses.near_misses_of_a_legal_layout.Goals as goal

no-edge : (e : ℕ) → Some e ≡ None → ⊥
no-edge e h = cc

pub returns-clause-legal : goal.returns-clause-legal
returns-clause-legal c = straight-legal

pub returns-clause-placed : goal.returns-clause-placed
returns-clause-placed c = λ h. let e : ◌≡◌ {A = ℕ} 1 2 = h.placed.apart 1 2 1 refl refl in omega arith

pub returns-clause-ends : goal.returns-clause-ends
returns-clause-ends c = λ h. let e : ◌≡◌ {A = ℕ} 1 0 = h.ends 0 1 (node Input) refl refl in omega arith

pub returns-clause-stays : goal.returns-clause-stays
returns-clause-stays c = λ h. no-edge 0 (h.stays 0 Left (omega arith) refl)

pub returns-clause-balanced : goal.returns-clause-balanced
returns-clause-balanced c = λ h. let e : ◌≡◌ {A = ℕ} 1 0 = (h.balanced 1 1 (edge 1 0 2 0) (omega arith) refl).balanced in omega arith

pub returns-clause-alone : goal.returns-clause-alone
returns-clause-alone c = λ h. elim (h.alone 0 0 refl Right 1 (edge 1 0 2 0) (inr refl) refl) [
  | inl a ↦ (let e : ◌≡◌ {A = ℕ} 1 0 = a in omega arith)
  | inr b ↦ (let e : ◌≡◌ {A = ℕ} 2 0 = b in omega arith)
]

pub returns-clause-permitted : goal.returns-clause-permitted
returns-clause-permitted c = λ h. let e : false ≡ true = h.permitted 1 8 (omega arith) (inl not-form) in cc
