use Rattle.std.proofs.Common.{◌≡◌, ℕ, inl, inr, refl, arith}
use Rattle.bx_forms.specs.declared.kind.Kind.TheVariants.{Not}
use Rattle.bx_network.specs.Examples.{node, edge}
use Rattle.bx_network.proofs.NearMisses.{inversion_is_network}
use Rattle.bx_network.proofs.laws.near_misses_of_an_inversion.Goals as goal

pub returns-clause-network : goal.returns-clause-network
returns-clause-network c = inversion_is_network

pub returns-clause-missing : goal.returns-clause-missing
returns-clause-missing c = λ h. let e : ◌≡◌ {A = ℕ} 0 1 = h.leaves 1 Not (node Not, refl, refl) 0 in omega arith

pub returns-clause-turned : goal.returns-clause-turned
returns-clause-turned c = λ h. elim (h.ascending 0 1 (edge 0 0 1 0) (omega arith) (omega arith)) [ inl a ↦ omega arith | inr b ↦ (let e = b.0 in omega arith) ]

pub returns-clause-passed : goal.returns-clause-passed
returns-clause-passed c = λ h. let e : ◌≡◌ {A = ℕ} 0 1 = h.enters 1 Not (node Not, refl, refl) 0 in omega arith

pub returns-clause-slot : goal.returns-clause-slot
returns-clause-slot c = λ h. let e : ◌≡◌ {A = ℕ} 0 1 = h.leaves 1 Not (node Not, refl, refl) 0 in omega arith

pub returns-clause-operand : goal.returns-clause-operand
returns-clause-operand c = λ h. let e : ◌≡◌ {A = ℕ} 0 1 = h.enters 1 Not (node Not, refl, refl) 0 in omega arith
