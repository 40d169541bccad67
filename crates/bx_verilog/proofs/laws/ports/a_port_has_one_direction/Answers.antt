use Rattle.std.proofs.Common.{◌≡◌, ◌≤◌, ◌+◌, ℕ, arith, inl, inr}
use Rattle.std.proofs.lemmas.Bool.{cases_lt}
use Rattle.bx_verilog.specs.Mentions.{count, is_directed, is_header}
use Rattle.bx_verilog.specs.Faults.{twice_in_header, two_directions, no_direction, no_port}
use Rattle.bx_verilog.proofs.laws.ports.a_port_has_one_direction.Goals as goal

one-each : (h d : ℕ) → 1 ≤ h + d → (2 ≤ h → ⊥) → (2 ≤ d → ⊥) → (1 ≤ h → d ≡ 0 → ⊥) → (h ≡ 0 → 1 ≤ d → ⊥) → (h ≡ 1) × (d ≡ 1)
one-each h d some once one directed port =
    elim (cases_lt 1 h) [
      | inl twice ↦ absurd (once twice)
      | inr few ↦ elim (cases_lt 1 d) [
        | inl two ↦ absurd (one two)
        | inr least ↦ elim (cases_lt 0 h) [
          | inl header ↦ elim (cases_lt 0 d) [
            | inl has ↦ (omega arith, omega arith)
            | inr none ↦ absurd (directed (omega arith) (omega arith))
          ]
          | inr none ↦ absurd (port (omega arith) (omega arith))
        ]
      ]
    ]

pub returns : goal.returns
returns c m good n some =
    one-each (count is_header m n) (count is_directed m n) some (λ h. good n (twice_in_header h)) (λ h. good n (two_directions h))
    (λ h none. good n (no_direction h none)) (λ none h. good n (no_port none h))
