-- A node's kind and the lengths of its longest paths say which rows are in its window.
use Rattle.std.proofs.Common.{◌<◌, ◌≤◌, ◌-◌, arith, ℕ, Bool, subst}
use Rattle.std.specs.Prelude.{IsTrue, ◌↔◌}
use Rattle.bx_forms.specs.declared.kind.Kind.{Kind}
use Rattle.bx_forms.specs.declared.kind.Kind.TheVariants.{Input, Output}
use Rattle.bx_network.specs.Networks.{Network, HasKind}
use Rattle.bx_network.specs.Paths.{IsDown, IsUp}
use Rattle.bx_network.specs.Windows.{MayStand, IsInWindow, EarliestFrom, LatestTo}
use Rattle.bx_network.proofs.Networks.{kind-once}
use Rattle.bx_network.proofs.Downs.{down_is_one, up_is_one}

pub window-is : (N : Network) (v : ℕ) (kind : Kind) (down up row height : ℕ) (b : Bool) → HasKind N v kind → IsDown N v down → IsUp N v up → IsTrue b ↔ MayStand kind down up row height → IsTrue b ↔ IsInWindow N v row height
window-is N v kind down up row height b has is_down is_up says = (
  (λ yes. record { kind = kind; is_kind = has; down = down; is_down = is_down; up = up; is_up = is_up; within = says.0 yes }),
  (λ in_window.
      says.1
      (subst (λ (k : Kind). MayStand k down up row height) (kind-once N v in_window.kind kind in_window.is_kind has)
      (subst (λ (d : ℕ). MayStand in_window.kind d up row height) (down_is_one N v in_window.down down in_window.is_down is_down)
      (subst (λ (u : ℕ). MayStand in_window.kind in_window.down u row height) (up_is_one N v in_window.up up in_window.is_up is_up) in_window.within)))),
)

pub not-before : (kind : Kind) (down up row height a : ℕ) → MayStand kind down up row height → EarliestFrom kind down height a → a ≤ row
not-before Input down up row height a stands from = omega arith
not-before _ down up row height a stands from = omega arith

pub not-behind : (kind : Kind) (down up row height b : ℕ) → MayStand kind down up row height → LatestTo kind up height b → row ≤ b
not-behind Input down up row height b stands to = omega arith
not-behind _ down up row height b stands to = omega arith

-- and where there is room, a row that is neither before the earliest row nor behind the latest is one of them
pub between : (kind : Kind) (down up row height : ℕ) → up < height → ((a : ℕ) → EarliestFrom kind down height a → a ≤ row) →
    ((b : ℕ) → LatestTo kind up height b → row ≤ b) → MayStand kind down up row height
between Input down up row height room from to = let low = to 0 (omega arith) in omega arith
between Output down up row height room from to =
    let low = from (height - 1) (omega arith) in let high = to (height - 1) (omega arith) in omega arith
between _ down up row height room from to =
    let low = from down (omega arith) in let high = to (height - 1 - up) (omega arith) in (low, omega arith)
