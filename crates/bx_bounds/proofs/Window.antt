-- The rows in which a node may stand are those between its earliest and its latest row.
use Rattle.std.proofs.Common.{◌≡◌, ◌↔◌, ℕ, ◌+◌, ◌-◌, ◌<◌, ◌≤◌, arith}
use Rattle.bx_forms.specs.declared.kind.Kind.{Kind}
use Rattle.bx_forms.specs.declared.kind.Kind.TheVariants.{Input, Output, Not, Fan, And, Or, Nand, Nor, Xor, Xnor}
use Rattle.bx_network.specs.Windows.{MayStand}
use Rattle.bx_network.proofs.Window.{not-before, not-behind}
use Rattle.bx_bounds.specs.Windows.{IsBetween}

-- a row with room above and below
with-room : (down up row height : ℕ) → up < height → down ≤ row → (height ≤ (height - up - 1) + up + 1 → row ≤ height - up - 1) → (down ≤ row) × (row + up + 1 ≤ height)
with-room down up row height some above below = let low = below (omega arith) in (above, omega arith)

may-stand : (kind : Kind) (down up row height : ℕ) → up < height → IsBetween kind down up row height → MayStand kind down up row height
may-stand Input down up row height some h = let low = h.latest 0 (omega arith) in omega arith
may-stand Output down up row height some h = let low = h.earliest (height - 1) (omega arith) in let high = h.latest (height - 1) (omega arith) in omega arith
may-stand Not down up row height some h = with-room down up row height some (h.earliest down (omega arith)) (h.latest (height - up - 1))
may-stand Fan down up row height some h = with-room down up row height some (h.earliest down (omega arith)) (h.latest (height - up - 1))
may-stand And down up row height some h = with-room down up row height some (h.earliest down (omega arith)) (h.latest (height - up - 1))
may-stand Or down up row height some h = with-room down up row height some (h.earliest down (omega arith)) (h.latest (height - up - 1))
may-stand Nand down up row height some h = with-room down up row height some (h.earliest down (omega arith)) (h.latest (height - up - 1))
may-stand Nor down up row height some h = with-room down up row height some (h.earliest down (omega arith)) (h.latest (height - up - 1))
may-stand Xor down up row height some h = with-room down up row height some (h.earliest down (omega arith)) (h.latest (height - up - 1))
may-stand Xnor down up row height some h = with-room down up row height some (h.earliest down (omega arith)) (h.latest (height - up - 1))

pub in-window : (kind : Kind) (down up row height : ℕ) → up < height → MayStand kind down up row height ↔ IsBetween kind down up row height
in-window kind down up row height some = (
  (λ stands. record {
    earliest = λ a from. not-before kind down up row height a stands from;
    latest = λ b to. not-behind kind down up row height b stands to;
  }),
  may-stand kind down up row height some,
)
