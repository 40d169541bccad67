-- Lists of nodes and edges that are a network, and what holds of them.
use Rattle.std.proofs.Common.{◌≡◌, ℕ, ◌+◌, ◌≤◌, Bool, true, false, not, ◌&&◌, List, [], ◌∷◌, ◌↔◌, refl, sym, ap, ◌∙◌, subst, arith}
use Rattle.bx_logic.specs.Values.{value_of}
use Rattle.bx_forms.specs.declared.kind.Kind.{Kind}
use Rattle.bx_forms.specs.declared.kind.Kind.TheVariants.{And}
use Rattle.bx_network.specs.Networks.{IsNetwork}
use Rattle.bx_network.specs.Values.{IsValuation}
use Rattle.bx_network.specs.Paths.{IsDown, IsUp}
use Rattle.bx_network.specs.Windows.{IsInWindow, MayStand}
use Rattle.bx_network.specs.Examples.{node, inversion, branching, branching_values}
use Rattle.bx_network.proofs.Longest.{lengths}
use Rattle.bx_network.proofs.Networks.{kind-once}
use Rattle.bx_network.proofs.Downs.{downs-are, ups-are, down_is_one, up_is_one}
use Rattle.bx_network.proofs.Valuations.{made, made-is, valuation-of}
use Rattle.bx_network.proofs.PassingNetworks.{network-passes}

pub inversion_is_network : IsNetwork inversion
inversion_is_network = network-passes inversion.nodes inversion.edges refl

pub branching_is_network : IsNetwork branching
branching_is_network = network-passes branching.nodes branching.edges refl

pub down_of_and : IsDown branching 3 3
unfolding lengths
down_of_and = downs-are branching branching_is_network 3 (omega arith)

pub up_of_fan : IsUp branching 1 3
unfolding lengths
up_of_fan = ups-are branching branching_is_network 1 (omega arith)

pub up_of_and : IsUp branching 3 1
unfolding lengths
up_of_and = ups-are branching branching_is_network 3 (omega arith)

contradiction : (b : Bool) → (not b && (b && true)) ≡ false
contradiction true = refl
contradiction false = refl

branching_made : (bits : List Bool) → made branching bits 5 ≡ branching_values (value_of bits 0)
unfolding made
branching_made bits = ap (λ (b : Bool). value_of bits 0 ∷ value_of bits 0 ∷ value_of bits 0 ∷ not (value_of bits 0) ∷ b ∷ []) (contradiction (value_of bits 0))

pub branching_valued : (bits values : List Bool) → IsValuation branching bits values ↔ (values ≡ branching_values (value_of bits 0))
branching_valued bits values = (
  (λ is. (valuation-of branching branching_is_network bits).only values is ∙ branching_made bits),
  (λ same. subst (IsValuation branching bits) (branching_made bits ∙ sym same) (made-is branching branching_is_network bits)),
)

pub branching_window : (row : ℕ) → IsInWindow branching 3 row 5 ↔ (row ≡ 3)
branching_window row = (
  (λ in_window.
      let and_kind : in_window.kind ≡ And = kind-once branching 3 in_window.kind And in_window.is_kind (node And, refl, refl) in
      let down = down_is_one branching 3 in_window.down 3 in_window.is_down down_of_and in
      let up = up_is_one branching 3 in_window.up 1 in_window.is_up up_of_and in
      let within : (in_window.down ≤ row) × (row + in_window.up + 1 ≤ 5) = subst (λ (k : Kind). MayStand k in_window.down in_window.up row 5) and_kind in_window.within in
      omega arith),
  (λ same. record { kind = And; is_kind = (node And, refl, refl); down = 3; is_down = down_of_and; up = 1; is_up = up_of_and; within = (omega arith, omega arith) }),
)
