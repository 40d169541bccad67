-- What a wire, an inverter and two inverters in a row give.
use Rattle.std.proofs.Common.{◌≡◌, ℕ, zero, suc, ◌<◌, Bool, true, false, not, List, [], ◌∷◌, refl, sym, ◌∙◌, ap, subst, arith}
use Rattle.std.specs.List.{All}
use Rattle.std.proofs.lemmas.List.Elements.{All-cons, All-nil}
use Rattle.bx_logic.specs.Nets.{driver_at, IsNet}
use Rattle.bx_logic.specs.Values.{value_of, driver_value, output_values, AreOutputValues}
use Rattle.bx_logic.specs.Ascending.{MayStandAt}
use Rattle.bx_logic.specs.Behaviours.{net_behaviour, SameBehaviour}
use Rattle.bx_logic.specs.Inverters.{wire, inverter, two_inverters}
use Rattle.bx_logic.proofs.Bools.{not-not}
use Rattle.bx_logic.proofs.Ascending.{ascending-is_net}
use Rattle.bx_logic.proofs.Behaviours.{same-functions, same-sym, outputs-of_valuation, net-function}

only-below : (bound n : ℕ) → n < bound → All (λ m. m < bound) (n ∷ [])
only-below bound n h = All-cons (λ m. m < bound) n [] h (All-nil (λ m. m < bound))

wire-stands : (n : ℕ) → n < 1 → MayStandAt 1 n (driver_at wire.drivers n)
wire-stands zero h = (omega arith, refl)
wire-stands (suc n) h = absurd (omega arith)

two-stand : (n : ℕ) → n < 3 → MayStandAt 1 n (driver_at two_inverters.drivers n)
two-stand zero h = (omega arith, refl)
two-stand (suc zero) h = (omega arith, refl, only-below 1 0 (omega arith))
two-stand (suc (suc zero)) h = (omega arith, refl, only-below 2 1 (omega arith))
two-stand (suc (suc (suc n))) h = absurd (omega arith)

wire-net : IsNet wire
wire-net =
    ascending-is_net wire (omega arith) (omega arith) (omega arith) (only-below 1 0 (omega arith))
    (record { inputs_within = omega arith; each = wire-stands })

two-net : IsNet two_inverters
two-net =
    ascending-is_net two_inverters (omega arith) (omega arith) (omega arith) (only-below 3 2 (omega arith))
    (record { inputs_within = omega arith; each = two-stand })

wire-each : (bits : List Bool) (n : ℕ) → n < 1 →
    value_of (value_of bits 0 ∷ []) n ≡ driver_value bits (value_of (value_of bits 0 ∷ [])) (driver_at wire.drivers n)
wire-each bits zero h = refl
wire-each bits (suc n) h = absurd (omega arith)

abbrev two_values : Bool → List Bool
two_values b = b ∷ not b ∷ not (not b) ∷ []

two-each : (bits : List Bool) (n : ℕ) → n < 3 →
    value_of (two_values (value_of bits 0)) n ≡ driver_value bits (value_of (two_values (value_of bits 0))) (driver_at two_inverters.drivers n)
two-each bits zero h = refl
two-each bits (suc zero) h = refl
two-each bits (suc (suc zero)) h = refl
two-each bits (suc (suc (suc n))) h = absurd (omega arith)

-- what the wire gives, two inverters give
two-give : (bits outputs : List Bool) → AreOutputValues wire bits outputs → AreOutputValues two_inverters bits outputs
two-give bits outputs o =
    let b = value_of bits 0 in
    let same : value_of o.values 0 ≡ b = o.valuation.is.each 0 (omega arith) in
    let is : outputs ≡ output_values two_inverters (two_values b) = o.read ∙ ap (λ (c : Bool). c ∷ []) (same ∙ sym (not-not b)) in
    subst (AreOutputValues two_inverters bits) (sym is)
    (outputs-of_valuation two_inverters bits (two_values b) two-net o.inputs (record { whole = refl; each = two-each bits }))

pub two-are_wire : SameBehaviour (net_behaviour two_inverters) (net_behaviour wire)
two-are_wire =
    same-sym (net_behaviour wire) (net_behaviour two_inverters)
    (same-functions 1 1 1 (net_behaviour wire) (net_behaviour two_inverters) (net-function wire wire-net) (net-function two_inverters two-net) two-give)

-- one inverter does not give 1 for 1
pub inverter-not_wire : SameBehaviour (net_behaviour inverter) (net_behaviour wire) → ⊥
inverter-not_wire same =
    let ones : List Bool = true ∷ [] in
    let o = same.back ones ones (outputs-of_valuation wire ones ones wire-net refl (record { whole = refl; each = wire-each ones })) in
    let input : value_of o.values 0 ≡ true = o.valuation.is.each 0 (omega arith) in
    let inverse : value_of o.values 1 ≡ not (value_of o.values 0) = o.valuation.is.each 1 (omega arith) in
    let read : ones ≡ value_of o.values 1 ∷ [] = o.read in
    let wrong : true ≡ false = ap (λ (bs : List Bool). value_of bs 0) read ∙ inverse ∙ ap not input in
    cc
