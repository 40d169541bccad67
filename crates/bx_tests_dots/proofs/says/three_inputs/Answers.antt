use Rattle.std.proofs.Common.{◌≡◌, ℕ, zero, suc, ◌<◌, List, [], ◌∷◌, sym, subst, refl, arith}
use Rattle.std.specs.List.{All}
use Rattle.std.proofs.lemmas.List.Elements.{All-nil, All-cons}
use Rattle.bx_logic.specs.declared.driver.Driver.{Driver}
use Rattle.bx_logic.specs.declared.driver.Driver.TheVariants.{Input}
use Rattle.bx_logic.specs.Nets.{IsNet, netlist, driver_at}
use Rattle.bx_logic.specs.Ascending.{MayStandAt, IsAscending}
use Rattle.bx_logic.proofs.Ascending.{ascending-is_net}
use Rattle.bx_tests_dots.proofs.says.three_inputs.Goals as goal

abbrev three : List Driver
three = Input 0 ∷ Input 1 ∷ Input 2 ∷ []

each_stands : (n : ℕ) → n < 3 → MayStandAt 3 n (driver_at three n)
each_stands zero h = (omega arith, refl)
each_stands (suc zero) h = (omega arith, refl)
each_stands (suc (suc zero)) h = (omega arith, refl)
each_stands (suc (suc (suc n))) h = absurd (omega arith)

is_net : (m : List ℕ) (inputs : List (List ℕ)) (outputs : List (List ℕ × ℕ)) (drivers : List Driver) (a b c y : List ℕ)
    → inputs ≡ a ∷ b ∷ c ∷ [] → outputs ≡ (y, 0) ∷ [] → drivers ≡ three → IsNet (netlist m inputs outputs drivers)
is_net m inputs outputs drivers a b c y e f d =
    let reads : All (λ n. n < 3) (0 ∷ []) = All-cons (λ n. n < 3) 0 [] (omega arith) (All-nil (λ n. n < 3)) in
    let ascends : IsAscending 3 three = record { inputs_within = omega arith; each = each_stands } in
    let plain : IsNet (netlist m (a ∷ b ∷ c ∷ []) ((y, 0) ∷ []) three) =
    ascending-is_net (netlist m (a ∷ b ∷ c ∷ []) ((y, 0) ∷ []) three) (omega arith) (omega arith) (omega arith) reads ascends in
    let with_drivers = subst (λ (ds : List Driver). IsNet (netlist m (a ∷ b ∷ c ∷ []) ((y, 0) ∷ []) ds)) (sym d) plain in
    let with_outputs = subst (λ (outs : List (List ℕ × ℕ)). IsNet (netlist m (a ∷ b ∷ c ∷ []) outs drivers)) (sym f) with_drivers in
    subst (λ (ins : List (List ℕ)). IsNet (netlist m ins outputs drivers)) (sym e) with_outputs

pub new-requires : goal.new-requires
new-requires c = is_net _ _ _ _ _ _ _ _ c.in_ok-inputs.ensures.items c.in_ok-outputs.ensures.items c.in_ok-drivers.ensures.items
