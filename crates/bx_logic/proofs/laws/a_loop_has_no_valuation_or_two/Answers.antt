use Rattle.std.proofs.Common.{◌≡◌, ℕ, zero, suc, ◌<◌, Bool, List, [], ◌∷◌, refl, arith}
use Rattle.bx_logic.specs.declared.op.Op.TheVariants.{Buf}
use Rattle.bx_logic.specs.declared.driver.Driver.TheVariants.{Gate}
use Rattle.bx_logic.specs.Nets.{driver_at}
use Rattle.bx_logic.specs.Values.{value_of, driver_value}
use Rattle.bx_logic.proofs.Bools.{not-itself}
use Rattle.bx_logic.proofs.laws.a_loop_has_no_valuation_or_two.Goals as goal

copies : (bits : List Bool) (b : Bool) (n : ℕ) → n < 1 → value_of (b ∷ []) n ≡ driver_value bits (value_of (b ∷ [])) (driver_at (Gate Buf (0 ∷ []) ∷ []) n)
copies bits b zero h = refl
copies bits b (suc n) h = absurd (omega arith)

pub returns-clause-inversion : goal.returns-clause-inversion
returns-clause-inversion c = λ bits values v. not-itself (value_of values 0) (v.each 0 (omega arith))

pub returns-clause-copy : goal.returns-clause-copy
returns-clause-copy c = λ bits b. record { whole = refl; each = λ n h. copies bits b n h }
