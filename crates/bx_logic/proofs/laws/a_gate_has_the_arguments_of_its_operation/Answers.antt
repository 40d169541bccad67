use Rattle.std.proofs.Common.{◌≡◌, ℕ, List, [], ◌∷◌, length, subst, arith}
use Rattle.bx_logic.specs.declared.op.Op.{Op}
use Rattle.bx_logic.specs.declared.op.Op.TheVariants.{Buf, Not}
use Rattle.bx_logic.specs.declared.driver.Driver.{Driver}
use Rattle.bx_logic.specs.declared.driver.Driver.TheVariants.{Gate}
use Rattle.bx_logic.specs.Nets.{driver_at, HasArity, IsDriver, Netlist, IsNet}
use Rattle.bx_logic.proofs.Valuations.{driver-at}
use Rattle.bx_logic.proofs.laws.a_gate_has_the_arguments_of_its_operation.Goals as goal

arity-at : (net : Netlist) (n : ℕ) (op : Op) (args : List ℕ) → driver_at net.drivers n ≡ Gate op args → IsNet net → HasArity op args
arity-at net n op args e h =
    let is = subst (λ (d : Driver). IsDriver (length net.inputs) (length net.drivers) d) e (driver-at (length net.inputs) net.drivers h.drivers n) in is.0

no-arguments : (op : Op) → HasArity op [] → ⊥
no-arguments Buf h = absurd (omega arith)
no-arguments Not h = absurd (omega arith)
no-arguments _ h = absurd (omega arith)

pub returns-clause-none : goal.returns-clause-none
returns-clause-none c = λ net n op e h. no-arguments op (arity-at net n op [] e h)

pub returns-clause-buf : goal.returns-clause-buf
returns-clause-buf c = λ net n a b e h. let two : length (a ∷ b ∷ []) ≡ 1 = arity-at net n Buf (a ∷ b ∷ []) e h in absurd (omega (arith, two))

pub returns-clause-not : goal.returns-clause-not
returns-clause-not c = λ net n a b e h. let two : length (a ∷ b ∷ []) ≡ 1 = arity-at net n Not (a ∷ b ∷ []) e h in absurd (omega (arith, two))
