use Rattle.std.proofs.Common.{◌≡◌, ℕ, List, refl, ap, arith}
use Rattle.std.specs.List.{slice_get}
use Rattle.bx_forms.specs.declared.kind.Kind.TheVariants.{Not}
use Rattle.bx_network.specs.declared.node.Node.{Node}
use Rattle.bx_network.proofs.laws.near_misses_of_ports.Goals as goal

pub returns-clause-inputs : goal.returns-clause-inputs
returns-clause-inputs c = λ port output h. let e : ◌≡◌ {A = ℕ} 0 1 = h.inputs_apart 0 1 port refl refl in omega arith

pub returns-clause-outputs : goal.returns-clause-outputs
returns-clause-outputs c = λ port h. let e : ◌≡◌ {A = ℕ} 2 3 = h.outputs_apart 2 3 port refl refl in omega arith

pub returns-clause-gap : goal.returns-clause-gap
returns-clause-gap c = λ one other h. let low = h.outputs_within 3 1 refl in omega arith

pub returns-clause-gate : goal.returns-clause-gate
returns-clause-gate c = λ N same h.
    let e : ◌≡◌ {A = ℕ} 1 0 = h.portless 1 Not 1 (ap (λ (nodes : List Node). slice_get nodes 1) same) (λ f. absurd (cc)) (λ f. absurd (cc)) in
    omega arith
