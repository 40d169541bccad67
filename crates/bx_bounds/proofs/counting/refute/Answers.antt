use Rattle.std.proofs.Common.{◌≡◌, ℕ, Option, Some, None, IfSome, subst}
use Rattle.bx_grid.specs.declared.ratio.Ratio.{Ratio}
use Rattle.bx_grid.specs.declared.count.CountProof.{CountProof}
use Rattle.bx_network.specs.Networks.{Network, IsNetwork}
use Rattle.bx_layout.specs.Permits.{PermitTest}
use Rattle.bx_layout.specs.Legal.{LacksLayout}
use Rattle.bx_bounds.specs.Precedes.{IsFirst}
use Rattle.bx_bounds.specs.Refutes.{Refutes}
use Rattle.bx_bounds.proofs.Firsts.{OfKind}
use Rattle.bx_bounds.proofs.Meaning.{no-layout}
use Rattle.bx_bounds.proofs.counting.refute.Goals as goal

-- what a proof that was found means
found : (N : Network) (r : Ratio) (k : ℕ) (o : Option CountProof) → IsNetwork N → IsFirst (OfKind k (Refutes N r)) o → IfSome o (λ proof. (permit : PermitTest) → LacksLayout N permit r)
found N r k None network first = tt
found N r k (Some proof) network first = no-layout N r proof network first.0.1

found-is : (N : Network) (r : Ratio) (k : ℕ) (o : Option CountProof) (proof : CountProof) → IsNetwork N → o ≡ Some proof → IsFirst (OfKind k (Refutes N r)) o → (permit : PermitTest) → LacksLayout N permit r
found-is N r k o proof network is first = subst (λ (p : Option CountProof). IfSome p (λ proof. (permit : PermitTest) → LacksLayout N permit r)) is (found N r k o network first)

pub returns-in-Some-clause-no_layout : goal.returns-in-Some-clause-no_layout
returns-in-Some-clause-no_layout c = found-is c.args.net.now c.args.ratio 0 c.first_late.result c.in-Some.proof c.node_count-nodes.ensures.network c.in-Some.is c.first_late.ensures

pub returns-in-Some-first_crowd-clause-no_layout : goal.returns-in-Some-first_crowd-clause-no_layout
returns-in-Some-first_crowd-clause-no_layout c = found-is c.args.net.now c.args.ratio 1 c.first_crowd.result c.in-Some-first_crowd.proof c.node_count-nodes.ensures.network c.in-Some-first_crowd.is c.first_crowd.ensures

pub returns-in-Some-first_cut-clause-no_layout : goal.returns-in-Some-first_cut-clause-no_layout
returns-in-Some-first_cut-clause-no_layout c = found-is c.args.net.now c.args.ratio 2 c.first_cut.result c.in-Some-first_cut.proof c.node_count-nodes.ensures.network c.in-Some-first_cut.is c.first_cut.ensures

pub returns-clause-no_layout : goal.returns-clause-no_layout
returns-clause-no_layout c = found c.args.net.now c.args.ratio 3 c.first_pair.result c.node_count-nodes.ensures.network c.first_pair.ensures
