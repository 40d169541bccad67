use Rattle.std.proofs.Common.{◌↔◌, Bool, sym, subst}
use Rattle.std.specs.Prelude.{IfOk, IsTrue}
use Rattle.bx_layout.specs.Permits.{test_of}
use Rattle.bx_proof.specs.declared.refutation.Refutation.{Refutation}
use Rattle.bx_refutes.specs.Refutations.{IsRefutedBy}
use Rattle.bx_verify.proofs.refuted.is_proved.Goals as goal

pub returns-in-Clauses : goal.returns-in-Clauses
returns-in-Clauses g c =
    subst (λ (proof : Refutation). IfOk c.are_accepted.result (λ (yes : Bool). IsTrue yes ↔ IsRefutedBy c.args.net.now (test_of c.args.permit.now) c.args.section.now.ratio proof))
    (sym c.in-Clauses.is) c.are_accepted.ensures
