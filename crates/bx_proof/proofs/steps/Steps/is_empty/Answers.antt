use Rattle.std.proofs.Common.{◌≡◌, length, ap, arith}
use Rattle.std.proofs.lemmas.Bool.{eqb-true, eq-eqb}
use Rattle.std.proofs.lemmas.List.{nil_from_length}
use Rattle.bx_proof.proofs.Logs.{counted}
use Rattle.bx_proof.proofs.steps.Steps.is_empty.Goals as goal

pub returns : goal.returns
returns c =
    let count = counted _ _ _ _ c.self.invariant c.self.view_is in (
      λ zero. let e = eqb-true c.len.result 0 zero in nil_from_length c.args.self.now.steps (omega (arith, e, count, c.len.ensures)),
      λ nil. let n : length c.args.self.now.steps ≡ 0 = ap length nil in eq-eqb c.len.result 0 (omega (arith, n, count, c.len.ensures)),
    )
