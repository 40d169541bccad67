use Rattle.std.proofs.Common.{◌<◌, ◌^◌, rules, arith}
use Rattle.bx_proof.proofs.Logs.{counted, few}
use Rattle.bx_proof.proofs.steps.Steps.len.Goals as goal

pub overflow_cast-result : goal.overflow_cast-result
overflow_cast-result c =
    let small : c.len.result < 2 ^ 32 = (let few = few _ _ _ c.self.invariant in omega (arith, few, c.len.ensures)) in search (rules, small)

pub returns-clause-count : goal.returns-clause-count
returns-clause-count c = let count = counted _ _ _ _ c.self.invariant c.self.view_is in omega (arith, count, c.len.ensures)
