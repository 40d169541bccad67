use Rattle.bx_check.proofs.Borders.{found_exact}
use Rattle.bx_check.proofs.chunks.passes_chunk.Goals as goal

pub returns : goal.returns
returns c = found_exact c.in_ok-failure.failure c.is_none.result c.args.clauses.now c.args.steps.now.steps _ _ c.is_none.ensures c.in_ok-failure.ensures
