use native.Mathlib.Numerals.{unary_clauses}
use Rattle.std.proofs.Common.{arith}
use Rattle.bx_check.proofs.Valuing.{count_more, count_all}
use Rattle.bx_check.proofs.values.literals_of_clauses.Goals as goal

pub loop-k-preserved : goal.loop-k-preserved
loop-k-preserved c =
    count_more c.args.clauses.now.clauses c.loop-k.k c.loop-k.count _ c.clause.result.now (simp unary_clauses at c.clause.ensures.value) c.loop-k.invariant (omega (arith, c.saturating_add-count.ensures))

pub returns : goal.returns
returns c = count_all c.args.clauses.now.clauses c.loop-k.k c.loop-k.count c.loop-k.invariant
