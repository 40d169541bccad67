use Rattle.std.proofs.Common.{◌==◌}
use Rattle.bx_dimacs.proofs.Parting.{place_or_len}
use Rattle.bx_dimacs.proofs.scan.end_of.Goals as goal

pub returns-clause-end : goal.returns-clause-end
returns-clause-end c = place_or_len (λ b. b == 10) c.args.text.now c.line_feed_at.result c.unwrap_or.result c.line_feed_at.ensures c.unwrap_or.ensures
