use Rattle.std.proofs.Common.{length, ap, arith}
use Rattle.bx_trace.proofs.Linear.{placed-with}
use Rattle.bx_trace.proofs.legal.is_placed.Goals as goal

pub returns-then-borders-nodes : goal.returns-then-borders-nodes
returns-then-borders-nodes c =
    let same = c.as_slice-borders.ensures in
    let counts = ap length same in
    let whole = c.requires.whole in
    let many = c.if-borders-nodes.true in (
      (λ fit. placed-with c.args.net.now c.args.layout.now c.args.nodes.now c.requires.places (omega (arith, counts, whole, many)) whole c.requires.nodes
          (λ b e is. let low = c.are_edges.ensures.0 fit b e (rw same is) in omega (arith, low, c.edge_count.ensures.count))),
      (λ placed. c.are_edges.ensures.1 (λ b e is. let low = placed.edges b e (rw same at is) in omega (arith, low, c.edge_count.ensures.count))),
    )
