use Rattle.bx_trace.proofs.Linear.{legal-with, ends-where-legal, passed-where-legal}
use Rattle.bx_layout.proofs.Verdicts.{denied}
use Rattle.bx_trace.proofs.legal.is_legal.Goals as goal

pub returns-then-are_ends_balanced : goal.returns-then-are_ends_balanced
returns-then-are_ends_balanced c = (
  (λ passed. legal-with c.args.net.now c.args.layout.now c.args.nodes.now c.requires.network c.requires.grid c.requires.nodes
      (c.is_placed.ensures.0 c.if-not-is_placed.false) (c.has_its_ends.ensures.0 c.if-not-has_its_ends.false) (c.are_ends_balanced.ensures.0 c.if-are_ends_balanced.true) (c.are_passed.ensures.0 passed)),
  (λ legal. c.are_passed.ensures.1 (passed-where-legal c.args.net.now c.args.layout.now c.args.nodes.now c.requires.nodes legal)),
)

pub returns-else-are_ends_balanced : goal.returns-else-are_ends_balanced
returns-else-are_ends_balanced c = (
  (λ t. absurd (denied c.are_ends_balanced.result _ c.are_ends_balanced.ensures c.if-are_ends_balanced.false (c.are_ends_balanced.ensures.0 t))),
  (λ legal. c.are_ends_balanced.ensures.1 (ends-where-legal c.args.net.now c.args.layout.now legal)),
)
