use Rattle.std.proofs.Common.{refl}
use Rattle.bx_layout.proofs.legal.is_legal.Goals as goal

pub is_permitted-requires : goal.is_permitted-requires
is_permitted-requires c = record {
  grid = c.is_grid.ensures.0 c.if-not-is_grid.false;
  placed = c.is_placed.ensures.0 c.if-not-is_placed.false;
  ends = c.has_its_ends.ensures.0 c.if-not-has_its_ends.false;
  stays = c.stays_on_grid.ensures.0 c.if-not-stays_on_grid.false;
  balanced = c.is_balanced.ensures.0 c.if-not-is_balanced.false;
  alone = c.nodes_are_alone.ensures.0 c.if-not-nodes_are_alone.false;
  permitted = λ t form inside has. refl;
}

pub returns : goal.returns
returns c = (
  (λ allowed. record {
    grid = c.is_grid.ensures.0 c.if-not-is_grid.false;
    placed = c.is_placed.ensures.0 c.if-not-is_placed.false;
    ends = c.has_its_ends.ensures.0 c.if-not-has_its_ends.false;
    stays = c.stays_on_grid.ensures.0 c.if-not-stays_on_grid.false;
    balanced = c.is_balanced.ensures.0 c.if-not-is_balanced.false;
    alone = c.nodes_are_alone.ensures.0 c.if-not-nodes_are_alone.false;
    permitted = c.is_permitted.ensures.0 allowed;
  }),
  (λ legal. c.is_permitted.ensures.1 legal.permitted),
)
