use Rattle.bx_engine.proofs.Endings.{says_ends, says_ends_failed}
use Rattle.bx_picture.proofs.run.show_grid.Goals as goal

pub returns-in-Ok : goal.returns-in-Ok
returns-in-Ok g c = says_ends _ _ _ _ _ _ _ _ _ _ c.to_say-piece.ensures.empty c.to_say-piece.ensures.target c.in-Ok.is c.draw_grid.ensures c.end_saying.ensures

pub returns-in-Err : goal.returns-in-Err
returns-in-Err g c = says_ends_failed _ _ _ _ _ _ _ _ c.to_say-piece.ensures.empty c.to_say-piece.ensures.target c.in-Err.is c.draw_grid.ensures
