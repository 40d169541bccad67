use Rattle.std.proofs.Common.{ℕ, List, sym, ap₂, subst}
use Rattle.bx_desk.proofs.Saying.{says_as}
use Rattle.bx_grid.specs.declared.ratio.Ratio.{Ratio}
use Rattle.bx_library.specs.Dots.{IsAscending}
use Rattle.bx_library.specs.declared.dot.Dot.{Dot}
use Rattle.bx_siqad.specs.Texts.{design_text}
use Rattle.bx_engine.proofs.Endings.{can_write, file_ends, file_ends_failed}
use Rattle.bx_engine.proofs.write.put_drawing.Goals as goal

-- the text of these sides and dots
abbrev text_of : Ratio → List Dot → List ℕ
text_of ratio dots = design_text (record { ratio = ratio; dots = dots })

pub write_design-requires-clause-can : goal.write_design-requires-clause-can
write_design-requires-clause-can g c = can_write c.to_file-piece.result (g.D.Desk.state c.args.desk.now) c.to_file-piece.ensures.target c.requires

pub write_design-requires-clause-ascending : goal.write_design-requires-clause-ascending
write_design-requires-clause-ascending g c = subst IsAscending (sym c.dots.ensures.dots) c.dots.ensures.kept.ascending

pub returns-in-Ok-clause-ok : goal.returns-in-Ok-clause-ok
returns-in-Ok-clause-ok g c =
    (file_ends _ _ _ _ _ _ _ _ _ c.to_file-piece.ensures.empty c.to_file-piece.ensures.target c.in-Ok.is
    (says_as _ _ _ _ _ _ _ (ap₂ text_of c.ratio.ensures.ratio c.dots.ensures.dots) c.write_design.ensures) c.end.ensures.hands_on).0

pub returns-in-Ok-clause-err : goal.returns-in-Ok-clause-err
returns-in-Ok-clause-err g c =
    (file_ends _ _ _ _ _ _ _ _ _ c.to_file-piece.ensures.empty c.to_file-piece.ensures.target c.in-Ok.is
    (says_as _ _ _ _ _ _ _ (ap₂ text_of c.ratio.ensures.ratio c.dots.ensures.dots) c.write_design.ensures) c.end.ensures.hands_on).1

pub returns-in-Err-clause-err : goal.returns-in-Err-clause-err
returns-in-Err-clause-err g c =
    file_ends_failed _ _ _ _ _ _ _ c.to_file-piece.ensures.empty c.to_file-piece.ensures.target c.in-Err.is
    (says_as _ _ _ _ _ _ _ (ap₂ text_of c.ratio.ensures.ratio c.dots.ensures.dots) c.write_design.ensures)
