use Rattle.std.proofs.Common.{Err, ap, sym, ◌∙◌}
use Rattle.bx_sat.specs.Files.{too_long}
use Rattle.bx_sat.proofs.load.load.Goals as goal

pub returns-in-Err-TooLong-clause-err : goal.returns-in-Err-TooLong-clause-err
returns-in-Err-TooLong-clause-err g c =
    too_long c.load.new.into.items (sym c.load.new.into.ok.0 ∙ c.in-Err-TooLong.ensures.too_long (ap Err c.in-Err-TooLong.field-0-is)) (c.in-Err-TooLong.ensures.too_long_front (ap Err c.in-Err-TooLong.field-0-is)) (c.in-Err-TooLong.ensures.too_long_stays (ap Err c.in-Err-TooLong.field-0-is))
