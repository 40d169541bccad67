use Rattle.std.proofs.Common.{◌≡◌, ◌-◌, ◌+◌, suc, arith}
use Rattle.std.proofs.lemmas.List.{get_or_read}
use Rattle.bx_queue.proofs.Rings.{number-more}
use Rattle.bx_queue.proofs.ring.Ring.number.Goals as goal

pub loop-before-preserved : goal.loop-before-preserved
loop-before-preserved c =
    let one : c.len-before-end.result - 1 - c.loop-before.before ≡ suc (c.len-before-end.result - 1 - (c.loop-before.before + 1)) = omega arith in
    let lower : c.args.top - (c.loop-before.before + 1) ≡ c.args.top - c.loop-before.before - 1 = omega arith in
    let parts = number-more _ _ _ _ _ _ _ _ _ one lower (get_or_read _ _ _ c.loop-before.invariant.here c.index-at.ensures 0) c.loop-before.invariant.room c.loop-before.invariant.stamps c.loop-before.invariant.rest in
    record {
      here = parts.0;
      room = parts.1;
      stamps = parts.2;
      rest = parts.3;
    }
