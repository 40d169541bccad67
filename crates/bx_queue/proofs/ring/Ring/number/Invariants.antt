use Rattle.std.proofs.Common.{◌≡◌, ◌<◌, ◌-◌, length}
use Rattle.std.specs.List.{AllByRecursion}
use Rattle.bx_queue.specs.Ring.{walk}
use Rattle.bx_queue.specs.Stamps.{numbering}
use Rattle.bx_queue.proofs.ring.Ring.number.Given as goal

-- what is left of the walk has room, and is numbered with what is left of the numbers
abbrev pub invariant-loop-before : goal.invariant-loop-before
invariant-loop-before l =
    record {
      here : l.at < length l.self-inside.next.items;
      room : AllByRecursion (λ v. v < length l.self-inside.next.items) (walk l.self-inside.next.items l.at (l.before-end - l.before));
      stamps : AllByRecursion (λ v. v < length l.stamps) (walk l.self-inside.next.items l.at (l.before-end - l.before));
      rest : numbering (walk l.self-inside.next.items l.at (l.before-end - l.before)) (l.top - l.before) l.stamps ≡ numbering (walk l.self-inside.next.items 0 l.before-end) l.top l.initial.stamps;
    }
