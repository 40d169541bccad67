-- What was put before and the whole of `bytes` are what was handed on in this call, what is pending and what is left.
use Rattle.std.proofs.Common.{◌≡◌, ◌++◌, ◌+◌, ◌<◌, ◌%◌, length}
use Rattle.bx_desk.specs.Desk.{CanPut}
use Rattle.bx_desk.specs.Pieces.{pending, PutsUpTo}
use Rattle.bx_desk.proofs.piece.Piece.put.Given as goal

abbrev pub invariant-loop-self : goal.invariant-loop-self
invariant-loop-self g l =
    let state = g.D.Desk.state in
    record {
      puts : PutsUpTo l.fn.self.target (state l.fn.desk) (state l.desk) (pending l.fn.self ++ l.fn.bytes) (pending l.self ++ l.rest);
      can : CanPut l.fn.self.target (state l.desk);
      target : l.self.target ≡ l.fn.self.target;
      size : (l.self.len + length l.rest) % 4096 ≡ (l.fn.self.len + length l.fn.bytes) % 4096;
      quiet : l.fn.self.len + length l.fn.bytes < 4096 → (l.desk ≡ l.fn.desk) × (l.self.len + length l.rest ≡ l.fn.self.len + length l.fn.bytes);
    }

abbrev pub decreases-loop-self : goal.decreases-loop-self
decreases-loop-self g l = length l.rest
