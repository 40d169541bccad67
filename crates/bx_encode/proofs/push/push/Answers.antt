-- There is room where the test says so.
use Rattle.bx_encode.proofs.push.push.Goals as goal

pub push-requires-clause-room : goal.push-requires-clause-room
push-requires-clause-room c = c.has_room.ensures.0 c.if-not-has_room.false
