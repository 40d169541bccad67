-- A desk that never fails and keeps nothing: what it shows, and what it loads.
use Rattle.std.specs.Prelude.{ℕ, Bool, List, [], ◌∷◌, None, Some, Vec, if◌then◌else◌}
use Rattle.std.specs.declared.alloc.Global.{Global}
use Rattle.std.specs.Str.{bytes_eq}
use Rattle.bx_desk.specs.Desk.{DeskState}
use Rattle.bx_desk.specs.declared.quiet.QuietDesk.{QuietDesk}

-- it tells of no file and of nothing said, and none of its counts has ever risen
abbrev pub quiet_state : Bool → DeskState
quiet_state started = record {
  files = None;
  started = if started then Some None else None;
  said = None;
  faults = record { load = 0; write = 0; say = 0 };
}

abbrev pub state_of : QuietDesk → DeskState
state_of d = quiet_state d.started

-- the first text that is held under a name, and the empty one where none is
abbrev pub text_under : List (List ℕ × Vec ℕ Global) → List ℕ → List ℕ
text_under [] name = []
text_under ((held, text) ∷ rest) name =
    if bytes_eq held name then text.items else text_under rest name

abbrev pub text_of : QuietDesk → List ℕ → List ℕ
text_of d = text_under d.held.items
