-- Which calls are to fail: numbers of calls, each with how much such a call keeps.
use Rattle.std.specs.Prelude.{ℕ, List, [], ◌∷◌, length, take, min, Option, None, Some, ◌==◌, nat_lt, if◌then◌else◌}

-- how much the call of this number keeps, where it is to fail; the first that was planned for it counts
abbrev pub kept_at : List (ℕ × ℕ) → ℕ → Option ℕ
kept_at [] number = None
kept_at (plan ∷ plans) number = if plan.0 == number then Some plan.1 else kept_at plans number

-- what is kept of a piece: all of it where the call isn't to fail and there is room
abbrev pub kept_of : Option ℕ → ℕ → List ℕ → List ℕ
kept_of (Some kept) room piece = take (min kept room) piece
kept_of None room piece = if nat_lt room (length piece) then [] else piece
