-- Pseudo-random numbers, by the state of their generator.
use Rattle.std.specs.Prelude.{ℕ, ◌+◌, ◌*◌, ◌/◌, ◌%◌}

-- the state behind a state
abbrev pub next : ℕ → ℕ
next s = (s * 1103515245 + 12345) % 2147483648

-- one of so many, by the high bits of a state
abbrev pub pick : ℕ → ℕ → ℕ
pick many s = (s / 65536) % many
