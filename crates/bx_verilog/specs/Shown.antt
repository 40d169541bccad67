-- What the code's names and mentions are, without where they lie in memory.
use Rattle.std.specs.Prelude.{◌≡◌, ◌++◌, ℕ, List, map}
use Rattle.std.specs.List.{position_or_len}
use Rattle.std.specs.Str.{bytes_eq}
use Rattle.bx_verilog.specs.declared.mentions.Mention.{Mention as Found}
use Rattle.bx_verilog.specs.Formulas.{Text}
use Rattle.bx_verilog.specs.Mentions.{Mention}

abbrev pub shown : Found → Mention
shown x = (x.name.now, x.role)

-- the number of a name among these, which is how many there are where it is none of them
abbrev pub number_among : List Text → Text → ℕ
number_among names n = position_or_len (bytes_eq n) names

-- behind the mentions that were there stand these
abbrev pub AreAdded : List Found → List Found → List Mention → Type 0
AreAdded old new more = map shown new ≡ map shown old ++ more
