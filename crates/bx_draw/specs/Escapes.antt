-- Bytes within XML.
use Rattle.std.specs.Prelude.{ℕ, ◌+◌, ◌/◌, ◌%◌, ◌≤◌, ◌≢◌, Bool, List, [], ◌∷◌, codes, flat_map, nat_eq, nat_le, nat_lt, if◌then◌else◌, ◌&&◌}

-- a digit of base 16, as its byte
abbrev pub hex_digit : ℕ → ℕ
hex_digit n = if nat_lt n 10 then 48 + n else 87 + n

-- a byte that isn't printable, by its two digits
abbrev pub coded : ℕ → List ℕ
coded byte = 92 ∷ 120 ∷ hex_digit (byte / 16) ∷ hex_digit (byte % 16) ∷ []

abbrev pub is_printable : ℕ → Bool
is_printable byte = nat_le 32 byte && nat_le byte 126

-- a byte as it stands between tags: what has a meaning there by its name, and what can't stand there as a code
abbrev pub escaped_byte : ℕ → List ℕ
escaped_byte byte =
    if nat_eq byte 60 then codes "&lt;" else
    if nat_eq byte 62 then codes "&gt;" else
    if nat_eq byte 38 then codes "&amp;" else
    if nat_eq byte 34 then codes "&quot;" else
    if is_printable byte then byte ∷ [] else coded byte

abbrev pub escaped : List ℕ → List ℕ
escaped bytes = flat_map escaped_byte bytes

-- a byte that ends no text of XML and no value of an attribute, and is printable
pub record IsHarmless (byte : ℕ) : Type 0 where
  pub least : 32 ≤ byte
  pub most : byte ≤ 126
  pub no_tag : byte ≢ 60
  pub no_end : byte ≢ 62
  pub no_quote : byte ≢ 34
