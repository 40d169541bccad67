-- The names of tiles: a tile is known by its name.
use Rattle.std.proofs.Common.{◌≡◌, ℕ, zero, suc, ◌+◌, ◌<◌, ◌≤◌, Bool, true, map, Option, Some, None, refl, sym, ap, ◌∙◌, arith, inl, inr}
use Rattle.std.specs.Prelude.{◌==◌, ◌&&◌, codes, unwrap_or}
use Rattle.std.specs.List.{list_all, position, range_with_len}
use Rattle.std.specs.Str.{bytes_eq}
use Rattle.std.proofs.lemmas.Bool.{cases_eq, eqb-true, and_parts}
use Rattle.bx_forms.specs.declared.table.TheConstants.{FORMS}
use Rattle.bx_says.specs.Texts.{Text, IsPlain}
use Rattle.bx_says.specs.Reports.{tile_name}
use Rattle.bx_says.proofs.PlainTexts.{is_plain, plain-tested}

-- the tile that has this name
tile_named : Text → Option ℕ
tile_named text = position (bytes_eq text) (map (λ form. form.0.now) FORMS)

is_named : ℕ → Bool
is_named form = (unwrap_or (tile_named (tile_name (Some form))) 28 == form) && is_plain (tile_name (Some form))

all-named : list_all is_named (range_with_len 0 28) ≡ true
unfolding is_named tile_named
all-named = refl

below-all : (test : ℕ → Bool) (n a t : ℕ) → list_all test (range_with_len a n) ≡ true → a ≤ t → t < a + n → test t ≡ true
below-all test zero a t e low high = absurd (omega arith)
below-all test (suc n) a t e low high =
    let both = and_parts (test a) (list_all test (range_with_len (a + 1) n)) e in
    elim (cases_eq t a) [
      | inl same ↦ ap test same ∙ both.0
      | inr other ↦ below-all test n (a + 1) t both.1 (omega arith) (omega arith)
    ]

-- empty, or one of the 28 forms
abbrev pub IsFormTile : Option ℕ → Type 0
IsFormTile tile = (form : ℕ) → tile ≡ Some form → form < 28

found-some : (found : Option ℕ) (form : ℕ) → form < 28 → unwrap_or found 28 ≡ form → found ≡ Some form
found-some None form h e = absurd (omega arith)
found-some (Some number) form h e = ap Some e

named-parts : (form : ℕ) → form < 28 → (unwrap_or (tile_named (tile_name (Some form))) 28 ≡ form) × (is_plain (tile_name (Some form)) ≡ true)
unfolding is_named
named-parts form h =
    let both = and_parts (unwrap_or (tile_named (tile_name (Some form))) 28 == form) (is_plain (tile_name (Some form))) (below-all is_named 28 0 form all-named (omega arith) (omega arith)) in
    (eqb-true (unwrap_or (tile_named (tile_name (Some form))) 28) form both.0, both.1)

empty-named : tile_named (codes "empty") ≡ None
unfolding tile_named
empty-named = refl

tile-named : (tile : Option ℕ) → IsFormTile tile → tile_named (tile_name tile) ≡ tile
tile-named None h = empty-named
tile-named (Some form) h = found-some (tile_named (tile_name (Some form))) form (h form refl) (named-parts form (h form refl)).0

empty-plain : is_plain (codes "empty") ≡ true
empty-plain = refl

pub tile-plain : (tile : Option ℕ) → IsFormTile tile → IsPlain (tile_name tile)
tile-plain None h = plain-tested (codes "empty") empty-plain
tile-plain (Some form) h = plain-tested (tile_name (Some form)) (named-parts form (h form refl)).1

pub tile-once : (s t : Option ℕ) → IsFormTile s → IsFormTile t → tile_name s ≡ tile_name t → s ≡ t
tile-once s t p q e = sym (tile-named s p) ∙ ap tile_named e ∙ tile-named t q
