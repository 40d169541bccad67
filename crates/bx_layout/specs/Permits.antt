-- Permits: which forms may stand on which tiles.
use Rattle.std.specs.Prelude.{ℕ, Bool, true, false, IsTrue, List, slice_index_or}
use Rattle.bx_grid.specs.declared.ratio.Ratio.{Ratio}

-- for a grid of each ratio, each of its tiles and each form, whether the form may stand there
abbrev pub PermitTest : Type 0
PermitTest = Ratio → ℕ → ℕ → Bool

abbrev pub Allows : PermitTest → Ratio → ℕ → ℕ → Type 0
Allows permit ratio t form = IsTrue (permit ratio t form)

-- the permit of the same forms on all tiles, told as a list that says of each form in turn whether
-- it may stand
abbrev pub test_of : List Bool → PermitTest
test_of forms ratio t form = slice_index_or forms form false

-- the permit of all forms
abbrev pub all_forms : PermitTest
all_forms ratio t form = true

-- what the one allows the other allows too
abbrev pub IsWider : PermitTest → PermitTest → Type 0
IsWider permit wider =
    (ratio : Ratio) (t form : ℕ) → Allows permit ratio t form → Allows wider ratio t form
