-- Permits that bar no form of the table.
use Rattle.std.specs.Prelude.{ℕ}
use Rattle.bx_forms.specs.Forms.{IsForm}
use Rattle.bx_grid.specs.declared.ratio.Ratio.{Ratio}
use Rattle.bx_layout.specs.Permits.{PermitTest, Allows}

-- each form of the table may stand on each tile
abbrev pub AllowsEachForm : PermitTest → Type 0
AllowsEachForm permit = (r : Ratio) (t form : ℕ) → IsForm form → Allows permit r t form
