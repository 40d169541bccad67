-- What is said of a design that is cut into forms: the sides of the grid, its rows, and whether it is sound.
use Rattle.std.specs.Prelude.{◌≡◌, ◌↔◌, Bool, true, false, IsTrue, List, [], ◌∷◌, ◌++◌, codes, decimal}
use Rattle.bx_grid.specs.declared.ratio.Ratio.{Ratio}
use Rattle.bx_layout.specs.Grids.{FormGrid, IsSound}
use Rattle.bx_lines.specs.Lines.{text_of}
use Rattle.bx_says.specs.Texts.{spaced}
use Rattle.bx_says.specs.Reports.{row_lines}
use Rattle.bx_verilog.specs.Formulas.{Text}

abbrev pub ratio_line : Ratio → Text
ratio_line ratio = spaced (codes "ratio") (decimal ratio.w ∷ decimal ratio.h ∷ [])

abbrev pub answer_word : Bool → Text
answer_word true = codes "yes"
answer_word false = codes "no"

abbrev pub sound_line : Bool → Text
sound_line sound = spaced (codes "sound") (answer_word sound ∷ [])

abbrev pub grid_text : FormGrid → Bool → Text
grid_text grid sound = text_of (ratio_line grid.ratio ∷ row_lines grid ++ sound_line sound ∷ [])

-- the text is that of the grid, and says that it is sound exactly where it is
pub record TellsGrid (grid : FormGrid) (said : Text) : Type 0 where
  pub sound : Bool
  pub is : IsTrue sound ↔ IsSound grid
  pub printed : said ≡ grid_text grid sound
