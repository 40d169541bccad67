-- The text of a design: a list of lines.
use Rattle.std.specs.Prelude.{◌≡◌, ℕ, List, [], ◌∷◌, ◌++◌, map, codes, decimal, Result, Ok, Err, ⊤}
use Rattle.bx_grid.specs.declared.ratio.Ratio.{Ratio}
use Rattle.bx_library.specs.declared.dot.Dot.{Dot}
use Rattle.bx_lines.specs.Lines.{text_of, IsFirstBadLine}
use Rattle.bx_siqad.specs.declared.fault.DesignFault.{DesignFault}
use Rattle.bx_siqad.specs.declared.fault.DesignFault.TheVariants.{BadDesign, NoMemory}
use Rattle.bx_siqad.specs.Designs.{Drawing, IsDrawing}

-- the lines before the sides of the grid, between them and the dots, and behind the dots
abbrev pub front_lines : List (List ℕ)
front_lines =
    codes "<?xml version=\"1.0\" encoding=\"UTF-8\"?>"
    ∷ codes "<siqad>"
    ∷ codes "<program>"
    ∷ codes "<file_purpose>save</file_purpose>"
    ∷ []

abbrev pub middle_lines : List (List ℕ)
middle_lines =
    codes "</program>"
    ∷ codes "<layers>"
    ∷ codes "<layer_prop><name>Surface</name><type>DB</type></layer_prop>"
    ∷ codes "</layers>"
    ∷ codes "<design>"
    ∷ codes "<layer type=\"DB\">"
    ∷ []

abbrev pub back_lines : List (List ℕ)
back_lines = codes "</layer>" ∷ codes "</design>" ∷ codes "</siqad>" ∷ []

abbrev pub ratio_line : Ratio → List ℕ
ratio_line ratio = codes "<created_by>bestagon " ++ (decimal ratio.w ++ (codes " " ++ (decimal ratio.h ++ codes "</created_by>")))

abbrev pub dot_line : Dot → List ℕ
dot_line dot =
    codes "<dbdot><latcoord n=\"" ++ (decimal dot.n ++ (codes "\" m=\"" ++ (decimal dot.m ++ (codes "\" l=\"" ++ (decimal dot.l ++ codes "\"/></dbdot>")))))

-- the lines before the first dot
abbrev pub head_lines : Ratio → List (List ℕ)
head_lines ratio = front_lines ++ (ratio_line ratio ∷ middle_lines)

abbrev pub design_lines : Drawing → List (List ℕ)
design_lines drawing = head_lines drawing.ratio ++ (map dot_line drawing.dots ++ back_lines)

abbrev pub design_text : Drawing → List ℕ
design_text drawing = text_of (design_lines drawing)

-- bytes are the text of this design
pub record IsTextOf (drawing : Drawing) (bytes : List ℕ) : Type 0 where
  pub is : IsDrawing drawing
  pub spelled : bytes ≡ design_text drawing

-- bytes are the text of some design
abbrev pub IsDesignText : List ℕ → Type 0
IsDesignText bytes = (drawing : Drawing) × IsTextOf drawing bytes

-- what bytes read as: the design whose text they are, or the first line at which they stop being a text
abbrev pub Reads : List ℕ → Result Drawing DesignFault → Type 0
Reads bytes (Ok drawing) = IsTextOf drawing bytes
Reads bytes (Err (BadDesign k)) = IsFirstBadLine IsDesignText bytes k
Reads bytes (Err NoMemory) = ⊤
