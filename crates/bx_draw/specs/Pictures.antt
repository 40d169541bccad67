-- The text of a picture of a form grid, tile by tile. A tile is 104 wide and 120 high, rows are 90 apart, and odd rows
-- stand half a tile further right.
use Rattle.std.specs.Prelude.{ℕ, ◌+◌, ◌*◌, ◌%◌, ◌==◌, List, [], ◌∷◌, ◌++◌, codes, decimal, flat_map, map, Option, None, Some, unwrap_or}
use Rattle.std.specs.List.{position, range_with_len}
use Rattle.bx_forms.specs.Forms.{form_name}
use Rattle.bx_grid.specs.Tiles.{tile_count, x_of, y_of}
use Rattle.bx_grid.specs.declared.ratio.Ratio.{Ratio}
use Rattle.bx_layout.specs.Grids.{FormGrid, form_at}
use Rattle.bx_lines.specs.Lines.{text_of}
use Rattle.bx_draw.specs.declared.port.Place.{Place}
use Rattle.bx_draw.specs.declared.port.Place.TheVariants.{Above, Below}
use Rattle.bx_draw.specs.declared.port.PortName.{PortName}
use Rattle.bx_draw.specs.declared.symbols.TheConstants.{SYMBOLS, LEGEND}
use Rattle.bx_draw.specs.Escapes.{escaped}
use Rattle.bx_draw.specs.Frames.{Text, joined, head_text}

-- ---- tiles

-- how far right the middle of a tile stands, by its column and row, and how far down
abbrev pub middle_x : ℕ → ℕ → ℕ
middle_x x y = 52 * (2 * x + 1 + y % 2)

abbrev pub middle_y : ℕ → ℕ
middle_y y = 90 * y + 60

-- the name of the symbol on a tile
abbrev pub symbol : Option ℕ → Text
symbol None = codes "empty"
symbol (Some form) = unwrap_or (form_name form) []

-- what is told of the node on a tile, if one is known
abbrev pub node_text : Option ℕ → Text
node_text None = []
node_text (Some node) = codes ", node " ++ decimal node

-- a tile at this column and row, its middle so far right, with this symbol: its place and the colour of its clock zone,
-- what a browser tells of it, its outline and the symbol
abbrev pub front : ℕ → ℕ → ℕ → Text → Text
front x y middle name = joined (
    codes "<g class=\"z" ∷ decimal (y % 4)
    ∷ codes "\" transform=\"translate(" ∷ decimal middle ∷ codes " " ∷ decimal (middle_y y)
    ∷ codes ")\"><title>" ∷ name
    ∷ codes " at column " ∷ decimal x ∷ codes ", row " ∷ decimal y ∷ codes ", clock zone " ∷ decimal (y % 4) ∷ [])

abbrev pub back : Text → Text
back name = joined (
    codes "</title><use xlink:href=\"#tile\"/><use xlink:href=\"#" ∷ name ∷ codes "\"/></g>\n" ∷ [])

abbrev pub drawn : ℕ → ℕ → ℕ → Text → Option ℕ → Text
drawn x y middle name node = front x y middle name ++ (node_text node ++ back name)

abbrev pub tile_text : ℕ → ℕ → Option ℕ → Option ℕ → Text
tile_text x y tile node = drawn x y (middle_x x y) (symbol tile) node

-- the node that stands on a tile, of nodes on these
abbrev pub node_on : List ℕ → ℕ → Option ℕ
node_on places t = position (λ place. place == t) places

abbrev pub tile_text_at : FormGrid → List ℕ → ℕ → Text
tile_text_at g places t = tile_text (x_of g.ratio t) (y_of g.ratio t) (form_at g t) (node_on places t)

-- each tile of the grid, once
abbrev pub tiles_text : FormGrid → List ℕ → Text
tiles_text g places = flat_map (tile_text_at g places) (range_with_len 0 (tile_count g.ratio))

-- ---- names

-- a name, the column that it stands in, and whether above the grid or below it
pub record Label : Type 0 where
  pub name : Text
  pub column : ℕ
  pub place : Place

abbrev pub label_of : PortName → Label
label_of port = record { name = port.name.now; column = port.column; place = port.place }

abbrev pub labels_of : List PortName → List Label
labels_of ports = map label_of ports

-- where names stand above or below a grid of so many rows, and which row of the grid is next to them
abbrev pub name_y : Place → ℕ → Text
name_y Above rows = codes "-8"
name_y Below rows = decimal (90 * rows + 54)

abbrev pub row_of : Place → ℕ → ℕ
row_of Above rows = 0
row_of Below rows = rows + 1

-- a name, its middle so far right and so far down
abbrev pub named : ℕ → Text → Text → Text
named middle y name = joined (
    codes "<text class=\"p\" x=\"" ∷ decimal middle ∷ codes "\" y=\"" ∷ y ∷ codes "\">"
    ∷ escaped name ∷ codes "</text>\n" ∷ [])

abbrev pub label_text : ℕ → Label → Text
label_text rows label =
    named (middle_x label.column (row_of label.place rows)) (name_y label.place rows) label.name

abbrev pub labels_text : ℕ → List Label → Text
labels_text rows labels = flat_map (label_text rows) labels

-- ---- the whole

abbrev pub symbols_text : Text
symbols_text = text_of (map (λ line. line.now) SYMBOLS)

-- the legend, below a grid of these sides
abbrev pub legend_text : Ratio → Text
legend_text r = joined (
    codes "<g transform=\"translate(24 " ∷ decimal (90 * r.h + 94) ∷ codes ")\">\n"
    ∷ text_of (map (λ line. line.now) LEGEND)
    ∷ codes "<text class=\"k\" x=\"54\" y=\"52\">" ∷ decimal r.w ∷ codes " by " ∷ decimal r.h
    ∷ codes " tiles</text>\n</g>\n" ∷ [])

-- the symbols, the tiles, the names and the legend
abbrev pub body_text : FormGrid → List Label → List ℕ → Text
body_text g labels places =
    symbols_text ++ (tiles_text g places ++ (labels_text g.ratio.h labels ++ legend_text g.ratio))

abbrev pub picture_text : FormGrid → List Label → List ℕ → Text
picture_text g labels places = head_text g.ratio ++ (body_text g labels places ++ codes "</svg>\n")
