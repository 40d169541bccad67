-- The text of a picture from its parts, as they are put out.
use Rattle.std.proofs.Common.{◌≡◌, ℕ, List, [], ◌∷◌, ◌++◌, map, sym, ◌∙◌, ◌+◌, ◌*◌, ap, Option}
use Rattle.std.proofs.lemmas.Grind.{flat_map-append}
use Rattle.std.proofs.lemmas.List.Folds.{flat_map-map}
use Rattle.std.specs.Prelude.{codes, decimal}
use Rattle.std.specs.List.{flat_map}
use Rattle.bx_lines.specs.Lines.{ended, text_of}
use Rattle.bx_draw.specs.Escapes.{escaped}
use Rattle.bx_grid.specs.declared.ratio.Ratio.{Ratio}
use Rattle.bx_grid.specs.Tiles.{x_of, y_of}
use Rattle.bx_layout.specs.Grids.{FormGrid, form_at}
use Rattle.bx_draw.specs.declared.symbols.TheConstants.{SYMBOLS, LEGEND}
use Rattle.bx_draw.specs.declared.port.PortName.{PortName}
use Rattle.bx_draw.specs.Frames.{Text, joined}
use Rattle.bx_draw.specs.Pictures.{drawn, front, back, node_text, node_on, symbol, middle_x, tile_text, named, name_y, row_of, label_of, label_text, labels_of, labels_text, tile_text_at, tiles_text, symbols_text, legend_text, body_text}

pub tile_drawn : (x y m : ℕ) (name : Text) (tile node : Option ℕ) → name ≡ symbol tile → m ≡ middle_x x y
    → front x y m name ++ (node_text node ++ back name) ≡ tile_text x y tile node
tile_drawn x y m name tile node is_name is_m =
    ap (λ n. drawn x y m n node) is_name ∙ ap (λ k. drawn x y k (symbol tile) node) is_m

-- texts that are put out behind others
pub joined_then : (ts us : List Text) → joined ts ++ joined us ≡ joined (ts ++ us)
joined_then ts us = sym (flat_map-append (λ t. t) ts us)

-- lines as they stand in the code, by the text of each
pub lines_are : {L : Type 0} (text_at : L → Text) (lines : List L) → flat_map (λ line. ended (text_at line)) lines ≡ text_of (map text_at lines)
lines_are text_at lines = sym (flat_map-map ended text_at lines)

-- the name of a port, of which the middle and the height are these
pub port_named : (rows : ℕ) (port : PortName) (row column middle : ℕ) (y : Text)
    → row ≡ row_of port.place rows → column ≡ port.column → middle ≡ middle_x column row → y ≡ name_y port.place rows
    → joined (codes "<text class=\"p\" x=\"" ∷ decimal middle ∷ codes "\" y=\"" ∷ y ∷ codes "\">" ∷ []) ++ joined (escaped port.name.now ∷ codes "</text>\n" ∷ []) ≡ label_text rows (label_of port)
port_named rows port row column middle y is_row is_column is_middle is_y =
    joined_then (codes "<text class=\"p\" x=\"" ∷ decimal middle ∷ codes "\" y=\"" ∷ y ∷ codes "\">" ∷ []) (escaped port.name.now ∷ codes "</text>\n" ∷ [])
    ∙ ap (λ m. named m y port.name.now) (is_middle ∙ ap (λ c. middle_x c row) is_column ∙ ap (middle_x port.column) is_row)
    ∙ ap (λ t. named (middle_x port.column (row_of port.place rows)) t port.name.now) is_y

-- the end of the legend
abbrev pub sides_text : ℕ → ℕ → List Text
sides_text w h = codes "<text class=\"k\" x=\"54\" y=\"52\">" ∷ decimal w ∷ codes " by " ∷ decimal h ∷ codes " tiles</text>\n</g>\n" ∷ []

pub legend_drawn : (r : Ratio) (h w k : ℕ) → h ≡ r.h → w ≡ r.w → k ≡ r.h
    → joined (codes "<g transform=\"translate(24 " ∷ decimal (90 * h + 94) ∷ codes ")\">\n" ∷ []) ++ (flat_map (λ line. ended line.now) LEGEND ++ joined (sides_text w k)) ≡ legend_text r
legend_drawn r h w k is_h is_w is_k =
    let front : ℕ → List Text = λ h. codes "<g transform=\"translate(24 " ∷ decimal (90 * h + 94) ∷ codes ")\">\n" ∷ [] in
    ap (λ n. joined (front n) ++ (flat_map (λ line. ended line.now) LEGEND ++ joined (sides_text w k))) is_h
    ∙ ap (λ n. joined (front r.h) ++ (flat_map (λ line. ended line.now) LEGEND ++ joined (sides_text n k))) is_w
    ∙ ap (λ n. joined (front r.h) ++ (flat_map (λ line. ended line.now) LEGEND ++ joined (sides_text r.w n))) is_k
    ∙ ap (λ lines. joined (front r.h) ++ (lines ++ joined (sides_text r.w r.h))) (lines_are (λ line. line.now) LEGEND)
    ∙ joined_then (front r.h) (text_of (map (λ line. line.now) LEGEND) ∷ sides_text r.w r.h)

-- a tile of the grid, of which column, row, form and node are these
pub tile_is : (grid : FormGrid) (places : List ℕ) (r : Ratio) (t x y column row : ℕ) (tile node : Option ℕ)
    → r ≡ grid.ratio → x ≡ x_of r t → y ≡ y_of r t → column ≡ x → row ≡ y → tile ≡ form_at grid t → node ≡ node_on places t
    → tile_text column row tile node ≡ tile_text_at grid places t
tile_is grid places r t x y column row tile node is_r is_x is_y is_column is_row is_tile is_node =
    ap (λ c. tile_text c row tile node) (is_column ∙ is_x ∙ ap (λ (r : Ratio). x_of r t) is_r)
    ∙ ap (λ c. tile_text (x_of grid.ratio t) c tile node) (is_row ∙ is_y ∙ ap (λ (r : Ratio). y_of r t) is_r)
    ∙ ap (λ f. tile_text (x_of grid.ratio t) (y_of grid.ratio t) f node) is_tile
    ∙ ap (tile_text (x_of grid.ratio t) (y_of grid.ratio t) (form_at grid t)) is_node

-- the names of ports
pub ports_drawn : (rows : ℕ) (ports : List PortName) → flat_map (λ port. label_text rows (label_of port)) ports ≡ labels_text rows (labels_of ports)
ports_drawn rows ports = sym (flat_map-map (label_text rows) label_of ports)

pub body_drawn : (grid : FormGrid) (ports : List PortName) (places : List ℕ) (r : Ratio) (h : ℕ)
    → r ≡ grid.ratio → h ≡ r.h
    → flat_map (λ line. ended line.now) SYMBOLS ++ (tiles_text grid places ++ (labels_text h (labels_of ports) ++ legend_text r)) ≡ body_text grid (labels_of ports) places
body_drawn grid ports places r h is_r is_h =
    let tail : ℕ → Ratio → Text = λ h r. tiles_text grid places ++ (labels_text h (labels_of ports) ++ legend_text r) in
    ap (λ lines. lines ++ tail h r) (lines_are (λ line. line.now) SYMBOLS)
    ∙ ap (λ n. symbols_text ++ tail n r) is_h
    ∙ ap (λ (r : Ratio). symbols_text ++ tail r.h r) is_r
