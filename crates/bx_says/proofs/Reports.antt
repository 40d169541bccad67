-- A report is that of one layout.
use Rattle.std.proofs.Common.{◌≡◌, ℕ, zero, suc, ◌+◌, ◌*◌, ◌/◌, ◌%◌, ◌<◌, ◌≤◌, ◌^◌, List, [], ◌∷◌, ◌++◌, length, map, take, drop, get_or, Option, Some, None, refl, sym, ap, subst, ◌∙◌, append_assoc, arith}
use Rattle.std.specs.Prelude.{◌≢◌, codes, decimal}
use Rattle.std.specs.List.{AllByRecursion, range_with_len}
use Rattle.std.proofs.Math.Nat.{mul-le-mul_left}
use Rattle.std.proofs.lemmas.Fmt.{decimal_injective}
use Rattle.std.proofs.lemmas.List.{map-append, ext_get_or, get_or-take, get_or-drop}
use Rattle.std.proofs.lemmas.List.FromFn.{get_or-map-range_with_len}
use Rattle.std.proofs.lemmas.Nat.{div-add-mod', rows}
use Rattle.bx_grid.specs.declared.ratio.Ratio.{Ratio}
use Rattle.bx_grid.specs.declared.ratio.TheConstants.{MOST_TILES}
use Rattle.bx_grid.specs.Tiles.{IsGrid, x_of, y_of, row_items}
use Rattle.bx_layout.specs.Grids.{FormGrid, IsFormGrid}
use Rattle.bx_lines.specs.Lines.{text_of}
use Rattle.bx_says.specs.Texts.{Text, IsPlain}
use Rattle.bx_says.specs.Ports.{Port, Ports}
use Rattle.bx_says.specs.Reports.{Head, Report, port_lines, row_lines, unused_line, tile_name, IsPlainPort, IsReportable, report_text}
use Rattle.bx_says.proofs.Spellings.{Line, line, line_text, first_word, IsPlainLine, each_map, each_append, map_once, lines_once, part_once}
use Rattle.bx_says.proofs.PlainTexts.{decimal-plain, plain-tested}
use Rattle.bx_says.proofs.FormNames.{IsFormTile, tile-plain, tile-once}

-- the sides of a grid are numbers of 64 bits
side-small : (a b : ℕ) → 1 ≤ b → a * b ≤ MOST_TILES → a < 2 ^ 64
side-small a b h few = let more = mul-le-mul_left a h in omega (arith, more)

width-small : (r : Ratio) → IsGrid r → r.w < 2 ^ 64
width-small r is = side-small r.w r.h is.high is.small

height-small : (r : Ratio) → IsGrid r → r.h < 2 ^ 64
height-small r is = side-small r.h r.w is.wide (omega (arith, is.small))

-- an unused input's line

abbrev unused_words : Text → Line
unused_words name = line (codes "unused") (name ∷ [])

unused-once : (a b : Text) → IsPlain a → IsPlain b → unused_words a ≡ unused_words b → a ≡ b
unused-once a b p q e = cc

unused-plain : (name : Text) → IsPlain name → IsPlainLine (unused_words name)
unused-plain name plain = (plain-tested (codes "unused") refl, (plain, tt))

-- a port's line

abbrev port_words : Text → Ratio → Port → Line
port_words word r port = line word (port.name ∷ decimal (x_of r port.tile) ∷ decimal (y_of r port.tile) ∷ [])

place-in : (w h t : ℕ) → t < w * h → (t % w < w) × (t / w < h)
place-in w h t e = (grind (arith, rows), grind (arith, rows))

port-once : (word : Text) (r : Ratio) → r.w < 2 ^ 64 → r.h < 2 ^ 64 → (p q : Port) → IsPlainPort r p → IsPlainPort r q → port_words word r p ≡ port_words word r q → p ≡ q
port-once word r width height p q a b e =
    let at : Text → ℕ → Port = λ name tile. record { name = name; tile = tile } in
    let name : p.name ≡ q.name = cc in
    let here = place-in r.w r.h p.tile a.1 in
    let there = place-in r.w r.h q.tile b.1 in
    let column : decimal (x_of r p.tile) ≡ decimal (x_of r q.tile) = cc in
    let row : decimal (y_of r p.tile) ≡ decimal (y_of r q.tile) = cc in
    let x : x_of r p.tile ≡ x_of r q.tile = decimal_injective (x_of r p.tile) (x_of r q.tile) (omega arith) (omega arith) column in
    let y : y_of r p.tile ≡ y_of r q.tile = decimal_injective (y_of r p.tile) (y_of r q.tile) (omega arith) (omega arith) row in
    let tile : p.tile ≡ q.tile = sym (div-add-mod' p.tile r.w) ∙ ap (λ (n : ℕ). n * r.w + x_of r p.tile) y ∙ ap (λ (n : ℕ). y_of r q.tile * r.w + n) x ∙ div-add-mod' q.tile r.w in
    ap (λ (n : Text). at n p.tile) name ∙ ap (at q.name) tile

port-plain : (word : Text) → IsPlain word → (r : Ratio) (port : Port) → IsPlainPort r port → IsPlainLine (port_words word r port)
port-plain word plain r port placed = (plain, (placed.0, (decimal-plain (x_of r port.tile), (decimal-plain (y_of r port.tile), tt))))

-- a row's line

abbrev row_tiles : FormGrid → ℕ → List (Option ℕ)
row_tiles g y = row_items g.ratio g.tiles y

abbrev row_words : FormGrid → ℕ → Line
row_words g y = line (codes "row") (decimal y ∷ map tile_name (row_tiles g y))

each-take : {X : Type 0} (P : X → Type 0) (n : ℕ) (xs : List X) → AllByRecursion P xs → AllByRecursion P (take n xs)
each-take P zero xs p = tt
each-take P (suc n) [] p = tt
each-take P (suc n) (x ∷ xs) p = (p.0, each-take P n xs p.1)

each-drop : {X : Type 0} (P : X → Type 0) (n : ℕ) (xs : List X) → AllByRecursion P xs → AllByRecursion P (drop n xs)
each-drop P zero xs p = p
each-drop P (suc n) [] p = tt
each-drop P (suc n) (x ∷ xs) p = each-drop P n xs p.1

each-tile : (tiles : List (Option ℕ)) → ((t form : ℕ) → get_or tiles t None ≡ Some form → form < 28) → AllByRecursion IsFormTile tiles
each-tile [] forms = tt
each-tile (tile ∷ tiles) forms = (forms 0, each-tile tiles (λ t. forms (suc t)))

row-forms : (g : FormGrid) → IsFormGrid g → (y : ℕ) → AllByRecursion IsFormTile (row_tiles g y)
row-forms g is y = each-take IsFormTile g.ratio.w (drop (y * g.ratio.w) g.tiles) (each-drop IsFormTile (y * g.ratio.w) g.tiles (each-tile g.tiles is.forms))

row-plain : (g : FormGrid) → IsFormGrid g → (y : ℕ) → IsPlainLine (row_words g y)
row-plain g is y = (plain-tested (codes "row") refl, (decimal-plain y, each_map tile_name IsFormTile IsPlain tile-plain (row_tiles g y) (row-forms g is y)))

row-once : (g h : FormGrid) → IsFormGrid g → IsFormGrid h → (y : ℕ) → row_words g y ≡ row_words h y → row_tiles g y ≡ row_tiles h y
row-once g h a b y e =
    let names : map tile_name (row_tiles g y) ≡ map tile_name (row_tiles h y) = cc in
    map_once tile_name IsFormTile tile-once (row_tiles g y) (row_tiles h y) (row-forms g a y) (row-forms h b y) names

-- a list cut into pieces of the same length

piece-at : {X : Type 0} (w y x : ℕ) (xs : List X) (d : X) → x < w → get_or (take w (drop (y * w) xs)) x d ≡ get_or xs (y * w + x) d
piece-at w y x xs d h = get_or-take w (drop (y * w) xs) x d h ∙ get_or-drop (y * w) xs x d

pieces-once : {X : Type 0} (d : X) (w h : ℕ) (xs ys : List X) → length xs ≡ w * h → length ys ≡ w * h → ((y : ℕ) → y < h → take w (drop (y * w) xs) ≡ take w (drop (y * w) ys)) → xs ≡ ys
pieces-once {X} d w h xs ys m n same =
    ext_get_or d xs ys (m ∙ sym n) (λ t low.
    let place = place-in w h t (omega arith) in
    let number = div-add-mod' t w in
    ap (λ i. get_or xs i d) (sym number)
    ∙ sym (piece-at w (t / w) (t % w) xs d place.0)
    ∙ ap (λ (piece : List X). get_or piece (t % w) d) (same (t / w) place.1)
    ∙ piece-at w (t / w) (t % w) ys d place.0
    ∙ ap (λ i. get_or ys i d) number)

-- the whole, as words

abbrev module_words : Text → Line
module_words name = line (codes "module") (name ∷ [])

abbrev nodes_words : ℕ → ℕ → Line
nodes_words nodes edges = line (codes "nodes") (decimal nodes ∷ codes "edges" ∷ decimal edges ∷ [])

abbrev found_words : Ratio → Line
found_words r = line (codes "found") (decimal r.w ∷ decimal r.h ∷ [])

abbrev rows_words : FormGrid → List Line
rows_words g = map (row_words g) (range_with_len 0 g.ratio.h)

abbrev body_words : FormGrid → Ports → List Line
body_words g ports = map (port_words (codes "input") g.ratio) ports.inputs ++ (map (port_words (codes "output") g.ratio) ports.outputs ++ rows_words g)

abbrev report_words : Report → List Line
report_words r = module_words r.head.name ∷ nodes_words r.head.nodes r.head.edges ∷ (map unused_words r.head.unused ++ (found_words r.grid.ratio ∷ body_words r.grid r.ports))

mapped : {X Y Z : Type 0} (f : Y → Z) (k : X → Y) (xs : List X) → map f (map k xs) ≡ map (λ x. f (k x)) xs
mapped f k [] = refl
mapped f k (x ∷ xs) = ap (λ ys. f (k x) ∷ ys) (mapped f k xs)

body-text : (g : FormGrid) (ports : Ports) → port_lines g.ratio ports ++ row_lines g ≡ map line_text (body_words g ports)
body-text g ports = simp (map-append, mapped, append_assoc)

-- the lines behind the first two
rest-text : (r : Report) → ((map unused_line r.head.unused ++ line_text (found_words r.grid.ratio) ∷ []) ++ port_lines r.grid.ratio r.ports) ++ row_lines r.grid ≡ map line_text (map unused_words r.head.unused ++ (found_words r.grid.ratio ∷ body_words r.grid r.ports))
rest-text r =
    let unused : List Text = map unused_line r.head.unused in
    let found : Text = line_text (found_words r.grid.ratio) in
    append_assoc (unused ++ found ∷ []) (port_lines r.grid.ratio r.ports) (row_lines r.grid)
    ∙ ap (λ (rest : List Text). (unused ++ found ∷ []) ++ rest) (body-text r.grid r.ports)
    ∙ append_assoc unused (found ∷ []) (map line_text (body_words r.grid r.ports))
    ∙ ap (λ (front : List Text). front ++ (found ∷ map line_text (body_words r.grid r.ports))) (sym (mapped line_text unused_words r.head.unused))
    ∙ sym (map-append line_text (map unused_words r.head.unused) (found_words r.grid.ratio ∷ body_words r.grid r.ports))

report-text : (r : Report) → report_text r ≡ text_of (map line_text (report_words r))
unfolding report_text
report-text r = ap (λ (rest : List Text). text_of (line_text (module_words r.head.name) ∷ line_text (nodes_words r.head.nodes r.head.edges) ∷ rest)) (rest-text r)

-- all lines made in this way
each-made : {X : Type 0} (P : Line → Type 0) (f : X → Line) → ((x : X) → P (f x)) → (xs : List X) → AllByRecursion P (map f xs)
each-made P f h [] = tt
each-made P f h (x ∷ xs) = (h x, each-made P f h xs)

-- what a body of lines tells: a grid of forms, and plain ports on its tiles
record IsBody (g : FormGrid) (ports : Ports) : Type 0 where
  grid : IsFormGrid g
  inputs : AllByRecursion (IsPlainPort g.ratio) ports.inputs
  outputs : AllByRecursion (IsPlainPort g.ratio) ports.outputs

body_of : (r : Report) → IsReportable r → IsBody r.grid r.ports
body_of r is = record { grid = is.grid; inputs = is.inputs; outputs = is.outputs }

body-plain : (g : FormGrid) (ports : Ports) → IsBody g ports → AllByRecursion IsPlainLine (body_words g ports)
body-plain g ports is =
    let inputs = each_map (port_words (codes "input") g.ratio) (IsPlainPort g.ratio) IsPlainLine (port-plain (codes "input") (plain-tested (codes "input") refl) g.ratio) ports.inputs is.inputs in
    let outputs = each_map (port_words (codes "output") g.ratio) (IsPlainPort g.ratio) IsPlainLine (port-plain (codes "output") (plain-tested (codes "output") refl) g.ratio) ports.outputs is.outputs in
    let shown = each-made IsPlainLine (row_words g) (row-plain g is.grid) (range_with_len 0 g.ratio.h) in
    each_append IsPlainLine _ _ inputs (each_append IsPlainLine _ _ outputs shown)

report-plain : (r : Report) → IsReportable r → AllByRecursion IsPlainLine (report_words r)
report-plain r is =
    let unused = each_map unused_words IsPlain IsPlainLine unused-plain r.head.unused is.unused in
    let found : IsPlainLine (found_words r.grid.ratio) = (plain-tested (codes "found") refl, (decimal-plain r.grid.ratio.w, (decimal-plain r.grid.ratio.h, tt))) in (
      (plain-tested (codes "module") refl, (is.name, tt)),
      (
        (plain-tested (codes "nodes") refl, (decimal-plain r.head.nodes, (plain-tested (codes "edges") refl, (decimal-plain r.head.edges, tt)))),
        each_append IsPlainLine _ _ unused (found, body-plain r.grid r.ports (body_of r is)),
      ),
    )

-- the kinds of line, told apart

output-no_input : codes "output" ≢ codes "input"
output-no_input e = cc

row-no_input : codes "row" ≢ codes "input"
row-no_input e = cc

row-no_output : codes "row" ≢ codes "output"
row-no_output e = cc

input-no_unused : codes "input" ≢ codes "unused"
input-no_unused e = cc

output-no_unused : codes "output" ≢ codes "unused"
output-no_unused e = let first : get_or (codes "output") 0 0 ≡ get_or (codes "unused") 0 0 = ap (λ (text : Text). get_or text 0 0) e in absurd (omega arith)

row-no_unused : codes "row" ≢ codes "unused"
row-no_unused e = cc

found-no_unused : codes "found" ≢ codes "unused"
found-no_unused e = cc

body-no_unused : (g : FormGrid) (ports : Ports) → AllByRecursion (λ l. first_word l ≢ codes "unused") (body_words g ports)
body-no_unused g ports =
    let P : Line → Type 0 = λ l. first_word l ≢ codes "unused" in
    each_append P _ _ (each-made P (port_words (codes "input") g.ratio) (λ port. input-no_unused) ports.inputs)
    (each_append P _ _ (each-made P (port_words (codes "output") g.ratio) (λ port. output-no_unused) ports.outputs)
    (each-made P (row_words g) (λ y. row-no_unused) (range_with_len 0 g.ratio.h)))

tiles-once : (r : Ratio) (xs ys : List (Option ℕ)) → IsFormGrid (record { ratio = r; tiles = xs }) → IsFormGrid (record { ratio = r; tiles = ys }) → rows_words (record { ratio = r; tiles = xs }) ≡ rows_words (record { ratio = r; tiles = ys }) → xs ≡ ys
tiles-once r xs ys a b e =
    let g : FormGrid = record { ratio = r; tiles = xs } in
    let h : FormGrid = record { ratio = r; tiles = ys } in
    let none : Line = line [] [] in
    pieces-once None r.w r.h xs ys a.whole b.whole (λ y low. row-once g h a b y (
    sym (get_or-map-range_with_len (row_words g) 0 r.h y y none low (omega arith))
    ∙ ap (λ (l : List Line). get_or l y none) e
    ∙ get_or-map-range_with_len (row_words h) 0 r.h y y none low (omega arith)))

body-once : (r : Ratio) (xs ys : List (Option ℕ)) (p q : Ports) → IsBody (record { ratio = r; tiles = xs }) p → IsBody (record { ratio = r; tiles = ys }) q
    → body_words (record { ratio = r; tiles = xs }) p ≡ body_words (record { ratio = r; tiles = ys }) q → (xs ≡ ys) × (p ≡ q)
body-once r xs ys p q a b e =
    let g : FormGrid = record { ratio = r; tiles = xs } in
    let h : FormGrid = record { ratio = r; tiles = ys } in
    let into : Text → Port → Line = λ word. port_words word r in
    let lines : Text → List Port → List Line = λ word ports. map (into word) ports in
    let within : List ℕ = range_with_len 0 r.h in
    let is_input : (ports : List Port) → AllByRecursion (λ l. first_word l ≡ codes "input") (lines (codes "input") ports) = each-made (λ l. first_word l ≡ codes "input") (into (codes "input")) (λ port. refl) in
    let is_output : (ports : List Port) → AllByRecursion (λ l. first_word l ≡ codes "output") (lines (codes "output") ports) = each-made (λ l. first_word l ≡ codes "output") (into (codes "output")) (λ port. refl) in
    let no_input : (k : FormGrid) (ports : List Port) → AllByRecursion (λ l. first_word l ≢ codes "input") (lines (codes "output") ports ++ map (row_words k) within) =
    λ k ports. each_append (λ l. first_word l ≢ codes "input") _ _ (each-made (λ l. first_word l ≢ codes "input") (into (codes "output")) (λ port. output-no_input) ports) (each-made (λ l. first_word l ≢ codes "input") (row_words k) (λ y. row-no_input) within) in
    let no_output : (k : FormGrid) → AllByRecursion (λ l. first_word l ≢ codes "output") (map (row_words k) within) = λ k. each-made (λ l. first_word l ≢ codes "output") (row_words k) (λ y. row-no_output) within in
    let first = part_once (codes "input") (lines (codes "input") p.inputs) (lines (codes "input") q.inputs) _ _ (is_input p.inputs) (is_input q.inputs) (no_input g p.outputs) (no_input h q.outputs) e in
    let second = part_once (codes "output") (lines (codes "output") p.outputs) (lines (codes "output") q.outputs) _ _ (is_output p.outputs) (is_output q.outputs) (no_output g) (no_output h) first.1 in
    let width = width-small r a.grid.grid in
    let height = height-small r a.grid.grid in
    let ports : (word : Text) → (some others : List Port) → AllByRecursion (IsPlainPort r) some → AllByRecursion (IsPlainPort r) others → lines word some ≡ lines word others → some ≡ others = λ word. map_once (into word) (IsPlainPort r) (port-once word r width height) in
    let inputs : p.inputs ≡ q.inputs = ports (codes "input") p.inputs q.inputs a.inputs b.inputs first.0 in
    let outputs : p.outputs ≡ q.outputs = ports (codes "output") p.outputs q.outputs a.outputs b.outputs second.0 in
    let with : List Port → List Port → Ports = λ some others. record { inputs = some; outputs = others } in
    (tiles-once r xs ys a.grid b.grid second.1, ap (λ (some : List Port). with some p.outputs) inputs ∙ ap (with q.inputs) outputs)

head-once : (a b : Head) → a.name ≡ b.name → a.nodes ≡ b.nodes → a.edges ≡ b.edges → a.unused ≡ b.unused → a ≡ b
head-once a b name nodes edges unused =
    let of : Text → ℕ → ℕ → List Text → Head = λ t n m names. record { name = t; nodes = n; edges = m; unused = names } in
    ap (λ (t : Text). of t a.nodes a.edges a.unused) name
    ∙ ap (λ (n : ℕ). of b.name n a.edges a.unused) nodes
    ∙ ap (λ (m : ℕ). of b.name b.nodes m a.unused) edges
    ∙ ap (of b.name b.nodes b.edges) unused

pub one_report : (r s : Report) → IsReportable r → IsReportable s → report_text r ≡ report_text s → r ≡ s
one_report r s a b e =
    let lines : report_words r ≡ report_words s = lines_once (report_words r) (report_words s) (report-plain r a) (report-plain s b) (sym (report-text r) ∙ e ∙ report-text s) in
    let name : r.head.name ≡ s.head.name = cc in
    let many : decimal r.head.nodes ≡ decimal s.head.nodes = cc in
    let joined : decimal r.head.edges ≡ decimal s.head.edges = cc in
    let nodes = decimal_injective r.head.nodes s.head.nodes a.nodes b.nodes many in
    let edges = decimal_injective r.head.edges s.head.edges a.edges b.edges joined in
    let P : Line → Type 0 = λ l. first_word l ≢ codes "unused" in
    let is_unused : (names : List Text) → AllByRecursion (λ l. first_word l ≡ codes "unused") (map unused_words names) = each-made (λ l. first_word l ≡ codes "unused") unused_words (λ name. refl) in
    let behind : map unused_words r.head.unused ++ (found_words r.grid.ratio ∷ body_words r.grid r.ports) ≡ map unused_words s.head.unused ++ (found_words s.grid.ratio ∷ body_words s.grid s.ports) = cc in
    let parts = part_once (codes "unused") (map unused_words r.head.unused) (map unused_words s.head.unused) _ _ (is_unused r.head.unused) (is_unused s.head.unused)
    (found-no_unused, body-no_unused r.grid r.ports) (found-no_unused, body-no_unused s.grid s.ports) behind in
    let unused = map_once unused_words IsPlain unused-once r.head.unused s.head.unused a.unused b.unused parts.0 in
    let rest : found_words r.grid.ratio ∷ body_words r.grid r.ports ≡ found_words s.grid.ratio ∷ body_words s.grid s.ports = parts.1 in
    let wide : decimal r.grid.ratio.w ≡ decimal s.grid.ratio.w = cc in
    let high : decimal r.grid.ratio.h ≡ decimal s.grid.ratio.h = cc in
    let body : body_words r.grid r.ports ≡ body_words s.grid s.ports = cc in
    let width = decimal_injective r.grid.ratio.w s.grid.ratio.w (width-small r.grid.ratio a.grid.grid) (width-small s.grid.ratio b.grid.grid) wide in
    let height = decimal_injective r.grid.ratio.h s.grid.ratio.h (height-small r.grid.ratio a.grid.grid) (height-small s.grid.ratio b.grid.grid) high in
    let sides : ℕ → ℕ → Ratio = λ w h. record { w = w; h = h } in
    let ratio : r.grid.ratio ≡ s.grid.ratio = ap (λ (w : ℕ). sides w r.grid.ratio.h) width ∙ ap (sides s.grid.ratio.w) height in
    let of : Ratio → List (Option ℕ) → FormGrid = λ q tiles. record { ratio = q; tiles = tiles } in
    let same = subst (λ (q : Ratio). IsBody (of q s.grid.tiles) s.ports → body_words r.grid r.ports ≡ body_words (of q s.grid.tiles) s.ports → (r.grid.tiles ≡ s.grid.tiles) × (r.ports ≡ s.ports)) ratio
    (body-once r.grid.ratio r.grid.tiles s.grid.tiles r.ports s.ports (body_of r a)) (body_of s b) body in
    let grid : r.grid ≡ s.grid = ap (λ (q : Ratio). of q r.grid.tiles) ratio ∙ ap (of s.grid.ratio) same.0 in
    let whole : Head → Ports → FormGrid → Report = λ head ports g. record { head = head; ports = ports; grid = g } in
    ap (λ (head : Head). whole head r.ports r.grid) (head-once r.head s.head name nodes edges unused)
    ∙ ap (λ (ports : Ports). whole s.head ports r.grid) same.1
    ∙ ap (whole s.head s.ports) grid
