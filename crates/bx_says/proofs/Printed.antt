-- Lines as they are put out, one after another and word by word, are those of the definitions.
use Rattle.std.proofs.Common.{◌≡◌, ℕ, zero, suc, Bool, true, false, not, ◌==◌, ◌||◌, List, [], ◌∷◌, ◌++◌, length, map, filter, Option, Some, None, ◌↔◌, if◌then◌else◌, sym, ◌∙◌, ap, ap₂, refl, append_assoc, eq-eqb}
use Rattle.std.specs.Prelude.{codes, decimal, slice_get, slice_index_or, IsTrue}
use Rattle.std.specs.List.{flat_map, filter_map, cons_option, range_with_len, list_any}
use Rattle.std.proofs.lemmas.Bool.{eqb-true, and_parts}
use Rattle.std.proofs.lemmas.List.{append-nil}
use Rattle.std.proofs.lemmas.List.Concat.{flat_map-append}
use Rattle.bx_logic.specs.Nets.{Netlist, output_names}
use Rattle.bx_forms.specs.declared.kind.Kind.{Kind}
use Rattle.bx_forms.specs.declared.kind.Kind.TheVariants.{Input, Output, Not, Fan, And, Or, Nand, Nor, Xor, Xnor}
use Rattle.bx_grid.specs.declared.ratio.Ratio.{Ratio}
use Rattle.bx_network.specs.declared.node.Node.{Node}
use Rattle.bx_network.specs.Networks.{Network, HasPort, is_output}
use Rattle.bx_layout.specs.Valuations.{is_input}
use Rattle.bx_layout.specs.Pins.{Pin, pins_at}
use Rattle.bx_lines.specs.Lines.{ended, text_of}
use Rattle.bx_desk.specs.declared.printer.Word.{Word}
use Rattle.bx_says.specs.Texts.{Text, spaced}
use Rattle.bx_desk.specs.Words.{word_text, further_text, line_text}
use Rattle.bx_says.specs.Ports.{Port, Ports, is_input_at, is_unused, unused_names, tile_of, port_at, ports_of}
use Rattle.bx_says.specs.Reports.{module_line, nodes_line, Report, unused_line, found_line, port_line, port_lines, row_lines, head_of, head_lines, tile_name, report_text}
use Rattle.bx_says.specs.Parts.{unused_text_at, unused_text, port_text, port_on, ports_text, tiles_text}

spaced_words : (words : List Word) → further_text words ≡ flat_map (λ word. 32 ∷ word) (map word_text words)
spaced_words [] = refl
spaced_words (word ∷ words) = ap (λ (xs : Text). (32 ∷ word_text word) ++ xs) (spaced_words words)

-- a line: a word, further words, and a line feed
pub line_is : (first : Text) (words : List Word) → line_text first words ≡ spaced first (map word_text words) ++ 10 ∷ []
line_is first words = sym (append_assoc first (further_text words) (10 ∷ [])) ∙ ap (λ (xs : Text). (first ++ xs) ++ 10 ∷ []) (spaced_words words)

-- the line of a row, its tiles one after another
pub row_is : (y : ℕ) (tiles : List (Option ℕ)) → codes "row" ++ ((32 ∷ decimal y) ++ (flat_map (λ tile. 32 ∷ tile_name tile) tiles ++ 10 ∷ [])) ≡ tiles_text y tiles
row_is y tiles =
    let number : Text = 32 ∷ decimal y in
    let names : Text = flat_map (λ tile. 32 ∷ tile_name tile) tiles in
    sym (append_assoc (codes "row") number (names ++ 10 ∷ []))
    ∙ sym (append_assoc (codes "row" ++ number) names (10 ∷ []))
    ∙ ap (λ (xs : Text). ((codes "row" ++ number) ++ xs) ++ 10 ∷ []) (spaced_names tiles)
    ∙ ap (λ (xs : Text). xs ++ 10 ∷ []) (append_assoc (codes "row") number (flat_map (λ word. 32 ∷ word) (map tile_name tiles)))
  where
    spaced_names : (ts : List (Option ℕ)) → flat_map (λ tile. 32 ∷ tile_name tile) ts ≡ flat_map (λ word. 32 ∷ word) (map tile_name ts)
    spaced_names [] = refl
    spaced_names (t ∷ ts) = ap (λ (xs : Text). (32 ∷ tile_name t) ++ xs) (spaced_names ts)

-- ---- texts of lines

pub mapped_lines : {X : Type 0} (f : X → Text) (xs : List X) → flat_map (λ x. ended (f x)) xs ≡ text_of (map f xs)
mapped_lines f [] = refl
mapped_lines f (x ∷ xs) = ap (λ (ys : Text). ended (f x) ++ ys) (mapped_lines f xs)

-- a line for each that passes a test
passed_lines : (f : ℕ → Text) (name : ℕ → Text) (test : ℕ → Bool) (line : Text → Text) → ((n : ℕ) → f n ≡ (if test n then ended (line (name n)) else [])) → (ns : List ℕ) → flat_map f ns ≡ text_of (map line (map name (filter test ns)))
passed_lines f name test line is [] = refl
passed_lines f name test line is (n ∷ ns) = ap (λ (xs : Text). xs ++ flat_map f ns) (is n) ∙ by (test n) (passed_lines f name test line is ns)
  where
    by : (b : Bool) → flat_map f ns ≡ text_of (map line (map name (filter test ns))) → (if b then ended (line (name n)) else []) ++ flat_map f ns ≡ text_of (map line (map name (if b then n ∷ filter test ns else filter test ns)))
    by true rest = ap (λ (xs : Text). ended (line (name n)) ++ xs) rest
    by false rest = rest

pub unused_is : (net : Netlist) (N : Network) → unused_text net N ≡ text_of (map unused_line (unused_names net N))
unused_is net N = passed_lines (unused_text_at net N) (λ port. slice_index_or net.inputs port []) (is_unused N) unused_line (λ n. refl) (range_with_len 0 (length net.inputs))

-- a line for each port that there is
pub ports_are : (word : Text) (ratio : Ratio) (f : ℕ → Option Port) (ns : List ℕ) → flat_map (λ n. port_text word ratio (f n)) ns ≡ text_of (map (port_line word ratio) (filter_map f ns))
ports_are word ratio f [] = refl
ports_are word ratio f (n ∷ ns) = by (f n) (ports_are word ratio f ns)
  where
    by : (port : Option Port) → flat_map (λ k. port_text word ratio (f k)) ns ≡ text_of (map (port_line word ratio) (filter_map f ns))
        → port_text word ratio port ++ flat_map (λ k. port_text word ratio (f k)) ns ≡ text_of (map (port_line word ratio) (cons_option port (filter_map f ns)))
    by None rest = rest
    by (Some port) rest = ap (λ (xs : Text). ended (port_line word ratio port) ++ xs) rest

-- the line of a port whose name and tile are found
pub port_is : (word : Text) (ratio : Ratio) (names : List Text) (pins : List Pin) (port : ℕ) (name : Text) (tile : Option ℕ) → name ≡ slice_index_or names port [] → tile ≡ tile_of pins port
    → port_text word ratio (port_on name tile) ≡ port_text word ratio (port_at names pins port)
port_is word ratio names pins port name tile is_name is_tile =
    ap (λ (n : Text). port_text word ratio (port_on n tile)) is_name
    ∙ ap (λ (found : Option ℕ). port_text word ratio (port_on (slice_index_or names port []) found)) is_tile

-- the lines of the inputs, and then those of the outputs
pub pins_are : (net : Netlist) (N : Network) (ratio : Ratio) (places : List ℕ)
    → ports_text (codes "input") ratio net.inputs (pins_at is_input N.nodes places) ++ ports_text (codes "output") ratio (output_names net) (pins_at is_output N.nodes places) ≡ text_of (port_lines ratio (ports_of net N places))
pins_are net N ratio places =
    let ports : Ports = ports_of net N places in
    ap₂ (λ (xs ys : Text). xs ++ ys)
    (ports_are (codes "input") ratio (port_at net.inputs (pins_at is_input N.nodes places)) (range_with_len 0 (length net.inputs)))
    (ports_are (codes "output") ratio (port_at (output_names net) (pins_at is_output N.nodes places)) (range_with_len 0 (length (output_names net))))
    ∙ sym (flat_map-append ended (map (port_line (codes "input") ratio) ports.inputs) (map (port_line (codes "output") ratio) ports.outputs))

-- the lines of the head
pub head_is : (net : Netlist) (N : Network) (name : Text) (nodes edges : ℕ) → name ≡ net.name → nodes ≡ length N.nodes → edges ≡ length N.edges
    → ended (module_line name) ++ (ended (nodes_line nodes edges) ++ unused_text net N) ≡ text_of (head_lines (head_of net N))
head_is net N name nodes edges is_name are_nodes are_edges =
    let whole : Text → ℕ → ℕ → Text → Text = λ t n m rest. ended (module_line t) ++ (ended (nodes_line n m) ++ rest) in
    ap (λ (t : Text). whole t nodes edges (unused_text net N)) is_name
    ∙ ap (λ (n : ℕ). whole net.name n edges (unused_text net N)) are_nodes
    ∙ ap (λ (m : ℕ). whole net.name (length N.nodes) m (unused_text net N)) are_edges
    ∙ ap (λ (rest : Text). whole net.name (length N.nodes) (length N.edges) rest) (unused_is net N)

four_parts : (front behind last : List Text) (line : Text) → text_of front ++ (ended line ++ (text_of behind ++ text_of last)) ≡ text_of (((front ++ line ∷ []) ++ behind) ++ last)
four_parts front behind last line =
    sym (
    flat_map-append ended ((front ++ line ∷ []) ++ behind) last
    ∙ ap (λ (xs : Text). xs ++ text_of last) (flat_map-append ended (front ++ line ∷ []) behind)
    ∙ ap (λ (xs : Text). (xs ++ text_of behind) ++ text_of last) (flat_map-append ended front (line ∷ []))
    ∙ ap (λ (xs : Text). ((text_of front ++ xs) ++ text_of behind) ++ text_of last) (append-nil (ended line))
    ∙ append_assoc (text_of front ++ ended line) (text_of behind) (text_of last)
    ∙ append_assoc (text_of front) (ended line) (text_of behind ++ text_of last)
    )

-- a report is its head, the line of its ratio, its ports and its rows, one after another
pub report_is : (r : Report) → text_of (head_lines r.head) ++ (ended (found_line r.grid.ratio) ++ (text_of (port_lines r.grid.ratio r.ports) ++ text_of (row_lines r.grid))) ≡ report_text r
unfolding report_text
report_is r = four_parts (head_lines r.head) (port_lines r.grid.ratio r.ports) (row_lines r.grid) (found_line r.grid.ratio)

-- ---- unused inputs

input_says : (kind : Kind) → is_input kind ≡ true → kind ≡ Input
input_says Input e = refl
input_says Output e = cc
input_says Not e = cc
input_says Fan e = cc
input_says And e = cc
input_says Or e = cc
input_says Nand e = cc
input_says Nor e = cc
input_says Xor e = cc
input_says Xnor e = cc

made_of : (node : Node) (port : ℕ) → is_input_at port node ≡ true → node ≡ record { kind = Input; port = port }
made_of node port e =
    let both = and_parts (is_input node.kind) (node.port == port) e in
    let at : Kind → ℕ → Node = λ k p. record { kind = k; port = p } in
    ap (λ (k : Kind). at k node.port) (input_says node.kind both.0) ∙ ap (at Input) (eqb-true node.port port both.1)

any_found : (nodes : List Node) (port : ℕ) → list_any (is_input_at port) nodes ≡ true → (v : ℕ) × (slice_get nodes v ≡ Some (record { kind = Input; port = port }))
any_found [] port e = cc
any_found (node ∷ nodes) port e = by (λ rest. any_found nodes port rest) (is_input_at port node) refl e
  where
    by : (list_any (is_input_at port) nodes ≡ true → (v : ℕ) × (slice_get nodes v ≡ Some (record { kind = Input; port = port }))) → (b : Bool) → is_input_at port node ≡ b
        → (b || list_any (is_input_at port) nodes) ≡ true → (v : ℕ) × (slice_get (node ∷ nodes) v ≡ Some (record { kind = Input; port = port }))
    by further true is e = (0, ap Some (made_of node port is))
    by further false is e = let (v, found) = further e in (suc v, found)

found_any : (nodes : List Node) (port v : ℕ) → slice_get nodes v ≡ Some (record { kind = Input; port = port }) → list_any (is_input_at port) nodes ≡ true
found_any [] port v found = cc
found_any (node ∷ nodes) port zero found =
    let same : node ≡ record { kind = Input; port = port } = cc in
    let here : is_input_at port node ≡ true = ap (is_input_at port) same ∙ eq-eqb port port refl in
    rw here refl
found_any (node ∷ nodes) port (suc v) found = or_right (is_input_at port node) _ (found_any nodes port v found)
  where
    or_right : (a b : Bool) → b ≡ true → (a || b) ≡ true
    or_right true b e = refl
    or_right false b e = e

-- what tells that no node has the port is the test
pub unused_as : (N : Network) (port : ℕ) (b : Bool) → IsTrue b ↔ ((v : ℕ) → HasPort N v Input port → ⊥) → b ≡ is_unused N port
unused_as N port b tells = by b (list_any (is_input_at port) N.nodes) refl tells
  where
    by : (c t : Bool) → list_any (is_input_at port) N.nodes ≡ t → IsTrue c ↔ ((v : ℕ) → HasPort N v Input port → ⊥) → c ≡ not t
    by true true e tells = let (v, found) = any_found N.nodes port e in absurd (tells.0 refl v found)
    by true false e tells = refl
    by false true e tells = refl
    by false false e tells =
        let none : (v : ℕ) → HasPort N v Input port → ⊥ = λ v found. let yes = found_any N.nodes port v found in cc in
        let is : false ≡ true = tells.1 none in
        cc
