-- The grid of operations that follow one another is sound.
use Rattle.std.proofs.Common.{◌≡◌, ◌≢◌, ℕ, zero, suc, ◌+◌, ◌*◌, ◌/◌, ◌%◌, ◌<◌, ◌≤◌, ◌⊎◌, Bool, true, false, not, List, [], ◌∷◌, length, Option, Some, None, is_some, inl, inr, refl, sym, ap, ap₂, ◌∙◌, arith}
use Rattle.std.specs.Prelude.{◌==◌, ◌&&◌, nat_lt, if◌then◌else◌, IsTrue, IsSome}
use Rattle.std.proofs.lemmas.Bool.{cases_lt, cases_eq, lt-ltb, le-ltb, ltb-true, and_parts}
use Rattle.std.proofs.lemmas.Nat.{div-add-mod', div_below, mod_below}
use Rattle.bx_forms.specs.declared.kind.Kind.{Kind}
use Rattle.bx_forms.specs.declared.kind.Kind.TheVariants.{Input, Output}
use Rattle.bx_forms.specs.declared.side.Side.{Side}
use Rattle.bx_forms.specs.declared.side.Side.TheVariants.{Left, Right}
use Rattle.bx_forms.specs.declared.side.Sides.{Sides}
use Rattle.bx_forms.specs.Forms.{form_node, form_upper, form_lower}
use Rattle.bx_forms.specs.Sides.{opposite, is_used}
use Rattle.bx_grid.specs.Tiles.{IsTile, IsInFirstRow, IsInLastRow, is_odd, one_less, column_beside, tile_at, below}
use Rattle.bx_layout.specs.Grids.{FormGrid, form_at, node_in, upper_in, lower_in, takes, sends, sends_from, goes_to, Holds, IsEmpty, IsSound}
use Rattle.bx_quick.specs.declared.operation.Operation.{Operation}
use Rattle.bx_quick.specs.Operations.{output_l, takes_as_right, gives_as_right}
use Rattle.bx_quick.specs.Grids.{leaves_left, input_of, wire_of, lane_form, lane_tile, operation_tile, output_tile}
use Rattle.bx_quick.specs.Chains.{IsStep, IsChain, chain_grid}
use Rattle.bx_quick.proofs.ChainTiles.{tile_in, tile-is}
use Rattle.bx_quick.proofs.ChainLinks.{sides, lane-in, lane-out, upper-input, operation-out, and-false, right-says, Shape, shape, lane-there, lane-left, lane-right, Beside, beside, sends-none, at-lane, operation-takes_left, operation-takes_right, lane-first, lane-meets_left, lane-meets_right}
use Rattle.bx_quick.proofs.ChainLinks.Shape.{one, fan, gate, pair}
use Rattle.bx_quick.proofs.ChainLinks.Beside.{right, wire, out}

-- what a row sends from the tile at a column, if there is such a column
abbrev pub sent : (ℕ → Option ℕ) → Option ℕ → Side → Bool
sent row None side = false
sent row (Some x) side = is_used (lower_in (row x)) side

pub parity : (y : ℕ) → is_odd (suc (suc y)) ≡ is_odd y
parity y = ap (λ (n : ℕ). n == 1) (let e : suc (suc y) % 2 ≡ y % 2 = omega arith in e)

abbrev pub head_of : List Operation → Option Operation
head_of [] = None
head_of (op ∷ ops) = Some op

pub chain-le : (w s : ℕ) (ops : List Operation) (t : ℕ) → IsChain w s ops t → s ≤ w
chain-le w s [] t c = c.0
chain-le w s (op ∷ ops) t c = c.1

-- the row on s lanes, before the operations
pub first-row : (w s : ℕ) (ops : List Operation) (t : ℕ) → IsChain w s ops t → (before : Option Operation) (x : ℕ) →
    tile_in t before ops 0 x ≡ lane_tile before (head_of ops) s x
first-row w s [] t c before x = ap (λ (n : ℕ). lane_tile before None n x) (sym c.1)
first-row w s (op ∷ ops) t c before x = ap (λ (n : ℕ). lane_tile before (Some op) n x) c.2

-- ---- a row takes what the one above it sends

output-left : (before : Option Operation) (t x : ℕ) → (upper_in (output_tile t x)).left ≡ (lower_in (lane_tile before None t x)).right
output-left before t x = elim (cases_lt x t) [
  | inl h ↦ ap (λ (b : Bool). (upper_in (if b then Some output_l else None)).left) (lt-ltb x t h) ∙ sym (lane-right before None t x ∙ ap (λ (b : Bool). b && true) (lt-ltb x t h))
  | inr h ↦ ap (λ (b : Bool). (upper_in (if b then Some output_l else None)).left) (le-ltb x t h) ∙ sym (lane-right before None t x ∙ ap (λ (b : Bool). b && true) (le-ltb x t h))
]

output-right : (before : Option Operation) (t x : ℕ) → (upper_in (output_tile t x)).right ≡ (lower_in (lane_tile before None t (x + 1))).left
output-right before t x = only (nat_lt x t) ∙ sym (lane-left before None t (x + 1) ∙ and-false (nat_lt (x + 1) t))
  where
    only : (b : Bool) → (upper_in (if b then Some output_l else None)).right ≡ false
    only true = refl
    only false = refl

pub link : (w s : ℕ) (before : Option Operation) (ops : List Operation) (t : ℕ) → IsChain w s ops t → (y x : ℕ) (side : Side) → suc y < 2 * length ops + 2 →
    is_used (upper_in (tile_in t before ops (suc y) x)) side ≡ sent (tile_in t before ops y) (column_beside (is_odd (suc y)) side x) (opposite side)
link w s before [] t c zero x Left h = output-left before t x
link w s before [] t c zero x Right h = output-right before t x
link w s before [] t c (suc y) x side h = absurd (omega arith)
link w s before (op ∷ ops) t c zero x Left h = operation-takes_left before op c.0 c.3 x
link w s before (op ∷ ops) t c zero x Right h = operation-takes_right before op c.0 c.3 x
link w s before (op ∷ ops) t c (suc zero) zero Left h =
    ap (λ o. (upper_in o).left) (first-row w c.0 ops t c.4 (Some op) 0) ∙ lane-first op (head_of ops) c.0 c.3
link w s before (op ∷ ops) t c (suc zero) (suc x) Left h =
    ap (λ o. (upper_in o).left) (first-row w c.0 ops t c.4 (Some op) (suc x)) ∙ lane-meets_left op (head_of ops) c.0 c.3 x
link w s before (op ∷ ops) t c (suc zero) zero Right h =
    ap (λ o. (upper_in o).right) (first-row w c.0 ops t c.4 (Some op) 0) ∙ lane-meets_right op (head_of ops) c.0 c.3 0
link w s before (op ∷ ops) t c (suc zero) (suc x) Right h =
    ap (λ o. (upper_in o).right) (first-row w c.0 ops t c.4 (Some op) (suc x)) ∙ lane-meets_right op (head_of ops) c.0 c.3 (suc x)
link w s before (op ∷ ops) t c (suc (suc y)) x side h =
    link w c.0 (Some op) ops t c.4 y x side (let e : length (op ∷ ops) ≡ suc (length ops) = refl in omega arith)
    ∙ ap (λ (odd : Bool). sent (tile_in t (Some op) ops y) (column_beside odd side x) (opposite side)) (sym (parity (suc y)))

-- ---- nothing stands or leads beyond the columns

pub outside : (w s : ℕ) (before : Option Operation) (ops : List Operation) (t : ℕ) → IsChain w s ops t → (y x : ℕ) → w ≤ x → tile_in t before ops y x ≡ None
outside w s before [] t c zero x h = let e = c.1 in let low = c.0 in lane-out before None t x (omega arith)
outside w s before [] t c (suc zero) x h = let e = c.1 in let low = c.0 in ap (λ (b : Bool). if b then Some output_l else None) (le-ltb x t (omega arith))
outside w s before [] t c (suc (suc y)) x h = refl
outside w s before (op ∷ ops) t c zero x h = let e = c.2 in let low = c.1 in lane-out before (Some op) op.lanes x (omega arith)
outside w s before (op ∷ ops) t c (suc zero) x h =
    let e = c.2 in
    let low = c.1 in
    let there = lane-there op c.0 c.3 in
    operation-out op x (λ z. omega arith) (omega arith)
outside w s before (op ∷ ops) t c (suc (suc y)) x h = outside w c.0 (Some op) ops t c.4 y x h

-- the column that a side leads to
pub record Reaches (w h y x : ℕ) (side : Side) : Type 0 where
  pub column : ℕ
  pub is : column_beside (is_odd y) side x ≡ Some column
  pub inside : column < w
  pub row : suc y < h

lane-reaches : (w h : ℕ) (before next : Option Operation) (s x : ℕ) → s ≤ w → 1 < h → ((z : ℕ) → leaves_left next z ≡ true → (lane : ℕ) × (z ≡ suc lane) × (lane < w)) →
    (side : Side) → is_used (lower_in (lane_tile before next s x)) side ≡ true → Reaches w h 0 x side
lane-reaches w h before next s x low high lefts Left sent_left =
    let parts = and_parts (nat_lt x s) (leaves_left next x) (sym (lane-left before next s x) ∙ sent_left) in
    let found = lefts x parts.1 in
    record { column = found.0; is = ap one_less found.1; inside = found.2; row = high }
lane-reaches w h before next s x low high lefts Right sent_right =
    let parts = and_parts (nat_lt x s) (not (leaves_left next x)) (sym (lane-right before next s x) ∙ sent_right) in
    let here = ltb-true x s parts.0 in
    record { column = x; is = refl; inside = omega arith; row = high }

takes-from : (w : ℕ) (op : Operation) → op.lane < w → (z : ℕ) → takes_as_right op z ≡ true → (lane : ℕ) × (z ≡ suc lane) × (lane < w)
takes-from w op h z e = let says = right-says (form_upper op.form) op.lane z e in let next = says.1 in (op.lane, omega arith, h)

operation-reaches : (w h : ℕ) (op : Operation) (next x : ℕ) → IsStep op next → op.lanes ≤ w → next ≤ w → 2 < h → (side : Side) → is_used (lower_in (operation_tile op x)) side ≡ true → Reaches w h 1 x side
operation-reaches w h op next x step low more high Left e = elim (cases_eq x op.lane) [
  | inl at ↦ (let there = lane-there op next step in record { column = x; is = refl; inside = omega arith; row = high })
  | inr ne ↦ other (beside op x ne)
]
  where
    other : Beside op x → Reaches w h 1 x Left
    other (right r is) = let none : false ≡ true = sym (ap (λ o. (lower_in o).left) is) ∙ e in absurd (cc)
    other (wire r here is) = record { column = x; is = refl; inside = omega arith; row = high }
    other (out past is) = let none : false ≡ true = sym (ap (λ o. (lower_in o).left) is) ∙ e in absurd (cc)
operation-reaches w h op next x step low more high Right e = elim (cases_eq x op.lane) [
  | inl at ↦ here at (sym (at-lane (λ o. (lower_in o).right) op x at) ∙ e) (shape op next step)
  | inr ne ↦ (let none : false ≡ true = sym (sends-none op x (beside op x ne)) ∙ e in absurd (cc))
]
  where
    here : x ≡ op.lane → (form_lower op.form).right ≡ true → Shape op next → Reaches w h 1 x Right
    here at q (one p r k n) = absurd (cc)
    here at q (gate p r k n) = absurd (cc)
    here at q (fan p r k n) = record { column = x + 1; is = refl; inside = omega arith; row = high }
    here at q (pair p r k n) = record { column = x + 1; is = refl; inside = omega arith; row = high }

output-silent : (t x : ℕ) (side : Side) → is_used (lower_in (output_tile t x)) side ≡ false
output-silent t x side = at (nat_lt x t) side
  where
    at : (b : Bool) (s : Side) → is_used (lower_in (if b then Some output_l else None)) s ≡ false
    at true Left = refl
    at true Right = refl
    at false Left = refl
    at false Right = refl

pub reaches : (w s : ℕ) (before : Option Operation) (ops : List Operation) (t : ℕ) → IsChain w s ops t → (y x : ℕ) (side : Side) → y < 2 * length ops + 2 →
    is_used (lower_in (tile_in t before ops y x)) side ≡ true → Reaches w (2 * length ops + 2) y x side
reaches w s before [] t c zero x side h e =
    let same = c.1 in
    let low = c.0 in
    lane-reaches w (2 * 0 + 2) before None t x (omega arith) (omega arith) (λ z l. absurd (cc)) side e
reaches w s before [] t c (suc zero) x side h e = let none : false ≡ true = sym (output-silent t x side) ∙ e in absurd (cc)
reaches w s before [] t c (suc (suc y)) x side h e = absurd (omega arith)
reaches w s before (op ∷ ops) t c zero x side h e =
    let same = c.2 in
    let low = c.1 in
    let there = lane-there op c.0 c.3 in
    lane-reaches w (2 * length (op ∷ ops) + 2) before (Some op) op.lanes x (omega arith) (omega arith) (takes-from w op (omega arith)) side e
reaches w s before (op ∷ ops) t c (suc zero) x side h e =
    let same = c.2 in
    let low = c.1 in
    let more : length (op ∷ ops) ≡ suc (length ops) = refl in
    operation-reaches w (2 * length (op ∷ ops) + 2) op c.0 x c.3 (omega arith) (chain-le w c.0 ops t c.4) (omega arith) side e
reaches w s before (op ∷ ops) t c (suc (suc y)) x side h e =
    let more : length (op ∷ ops) ≡ suc (length ops) = refl in
    let found = reaches w c.0 (Some op) ops t c.4 y x side (omega arith) e in
    let deep = found.row in
    record {
      column = found.column;
      is = ap (λ (odd : Bool). column_beside odd side x) (parity y) ∙ found.is;
      inside = found.inside;
      row = omega arith;
    }

-- ---- inputs and outputs

lane-node : (before next : Option Operation) (s x : ℕ) → (lane_tile before next s x ≡ None) ⊎ (node_in (lane_tile before next s x) ≡ form_node (lane_form before next x))
lane-node before next s x = elim (cases_lt x s) [
  | inl h ↦ inr (ap node_in (lane-in before next s x h))
  | inr h ↦ inl (lane-out before next s x h)
]

wire-node : (a b : Bool) → form_node (wire_of a b) ≡ None
wire-node true true = refl
wire-node true false = refl
wire-node false true = refl
wire-node false false = refl

pub input-node : (b : Bool) → form_node (input_of b) ≡ Some Input
input-node true = refl
input-node false = refl

-- a lane below an operation holds no node
pub wire-free : (op : Operation) (next : Option Operation) (s x : ℕ) → node_in (lane_tile (Some op) next s x) ≡ None
wire-free op next s x = elim (lane-node (Some op) next s x) [
  | inl none ↦ ap node_in none
  | inr node ↦ node ∙ wire-node (gives_as_right op x) (leaves_left next x)
]

-- the row before the first operation holds inputs alone
pub input-row : (next : Option Operation) (s x : ℕ) → (lane_tile None next s x ≡ None) ⊎ (node_in (lane_tile None next s x) ≡ Some Input)
input-row next s x = elim (lane-node None next s x) [
  | inl none ↦ inl none
  | inr node ↦ inr (node ∙ input-node (leaves_left next x))
]

lane-no_output : (before next : Option Operation) (s x : ℕ) → node_in (lane_tile before next s x) ≡ Some Output → ⊥
lane-no_output None next s x e = elim (input-row next s x) [
  | inl none ↦ (let both : None ≡ Some Output = sym (ap node_in none) ∙ e in cc)
  | inr node ↦ (let both : Some Input ≡ Some Output = sym node ∙ e in let kinds : Input ≡ Output = cc in cc)
]
lane-no_output (Some op) next s x e = let both : None ≡ Some Output = sym (wire-free op next s x) ∙ e in cc

pub output-row : (t x : ℕ) → (output_tile t x ≡ None) ⊎ (node_in (output_tile t x) ≡ Some Output)
output-row t x = at (nat_lt x t)
  where
    at : (b : Bool) → ((if b then Some output_l else None) ≡ None) ⊎ (node_in (if b then Some output_l else None) ≡ Some Output)
    at true = inr refl
    at false = inl refl

operation-no : (kind : Kind) (op : Operation) (x : ℕ) → form_node op.form ≢ Some kind → node_in (operation_tile op x) ≡ Some kind → ⊥
operation-no kind op x never e = elim (cases_eq x op.lane) [
  | inl at ↦ never (sym (at-lane node_in op x at) ∙ e)
  | inr ne ↦ other (beside op x ne)
]
  where
    other : Beside op x → ⊥
    other (right r is) = let both : None ≡ Some kind = sym (ap node_in is) ∙ e in cc
    other (wire r here is) = let both : None ≡ Some kind = sym (ap node_in is) ∙ e in cc
    other (out past is) = let both : None ≡ Some kind = sym (ap node_in is) ∙ e in cc

pub no-input : (w s : ℕ) (before : Option Operation) (ops : List Operation) (t : ℕ) → IsChain w s ops t → (y x : ℕ) → node_in (tile_in t before ops (suc y) x) ≡ Some Input → ⊥
no-input w s before [] t c zero x e = elim (output-row t x) [
  | inl none ↦ (let both : None ≡ Some Input = sym (ap node_in none) ∙ e in cc)
  | inr node ↦ (let both : Some Output ≡ Some Input = sym node ∙ e in let kinds : Output ≡ Input = cc in cc)
]
no-input w s before [] t c (suc y) x e = let both : None ≡ Some Input = e in cc
no-input w s before (op ∷ ops) t c zero x e = operation-no Input op x c.3.no_input e
no-input w s before (op ∷ ops) t c (suc zero) x e =
    let both : None ≡ Some Input = sym (ap node_in (first-row w c.0 ops t c.4 (Some op) x) ∙ wire-free op (head_of ops) c.0 x) ∙ e in cc
no-input w s before (op ∷ ops) t c (suc (suc y)) x e = no-input w c.0 (Some op) ops t c.4 y x e

pub no-output : (w s : ℕ) (before : Option Operation) (ops : List Operation) (t : ℕ) → IsChain w s ops t → (y x : ℕ) → suc y < 2 * length ops + 2 → node_in (tile_in t before ops y x) ≡ Some Output → ⊥
no-output w s before [] t c zero x h e = lane-no_output before None t x e
no-output w s before [] t c (suc y) x h e = absurd (omega arith)
no-output w s before (op ∷ ops) t c zero x h e = lane-no_output before (Some op) op.lanes x e
no-output w s before (op ∷ ops) t c (suc zero) x h e = operation-no Output op x c.3.no_output e
no-output w s before (op ∷ ops) t c (suc (suc y)) x h e =
    no-output w c.0 (Some op) ops t c.4 y x (let more : length (op ∷ ops) ≡ suc (length ops) = refl in omega arith) e

pub last-row : (before : Option Operation) (ops : List Operation) (t y x : ℕ) → suc y ≡ 2 * length ops + 2 → tile_in t before ops y x ≡ output_tile t x
last-row before [] t zero x e = absurd (omega arith)
last-row before [] t (suc zero) x e = refl
last-row before [] t (suc (suc y)) x e = absurd (omega arith)
last-row before (op ∷ ops) t zero x e = let more : length (op ∷ ops) ≡ suc (length ops) = refl in absurd (omega arith)
last-row before (op ∷ ops) t (suc zero) x e = let more : length (op ∷ ops) ≡ suc (length ops) = refl in absurd (omega arith)
last-row before (op ∷ ops) t (suc (suc y)) x e = last-row (Some op) ops t y x (let more : length (op ∷ ops) ≡ suc (length ops) = refl in omega arith)

-- ---- the grid

nothing-used : (side : Side) (u : Sides) → u ≡ sides false false → is_used u side ≡ false
nothing-used Left u e = ap (λ (v : Sides). v.left) e
nothing-used Right u e = ap (λ (v : Sides). v.right) e

module _ (w s : ℕ) (ops : List Operation) (t : ℕ) (some : 1 ≤ w) (chain : IsChain w s ops t) where
  abbrev rows : ℕ
  rows = 2 * length ops + 2

  abbrev grid : FormGrid
  grid = chain_grid w ops t

  abbrev tile : ℕ → ℕ → Option ℕ
  tile y x = tile_in t None ops y x

  pub row-inside : (u : ℕ) → IsTile grid.ratio u → u / w < rows
  row-inside u inside = div_below u w rows some (let e : w * rows ≡ rows * w = grind arith in omega arith)

  pub column-inside : (u : ℕ) → u % w < w
  column-inside u = mod_below u w some

  pub form-is : (u : ℕ) → IsTile grid.ratio u → form_at grid u ≡ tile (u / w) (u % w)
  form-is u inside = ap (form_at grid) (sym (div-add-mod' u w)) ∙ tile-is w t None ops (u / w) (u % w) (column-inside u) (row-inside u inside)

  -- what the grid sends from a column and a row is what the row sends
  sent-is : (column : Option ℕ) (y : ℕ) (side : Side) → y < rows → sends_from grid (tile_at grid.ratio column (Some y)) side ≡ sent (tile y) column side
  sent-is None y side h = refl
  sent-is (Some x) y side h = elim (cases_lt x w) [
    | inl low ↦ (
        ap₂ (λ (a b : Bool). sends_from grid (if a && b then Some (y * w + x) else None) side) (lt-ltb x w low) (lt-ltb y rows h)
        ∙ ap (λ o. is_used (lower_in o) side) (tile-is w t None ops y x low h))
    | inr past ↦ (
        ap (λ (a : Bool). sends_from grid (if a && nat_lt y rows then Some (y * w + x) else None) side) (le-ltb x w past)
        ∙ sym (ap (λ o. is_used (lower_in o) side) (outside w s None ops t chain y x past) ∙ nothing-used side (sides false false) refl))
  ]

  off : (column : Option ℕ) (side : Side) → sends_from grid (tile_at grid.ratio column None) side ≡ false
  off None side = refl
  off (Some x) side = refl

  bare : (x : ℕ) (side : Side) → is_used (upper_in (tile 0 x)) side ≡ false
  bare x side = ap (λ o. is_used (upper_in o) side) (first-row w s ops t chain None x) ∙ elim (cases_lt x s) [
    | inl h ↦ ap (λ o. is_used (upper_in o) side) (lane-in None (head_of ops) s x h) ∙ nothing-used side (form_upper (input_of (leaves_left (head_of ops) x))) (upper-input (leaves_left (head_of ops) x))
    | inr h ↦ ap (λ o. is_used (upper_in o) side) (lane-out None (head_of ops) s x h) ∙ nothing-used side (sides false false) refl
  ]

  met : (y x : ℕ) (side : Side) → y < rows → is_used (upper_in (tile y x)) side ≡ sends_from grid (tile_at grid.ratio (column_beside (is_odd y) side x) (one_less y)) (opposite side)
  met zero x side h = bare x side ∙ sym (off (column_beside (is_odd 0) side x) (opposite side))
  met (suc y) x side h = link w s None ops t chain y x side h ∙ sym (sent-is (column_beside (is_odd (suc y)) side x) y (opposite side) (omega arith))

  meets : (u : ℕ) (side : Side) → IsTile grid.ratio u → takes grid u side ≡ goes_to grid u side
  meets u side inside = ap (λ o. is_used (upper_in o) side) (form-is u inside) ∙ met (u / w) (u % w) side (row-inside u inside)

  stays : (u : ℕ) (side : Side) → IsTile grid.ratio u → IsTrue (sends grid u side) → IsSome (below grid.ratio u side)
  stays u side inside going =
      let found = reaches w s None ops t chain (u / w) (u % w) side (row-inside u inside) (sym (ap (λ o. is_used (lower_in o) side) (form-is u inside)) ∙ going) in
      let deep = found.row in
      let high : u / w + 1 < rows = omega arith in
      ap (λ o. is_some (tile_at grid.ratio o (Some (u / w + 1)))) found.is
      ∙ ap₂ (λ (a b : Bool). is_some (if a && b then Some ((u / w + 1) * w + found.column) else None)) (lt-ltb found.column w found.inside) (lt-ltb (u / w + 1) rows high)

  holds-is : (u : ℕ) (kind : Kind) → IsTile grid.ratio u → Holds grid u kind → node_in (tile (u / w) (u % w)) ≡ Some kind
  holds-is u kind inside holds = sym (ap node_in (form-is u inside)) ∙ holds

  input-first : (y x : ℕ) → node_in (tile y x) ≡ Some Input → y ≡ 0
  input-first zero x e = refl
  input-first (suc y) x e = absurd (no-input w s None ops t chain y x e)

  output-last : (y x : ℕ) → y < rows → node_in (tile y x) ≡ Some Output → y + 1 ≡ rows
  output-last y x h e = elim (cases_lt (suc y) rows) [
    | inl low ↦ absurd (no-output w s None ops t chain y x low e)
    | inr last ↦ omega arith
  ]

  pub first-tile : (u : ℕ) → IsTile grid.ratio u → IsInFirstRow grid.ratio u → form_at grid u ≡ lane_tile None (head_of ops) s (u % w)
  first-tile u inside row = form-is u inside ∙ ap (λ (y : ℕ). tile y (u % w)) row ∙ first-row w s ops t chain None (u % w)

  pub last-tile : (u : ℕ) → IsTile grid.ratio u → IsInLastRow grid.ratio u → form_at grid u ≡ output_tile t (u % w)
  last-tile u inside row = form-is u inside ∙ last-row None ops t (u / w) (u % w) (let r : u / w + 1 ≡ rows = row in omega arith)

  first : (u : ℕ) → IsTile grid.ratio u → IsInFirstRow grid.ratio u → IsEmpty grid u ⊎ Holds grid u Input
  first u inside row = elim (input-row (head_of ops) s (u % w)) [
    | inl none ↦ inl (first-tile u inside row ∙ none)
    | inr node ↦ inr (ap node_in (first-tile u inside row) ∙ node)
  ]

  last : (u : ℕ) → IsTile grid.ratio u → IsInLastRow grid.ratio u → IsEmpty grid u ⊎ Holds grid u Output
  last u inside row = elim (output-row t (u % w)) [
    | inl none ↦ inl (last-tile u inside row ∙ none)
    | inr node ↦ inr (ap node_in (last-tile u inside row) ∙ node)
  ]

  pub grid-sound : IsSound grid
  grid-sound u inside = record {
    meets = λ side. meets u side inside;
    stays = λ side going. stays u side inside going;
    row = record {
      input = λ holds. input-first (u / w) (u % w) (holds-is u Input inside holds);
      output = λ holds. output-last (u / w) (u % w) (row-inside u inside) (holds-is u Output inside holds);
      first = first u inside;
      last = last u inside;
    };
  }
