-- What the lanes carry through the grid of operations that follow one another: an operation's tile sends on
-- what its form makes of its lanes, and every other lane keeps its value.
use Rattle.std.proofs.Common.{◌≡◌, ℕ, suc, ◌+◌, ◌*◌, ◌/◌, ◌%◌, ◌<◌, ◌≤◌, Bool, true, false, not, List, [], ◌∷◌, length, Option, Some, None, inl, inr, refl, sym, ap, ap₂, ◌∙◌, subst, arith}
use Rattle.std.specs.Prelude.{◌==◌, ◌&&◌, nat_lt, if◌then◌else◌, option_map}
use Rattle.std.proofs.lemmas.Bool.{cases_eq, lt-ltb}
use Rattle.std.proofs.lemmas.Nat.{mul-add-lt, div-mul-add, mod-mul-add}
use Rattle.bx_logic.specs.Op.{first_value}
use Rattle.bx_logic.specs.Values.{value_of}
use Rattle.bx_forms.specs.declared.kind.Kind.{Kind}
use Rattle.bx_forms.specs.declared.kind.Kind.TheVariants.{Input, Output, Not, Fan, And, Or, Nand, Nor, Xor, Xnor}
use Rattle.bx_forms.specs.declared.side.Side.{Side}
use Rattle.bx_forms.specs.declared.side.Side.TheVariants.{Left, Right}
use Rattle.bx_forms.specs.declared.side.Sides.{Sides}
use Rattle.bx_forms.specs.Forms.{form_upper, form_lower, form_sends}
use Rattle.bx_forms.specs.Sides.{opposite, used_values}
use Rattle.bx_grid.specs.Tiles.{border, is_odd, one_less, column_beside, tile_at, above, entering}
use Rattle.bx_layout.specs.Grids.{FormGrid, form_at, node_in, upper_in, lower_in}
use Rattle.bx_layout.specs.Valuations.{value_on, comes_in, reads_given, sent_value, IsBorderValuation}
use Rattle.bx_quick.specs.declared.operation.Operation.{Operation}
use Rattle.bx_quick.specs.Operations.{output_l, takes_as_right, gives_as_right}
use Rattle.bx_quick.specs.Grids.{leaves_left, input_of, wire_of, lane_form, operation_tile}
use Rattle.bx_quick.specs.Chains.{Passes, AreCarried, IsStep, IsChain, chain_grid}
use Rattle.bx_quick.proofs.ChainTiles.{tile_in, tile-is}
use Rattle.bx_quick.proofs.ChainLinks.{lane-in, right-is, right-other, right-says, Shape, shape, lane-there, lane-takes_right, Beside, beside, at-lane, lane-meets_right}
use Rattle.bx_quick.proofs.ChainLinks.Shape.{one, fan, gate, pair}
use Rattle.bx_quick.proofs.ChainLinks.Beside.{right, wire, out}
use Rattle.bx_quick.proofs.ChainSound.{parity, head_of, chain-le, first-row, last-row, no-input}

-- what comes from the tile at a column of a row, where the row has w columns
abbrev pub enter : ℕ → (ℕ → Side → Bool) → Option ℕ → Side → Bool
enter w row None side = false
enter w row (Some x) side = if nat_lt x w then row x side else false

-- what a tile reads of the row above
abbrev pub entered : ℕ → (ℕ → Side → Bool) → Bool → Option ℕ → ℕ → List Bool
entered w above odd tile x =
    used_values (upper_in tile) (enter w above (column_beside odd Left x) Right) (enter w above (column_beside odd Right x) Left)

-- by row, column and side, each row sends what its tiles make of the row above
abbrev pub AreRows : ℕ → ℕ → Option Operation → List Operation → (ℕ → ℕ → Side → Bool) → Type 0
AreRows w t before ops val = (y x : ℕ) (side : Side) → x < w → suc y < 2 * length ops + 2 →
    val (suc y) x side ≡ sent_value (tile_in t before ops (suc y) x) (entered w (val y) (is_odd (suc y)) (tile_in t before ops (suc y) x) x) side

-- the side on which a lane leaves
abbrev pub side_of : Bool → Side
side_of true = Left
side_of false = Right

enter-in : (w : ℕ) (row : ℕ → Side → Bool) (x : ℕ) (side : Side) → x < w → enter w row (Some x) side ≡ row x side
enter-in w row x side h = ap (λ (b : Bool). if b then row x side else false) (lt-ltb x w h)

-- a wire sends what enters it
wire-sends : (a b p q : Bool) → form_sends (wire_of a b) (used_values (form_upper (wire_of a b)) p q) (side_of b) ≡ (if a then p else q)
wire-sends true true p q = refl
wire-sends true false p q = refl
wire-sends false true p q = refl
wire-sends false false p q = refl

second-unused : (u : Sides) (a b c : Bool) → u.right ≡ false → used_values u a b ≡ used_values u a c
second-unused u a b c r = rw r

module _ (w s t : ℕ) (before : Option Operation) (op : Operation) (ops : List Operation) (next : ℕ) (step : IsStep op next)
    (wide : s ≤ w) (lanes : op.lanes ≡ s) (chain : IsChain w next ops t) (val : ℕ → ℕ → Side → Bool) (rows : AreRows w t before (op ∷ ops) val)
    (U M : ℕ → Bool) (passes : Passes op U M) (start : (x : ℕ) → x < s → val 0 x (side_of (takes_as_right op x)) ≡ U x) where
  more : length (op ∷ ops) ≡ suc (length ops)
  more = refl

  leaving : (x : ℕ) (b : Bool) → x < s → takes_as_right op x ≡ b → val 0 x (side_of b) ≡ U x
  leaving x b h e = subst (λ (c : Bool). val 0 x (side_of c) ≡ U x) e (start x h)

  abbrev reads_there : Bool → List Bool
  reads_there other = used_values (form_upper op.form) (U op.lane) other

  -- what enters the operation on its right, if it takes two
  second : Bool
  second = enter w (val 0) (Some (op.lane + 1)) Left

  second-is : Shape op next → reads_there second ≡ reads_there (U (op.lane + 1))
  unfolding second
  second-is (one p q h n) = second-unused (form_upper op.form) (U op.lane) _ _ p
  second-is (fan p q h n) = second-unused (form_upper op.form) (U op.lane) _ _ p
  second-is (gate p q h n) =
      ap reads_there (enter-in w (val 0) (op.lane + 1) Left (omega arith) ∙ leaving (op.lane + 1) true (omega arith) (right-is (form_upper op.form) op.lane (op.lane + 1) step.takes_left p refl))
  second-is (pair p q h n) =
      ap reads_there (enter-in w (val 0) (op.lane + 1) Left (omega arith) ∙ leaving (op.lane + 1) true (omega arith) (right-is (form_upper op.form) op.lane (op.lane + 1) step.takes_left p refl))

  -- the operation's tile
  made : (side : Side) → val 1 op.lane side ≡ form_sends op.form (reads_there (U (op.lane + 1))) side
  unfolding second
  made side =
      let there = lane-there op next step in
      let low : op.lane < s = omega arith in
      rows 0 op.lane side (omega arith) (omega arith)
      ∙ at-lane (λ (o : Option ℕ). sent_value o (entered w (val 0) true o op.lane) side) op op.lane refl
      ∙ ap (λ (v : Bool). form_sends op.form (used_values (form_upper op.form) v second) side)
      (enter-in w (val 0) op.lane Right (omega arith) ∙ leaving op.lane false low (right-other (form_upper op.form) op.lane op.lane (λ z. omega arith)))
      ∙ ap (λ (bs : List Bool). form_sends op.form bs side) (second-is (shape op next step))

  -- a lane that it leaves alone
  kept : (x : ℕ) → takes_as_right op x ≡ false → x < op.lanes → operation_tile op x ≡ Some 4 → val 1 x Left ≡ U x
  kept x r h is =
      rows 0 x Left (omega arith) (omega arith)
      ∙ ap (λ (o : Option ℕ). sent_value o (entered w (val 0) true o x) Left) is
      ∙ enter-in w (val 0) x Right (omega arith)
      ∙ leaving x false (omega arith) r

  -- what comes to lane x below
  comes : (x : ℕ) → x < next → (b : Bool) → gives_as_right op x ≡ b → (if b then enter w (val 1) (one_less x) Right else enter w (val 1) (Some x) Left) ≡ M x
  comes x low true e =
      let says = right-says (form_lower op.form) op.lane x e in
      let there = lane-there op next step in
      let at : x ≡ suc op.lane = let n = says.1 in omega arith in
      let wide_below = chain-le w next ops t chain in
      ap (λ (o : Option ℕ). enter w (val 1) o Right) (ap one_less at)
      ∙ enter-in w (val 1) op.lane Right (omega arith)
      ∙ made Right
      ∙ sym (passes.right says.0)
      ∙ ap M (sym says.1)
  comes x low false e =
      let wide_below = chain-le w next ops t chain in
      enter-in w (val 1) x Left (omega arith) ∙ elim (cases_eq x op.lane) [
        | inl at ↦ ap (λ (z : ℕ). val 1 z Left) at ∙ made Left ∙ sym passes.left ∙ ap M (sym at)
        | inr ne ↦ other ne (beside op x ne)
      ]
    where
      sends : (lower_in (operation_tile op x)).left ≡ true
      sends = sym (lane-meets_right op (head_of ops) next step x) ∙ lane-takes_right op (head_of ops) next x ∙ ap₂ (λ (a b : Bool). a && not b) (lt-ltb x next low) e

      other : (x ≡ op.lane → ⊥) → Beside op x → val 1 x Left ≡ M x
      other ne (right r is) = let none : false ≡ true = sym (ap (λ o. (lower_in o).left) is) ∙ sends in absurd (cc)
      other ne (wire r here is) = kept x r here is ∙ sym (passes.others x ne here r)
      other ne (out past is) = let none : false ≡ true = sym (ap (λ o. (lower_in o).left) is) ∙ sends in absurd (cc)

  below : (x : ℕ) → x < next → val 2 x (side_of (leaves_left (head_of ops) x)) ≡ M x
  below x low =
      let wide_below = chain-le w next ops t chain in
      let tile : tile_in t (Some op) ops 0 x ≡ Some (lane_form (Some op) (head_of ops) x) =
      first-row w next ops t chain (Some op) x ∙ lane-in (Some op) (head_of ops) next x low in
      rows 1 x (side_of (leaves_left (head_of ops) x)) (omega arith) (omega arith)
      ∙ ap (λ (o : Option ℕ). sent_value o (entered w (val 1) false o x) (side_of (leaves_left (head_of ops) x))) tile
      ∙ wire-sends (gives_as_right op x) (leaves_left (head_of ops) x) (enter w (val 1) (one_less x) Right) (enter w (val 1) (Some x) Left)
      ∙ comes x low (gives_as_right op x) refl

  later : AreRows w t (Some op) ops (λ y. val (suc (suc y)))
  later y x side h k =
      rows (suc (suc y)) x side h (omega arith)
      ∙ ap (λ (odd : Bool). sent_value (tile_in t (Some op) ops (suc y) x) (entered w (val (suc (suc y))) odd (tile_in t (Some op) ops (suc y) x) x) side) (parity (suc y))

-- the lanes behind the last operation carry what they are to
pub carried : (w s : ℕ) (before : Option Operation) (ops : List Operation) (t : ℕ) → IsChain w s ops t → (val : ℕ → ℕ → Side → Bool) → AreRows w t before ops val →
    (U V : ℕ → Bool) → AreCarried ops U V → ((x : ℕ) → x < s → val 0 x (side_of (leaves_left (head_of ops) x)) ≡ U x) →
    (x : ℕ) → x < t → val (2 * length ops) x Right ≡ V x
carried w s before [] t c val rows U V same start x h = start x (let e = c.1 in omega arith) ∙ same x
carried w s before (op ∷ ops) t c val rows U V run start x h =
    ap (λ (y : ℕ). val y x Right) (let more : length (op ∷ ops) ≡ suc (length ops) = refl in let e : 2 * length (op ∷ ops) ≡ suc (suc (2 * length ops)) = omega arith in e)
    ∙ carried w c.0 (Some op) ops t c.4 (λ y. val (suc (suc y)))
    (later w s t before op ops c.0 c.3 c.1 c.2 c.4 val rows U run.0 run.1 start) run.0 V run.2
    (below w s t before op ops c.0 c.3 c.1 c.2 c.4 val rows U run.0 run.1 start) x h

-- ---- the borders of the grid

reads-none : (node : Option Kind) → (node ≡ Some Input → ⊥) → reads_given node ≡ false
reads-none None never = refl
reads-none (Some Input) never = absurd (never refl)
reads-none (Some Output) never = refl
reads-none (Some Not) never = refl
reads-none (Some Fan) never = refl
reads-none (Some And) never = refl
reads-none (Some Or) never = refl
reads-none (Some Nand) never = refl
reads-none (Some Nor) never = refl
reads-none (Some Xor) never = refl
reads-none (Some Xnor) never = refl

module _ (w s : ℕ) (ops : List Operation) (t : ℕ) (some : 1 ≤ w) (chain : IsChain w s ops t) (given borders : List Bool)
    (valuation : IsBorderValuation (chain_grid w ops t) given borders) where
  abbrev grid : FormGrid
  grid = chain_grid w ops t

  abbrev rows : ℕ
  rows = 2 * length ops + 2

  abbrev val : ℕ → ℕ → Side → Bool
  val y x side = value_of borders (border (y * w + x) side)

  inside : (y x : ℕ) → x < w → y < rows → y * w + x < w * rows
  inside y x h k = mul-add-lt y w x rows k h

  enter-is : (column : Option ℕ) (y : ℕ) (side : Side) → y < rows → value_on borders (option_map (λ u. border u side) (tile_at grid.ratio column (Some y))) ≡ enter w (val y) column side
  enter-is None y side h = refl
  enter-is (Some x) y side h = at (nat_lt x w) ∙ sym (here (nat_lt x w))
    where
      at : (b : Bool) → value_on borders (option_map (λ u. border u side) (if b && nat_lt y rows then Some (y * w + x) else None)) ≡ (if b && true then val y x side else false)
      at true = ap (λ (c : Bool). value_on borders (option_map (λ u. border u side) (if c then Some (y * w + x) else None))) (lt-ltb y rows h)
      at false = refl

      here : (b : Bool) → (if b then val y x side else false) ≡ (if b && true then val y x side else false)
      here true = refl
      here false = refl

  comes-is : (y x : ℕ) → x < w → suc y < rows → (tile : Option ℕ) → form_at grid (suc y * w + x) ≡ tile → comes_in grid borders (suc y * w + x) ≡ entered w (val y) (is_odd (suc y)) tile x
  comes-is y x h k tile is =
      let row : (suc y * w + x) / w ≡ suc y = div-mul-add (suc y) w x h in
      let column : (suc y * w + x) % w ≡ x = mod-mul-add (suc y) w x h in
      let from : (side : Side) → value_on borders (entering grid.ratio (suc y * w + x) side) ≡ enter w (val y) (column_beside (is_odd (suc y)) side x) (opposite side) =
      λ side.
      ap₂ (λ (q r : ℕ). value_on borders (option_map (λ u. border u (opposite side)) (tile_at grid.ratio (column_beside (is_odd q) side r) (one_less q)))) row column
      ∙ enter-is (column_beside (is_odd (suc y)) side x) y (opposite side) (omega arith) in
      ap₂ (λ (a b : Bool). used_values (upper_in (form_at grid (suc y * w + x))) a b) (from Left) (from Right)
      ∙ ap (λ (o : Option ℕ). entered w (val y) (is_odd (suc y)) o x) is

  are-rows : AreRows w t None ops val
  are-rows y x side h k =
      let is : form_at grid (suc y * w + x) ≡ tile_in t None ops (suc y) x = tile-is w t None ops (suc y) x h k in
      let free : reads_given (node_in (form_at grid (suc y * w + x))) ≡ false =
      reads-none (node_in (form_at grid (suc y * w + x))) (λ e. no-input w s None ops t chain y x (sym (ap node_in is) ∙ e)) in
      valuation.each (suc y * w + x) side (inside (suc y) x h k)
      ∙ ap (λ (b : Bool). sent_value (form_at grid (suc y * w + x)) (if b then value_of given (suc y * w + x) ∷ [] else comes_in grid borders (suc y * w + x)) side) free
      ∙ ap₂ (λ (o : Option ℕ) (bs : List Bool). sent_value o bs side) is (comes-is y x h k (tile_in t None ops (suc y) x) is)

  input-sends : (b p : Bool) → form_sends (input_of b) (p ∷ []) (side_of b) ≡ p
  input-sends true p = refl
  input-sends false p = refl

  input-given : (b : Bool) (p : Bool) (others : List Bool) → sent_value (Some (input_of b)) (if reads_given (node_in (Some (input_of b))) then p ∷ [] else others) (side_of b) ≡ p
  input-given true p others = refl
  input-given false p others = refl

  -- the inputs send what is given to them
  begins : (x : ℕ) → x < s → val 0 x (side_of (leaves_left (head_of ops) x)) ≡ value_of given x
  begins x h =
      let wide = chain-le w s ops t chain in
      let number : 0 * w + x ≡ x = omega arith in
      let is : form_at grid (0 * w + x) ≡ Some (lane_form None (head_of ops) x) =
      tile-is w t None ops 0 x (omega arith) (omega arith) ∙ first-row w s ops t chain None x ∙ lane-in None (head_of ops) s x h in
      valuation.each (0 * w + x) (side_of (leaves_left (head_of ops) x)) (inside 0 x (omega arith) (omega arith))
      ∙ ap (λ (o : Option ℕ). sent_value o (if reads_given (node_in o) then value_of given (0 * w + x) ∷ [] else comes_in grid borders (0 * w + x)) (side_of (leaves_left (head_of ops) x))) is
      ∙ input-given (leaves_left (head_of ops) x) (value_of given (0 * w + x)) (comes_in grid borders (0 * w + x))
      ∙ ap (value_of given) number

  -- the outputs read what the last lanes carry
  pub outputs-read : (U V : ℕ → Bool) → AreCarried ops U V → ((x : ℕ) → x < s → value_of given x ≡ U x) → (x : ℕ) → x < t →
      first_value (comes_in grid borders ((2 * length ops + 1) * w + x)) ≡ V x
  outputs-read U V run start x h =
      let wide : t ≤ w = last-le s ops chain in
      let row : 2 * length ops + 1 ≡ suc (2 * length ops) = omega arith in
      let is : form_at grid (suc (2 * length ops) * w + x) ≡ Some 2 =
      tile-is w t None ops (suc (2 * length ops)) x (omega arith) (omega arith)
      ∙ last-row None ops t (suc (2 * length ops)) x (omega arith)
      ∙ ap (λ (b : Bool). if b then Some output_l else None) (lt-ltb x t h) in
      ap (λ (y : ℕ). first_value (comes_in grid borders (y * w + x))) row
      ∙ ap first_value (comes-is (2 * length ops) x (omega arith) (omega arith) (Some 2) is)
      ∙ ap (λ (odd : Bool). first_value (entered w (val (2 * length ops)) odd (Some 2) x)) (odd-last (length ops))
      ∙ enter-in w (val (2 * length ops)) x Right (omega arith)
      ∙ carried w s None ops t chain val are-rows U V run (λ z k. begins z k ∙ start z k) x h
    where
      last-le : (n : ℕ) (more : List Operation) → IsChain w n more t → t ≤ w
      last-le n [] c = let e = c.1 in let low = c.0 in omega arith
      last-le n (op ∷ more) c = last-le c.0 more c.4

      odd-last : (n : ℕ) → is_odd (suc (2 * n)) ≡ true
      odd-last n = ap (λ (m : ℕ). m == 1) (let e : suc (2 * n) % 2 ≡ 1 = omega arith in e)
