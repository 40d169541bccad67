-- The tile at a column and a row of the grid of a list of operations.
use Rattle.std.proofs.Common.{◌≡◌, ℕ, zero, suc, ◌+◌, ◌-◌, ◌*◌, ◌<◌, List, [], ◌∷◌, ◌++◌, length, get_or, Option, Some, None, refl, sym, ap, ◌∙◌, arith, length-append}
use Rattle.std.proofs.lemmas.List.{append-nil, get_or_append_left, get_or-append_right}
use Rattle.std.proofs.lemmas.List.FromFn.{get_or-map-range_with_len, length-map-range_with_len}
use Rattle.bx_quick.specs.declared.operation.Operation.{Operation}
use Rattle.bx_quick.specs.Grids.{lane_tile, operation_tile, output_tile, row_of, rows_of}

-- the tile at column x and row y of these operations, which follow the one before
abbrev pub tile_in : ℕ → Option Operation → List Operation → ℕ → ℕ → Option ℕ
tile_in t before [] zero x = lane_tile before None t x
tile_in t before [] (suc zero) x = output_tile t x
tile_in t before [] (suc (suc y)) x = None
tile_in t before (op ∷ ops) zero x = lane_tile before (Some op) op.lanes x
tile_in t before (op ∷ ops) (suc zero) x = operation_tile op x
tile_in t before (op ∷ ops) (suc (suc y)) x = tile_in t (Some op) ops y x

in-row : (w x : ℕ) (tile : ℕ → Option ℕ) → x < w → get_or (row_of w tile) x None ≡ tile x
in-row w x tile h = get_or-map-range_with_len tile 0 w x x None h (omega arith)

-- of two rows and what follows them
in-first : (w x : ℕ) (f g : ℕ → Option ℕ) (more : List (Option ℕ)) → x < w → get_or ((row_of w f ++ row_of w g) ++ more) (0 * w + x) None ≡ f x
in-first w x f g more h =
    let one = length-map-range_with_len f 0 w in
    let two = length-map-range_with_len g 0 w in
    let both = length-append (row_of w f) (row_of w g) in
    ap (λ i. get_or ((row_of w f ++ row_of w g) ++ more) i None) (omega arith)
    ∙ get_or_append_left (row_of w f ++ row_of w g) more None x (omega arith)
    ∙ get_or_append_left (row_of w f) (row_of w g) None x (omega arith)
    ∙ in-row w x f h

in-second : (w x : ℕ) (f g : ℕ → Option ℕ) (more : List (Option ℕ)) → x < w → get_or ((row_of w f ++ row_of w g) ++ more) (1 * w + x) None ≡ g x
in-second w x f g more h =
    let one = length-map-range_with_len f 0 w in
    let two = length-map-range_with_len g 0 w in
    let both = length-append (row_of w f) (row_of w g) in
    get_or_append_left (row_of w f ++ row_of w g) more None (1 * w + x) (omega arith)
    ∙ get_or-append_right (row_of w f) (row_of w g) w (1 * w + x) None one (omega arith)
    ∙ ap (λ i. get_or (row_of w g) i None) (let e : 1 * w + x - w ≡ x = omega arith in e)
    ∙ in-row w x g h

in-third : (w x y : ℕ) (f g : ℕ → Option ℕ) (more : List (Option ℕ)) → get_or ((row_of w f ++ row_of w g) ++ more) ((suc (suc y)) * w + x) None ≡ get_or more (y * w + x) None
in-third w x y f g more =
    let one = length-map-range_with_len f 0 w in
    let two = length-map-range_with_len g 0 w in
    let both = length-append (row_of w f) (row_of w g) in
    let more_rows : (suc (suc y)) * w ≡ y * w + 2 * w = two-rows y w in
    get_or-append_right (row_of w f ++ row_of w g) more (2 * w) ((suc (suc y)) * w + x) None (omega arith) (omega arith)
    ∙ ap (λ i. get_or more i None) (let e : (suc (suc y)) * w + x - 2 * w ≡ y * w + x = omega arith in e)
  where
    two-rows : (y w : ℕ) → (suc (suc y)) * w ≡ y * w + 2 * w
    two-rows y w = grind arith

pub tile-is : (w t : ℕ) (before : Option Operation) (ops : List Operation) (y x : ℕ) → x < w → y < 2 * length ops + 2 →
    get_or (rows_of w t before ops) (y * w + x) None ≡ tile_in t before ops y x
unfolding rows_of
tile-is w t before [] zero x h k =
    ap (λ tiles. get_or tiles (0 * w + x) None) (sym (append-nil (row_of w (lane_tile before None t) ++ row_of w (output_tile t))))
    ∙ in-first w x (lane_tile before None t) (output_tile t) [] h
tile-is w t before [] (suc zero) x h k =
    ap (λ tiles. get_or tiles (1 * w + x) None) (sym (append-nil (row_of w (lane_tile before None t) ++ row_of w (output_tile t))))
    ∙ in-second w x (lane_tile before None t) (output_tile t) [] h
tile-is w t before [] (suc (suc y)) x h k = absurd (omega arith)
tile-is w t before (op ∷ ops) zero x h k = in-first w x (lane_tile before (Some op) op.lanes) (operation_tile op) (rows_of w t (Some op) ops) h
tile-is w t before (op ∷ ops) (suc zero) x h k = in-second w x (lane_tile before (Some op) op.lanes) (operation_tile op) (rows_of w t (Some op) ops) h
tile-is w t before (op ∷ ops) (suc (suc y)) x h k =
    in-third w x y (lane_tile before (Some op) op.lanes) (operation_tile op) (rows_of w t (Some op) ops)
    ∙ tile-is w t (Some op) ops y x h (let e : length (op ∷ ops) ≡ suc (length ops) = refl in omega arith)
