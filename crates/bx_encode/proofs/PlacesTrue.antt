-- The bits of a legal layout make every clause true that says where nodes stand and what borders carry.
use Rattle.std.proofs.Common.{◌≡◌, ℕ, ◌*◌, ◌<◌, Bool, true, false, List, [], ◌∷◌, ◌++◌, map, filter, length, Option, Some, None, inl, inr, refl, sym, ◌∙◌, subst, arith}
use Rattle.std.specs.Prelude.{not, is_none, IsSome, IsTrue}
use Rattle.std.proofs.lemmas.Bool.{false≢true}
use Rattle.bx_cnf.specs.Formulas.{IsClauseTrue, AllTrue}
use Rattle.bx_forms.specs.declared.side.Side.{Side}
use Rattle.bx_forms.specs.declared.side.Side.TheVariants.{Left, Right}
use Rattle.bx_grid.specs.Tiles.{tile_count, y_of, border, below}
use Rattle.bx_network.specs.Networks.{Network, IsNetwork}
use Rattle.bx_network.proofs.Lists.{got-at}
use Rattle.bx_network.proofs.Networks.{kind-at}
use Rattle.bx_layout.specs.declared.layout.Layout.{Layout}
use Rattle.bx_layout.specs.Layouts.{Stands, edge_on}
use Rattle.bx_layout.specs.Legal.{IsLegal}
use Rattle.bx_layout.specs.Permits.{PermitTest}
use Rattle.bx_layout.proofs.Balances.{option-cases}
use Rattle.bx_layout.proofs.Walks.{in-window}
use Rattle.bx_encode.specs.declared.variable.Variable.TheVariants.{NodeOn, Taken, Used, EdgeOn}
use Rattle.bx_encode.specs.Variables.{border_count, is, isnt}
use Rattle.bx_encode.specs.Windows.{down_of, up_of, in_window}
use Rattle.bx_encode.specs.Families.{each, pairs, nodes, edges, tiles, borders, stands_somewhere, stands_once, stands_apart, takes_its_tile, keeps_its_window, stays_on_grid, carries_once, is_used}
use Rattle.bx_encode.specs.Bits.{AreBitsOf}
use Rattle.bx_encode.proofs.Windows.{down-is, up-is, window-exact}
use Rattle.bx_encode.proofs.Truths.{range-within, range-own, filter-cases, clause-item, all-one, all-append, all-map, all-each, all-range, is-true, if-holds, only-isnt, not-both, implies, implied}

one-item : (o : Option ℕ) (a b : ℕ) → o ≡ Some a → o ≡ Some b → a ≡ b
one-item o a b one other = let both : Some a ≡ Some b = sym one ∙ other in cc

not-true : (b : Bool) → not b ≡ true → IsTrue b → ⊥
not-true true h passes = false≢true h
not-true false h passes = false≢true passes

none-of : (o : Option ℕ) → is_none o ≡ true → o ≡ None
none-of None h = refl
none-of (Some x) h = absurd (false≢true h)

border-in : (t n : ℕ) (side : Side) → t < n → border t side < 2 * n
border-in t n Left low = omega arith
border-in t n Right low = omega arith

module _ (N : Network) (permit : PermitTest) (L : Layout) (network : IsNetwork N) (legal : IsLegal N permit L) (bits : List Bool) (are : AreBitsOf N L bits) where
  -- ---- where nodes stand

  -- each node has a place
  pub somewhere : AllTrue bits (stands_somewhere N L.ratio)
  unfolding stands_somewhere
  somewhere = all-map bits (λ v. map (λ t. is N L.ratio (NodeOn v t)) (tiles N L.ratio)) (nodes N L.ratio) (λ v own.
      let low = range-within (length N.nodes) v own in
      let place = got-at L.places v (omega (arith, legal.placed.places)) in
      let inside = legal.placed.inside v place.item place.at in
      clause-item bits (λ t. is N L.ratio (NodeOn v t)) (tiles N L.ratio) place.item (range-own (tile_count L.ratio) place.item inside)
      ((is-true N L bits are (NodeOn v place.item) (low, inside)).1 place.at))

  -- and one only
  pub once : AllTrue bits (stands_once N L.ratio)
  unfolding stands_once
  once = all-each bits (nodes N L.ratio) (λ v. pairs (map (λ t. isnt N L.ratio (NodeOn v t)) (tiles N L.ratio))) (λ v own.
      let low = range-within (length N.nodes) v own in
      all-range bits (λ t. isnt N L.ratio (NodeOn v t)) (tile_count L.ratio) (λ a b in_a in_b less.
      not-both N L bits are (NodeOn v a) (NodeOn v b) (low, in_a) (low, in_b) (λ here there. omega (arith, one-item _ a b here there))))

  -- no two nodes stand on one tile
  pub apart : AllTrue bits (stands_apart N L.ratio)
  unfolding stands_apart
  apart = all-each bits (tiles N L.ratio) (λ t. pairs (map (λ v. isnt N L.ratio (NodeOn v t)) (nodes N L.ratio))) (λ t own.
      let inside = range-within (tile_count L.ratio) t own in
      all-range bits (λ v. isnt N L.ratio (NodeOn v t)) (length N.nodes) (λ u v in_u in_v less.
      not-both N L bits are (NodeOn u t) (NodeOn v t) (in_u, inside) (in_v, inside) (λ one other. omega (arith, legal.placed.apart u v t one other))))

  -- a tile is taken if a node stands there
  pub taken : AllTrue bits (takes_its_tile N L.ratio)
  unfolding takes_its_tile
  taken = all-each bits (tiles N L.ratio) (λ t. map (λ v. isnt N L.ratio (NodeOn v t) ∷ is N L.ratio (Taken t) ∷ []) (nodes N L.ratio)) (λ t own.
      let inside = range-within (tile_count L.ratio) t own in
      all-map bits (λ v. isnt N L.ratio (NodeOn v t) ∷ is N L.ratio (Taken t) ∷ []) (nodes N L.ratio) (λ v is_node.
      let low = range-within (length N.nodes) v is_node in
      implies N L bits are (NodeOn v t) (Taken t) (low, inside) inside (λ stands. (v, stands))))

  -- a node has room for its longest paths, and so stands in its window
  windowed : (v t : ℕ) → v < length N.nodes → Stands L v t → IsTrue (in_window N v (y_of L.ratio t) L.ratio.h)
  windowed v t low stands =
      let (kind, has) = kind-at N v low in
      let down = down-is N network v low in
      let up = up-is N network v low in
      (window-exact N network v (y_of L.ratio t) L.ratio.h low).1 (record {
        kind = kind;
        is_kind = has;
        down = down_of N v;
        is_down = down;
        up = up_of N v;
        is_up = up;
        within = in-window N permit L network legal v t (down_of N v) (up_of N v) kind stands has down up;
      })

  pub window : AllTrue bits (keeps_its_window N L.ratio)
  unfolding keeps_its_window
  window = all-each bits (nodes N L.ratio) (λ v. map (λ t. isnt N L.ratio (NodeOn v t) ∷ []) (filter (λ t. not (in_window N v (y_of L.ratio t) L.ratio.h)) (tiles N L.ratio))) (λ v own.
      let low = range-within (length N.nodes) v own in
      all-map bits (λ t. isnt N L.ratio (NodeOn v t) ∷ []) (filter (λ t. not (in_window N v (y_of L.ratio t) L.ratio.h)) (tiles N L.ratio)) (λ t kept.
      let (is_tile, outside) = filter-cases (λ t. not (in_window N v (y_of L.ratio t) L.ratio.h)) (tiles N L.ratio) t kept in
      only-isnt N L bits are (NodeOn v t) (low, range-within (tile_count L.ratio) t is_tile) (λ stands. not-true _ outside (windowed v t low stands))))

  -- ---- what borders carry

  -- nothing leads off the grid
  pub stays : AllTrue bits (stays_on_grid N L.ratio)
  unfolding stays_on_grid
  stays = all-each bits (tiles N L.ratio) (λ t. each (filter (λ side. is_none (below L.ratio t side)) (Left ∷ Right ∷ [])) (λ side. map (λ e. isnt N L.ratio (EdgeOn e (border t side)) ∷ []) (edges N L.ratio))) (λ t own.
      let inside = range-within (tile_count L.ratio) t own in
      all-each bits (filter (λ side. is_none (below L.ratio t side)) (Left ∷ Right ∷ [])) (λ side. map (λ e. isnt N L.ratio (EdgeOn e (border t side)) ∷ []) (edges N L.ratio)) (λ side kept.
      let (_, off) = filter-cases (λ side. is_none (below L.ratio t side)) (Left ∷ Right ∷ []) side kept in
      let nothing = legal.stays t side inside (none-of (below L.ratio t side) off) in
      all-map bits (λ e. isnt N L.ratio (EdgeOn e (border t side)) ∷ []) (edges N L.ratio) (λ e is_edge.
      only-isnt N L bits are (EdgeOn e (border t side)) (range-within (length N.edges) e is_edge, border-in t (tile_count L.ratio) side inside)
      (λ carries. let both : None ≡ Some e = sym nothing ∙ carries in cc))))

  -- a border carries one edge at most
  pub carries : AllTrue bits (carries_once N L.ratio)
  unfolding carries_once
  carries = all-each bits (borders N L.ratio) (λ b. pairs (map (λ e. isnt N L.ratio (EdgeOn e b)) (edges N L.ratio))) (λ b own.
      let low = range-within (border_count L.ratio) b own in
      all-range bits (λ e. isnt N L.ratio (EdgeOn e b)) (length N.edges) (λ d e in_d in_e less.
      not-both N L bits are (EdgeOn d b) (EdgeOn e b) (in_d, low) (in_e, low) (λ one other. omega (arith, one-item _ d e one other))))

  -- a border is used exactly if it carries an edge
  carried : (b : ℕ) → b < border_count L.ratio → IsSome (edge_on L b) → IsClauseTrue bits (map (λ e. is N L.ratio (EdgeOn e b)) (edges N L.ratio))
  carried b low some = elim (option-cases (edge_on L b)) [
    | inl none ↦ absurd (false≢true (subst (λ (o : Option ℕ). IsSome o) none some))
    | inr (e, on) ↦ (
        let is_edge = legal.placed.edges b e on in
        clause-item bits (λ e. is N L.ratio (EdgeOn e b)) (edges N L.ratio) e (range-own (length N.edges) e is_edge) ((is-true N L bits are (EdgeOn e b) (is_edge, low)).1 on))
  ]

  pub used : AllTrue bits (is_used N L.ratio)
  unfolding is_used
  used = all-each bits (borders N L.ratio) (λ b. map (λ e. is N L.ratio (Used b) ∷ isnt N L.ratio (EdgeOn e b) ∷ []) (edges N L.ratio) ++ (isnt N L.ratio (Used b) ∷ map (λ e. is N L.ratio (EdgeOn e b)) (edges N L.ratio)) ∷ []) (λ b own.
      let low = range-within (border_count L.ratio) b own in
      all-append bits (map (λ e. is N L.ratio (Used b) ∷ isnt N L.ratio (EdgeOn e b) ∷ []) (edges N L.ratio)) ((isnt N L.ratio (Used b) ∷ map (λ e. is N L.ratio (EdgeOn e b)) (edges N L.ratio)) ∷ [])
      (all-map bits (λ e. is N L.ratio (Used b) ∷ isnt N L.ratio (EdgeOn e b) ∷ []) (edges N L.ratio) (λ e is_edge.
      implied N L bits are (Used b) (EdgeOn e b) low (range-within (length N.edges) e is_edge, low) (λ on. subst (λ (o : Option ℕ). IsSome o) (sym on) refl)))
      (all-one bits (isnt N L.ratio (Used b) ∷ map (λ e. is N L.ratio (EdgeOn e b)) (edges N L.ratio))
      (if-holds N L bits are (Used b) low (map (λ e. is N L.ratio (EdgeOn e b)) (edges N L.ratio)) (λ some. carried b low some))))
