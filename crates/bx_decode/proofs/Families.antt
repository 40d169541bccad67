-- What the clauses on places and on borders say of bits that make them true, family by family.
use Rattle.std.proofs.Common.{◌≡◌, ℕ, ◌<◌, Bool, true, not, List, [], ◌∷◌, ◌++◌, map, filter, length, None, inl, inr, refl, ap, arith}
use Rattle.std.proofs.lemmas.Bool.{cases_Bool}
use Rattle.std.specs.List.{range_with_len}
use Rattle.std.specs.Prelude.{is_none}
use Rattle.bx_logic.proofs.Members.{Member, Member-map, Member-filter, Member-flat_map, Member-append_left, Member-append_right}
use Rattle.bx_logic.proofs.Ordered.{Member-range, Member-range_bounds}
use Rattle.bx_forms.specs.declared.side.Side.{Side}
use Rattle.bx_forms.specs.declared.side.Side.TheVariants.{Left, Right}
use Rattle.bx_grid.specs.declared.ratio.Ratio.{Ratio}
use Rattle.bx_grid.specs.Tiles.{tile_count, IsTile, y_of, below, border}
use Rattle.bx_layout.specs.Permits.{PermitTest}
use Rattle.bx_network.specs.Networks.{Network}
use Rattle.bx_encode.specs.declared.variable.Variable.TheVariants.{NodeOn, Taken, Used, EdgeOn}
use Rattle.bx_encode.specs.declared.rule.Rule.{Rule}
use Rattle.bx_encode.specs.declared.rule.Rule.TheVariants.{ComesFromAbove, GoesOnBelow, JoinsItsEnds, GoesOneWay, KeepsOffNodes}
use Rattle.bx_encode.specs.Formula.{place_clauses, border_clauses, way_clauses, formula}
use Rattle.bx_encode.specs.Variables.{border_count, is, isnt}
use Rattle.bx_encode.specs.Families.{Clause, each, pairs, nodes, edges, tiles, borders, stands_somewhere, stands_once, stands_apart, takes_its_tile, keeps_its_window, stays_on_grid, carries_once, is_used, rule_clauses, keeps_rule, is_permitted}
use Rattle.bx_encode.specs.Windows.{in_window}
use Rattle.bx_decode.specs.Meaning.{AreTrue}
use Rattle.bx_decode.proofs.Clauses.{SomeTrue, clause-true, some-map, IsOn, on-or-off, not-one, one-at-most}

numbered : (n k : ℕ) → k < n → Member k (range_with_len 0 n)
numbered n k low = Member-range 0 n k (omega arith) (omega arith)

-- of each of these clauses some literal is true
abbrev Say : List Bool → List Clause → Type 0
Say bits cs = (c : Clause) → Member c cs → SomeTrue bits c

before : (bits : List Bool) (xs ys : List Clause) → Say bits (xs ++ ys) → Say bits xs
before bits xs ys all = λ c own. all c (Member-append_left c xs ys own)

behind : (bits : List Bool) (xs ys : List Clause) → Say bits (xs ++ ys) → Say bits ys
behind bits xs ys all = λ c own. all c (Member-append_right c xs ys own)

module _ (N : Network) (permit : PermitTest) (r : Ratio) (bits : List Bool) (all : AreTrue N permit r bits) where
  -- ---- where the families stand in the formula

  whole : Say bits (place_clauses N r ++ border_clauses N r ++ way_clauses N r ++ is_permitted N r permit)
  unfolding formula
  whole c own = clause-true bits (place_clauses N r ++ border_clauses N r ++ way_clauses N r ++ is_permitted N r permit) c all own

  pub of-permitted : Say bits (is_permitted N r permit)
  of-permitted = behind bits (place_clauses N r ++ border_clauses N r ++ way_clauses N r) (is_permitted N r permit) whole

  but-forms : Say bits (place_clauses N r ++ border_clauses N r ++ way_clauses N r)
  but-forms = before bits (place_clauses N r ++ border_clauses N r ++ way_clauses N r) (is_permitted N r permit) whole

  of-ways : Say bits (way_clauses N r)
  of-ways = behind bits (place_clauses N r ++ border_clauses N r) (way_clauses N r) but-forms

  of-places : Say bits (place_clauses N r)
  of-places = before bits (place_clauses N r) (border_clauses N r) (before bits (place_clauses N r ++ border_clauses N r) (way_clauses N r) but-forms)

  of-borders : Say bits (border_clauses N r)
  of-borders = behind bits (place_clauses N r) (border_clauses N r) (before bits (place_clauses N r ++ border_clauses N r) (way_clauses N r) but-forms)

  of-window : Say bits (keeps_its_window N r)
  unfolding place_clauses
  of-window = behind bits (stands_somewhere N r ++ stands_once N r ++ stands_apart N r ++ takes_its_tile N r) (keeps_its_window N r) of-places

  but-window : Say bits (stands_somewhere N r ++ stands_once N r ++ stands_apart N r ++ takes_its_tile N r)
  unfolding place_clauses
  but-window = before bits (stands_somewhere N r ++ stands_once N r ++ stands_apart N r ++ takes_its_tile N r) (keeps_its_window N r) of-places

  of-taken : Say bits (takes_its_tile N r)
  of-taken = behind bits (stands_somewhere N r ++ stands_once N r ++ stands_apart N r) (takes_its_tile N r) but-window

  but-taken : Say bits (stands_somewhere N r ++ stands_once N r ++ stands_apart N r)
  but-taken = before bits (stands_somewhere N r ++ stands_once N r ++ stands_apart N r) (takes_its_tile N r) but-window

  of-apart : Say bits (stands_apart N r)
  of-apart = behind bits (stands_somewhere N r ++ stands_once N r) (stands_apart N r) but-taken

  of-once : Say bits (stands_once N r)
  of-once = behind bits (stands_somewhere N r) (stands_once N r) (before bits (stands_somewhere N r ++ stands_once N r) (stands_apart N r) but-taken)

  of-somewhere : Say bits (stands_somewhere N r)
  of-somewhere = before bits (stands_somewhere N r) (stands_once N r) (before bits (stands_somewhere N r ++ stands_once N r) (stands_apart N r) but-taken)

  of-used : Say bits (is_used N r)
  unfolding border_clauses
  of-used = behind bits (stays_on_grid N r ++ carries_once N r) (is_used N r) of-borders

  but-used : Say bits (stays_on_grid N r ++ carries_once N r)
  unfolding border_clauses
  but-used = before bits (stays_on_grid N r ++ carries_once N r) (is_used N r) of-borders

  of-carries : Say bits (carries_once N r)
  of-carries = behind bits (stays_on_grid N r) (carries_once N r) but-used

  of-stays : Say bits (stays_on_grid N r)
  of-stays = before bits (stays_on_grid N r) (carries_once N r) but-used

  -- those of the first two rules, three and four
  abbrev two : List Clause
  two = keeps_rule N r ComesFromAbove ++ keeps_rule N r GoesOnBelow

  abbrev three : List Clause
  three = two ++ keeps_rule N r JoinsItsEnds

  abbrev four : List Clause
  four = three ++ keeps_rule N r GoesOneWay

  of-ruled : (rule : Rule) → Say bits (keeps_rule N r rule)
  unfolding way_clauses
  of-ruled KeepsOffNodes = behind bits four (keeps_rule N r KeepsOffNodes) of-ways
  of-ruled GoesOneWay = behind bits three (keeps_rule N r GoesOneWay) (before bits four (keeps_rule N r KeepsOffNodes) of-ways)
  of-ruled JoinsItsEnds = behind bits two (keeps_rule N r JoinsItsEnds) (before bits three (keeps_rule N r GoesOneWay) (before bits four (keeps_rule N r KeepsOffNodes) of-ways))
  of-ruled GoesOnBelow = behind bits (keeps_rule N r ComesFromAbove) (keeps_rule N r GoesOnBelow) (before bits two (keeps_rule N r JoinsItsEnds) (before bits three (keeps_rule N r GoesOneWay) (before bits four (keeps_rule N r KeepsOffNodes) of-ways)))
  of-ruled ComesFromAbove = before bits (keeps_rule N r ComesFromAbove) (keeps_rule N r GoesOnBelow) (before bits two (keeps_rule N r JoinsItsEnds) (before bits three (keeps_rule N r GoesOneWay) (before bits four (keeps_rule N r KeepsOffNodes) of-ways)))

  in-rule : (rule : Rule) (t e : ℕ) (c : Clause) → IsTile r t → e < length N.edges → Member c (rule_clauses N r rule t e) → Member c (keeps_rule N r rule)
  unfolding keeps_rule
  in-rule rule t e c tile edge own =
      Member-flat_map (λ u. each (edges N r) (rule_clauses N r rule u)) t c (tiles N r) (numbered (tile_count r) t tile)
      (Member-flat_map (rule_clauses N r rule t) e c (edges N r) (numbered (length N.edges) e edge) own)

  pub of-rule : (rule : Rule) (t e : ℕ) (c : Clause) → IsTile r t → e < length N.edges → Member c (rule_clauses N r rule t e) → SomeTrue bits c
  of-rule rule t e c tile edge own = of-ruled rule c (in-rule rule t e c tile edge own)

  -- ---- what each family says

  pub somewhere : (v : ℕ) → v < length N.nodes → (t : ℕ) × IsTile r t × IsOn N r bits (NodeOn v t)
  unfolding stands_somewhere
  somewhere v node =
      let own = Member-map (λ w. map (λ t. is N r (NodeOn w t)) (tiles N r)) v (nodes N r) (numbered (length N.nodes) v node) in
      let (t, m, on) = some-map bits (λ t. is N r (NodeOn v t)) (tiles N r) (of-somewhere _ own) in
      let bounds = Member-range_bounds 0 (tile_count r) t m in
      (t, omega arith, on)

  pub once : (v t u : ℕ) → v < length N.nodes → IsTile r t → IsTile r u → IsOn N r bits (NodeOn v t) → IsOn N r bits (NodeOn v u) → t ≡ u
  unfolding stands_once
  once v t u node tile other a b =
      one-at-most N r bits (NodeOn v) (tile_count r)
      (λ c own. of-once c (Member-flat_map (λ w. pairs (map (λ s. isnt N r (NodeOn w s)) (tiles N r))) v c (nodes N r) (numbered (length N.nodes) v node) own)) t u tile other a b

  pub apart : (u v t : ℕ) → u < length N.nodes → v < length N.nodes → IsTile r t → IsOn N r bits (NodeOn u t) → IsOn N r bits (NodeOn v t) → u ≡ v
  unfolding stands_apart
  apart u v t node other tile a b =
      one-at-most N r bits (λ w. NodeOn w t) (length N.nodes)
      (λ c own. of-apart c (Member-flat_map (λ s. pairs (map (λ w. isnt N r (NodeOn w s)) (nodes N r))) t c (tiles N r) (numbered (tile_count r) t tile) own)) u v node other a b

  pub takes : (v t : ℕ) → v < length N.nodes → IsTile r t → IsOn N r bits (NodeOn v t) → IsOn N r bits (Taken t)
  unfolding takes_its_tile
  takes v t node tile on =
      says (of-taken _ (Member-flat_map (λ s. map (λ w. isnt N r (NodeOn w s) ∷ is N r (Taken s) ∷ []) (nodes N r)) t _ (tiles N r) (numbered (tile_count r) t tile)
      (Member-map (λ w. isnt N r (NodeOn w t) ∷ is N r (Taken t) ∷ []) v (nodes N r) (numbered (length N.nodes) v node))))
    where
      says : SomeTrue bits (isnt N r (NodeOn v t) ∷ is N r (Taken t) ∷ []) → IsOn N r bits (Taken t)
      says (inl off) = absurd (on-or-off N r bits (NodeOn v t) on off)
      says (inr (inl taken)) = taken
      says (inr (inr none)) = absurd none

  pub in-its-window : (v t : ℕ) → v < length N.nodes → IsTile r t → IsOn N r bits (NodeOn v t) → in_window N v (y_of r t) r.h ≡ true
  unfolding keeps_its_window
  in-its-window v t node tile on = elim (cases_Bool (in_window N v (y_of r t) r.h)) [
    | inl inside ↦ inside
    | inr outside ↦ absurd (not-one N r bits (NodeOn v t) (of-window _
        (Member-flat_map (λ w. map (λ s. isnt N r (NodeOn w s) ∷ []) (filter (λ s. not (in_window N w (y_of r s) r.h)) (tiles N r))) v _ (nodes N r) (numbered (length N.nodes) v node)
        (Member-map (λ s. isnt N r (NodeOn v s) ∷ []) t (filter (λ s. not (in_window N v (y_of r s) r.h)) (tiles N r))
        (Member-filter (λ s. not (in_window N v (y_of r s) r.h)) t (tiles N r) (ap not outside) (numbered (tile_count r) t tile))))) on)
  ]

  pub stays : (t e : ℕ) (side : Side) → IsTile r t → e < length N.edges → below r t side ≡ None → IsOn N r bits (EdgeOn e (border t side)) → ⊥
  unfolding stays_on_grid
  stays t e side tile edge off on =
      not-one N r bits (EdgeOn e (border t side)) (of-stays _
      (Member-flat_map (λ s. each (filter (λ a. is_none (below r s a)) (Left ∷ Right ∷ [])) (λ a. map (λ d. isnt N r (EdgeOn d (border s a)) ∷ []) (edges N r))) t _ (tiles N r) (numbered (tile_count r) t tile)
      (Member-flat_map (λ a. map (λ d. isnt N r (EdgeOn d (border t a)) ∷ []) (edges N r)) side _ (filter (λ a. is_none (below r t a)) (Left ∷ Right ∷ []))
      (Member-filter (λ a. is_none (below r t a)) side (Left ∷ Right ∷ []) (ap is_none off) (one-of side))
      (Member-map (λ d. isnt N r (EdgeOn d (border t side)) ∷ []) e (edges N r) (numbered (length N.edges) e edge))))) on
    where
      one-of : (a : Side) → Member a (Left ∷ Right ∷ [])
      one-of Left = inl refl
      one-of Right = inr (inl refl)

  pub carried-once : (e f b : ℕ) → e < length N.edges → f < length N.edges → b < border_count r → IsOn N r bits (EdgeOn e b) → IsOn N r bits (EdgeOn f b) → e ≡ f
  unfolding carries_once
  carried-once e f b edge other inside x y =
      one-at-most N r bits (λ d. EdgeOn d b) (length N.edges)
      (λ c own. of-carries c (Member-flat_map (λ a. pairs (map (λ d. isnt N r (EdgeOn d a)) (edges N r))) b c (borders N r) (numbered (border_count r) b inside) own)) e f edge other x y

  in-used : (b : ℕ) (c : Clause) → b < border_count r → Member c (map (λ e. is N r (Used b) ∷ isnt N r (EdgeOn e b) ∷ []) (edges N r) ++ (isnt N r (Used b) ∷ map (λ e. is N r (EdgeOn e b)) (edges N r)) ∷ []) → SomeTrue bits c
  unfolding is_used
  in-used b c inside own =
      of-used c (Member-flat_map (λ a. map (λ e. is N r (Used a) ∷ isnt N r (EdgeOn e a) ∷ []) (edges N r) ++ (isnt N r (Used a) ∷ map (λ e. is N r (EdgeOn e a)) (edges N r)) ∷ []) b c (borders N r) (numbered (border_count r) b inside) own)

  pub uses-it : (e b : ℕ) → e < length N.edges → b < border_count r → IsOn N r bits (EdgeOn e b) → IsOn N r bits (Used b)
  uses-it e b edge inside on =
      says (in-used b _ inside (Member-append_left _ (map (λ d. is N r (Used b) ∷ isnt N r (EdgeOn d b) ∷ []) (edges N r)) ((isnt N r (Used b) ∷ map (λ d. is N r (EdgeOn d b)) (edges N r)) ∷ [])
      (Member-map (λ d. is N r (Used b) ∷ isnt N r (EdgeOn d b) ∷ []) e (edges N r) (numbered (length N.edges) e edge))))
    where
      says : SomeTrue bits (is N r (Used b) ∷ isnt N r (EdgeOn e b) ∷ []) → IsOn N r bits (Used b)
      says (inl used) = used
      says (inr h) = absurd (not-one N r bits (EdgeOn e b) h on)

  pub used-by : (b : ℕ) → b < border_count r → IsOn N r bits (Used b) → (e : ℕ) × (e < length N.edges) × IsOn N r bits (EdgeOn e b)
  used-by b inside used =
      says (in-used b _ inside (Member-append_right _ (map (λ d. is N r (Used b) ∷ isnt N r (EdgeOn d b) ∷ []) (edges N r)) ((isnt N r (Used b) ∷ map (λ d. is N r (EdgeOn d b)) (edges N r)) ∷ []) (inl refl)))
    where
      says : SomeTrue bits (isnt N r (Used b) ∷ map (λ d. is N r (EdgeOn d b)) (edges N r)) → (e : ℕ) × (e < length N.edges) × IsOn N r bits (EdgeOn e b)
      says (inl off) = absurd (on-or-off N r bits (Used b) used off)
      says (inr h) =
          let (e, m, on) = some-map bits (λ d. is N r (EdgeOn d b)) (edges N r) h in
          let bounds = Member-range_bounds 0 (length N.edges) e m in
          (e, omega arith, on)
