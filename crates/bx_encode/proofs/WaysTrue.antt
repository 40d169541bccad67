-- The bits of a legal layout make the clauses on how edges go through tiles true.
use Rattle.std.proofs.Common.{ℕ, ◌*◌, ◌+◌, ◌<◌, List, [], ◌∷◌, ◌++◌, map, length, Bool, Contains, inl, inr}
use Rattle.bx_cnf.specs.Formulas.{IsClauseTrue, AllTrue}
use Rattle.bx_grid.specs.Tiles.{tile_count, IsTile}
use Rattle.bx_network.specs.Networks.{Network, IsNetwork}
use Rattle.bx_layout.specs.declared.layout.Layout.{Layout}
use Rattle.bx_layout.specs.Legal.{IsLegal}
use Rattle.bx_layout.specs.Permits.{PermitTest}
use Rattle.bx_encode.specs.Bits.{AreBitsOf}
use Rattle.bx_encode.specs.Families.{Clause, each, edges, tiles, source, target, entries, exits, on_some, pairs, rule_clauses, keeps_rule}
use Rattle.bx_encode.specs.Variables.{border_count, is, isnt}
use Rattle.bx_encode.specs.declared.rule.Rule.{Rule}
use Rattle.bx_encode.specs.declared.rule.Rule.TheVariants.{ComesFromAbove, GoesOnBelow, JoinsItsEnds, GoesOneWay, KeepsOffNodes}
use Rattle.bx_encode.specs.declared.variable.Variable.TheVariants.{NodeOn, Taken, EdgeOn}
use Rattle.bx_encode.proofs.Entering.{Climbs, entries-climb, exits-climb, entry-in, exit-in}
use Rattle.bx_encode.proofs.Truths.{range-within, clause-first, clause-rest, clause-item, all-one, all-more, all-append, all-map, all-each, all-pairs, is-true, if-holds, if-fails, if-holds-last, not-both}
use Rattle.bx_encode.proofs.WaysOn.{IsOnSome, GoesThrough, through-source, through-target, source-low, target-low}

-- an end of edge e and tile t: the edge goes through as it should, and all of which the clauses speak is there
record IsEnd (N : Network) (L : Layout) (t e end : ℕ) (own others : List ℕ) : Type 0 where
  tile : IsTile L.ratio t
  edge : e < length N.edges
  node : end < length N.nodes
  mine : (b : ℕ) → Contains own b → b < border_count L.ratio
  theirs : (b : ℕ) → Contains others b → b < border_count L.ratio
  low : ℕ
  high : ℕ
  climbs : Climbs low high own
  through : GoesThrough L t e end own others

-- the clauses that speak of one end, as lists
abbrev on_once : Network → Layout → ℕ → List ℕ → List Clause
on_once N L e bs = pairs (map (λ b. isnt N L.ratio (EdgeOn e b)) bs)

abbrev off_others : Network → Layout → ℕ → ℕ → ℕ → List ℕ → List Clause
off_others N L t e end bs = map (λ x. isnt N L.ratio (NodeOn end t) ∷ isnt N L.ratio (EdgeOn e x) ∷ []) bs

abbrev off_taken : Network → Layout → ℕ → ℕ → ℕ → List ℕ → List Clause
off_taken N L t e end bs = map (λ x. is N L.ratio (NodeOn end t) ∷ isnt N L.ratio (Taken t) ∷ isnt N L.ratio (EdgeOn e x) ∷ []) bs

module _ (N : Network) (L : Layout) (bits : List Bool) (are : AreBitsOf N L bits) (t e end : ℕ) (own others : List ℕ) (at : IsEnd N L t e end own others) where
  some-true : (bs : List ℕ) → ((b : ℕ) → Contains bs b → b < border_count L.ratio) → IsOnSome L e bs → IsClauseTrue bits (on_some N L.ratio e bs)
  some-true bs within (b, one, on) = clause-item bits (λ c. is N L.ratio (EdgeOn e c)) bs b one ((is-true N L bits are (EdgeOn e b) (at.edge, within b one)).1 on)

  -- where it is on one of its own borders, the end is there, or it is on one of the others
  begun-last : (x : ℕ) → Contains own x → IsClauseTrue bits (is N L.ratio (NodeOn end t) ∷ on_some N L.ratio e others ++ isnt N L.ratio (EdgeOn e x) ∷ [])
  begun-last x one = if-holds-last N L bits are (EdgeOn e x) (at.edge, at.mine x one) (is N L.ratio (NodeOn end t) ∷ on_some N L.ratio e others) (λ on. elim (at.through.begun (x, one, on)) [
    | inl stands ↦ clause-first bits (is N L.ratio (NodeOn end t)) (on_some N L.ratio e others) ((is-true N L bits are (NodeOn end t) (at.node, at.tile)).1 stands)
    | inr some ↦ clause-rest bits (is N L.ratio (NodeOn end t)) (on_some N L.ratio e others) (some-true others at.theirs some)
  ])

  begun-first : (x : ℕ) → Contains own x → IsClauseTrue bits (is N L.ratio (NodeOn end t) ∷ isnt N L.ratio (EdgeOn e x) ∷ on_some N L.ratio e others)
  begun-first x one =
      if-fails N L bits are (NodeOn end t) (at.node, at.tile) (isnt N L.ratio (EdgeOn e x) ∷ on_some N L.ratio e others) (λ away.
      if-holds N L bits are (EdgeOn e x) (at.edge, at.mine x one) (on_some N L.ratio e others) (λ on. elim (at.through.begun (x, one, on)) [
        | inl stands ↦ absurd (away stands)
        | inr some ↦ some-true others at.theirs some
      ]))

  -- where the end is, it is on one of its own
  there-some : IsClauseTrue bits (isnt N L.ratio (NodeOn end t) ∷ on_some N L.ratio e own)
  there-some = if-holds N L bits are (NodeOn end t) (at.node, at.tile) (on_some N L.ratio e own) (λ stands. some-true own at.mine (at.through.there stands))

  -- it is on one of them at most, and where the end is on none of the others
  once-true : AllTrue bits (on_once N L e own)
  once-true = all-pairs bits (λ b. isnt N L.ratio (EdgeOn e b)) at.low at.high own at.climbs
      (λ a b p q less. not-both N L bits are (EdgeOn e a) (EdgeOn e b) (at.edge, at.mine a p) (at.edge, at.mine b q) (at.through.once a b p q less))

  others-true : AllTrue bits (off_others N L t e end others)
  others-true = all-map bits (λ x. isnt N L.ratio (NodeOn end t) ∷ isnt N L.ratio (EdgeOn e x) ∷ []) others
      (λ x one. not-both N L bits are (NodeOn end t) (EdgeOn e x) (at.node, at.tile) (at.edge, at.theirs x one) (λ stands on. at.through.not_others stands (x, one, on)))

  -- where a node is, it is on its own only if the end is there
  taken-true : AllTrue bits (off_taken N L t e end own)
  taken-true = all-map bits (λ x. is N L.ratio (NodeOn end t) ∷ isnt N L.ratio (Taken t) ∷ isnt N L.ratio (EdgeOn e x) ∷ []) own
      (λ x one. if-fails N L bits are (NodeOn end t) (at.node, at.tile) (isnt N L.ratio (Taken t) ∷ isnt N L.ratio (EdgeOn e x) ∷ []) (λ away.
      not-both N L bits are (Taken t) (EdgeOn e x) at.tile (at.edge, at.mine x one) (λ (v, stands) on. away (at.through.alone v stands (x, one, on)))))

module _ (N : Network) (permit : PermitTest) (L : Layout) (network : IsNetwork N) (legal : IsLegal N permit L) (bits : List Bool) (are : AreBitsOf N L bits) where
  source-end : (t e : ℕ) → IsTile L.ratio t → e < length N.edges → IsEnd N L t e (source N L.ratio e) (exits N L.ratio t) (entries N L.ratio t)
  source-end t e tile edge = record {
    tile = tile;
    edge = edge;
    node = source-low N permit L network legal t e tile edge;
    mine = λ b one. exit-in N L.ratio t b tile one;
    theirs = λ b one. entry-in N L.ratio t b tile one;
    low = 2 * t;
    high = 2 * t + 2;
    climbs = exits-climb N L.ratio t;
    through = through-source N permit L network legal t e tile edge;
  }

  target-end : (t e : ℕ) → IsTile L.ratio t → e < length N.edges → IsEnd N L t e (target N L.ratio e) (entries N L.ratio t) (exits N L.ratio t)
  target-end t e tile edge = record {
    tile = tile;
    edge = edge;
    node = target-low N permit L network legal t e tile edge;
    mine = λ b one. entry-in N L.ratio t b tile one;
    theirs = λ b one. exit-in N L.ratio t b tile one;
    low = 0;
    high = 2 * t;
    climbs = entries-climb N L.ratio t;
    through = through-target N permit L network legal t e tile edge;
  }

  both-true : (rule : Rule) (t e : ℕ) → IsEnd N L t e (source N L.ratio e) (exits N L.ratio t) (entries N L.ratio t) → IsEnd N L t e (target N L.ratio e) (entries N L.ratio t) (exits N L.ratio t) → AllTrue bits (rule_clauses N L.ratio rule t e)
  unfolding rule_clauses
  both-true ComesFromAbove t e from to =
      let v = source N L.ratio e in
      let xs = entries N L.ratio t in
      let ys = exits N L.ratio t in
      all-map bits (λ y. is N L.ratio (NodeOn v t) ∷ on_some N L.ratio e xs ++ isnt N L.ratio (EdgeOn e y) ∷ []) ys (begun-last N L bits are t e v ys xs from)
  both-true GoesOnBelow t e from to =
      let v = target N L.ratio e in
      let xs = entries N L.ratio t in
      let ys = exits N L.ratio t in
      all-map bits (λ x. is N L.ratio (NodeOn v t) ∷ isnt N L.ratio (EdgeOn e x) ∷ on_some N L.ratio e ys) xs (begun-first N L bits are t e v xs ys to)
  both-true JoinsItsEnds t e from to =
      let u = source N L.ratio e in
      let v = target N L.ratio e in
      let xs = entries N L.ratio t in
      let ys = exits N L.ratio t in
      all-more bits (isnt N L.ratio (NodeOn u t) ∷ on_some N L.ratio e ys) ((isnt N L.ratio (NodeOn v t) ∷ on_some N L.ratio e xs) ∷ []) (there-some N L bits are t e u ys xs from)
      (all-one bits (isnt N L.ratio (NodeOn v t) ∷ on_some N L.ratio e xs) (there-some N L bits are t e v xs ys to))
  both-true GoesOneWay t e from to =
      let u = source N L.ratio e in
      let v = target N L.ratio e in
      let xs = entries N L.ratio t in
      let ys = exits N L.ratio t in
      all-append bits (on_once N L e ys ++ on_once N L e xs ++ off_others N L t e u xs) (off_others N L t e v ys)
      (all-append bits (on_once N L e ys ++ on_once N L e xs) (off_others N L t e u xs)
      (all-append bits (on_once N L e ys) (on_once N L e xs) (once-true N L bits are t e u ys xs from) (once-true N L bits are t e v xs ys to))
      (others-true N L bits are t e u ys xs from))
      (others-true N L bits are t e v xs ys to)
  both-true KeepsOffNodes t e from to =
      let u = source N L.ratio e in
      let v = target N L.ratio e in
      let xs = entries N L.ratio t in
      let ys = exits N L.ratio t in
      all-append bits (off_taken N L t e u ys) (off_taken N L t e v xs) (taken-true N L bits are t e u ys xs from) (taken-true N L bits are t e v xs ys to)

  -- families 9 to 13
  pub keeps_rule-true : (rule : Rule) → AllTrue bits (keeps_rule N L.ratio rule)
  unfolding keeps_rule
  keeps_rule-true rule =
      all-each bits (tiles N L.ratio) (λ t. each (edges N L.ratio) (rule_clauses N L.ratio rule t)) (λ t own.
      all-each bits (edges N L.ratio) (rule_clauses N L.ratio rule t) (λ e one.
      let tile = range-within (tile_count L.ratio) t own in
      let edge = range-within (length N.edges) e one in
      both-true rule t e (source-end t e tile edge) (target-end t e tile edge)))
