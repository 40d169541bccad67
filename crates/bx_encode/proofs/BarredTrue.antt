-- The bits of a layout that is legal under a permit make the clauses against the other forms true.
use Rattle.std.proofs.Common.{◌≡◌, ℕ, ◌+◌, ◌*◌, ◌<◌, ◌⊎◌, Bool, true, not, List, [], ◌∷◌, ◌++◌, map, filter, length, slice_get, Option, Some, None, is_some, inl, inr, refl, sym, ap, ◌∙◌, subst, arith}
use Rattle.std.specs.Prelude.{IsSome}
use Rattle.std.specs.List.{range_with_len}
use Rattle.std.proofs.lemmas.Bool.{false≢true}
use Rattle.bx_cnf.specs.Literals.{IsLiteralTrue}
use Rattle.bx_cnf.specs.Formulas.{IsClauseTrue, AllTrue}
use Rattle.bx_forms.specs.declared.kind.Kind.{Kind}
use Rattle.bx_forms.specs.declared.kind.Kind.TheVariants.{Output, Not, Fan}
use Rattle.bx_forms.specs.declared.side.Side.{Side}
use Rattle.bx_forms.specs.declared.side.Side.TheVariants.{Left, Right}
use Rattle.bx_forms.specs.declared.table.TheConstants.{FORMS}
use Rattle.bx_forms.specs.FormTable.{place}
use Rattle.bx_forms.specs.Forms.{IsForm, form_node, form_upper, form_lower}
use Rattle.bx_forms.specs.Kinds.{operands, slots}
use Rattle.bx_forms.specs.Sides.{opposite, is_used}
use Rattle.bx_grid.specs.Tiles.{tile_count, IsTile, border, entering}
use Rattle.bx_network.specs.Networks.{Network, IsNetwork}
use Rattle.bx_network.proofs.Lists.{got-at}
use Rattle.bx_layout.specs.declared.layout.Layout.{Layout}
use Rattle.bx_layout.specs.Layouts.{Stands, IsFree, edge_on, enters, leaves}
use Rattle.bx_layout.specs.Legal.{IsLegal}
use Rattle.bx_layout.specs.Permits.{PermitTest}
use Rattle.bx_layout.specs.TileForms.{upper_sides, lower_sides, on_side, HasForm}
use Rattle.bx_layout.proofs.Balances.{find-place}
use Rattle.bx_layout.proofs.OnTiles.{some-of}
use Rattle.bx_encode.specs.Bits.{AreBitsOf}
use Rattle.bx_encode.specs.Families.{Clause, each, nodes, edges, tiles, list_of, has_kind, used_side, bars_node, not_alone, bars_wire, bars_two, bars, is_permitted}
use Rattle.bx_encode.specs.Variables.{border_count, is, isnt}
use Rattle.bx_encode.specs.declared.variable.Variable.TheVariants.{NodeOn, Taken, Used, EdgeOn}
use Rattle.bx_encode.proofs.Barring.{entering-in, holding-is}
use Rattle.bx_encode.proofs.BarredForms.{AreBarsOf, kind-is, upper-used, lower-used, node-has, wire-has, two-has, free-bars}
use Rattle.bx_encode.proofs.Truths.{range-within, filter-cases, clause-first, clause-rest, clause-left, clause-right, all-one, all-map, all-each, is-true, isnt-true, holds-or-not, if-holds, if-fails, not-both}
use Rattle.bx_encode.proofs.WaysOn.{list_of-is, entered, enters-by, not-through}

none-unless : (o : Option ℕ) → (is_some o ≡ true → ⊥) → o ≡ None
none-unless None h = refl
none-unless (Some e) h = absurd (h refl)

module _ (N : Network) (permit : PermitTest) (L : Layout) (network : IsNetwork N) (legal : IsLegal N permit L) (bits : List Bool) (are : AreBitsOf N L bits) where
  module _ (t : ℕ) (tile : IsTile L.ratio t) where
    -- ---- the borders around the tile

    entry-low : (a : ℕ) (side : Side) → entering L.ratio t side ≡ Some a → a < border_count L.ratio
    entry-low a side is = let low = entering-in L.ratio t a side is in omega arith

    exit-low : (side : Side) → border t side < border_count L.ratio
    exit-low Left = omega arith
    exit-low Right = omega arith

    entry-used : (a : ℕ) (side : Side) → entering L.ratio t side ≡ Some a → IsSome (edge_on L a) → is_used (upper_sides L t) side ≡ true
    entry-used a side is used = upper-used L t side ∙ ap is_some (enters-by L t a side is) ∙ used

    -- ---- against the form of a node

    above-true : (v : ℕ) (upper : Side) → v < length N.nodes → (Stands L v t → is_used (upper_sides L t) upper ≡ true → ⊥) →
        AllTrue bits (map (λ a. isnt N L.ratio (NodeOn v t) ∷ isnt N L.ratio (Used a) ∷ []) (list_of (entering L.ratio t upper)))
    above-true v upper node refuse =
        all-map bits (λ a. isnt N L.ratio (NodeOn v t) ∷ isnt N L.ratio (Used a) ∷ []) (list_of (entering L.ratio t upper)) (λ a own.
        let at = list_of-is (entering L.ratio t upper) a own in
        not-both N L bits are (NodeOn v t) (Used a) (node, tile) (entry-low a upper at) (λ stands used. refuse stands (entry-used a upper at used)))

    below-true : (v : ℕ) (lower : Side) → v < length N.nodes → (Stands L v t → is_used (lower_sides L t) lower ≡ true → ⊥) →
        AllTrue bits ((isnt N L.ratio (NodeOn v t) ∷ isnt N L.ratio (Used (border t lower)) ∷ []) ∷ [])
    below-true v lower node refuse =
        all-one bits (isnt N L.ratio (NodeOn v t) ∷ isnt N L.ratio (Used (border t lower)) ∷ [])
        (not-both N L bits are (NodeOn v t) (Used (border t lower)) (node, tile) (exit-low lower) (λ stands used. refuse stands (lower-used L t lower ∙ used)))

    bars_node-true : (kind : Kind) (v : ℕ) (upper lower : Side) → v < length N.nodes →
        (Stands L v t → (operands kind ≡ 1 → is_used (upper_sides L t) upper ≡ true) → (slots kind ≡ 1 → is_used (lower_sides L t) lower ≡ true) → ⊥) →
        AllTrue bits (bars_node N L.ratio t upper lower kind v)
    bars_node-true Output v upper lower node refuse = above-true v upper node (λ stands used. refuse stands (λ one. used) (λ one. absurd (omega arith)))
    bars_node-true Fan v upper lower node refuse = above-true v upper node (λ stands used. refuse stands (λ one. used) (λ one. absurd (omega arith)))
    bars_node-true Not v upper lower node refuse =
        all-map bits (λ a. isnt N L.ratio (NodeOn v t) ∷ isnt N L.ratio (Used a) ∷ isnt N L.ratio (Used (border t lower)) ∷ []) (list_of (entering L.ratio t upper)) (λ a own.
        let at = list_of-is (entering L.ratio t upper) a own in
        if-holds N L bits are (NodeOn v t) (node, tile) (isnt N L.ratio (Used a) ∷ isnt N L.ratio (Used (border t lower)) ∷ []) (λ stands.
        not-both N L bits are (Used a) (Used (border t lower)) (entry-low a upper at) (exit-low lower)
        (λ above below. refuse stands (λ one. entry-used a upper at above) (λ one. lower-used L t lower ∙ below))))
    bars_node-true kind v upper lower node refuse = below-true v lower node (λ stands used. refuse stands (λ one. absurd (omega arith)) (λ one. used))

    -- ---- against a wire

    alone-by : (side : Side) (b : ℕ) (others : List ℕ) → IsLiteralTrue bits (isnt N L.ratio (Used b)) ⊎ IsClauseTrue bits (map (λ o. is N L.ratio (Used o)) others) →
        IsClauseTrue bits (not_alone N L.ratio side b others)
    alone-by Left b others (inl off) = clause-first bits (isnt N L.ratio (Used b)) (map (λ o. is N L.ratio (Used o)) others) off
    alone-by Left b others (inr some) = clause-rest bits (isnt N L.ratio (Used b)) (map (λ o. is N L.ratio (Used o)) others) some
    alone-by Right b others (inl off) =
        clause-right bits (map (λ o. is N L.ratio (Used o)) others) (isnt N L.ratio (Used b) ∷ []) (clause-first bits (isnt N L.ratio (Used b)) [] off)
    alone-by Right b others (inr some) = clause-left bits (map (λ o. is N L.ratio (Used o)) others) (isnt N L.ratio (Used b) ∷ []) some

    -- what is asked holds, or of the two borders this one alone is used
    alone-or : (side : Side) (b : ℕ) (other : Option ℕ) → b < border_count L.ratio → ((o : ℕ) → other ≡ Some o → o < border_count L.ratio) →
        IsClauseTrue bits (not_alone N L.ratio side b (list_of other)) ⊎ (IsSome (edge_on L b) × ((o : ℕ) → other ≡ Some o → IsSome (edge_on L o) → ⊥))
    alone-or side b other low lows = elim (holds-or-not N L bits are (Used b) low) [
      | inl used ↦ beside other lows used
      | inr off ↦ inl (alone-by side b (list_of other) (inl ((isnt-true N L bits are (Used b) low).1 off)))
    ]
      where
        beside : (p : Option ℕ) → ((o : ℕ) → p ≡ Some o → o < border_count L.ratio) → IsSome (edge_on L b) →
            IsClauseTrue bits (not_alone N L.ratio side b (list_of p)) ⊎ (IsSome (edge_on L b) × ((o : ℕ) → p ≡ Some o → IsSome (edge_on L o) → ⊥))
        beside None within used = inr (used, λ o e. absurd (cc))
        beside (Some p) within used = elim (holds-or-not N L bits are (Used p) (within p refl)) [
          | inl also ↦ inl (alone-by side b (p ∷ []) (inr (clause-first bits (is N L.ratio (Used p)) [] ((is-true N L bits are (Used p) (within p refl)).1 also))))
          | inr off ↦ inr (used, λ o e also. off (subst (λ (n : ℕ). IsSome (edge_on L n)) (let same : o ≡ p = cc in same) also))
        ]

    wire-true : (upper lower : Side) → (HasForm N L t (4 + 2 * place upper + place lower) → ⊥) → AllTrue bits (bars_wire N L.ratio t upper lower)
    wire-true upper lower refuse = all-map bits (λ a. is N L.ratio (Taken t) ∷ above a ++ below) (list_of (entering L.ratio t upper)) (λ a own.
        let at = list_of-is (entering L.ratio t upper) a own in
        if-fails N L bits are (Taken t) tile (above a ++ below) (λ none. elim (alone-or upper a (entering L.ratio t (opposite upper)) (entry-low a upper at) (λ o e. entry-low o (opposite upper) e)) [
          | inl first ↦ clause-left bits (above a) below first
          | inr (used, off) ↦ elim (alone-or lower (border t lower) (Some (border t (opposite lower))) (exit-low lower) exit-there) [
            | inl second ↦ clause-right bits (above a) below second
            | inr (out, beside) ↦ absurd (refuse (there (λ v stands. none (v, stands)) out off beside))
          ]
        ]))
      where
        above : ℕ → Clause
        above a = not_alone N L.ratio upper a (list_of (entering L.ratio t (opposite upper)))

        below : Clause
        below = not_alone N L.ratio lower (border t lower) (border t (opposite lower) ∷ [])

        exit-there : (o : ℕ) → Some (border t (opposite lower)) ≡ Some o → o < border_count L.ratio
        exit-there o e = subst (λ (n : ℕ). n < border_count L.ratio) (let same : border t (opposite lower) ≡ o = cc in same) (exit-low (opposite lower))

        there : IsFree L t → IsSome (leaves L t lower) → ((o : ℕ) → entering L.ratio t (opposite upper) ≡ Some o → IsSome (edge_on L o) → ⊥) →
            ((o : ℕ) → Some (border t (opposite lower)) ≡ Some o → IsSome (edge_on L o) → ⊥) → HasForm N L t (4 + 2 * place upper + place lower)
        there free out off beside =
            let (e, go) = some-of (leaves L t lower) out in
            wire-has N permit L network legal t tile free upper lower e go
            (none-unless (enters L t (opposite upper)) (λ h.
            let (f, come) = some-of (enters L t (opposite upper)) h in
            let (b, is, on) = entered L t f (opposite upper) come in
            off b is (ap is_some on)))
            (none-unless (leaves L t (opposite lower)) (λ h. beside (border t (opposite lower)) refl h))

    -- ---- against the double and the cross

    two-true : (lower : Side) → (HasForm N L t (on_side 26 27 lower) → ⊥) → AllTrue bits (bars_two N L.ratio t lower)
    two-true lower refuse =
        all-each bits (list_of (entering L.ratio t Left)) (λ a. each (list_of (entering L.ratio t Right)) (λ b. map (clause a b) (edges N L.ratio))) (λ a one.
        all-each bits (list_of (entering L.ratio t Right)) (λ b. map (clause a b) (edges N L.ratio)) (λ b other.
        all-map bits (clause a b) (edges N L.ratio) (λ e own.
        clause-true a b e (list_of-is (entering L.ratio t Left) a one) (list_of-is (entering L.ratio t Right) b other) (range-within (length N.edges) e own))))
      where
        clause : ℕ → ℕ → ℕ → Clause
        clause a b e = isnt N L.ratio (Used b) ∷ isnt N L.ratio (EdgeOn e a) ∷ isnt N L.ratio (EdgeOn e (border t lower)) ∷ []

        there : (e f : ℕ) → e < length N.edges → enters L t Left ≡ Some e → leaves L t lower ≡ Some e → enters L t Right ≡ Some f → HasForm N L t (on_side 26 27 lower)
        there e f edge come out other = elim (find-place L.places t) [
          | inl (v, stands) ↦ (let at = got-at N.edges e edge in absurd (not-through N permit L network legal t e at.item tile at.at v stands (Left, come) (lower, out)))
          | inr free ↦ two-has N permit L network legal t tile free lower e f come out other
        ]

        clause-true : (a b e : ℕ) → entering L.ratio t Left ≡ Some a → entering L.ratio t Right ≡ Some b → e < length N.edges → IsClauseTrue bits (clause a b e)
        clause-true a b e left right edge =
            if-holds N L bits are (Used b) (entry-low b Right right) (isnt N L.ratio (EdgeOn e a) ∷ isnt N L.ratio (EdgeOn e (border t lower)) ∷ []) (λ used.
            not-both N L bits are (EdgeOn e a) (EdgeOn e (border t lower)) (edge, entry-low a Left left) (edge, exit-low lower) (λ come out.
            let (f, other) = some-of (edge_on L b) used in
            refuse (there e f edge (enters-by L t a Left left ∙ come) out (enters-by L t b Right right ∙ other))))

    -- ---- against any form

    bars-true : (form : ℕ) → IsForm form → (HasForm N L t form → ⊥) → AllTrue bits (bars N L.ratio t form)
    bars-true form inside refuse = by (form_node form) refl
      where
        through : AreBarsOf N L.ratio t form → AllTrue bits (bars N L.ratio t form)
        through (inl (upper, lower, same, number)) = subst (AllTrue bits) (sym same) (wire-true upper lower (λ has. refuse (subst (HasForm N L t) (sym number) has)))
        through (inr (lower, same, number)) = subst (AllTrue bits) (sym same) (two-true lower (λ has. refuse (subst (HasForm N L t) (sym number) has)))

        by : (o : Option Kind) → form_node form ≡ o → AllTrue bits (bars N L.ratio t form)
        by None e = through (free-bars N L.ratio t form inside e)
        by (Some kind) e = subst (AllTrue bits) (sym (holding-is N L.ratio t form kind e))
            (all-each bits (filter (λ v. has_kind kind (slice_get N.nodes v)) (nodes N L.ratio)) (bars_node N L.ratio t (used_side (form_upper form)) (used_side (form_lower form)) kind) (λ v own.
            let (one, passes) = filter-cases (λ v. has_kind kind (slice_get N.nodes v)) (nodes N L.ratio) v own in
            let low = range-within (length N.nodes) v one in
            let (node, at, same) = kind-is kind (slice_get N.nodes v) passes in
            bars_node-true kind v (used_side (form_upper form)) (used_side (form_lower form)) low (λ stands above below.
            refuse (node-has N permit L network legal t tile v form node at stands (e ∙ ap Some (sym same)) (λ one. above (ap operands (sym same) ∙ one)) (λ one. below (ap slots (sym same) ∙ one))))))

  -- family 14
  pub is_permitted-true : AllTrue bits (is_permitted N L.ratio permit)
  unfolding is_permitted
  is_permitted-true =
      all-each bits (tiles N L.ratio) (λ t. each (filter (λ form. not (permit L.ratio t form)) (range_with_len 0 (length FORMS))) (bars N L.ratio t)) (λ t own.
      all-each bits (filter (λ form. not (permit L.ratio t form)) (range_with_len 0 (length FORMS))) (bars N L.ratio t) (λ form one.
      let (low, passes) = filter-cases (λ form. not (permit L.ratio t form)) (range_with_len 0 (length FORMS)) form one in
      let tile = range-within (tile_count L.ratio) t own in
      bars-true t tile form (range-within (length FORMS) form low) (λ has. false≢true (sym (ap not (legal.permitted t form tile has)) ∙ passes))))
