-- How an edge goes through a tile of a legal layout, in the words of the clauses on it: by the borders that enter
-- the tile and those that leave it. What holds of its source and what leaves holds of its target and what enters.
use Rattle.std.proofs.Common.{◌≡◌, ℕ, zero, suc, ◌<◌, ◌⊎◌, List, [], ◌∷◌, length, map, slice_get, Option, Some, None, Contains, inl, inr, refl, sym, ap, ◌∙◌, subst, arith}
use Rattle.std.specs.Prelude.{option_and_then, slice_index}
use Rattle.std.proofs.lemmas.List.Elements.{Contains-append_left, Contains-append_right, Contains-append_cases}
use Rattle.bx_logic.proofs.Members.{Member, Member-from_contains}
use Rattle.bx_forms.specs.declared.side.Side.{Side}
use Rattle.bx_forms.specs.declared.side.Side.TheVariants.{Left, Right}
use Rattle.bx_grid.specs.declared.ratio.Ratio.{Ratio}
use Rattle.bx_grid.specs.Tiles.{IsTile, border, entering}
use Rattle.bx_network.specs.declared.node.Edge.{Edge}
use Rattle.bx_network.specs.Networks.{Network, IsNetwork}
use Rattle.bx_network.proofs.Lists.{got-at}
use Rattle.bx_layout.specs.declared.layout.Layout.{Layout}
use Rattle.bx_layout.specs.Layouts.{Stands, edge_on, enters, leaves}
use Rattle.bx_layout.specs.Legal.{IsLegal, IsOf}
use Rattle.bx_layout.specs.Permits.{PermitTest}
use Rattle.bx_layout.proofs.Balances.{one-cases, in-some, out-some, side-in, side-out, edge-forward, edge-within, at-source, at-target, at-other, in-apart, out-apart}
use Rattle.bx_encode.specs.Families.{source, target, list_of, entries, exits}

-- ---- the borders of a tile, by their sides

list_of-own : (o : Option ℕ) (b : ℕ) → o ≡ Some b → Contains (list_of o) b
list_of-own None b e = absurd (cc)
list_of-own (Some a) b e = (0, omega arith, let same : a ≡ b = cc in same)

pub list_of-is : (o : Option ℕ) (b : ℕ) → Contains (list_of o) b → o ≡ Some b
list_of-is o b own = on o (Member-from_contains b (list_of o) own)
  where
    on : (p : Option ℕ) → Member b (list_of p) → p ≡ Some b
    on None h = absurd h
    on (Some a) (inl e) = ap Some e
    on (Some a) (inr h) = absurd h

entry-own : (N : Network) (r : Ratio) (t b : ℕ) (side : Side) → entering r t side ≡ Some b → Contains (entries N r t) b
entry-own N r t b Left e = Contains-append_left (list_of (entering r t Left)) (list_of (entering r t Right)) b (list_of-own (entering r t Left) b e)
entry-own N r t b Right e = Contains-append_right (list_of (entering r t Left)) (list_of (entering r t Right)) b (list_of-own (entering r t Right) b e)

entry-side : (N : Network) (r : Ratio) (t b : ℕ) → Contains (entries N r t) b → (side : Side) × (entering r t side ≡ Some b)
entry-side N r t b own = elim (Contains-append_cases (list_of (entering r t Left)) (list_of (entering r t Right)) b own) [
  | inl l ↦ (Left, list_of-is (entering r t Left) b l)
  | inr h ↦ (Right, list_of-is (entering r t Right) b h)
]

exit-own : (N : Network) (r : Ratio) (t : ℕ) (side : Side) → Contains (exits N r t) (border t side)
exit-own N r t Left = (0, omega arith, refl)
exit-own N r t Right = (1, omega arith, refl)

exit-side : (N : Network) (r : Ratio) (t b : ℕ) → Contains (exits N r t) b → (side : Side) × (border t side ≡ b)
exit-side N r t b own = on (Member-from_contains b (exits N r t) own)
  where
    on : Member b (exits N r t) → (side : Side) × (border t side ≡ b)
    on (inl e) = (Left, e)
    on (inr (inl e)) = (Right, e)
    on (inr (inr h)) = absurd h

-- an edge enters by the border of that side
pub entered : (L : Layout) (t e : ℕ) (side : Side) → enters L t side ≡ Some e → (b : ℕ) × (entering L.ratio t side ≡ Some b) × (edge_on L b ≡ Some e)
entered L t e side come = on (entering L.ratio t side) refl come
  where
    on : (o : Option ℕ) → entering L.ratio t side ≡ o → option_and_then (edge_on L) o ≡ Some e → (b : ℕ) × (entering L.ratio t side ≡ Some b) × (edge_on L b ≡ Some e)
    on None is h = absurd (cc)
    on (Some b) is h = (b, is, h)

pub enters-by : (L : Layout) (t b : ℕ) (side : Side) → entering L.ratio t side ≡ Some b → enters L t side ≡ edge_on L b
enters-by L t b side is = ap (option_and_then (edge_on L)) is

-- the edge is on one of these borders
abbrev pub IsOnSome : Layout → ℕ → List ℕ → Type 0
IsOnSome L e bs = (b : ℕ) × Contains bs b × (edge_on L b ≡ Some e)

in-on : (N : Network) (L : Layout) (t e : ℕ) → (side : Side) × (enters L t side ≡ Some e) → IsOnSome L e (entries N L.ratio t)
in-on N L t e (side, come) = let (b, is, on) = entered L t e side come in (b, entry-own N L.ratio t b side is, on)

on-in : (N : Network) (L : Layout) (t e : ℕ) → IsOnSome L e (entries N L.ratio t) → (side : Side) × (enters L t side ≡ Some e)
on-in N L t e (b, own, on) = let (side, is) = entry-side N L.ratio t b own in (side, enters-by L t b side is ∙ on)

out-on : (N : Network) (L : Layout) (t e : ℕ) → (side : Side) × (leaves L t side ≡ Some e) → IsOnSome L e (exits N L.ratio t)
out-on N L t e (side, out) = (border t side, exit-own N L.ratio t side, out)

on-out : (N : Network) (L : Layout) (t e : ℕ) → IsOnSome L e (exits N L.ratio t) → (side : Side) × (leaves L t side ≡ Some e)
on-out N L t e (b, own, on) = let (side, is) = exit-side N L.ratio t b own in (side, ap (edge_on L) is ∙ on)

-- ---- an edge and a tile

pub stands-cases : (L : Layout) (v t : ℕ) → Stands L v t ⊎ (Stands L v t → ⊥)
stands-cases L v t = elim (one-cases (slice_get L.places v) t) [ inl (stands, one) ↦ inl stands | inr (away, none) ↦ inr away ]

-- what holds on both sides holds on one
one-side : (P : Side → Type 0) → (P Left → P Right → ⊥) → (a b : Side) → P a → P b → a ≡ b
one-side P apart Left Left p q = refl
one-side P apart Left Right p q = absurd (apart p q)
one-side P apart Right Left p q = absurd (apart q p)
one-side P apart Right Right p q = refl

-- Edge e has this end on the tile, where it is on one of its own borders, or goes through the tile from the others.
-- The end is its source, and its own borders those that leave the tile; or its target, and those that enter it.
pub record GoesThrough (L : Layout) (t e end : ℕ) (own others : List ℕ) : Type 0 where
  pub begun : IsOnSome L e own → Stands L end t ⊎ IsOnSome L e others
  pub there : Stands L end t → IsOnSome L e own
  pub not_others : Stands L end t → IsOnSome L e others → ⊥
  pub alone : (v : ℕ) → Stands L v t → IsOnSome L e own → Stands L end t
  pub once : (a b : ℕ) → Contains own a → Contains own b → a < b → edge_on L a ≡ Some e → edge_on L b ≡ Some e → ⊥

end-is : (f : Edge → ℕ) (edges : List Edge) (e : ℕ) (edge : Edge) → slice_get edges e ≡ Some edge → f edge ≡ slice_index (map f edges) e
end-is f [] e edge is = absurd (cc)
end-is f (d ∷ ds) zero edge is = let same : edge ≡ d = cc in ap f same
end-is f (d ∷ ds) (suc e) edge is = end-is f ds e edge is

module _ (N : Network) (permit : PermitTest) (L : Layout) (network : IsNetwork N) (legal : IsLegal N permit L)
    (t e : ℕ) (edge : Edge) (inside : IsTile L.ratio t) (is : slice_get N.edges e ≡ Some edge) where
  source-keeps : Stands L edge.source t → (side : Side) × (enters L t side ≡ Some e) → ⊥
  source-keeps stands (side, come) =
      let none = (at-source N L network legal.placed legal.balanced t e edge is stands).none_in in
      let some = in-some L t e side come in
      omega arith

  target-keeps : Stands L edge.target t → (side : Side) × (leaves L t side ≡ Some e) → ⊥
  target-keeps stands (side, out) =
      let none = (at-target N L network legal.placed legal.balanced t e edge is stands).none_out in
      let some = out-some L t e side out in
      omega arith

  from-source : (side : Side) × (leaves L t side ≡ Some e) → Stands L edge.source t ⊎ ((side : Side) × (enters L t side ≡ Some e))
  from-source (side, out) = elim (stands-cases L edge.source t) [
    | inl source ↦ inl source
    | inr no_source ↦ inr (
        let no_target : Stands L edge.target t → ⊥ = λ target. target-keeps target (side, out) in
        let same = (at-other N L network legal.placed legal.balanced t e edge inside is no_source no_target).0 in
        let some = out-some L t e side out in
        side-in L t e (omega arith))
  ]

  to-target : (side : Side) × (enters L t side ≡ Some e) → Stands L edge.target t ⊎ ((side : Side) × (leaves L t side ≡ Some e))
  to-target (side, come) = elim (stands-cases L edge.target t) [
    | inl target ↦ inl target
    | inr no_target ↦ inr (
        let no_source : Stands L edge.source t → ⊥ = λ source. source-keeps source (side, come) in
        let same = (at-other N L network legal.placed legal.balanced t e edge inside is no_source no_target).0 in
        let some = in-some L t e side come in
        side-out L t e (omega arith))
  ]

  here : (u v : ℕ) → u ≡ v → Stands L v t → Stands L u t
  here u v same stands = subst (λ (w : ℕ). Stands L w t) (sym same) stands

  own-source : (v : ℕ) → Stands L v t → (side : Side) × (leaves L t side ≡ Some e) → Stands L edge.source t
  own-source v stands (side, out) = on (legal.alone v t stands side e edge (inr out) is)
    where
      on : IsOf edge v → Stands L edge.source t
      on (inl own) = here edge.source v own stands
      on (inr own) = absurd (target-keeps (here edge.target v own stands) (side, out))

  own-target : (v : ℕ) → Stands L v t → (side : Side) × (enters L t side ≡ Some e) → Stands L edge.target t
  own-target v stands (side, come) = on (legal.alone v t stands side e edge (inl come) is)
    where
      on : IsOf edge v → Stands L edge.target t
      on (inl own) = absurd (source-keeps (here edge.source v own stands) (side, come))
      on (inr own) = here edge.target v own stands

  -- on a tile with a node it doesn't go through
  pub not-through : (v : ℕ) → Stands L v t → (side : Side) × (enters L t side ≡ Some e) → (side : Side) × (leaves L t side ≡ Some e) → ⊥
  not-through v stands come out = source-keeps (own-source v stands out) come

  source-through : GoesThrough L t e edge.source (exits N L.ratio t) (entries N L.ratio t)
  source-through = record {
    begun = λ on. elim (from-source (on-out N L t e on)) [ inl stands ↦ inl stands | inr come ↦ inr (in-on N L t e come) ];
    there = λ stands.
        let one = (at-source N L network legal.placed legal.balanced t e edge is stands).one_out in
        out-on N L t e (side-out L t e (omega arith));
    not_others = λ stands on. source-keeps stands (on-in N L t e on);
    alone = λ v stands on. own-source v stands (on-out N L t e on);
    once = λ a b first second less p q.
        let (one, at) = exit-side N L.ratio t a first in
        let (other, behind) = exit-side N L.ratio t b second in
        let same = one-side (λ s. leaves L t s ≡ Some e) (out-apart N L network legal.placed legal.balanced t e inside) one other (ap (edge_on L) at ∙ p) (ap (edge_on L) behind ∙ q) in
        omega (arith, sym at ∙ ap (border t) same ∙ behind);
  }

  target-through : GoesThrough L t e edge.target (entries N L.ratio t) (exits N L.ratio t)
  target-through = record {
    begun = λ on. elim (to-target (on-in N L t e on)) [ inl stands ↦ inl stands | inr out ↦ inr (out-on N L t e out) ];
    there = λ stands.
        let one = (at-target N L network legal.placed legal.balanced t e edge is stands).one_in in
        in-on N L t e (side-in L t e (omega arith));
    not_others = λ stands on. target-keeps stands (on-out N L t e on);
    alone = λ v stands on. own-target v stands (on-in N L t e on);
    once = λ a b first second less p q.
        let (one, at) = entry-side N L.ratio t a first in
        let (other, behind) = entry-side N L.ratio t b second in
        let same = one-side (λ s. enters L t s ≡ Some e) (in-apart N L network legal.placed legal.balanced t e inside) one other (enters-by L t a one at ∙ p) (enters-by L t b other behind ∙ q) in
        let both : Some a ≡ Some b = sym at ∙ ap (entering L.ratio t) same ∙ behind in
        let equal : a ≡ b = cc in
        omega arith;
  }

-- the same for the number of an edge
module _ (N : Network) (permit : PermitTest) (L : Layout) (network : IsNetwork N) (legal : IsLegal N permit L) (t e : ℕ) (inside : IsTile L.ratio t) (edge : e < length N.edges) where
  pub through-source : GoesThrough L t e (source N L.ratio e) (exits N L.ratio t) (entries N L.ratio t)
  through-source =
      let at = got-at N.edges e edge in
      subst (λ v. GoesThrough L t e v (exits N L.ratio t) (entries N L.ratio t)) (end-is (λ d. d.source) N.edges e at.item at.at)
      (source-through N permit L network legal t e at.item inside at.at)

  pub through-target : GoesThrough L t e (target N L.ratio e) (entries N L.ratio t) (exits N L.ratio t)
  through-target =
      let at = got-at N.edges e edge in
      subst (λ v. GoesThrough L t e v (entries N L.ratio t) (exits N L.ratio t)) (end-is (λ d. d.target) N.edges e at.item at.at)
      (target-through N permit L network legal t e at.item inside at.at)

  pub source-low : source N L.ratio e < length N.nodes
  source-low =
      let at = got-at N.edges e edge in
      let forward = edge-forward N L network legal.placed legal.balanced e at.item at.at in
      let within = edge-within N L network legal.placed legal.balanced e at.item at.at in
      let same = end-is (λ d. d.source) N.edges e at.item at.at in
      omega arith

  pub target-low : target N L.ratio e < length N.nodes
  target-low =
      let at = got-at N.edges e edge in
      let within = edge-within N L network legal.placed legal.balanced e at.item at.at in
      let same = end-is (λ d. d.target) N.edges e at.item at.at in
      omega arith
