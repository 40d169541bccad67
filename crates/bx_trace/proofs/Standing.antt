-- Nodes put on their tiles one after the other.
use Rattle.std.proofs.Common.{◌≡◌, ◌↔◌, ◌≤◌, ◌<◌, ◌+◌, ℕ, true, is_some, List, length, set, slice_get, Option, Some, None, inl, inr, sym, ap, ◌∙◌, arith, get_or-set_other}
use Rattle.std.proofs.lemmas.Bool.{cases_eq, cases_lt}
use Rattle.std.proofs.lemmas.Grind.{get_or-set_at}
use Rattle.bx_layout.proofs.OnTiles.{some-of}
use Rattle.bx_network.proofs.Lists.{got-within}
use Rattle.bx_trace.specs.Known.{entry, AreApartOn, AreNodesAt}

-- the first so many nodes stand on their tiles
abbrev pub AreFirstAt : List ℕ → ℕ → List (Option ℕ) → Type 0
AreFirstAt places n nodes = (t u : ℕ) → (entry nodes t ≡ Some u) ↔ ((u < n) × (slice_get places u ≡ Some t))

-- one node more, on a tile that was free
pub node-more : (places : List ℕ) (nodes : List (Option ℕ)) (v tile : ℕ) → slice_get places v ≡ Some tile → entry nodes tile ≡ None → tile < length nodes → AreFirstAt places v nodes → AreFirstAt places (v + 1) (set nodes tile (Some v))
node-more places nodes v tile at free low before t u = elim (cases_eq t tile) [
  | inl here ↦ (
      let there : entry (set nodes tile (Some v)) t ≡ Some v = get_or-set_at nodes tile t (Some v) None here low in (
        (λ e.
            let both : Some v ≡ Some u = sym there ∙ e in
            let same : v ≡ u = cc in
            (omega arith, ap (slice_get places) (sym same) ∙ at ∙ ap Some (sym here))),
        (λ (less, is). elim (cases_lt u v) [
          | inl earlier ↦ (
              let was = (before t u).1 (earlier, is) in
              let both : None ≡ Some u = sym free ∙ ap (entry nodes) (sym here) ∙ was in
              absurd (cc))
          | inr later ↦ (let same : v ≡ u = omega arith in there ∙ ap Some same)
        ]),
      ))
  | inr away ↦ (
      let kept : entry (set nodes tile (Some v)) t ≡ entry nodes t = get_or-set_other nodes tile t (Some v) None away in (
        (λ e. let (less, is) = (before t u).0 (sym kept ∙ e) in (omega arith, is)),
        (λ (less, is). kept ∙ (before t u).1 (
          elim (cases_lt u v) [
            | inl earlier ↦ earlier
            | inr later ↦ (
                let same : u ≡ v = omega arith in
                let both : Some tile ≡ Some t = sym at ∙ ap (slice_get places) (sym same) ∙ is in
                absurd (away (cc)))
          ],
          is,
        )),
      ))
]

-- a place off the grid, or one that a node has before it
pub node-off : (places : List ℕ) (tiles v tile : ℕ) → slice_get places v ≡ Some tile → tiles ≤ tile → AreApartOn places tiles → ⊥
node-off places tiles v tile at past apart = let low = apart.inside v tile at in omega arith

pub node-twice : (places : List ℕ) (nodes : List (Option ℕ)) (tiles v tile : ℕ) → slice_get places v ≡ Some tile → is_some (entry nodes tile) ≡ true → AreFirstAt places v nodes → AreApartOn places tiles → ⊥
node-twice places nodes tiles v tile at taken before apart =
    let (u, is) = some-of (entry nodes tile) taken in
    let (less, other) = (before tile u).0 is in
    let same : u ≡ v = apart.apart u v tile other at in
    omega arith

-- all of them
pub nodes-all : (places : List ℕ) (nodes : List (Option ℕ)) (n : ℕ) → length places ≡ n → AreFirstAt places n nodes → AreNodesAt places nodes
nodes-all places nodes n all before t v = (
  (λ e. ((before t v).0 e).1),
  (λ is. (before t v).1 ((let low = got-within places v t is in omega arith), is)),
)
