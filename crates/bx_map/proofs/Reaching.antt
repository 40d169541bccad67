-- What stays is what reaches an output.
use Rattle.std.proofs.Common.{◌≡◌, ℕ, zero, suc, true, List, [], ◌∷◌, ◌++◌, length, subst, inl, inr}
use Rattle.std.specs.Prelude.{◌↔◌}
use Rattle.std.specs.List.{Contains}
use Rattle.std.proofs.lemmas.Bool.{cases_Bool}
use Rattle.std.proofs.lemmas.List.Elements.{All-contains, Contains-get_or}
use Rattle.std.proofs.lemmas.List.{get_or_default}
use Rattle.bx_map.specs.Cells.{CellNet, cell_at, operands_of, AreCells}
use Rattle.bx_map.specs.Walks.{has}
use Rattle.bx_map.specs.Drops.{Reaches, output, through, stay_before, stay_of}
use Rattle.bx_map.proofs.Keeping.{Has, has-found, has-cases, has-one_same, has-get_or, stay_before-wants, stay_before-lacks}
use Rattle.bx_map.proofs.Dropping.{reads-stay, outputs-stay}

contains-has : (xs : List ℕ) (n : ℕ) → Has xs n → Contains xs n
contains-has xs n h = let (k, l, at) = has-found xs n h in subst (Contains xs) at (Contains-get_or xs k 0 l)

stay-reaches : (net : CellNet) (n : ℕ) (wanted : List ℕ) → ((w : ℕ) → Has wanted w → Reaches net w) → (i : ℕ) → Has (stay_before net.cells n wanted) i → Reaches net i
unfolding stay_before
stay-reaches net zero wanted reach i s = absurd (cc)
stay-reaches net (suc m) wanted reach i s =
    elim (cases_Bool (has wanted m)) [
      | inl wants ↦
          let reads : List ℕ = operands_of (cell_at net.cells m) in
          let below : List ℕ = stay_before net.cells m (reads ++ wanted) in
          elim (has-cases below (m ∷ []) i (subst (λ (xs : List ℕ). Has xs i) (stay_before-wants net.cells m wanted wants) s)) [
            | inr top ↦ subst (Reaches net) (has-one_same m i top) (reach m wants)
            | inl low ↦
                stay-reaches net m (reads ++ wanted)
                (λ w v. elim (has-cases reads wanted w v) [
                  | inl r ↦ through w m (contains-has reads w r) (reach m wants)
                  | inr u ↦ reach w u
                ]) i low
          ]
      | inr lacks ↦ stay-reaches net m wanted reach i (subst (λ (xs : List ℕ). Has xs i) (stay_before-lacks net.cells m wanted lacks) s)
    ]

has-contained : (xs : List ℕ) (n : ℕ) → Contains xs n → Has xs n
has-contained xs n c = All-contains (Has xs) xs n (λ k d l. subst (Has xs) (get_or_default xs k 0 d l) (has-get_or xs k l)) c

reaching-stays : (net : CellNet) → AreCells net → (i : ℕ) → Reaches net i → Has (stay_of net) i
reaching-stays net h _ (output i c) = outputs-stay net h i (has-contained net.outputs i c)
reaching-stays net h _ (through i j c r) = reads-stay net h j (reaching-stays net h j r) i (has-contained (operands_of (cell_at net.cells j)) i c)

pub stays-if_reaches : (net : CellNet) (i : ℕ) → AreCells net → (has (stay_of net) i ≡ true) ↔ Reaches net i
stays-if_reaches net i h =
    ((λ s. stay-reaches net (length net.cells) net.outputs (λ w v. output w (contains-has net.outputs w v)) i s), (λ r. reaching-stays net h i r))
