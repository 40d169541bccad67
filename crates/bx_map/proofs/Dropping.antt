-- What stays of a net in cells is one in which each cell is read.
use Rattle.std.proofs.Common.{◌≡◌, ℕ, zero, suc, ◌+◌, ◌<◌, ◌==◌, List, [], ◌∷◌, ◌++◌, length, map, get_or, refl, sym, ◌∙◌, ap, subst, arith, inl, inr}
use Rattle.std.specs.List.{AllByRecursion, filter}
use Rattle.std.proofs.lemmas.Bool.{cases_lt, or_cases}
use Rattle.std.proofs.lemmas.List.{length-map, get_or-map}
use Rattle.bx_forms.specs.Kinds.{slots, operands}
use Rattle.bx_network.specs.Networks.{one_if}
use Rattle.bx_map.specs.declared.cell.Cell.{Cell}
use Rattle.bx_map.specs.declared.cell.Cell.TheVariants.{Input, Not, Gate}
use Rattle.bx_map.specs.FanOuts.{IsCellNet, operand_uses, cell_uses, output_uses, uses, consumers}
use Rattle.bx_map.specs.Cells.{CellNet, cell_at, kind_of, operands_of, with_numbers, AreCells}
use Rattle.bx_map.specs.Walks.{has}
use Rattle.bx_map.specs.Drops.{stay_before, rank, stay_of, cone_of}
use Rattle.bx_map.specs.declared.consumer.Use.{Use}
use Rattle.bx_map.proofs.Tallies.{tally, tally-append, length-filter}
use Rattle.bx_map.proofs.Folding.{reads-past}
use Rattle.bx_map.proofs.Keeping.{Has, has-itself, all-has, has-map, has-get_or, stay_before-within, stay_before-rises, wanted-stay, read-stay, stay-read, at-rank, rank-at, rank-less, rank-within}

pub operands-with_numbers : (f : ℕ → ℕ) (c : Cell) → operands_of (with_numbers f c) ≡ map f (operands_of c)
operands-with_numbers f (Input p) = refl
operands-with_numbers f (Not a) = refl
operands-with_numbers f (Gate k a b) = refl

pub kind-with_numbers : (f : ℕ → ℕ) (c : Cell) → kind_of (with_numbers f c) ≡ kind_of c
kind-with_numbers f (Input p) = refl
kind-with_numbers f (Not a) = refl
kind-with_numbers f (Gate k a b) = refl

input-with_numbers : (f : ℕ → ℕ) (c : Cell) (port : ℕ) → with_numbers f c ≡ Input port → c ≡ Input port
input-with_numbers f (Input p) port e = e
input-with_numbers f (Not a) port e = absurd (cc)
input-with_numbers f (Gate k a b) port e = absurd (cc)

all-map : (P : ℕ → Type 0) (f : ℕ → ℕ) (xs : List ℕ) → AllByRecursion (λ a. P (f a)) xs → AllByRecursion P (map f xs)
all-map P f [] a = tt
all-map P f (x ∷ xs) a = (a.0, all-map P f xs a.1)

-- what is read has a use

read-used : (k c q : ℕ) (is : List ℕ) → Has is k → 0 < tally (λ (u : Use). u.cell == k) (operand_uses c q is)
read-used k c q [] h = absurd (cc)
read-used k c q (i ∷ is) h =
    elim (or_cases (i == k) (has is k) h) [
      | inl e ↦ let one = ap one_if e in omega (arith, one)
      | inr m ↦ let rest = read-used k c (suc q) is m in omega (arith, rest)
    ]

output-used : (k j : ℕ) (is : List ℕ) → Has is k → 0 < tally (λ (u : Use). u.cell == k) (output_uses j is)
output-used k j [] h = absurd (cc)
output-used k j (i ∷ is) h =
    elim (or_cases (i == k) (has is k) h) [
      | inl e ↦ let one = ap one_if e in omega (arith, one)
      | inr m ↦ let rest = output-used k (suc j) is m in omega (arith, rest)
    ]

cell-used : (k j : ℕ) (cs : List Cell) (q : ℕ) → q < length cs → Has (operands_of (cell_at cs q)) k → 0 < tally (λ (u : Use). u.cell == k) (cell_uses j cs)
cell-used k j [] q l h = absurd (omega arith)
cell-used k j (c ∷ cs) zero l h =
    let a = tally-append (λ (u : Use). u.cell == k) (operand_uses j 0 (operands_of c)) (cell_uses (suc j) cs) in
    let b = read-used k j 0 (operands_of c) h in
    omega (arith, a, b)
cell-used k j (c ∷ cs) (suc q) l h =
    let a = tally-append (λ (u : Use). u.cell == k) (operand_uses j 0 (operands_of c)) (cell_uses (suc j) cs) in
    let b = cell-used k (suc j) cs q (omega arith) h in
    omega (arith, a, b)

consumers-count : (net : CellNet) (k : ℕ) → length (consumers net k) ≡ tally (λ (u : Use). u.cell == k) (cell_uses 0 net.cells) + tally (λ (u : Use). u.cell == k) (output_uses 0 net.outputs)
unfolding consumers uses
consumers-count net k =
    length-map (filter (λ (u : Use). u.cell == k) (cell_uses 0 net.cells ++ output_uses 0 net.outputs)) (λ (u : Use). u.consumer)
    ∙ (length-filter (λ (u : Use). u.cell == k) (cell_uses 0 net.cells ++ output_uses 0 net.outputs)
    ∙ tally-append (λ (u : Use). u.cell == k) (cell_uses 0 net.cells) (output_uses 0 net.outputs))

module _ (net : CellNet) (h : AreCells net) where
  pub cone_of-count : length (cone_of net).cells ≡ length (stay_of net)
  unfolding cone_of
  cone_of-count = length-map (stay_before net.cells (length net.cells) net.outputs) (λ i. with_numbers (rank (stay_before net.cells (length net.cells) net.outputs)) (cell_at net.cells i))

  stay-within : (i : ℕ) → Has (stay_of net) i → i < length net.cells
  stay-within i s = all-has (λ j. j < length net.cells) (stay_before net.cells (length net.cells) net.outputs) i (stay_before-within net.cells (length net.cells) net.outputs) s

  pub cell-is : (k : ℕ) → k < length (cone_of net).cells → cell_at (cone_of net).cells k ≡ with_numbers (rank (stay_of net)) (cell_at net.cells (get_or (stay_of net) k 0))
  unfolding cone_of
  cell-is k l =
      get_or-map (λ i. with_numbers (rank (stay_before net.cells (length net.cells) net.outputs)) (cell_at net.cells i)) (stay_before net.cells (length net.cells) net.outputs) k 0 (Input 0) (omega (arith, cone_of-count))

  pub has-at : (k : ℕ) → k < length (cone_of net).cells → Has (stay_of net) (get_or (stay_of net) k 0)
  has-at k l = has-get_or (stay_of net) k (omega (arith, cone_of-count))

  rank-of : (k : ℕ) → k < length (cone_of net).cells → rank (stay_of net) (get_or (stay_of net) k 0) ≡ k
  rank-of k l = rank-at (stay_before net.cells (length net.cells) net.outputs) (stay_before-rises net.cells (length net.cells) net.outputs) k (omega (arith, cone_of-count))

  operands-are : (k : ℕ) → k < length (cone_of net).cells → operands_of (cell_at (cone_of net).cells k) ≡ map (rank (stay_of net)) (operands_of (cell_at net.cells (get_or (stay_of net) k 0)))
  operands-are k l = ap operands_of (cell-is k l) ∙ operands-with_numbers (rank (stay_of net)) (cell_at net.cells (get_or (stay_of net) k 0))

  kind-is : (k : ℕ) → k < length (cone_of net).cells → kind_of (cell_at (cone_of net).cells k) ≡ kind_of (cell_at net.cells (get_or (stay_of net) k 0))
  kind-is k l = ap kind_of (cell-is k l) ∙ kind-with_numbers (rank (stay_of net)) (cell_at net.cells (get_or (stay_of net) k 0))

  pub reads-stay : (i : ℕ) → Has (stay_of net) i → (a : ℕ) → Has (operands_of (cell_at net.cells i)) a → Has (stay_of net) a
  reads-stay i s a r = read-stay net.cells h.reads (length net.cells) net.outputs i a s r

  pub outputs-stay : (o : ℕ) → Has net.outputs o → Has (stay_of net) o
  outputs-stay o s = wanted-stay net.cells (length net.cells) net.outputs o (all-has (λ a. a < length net.cells) net.outputs o h.outputs s) s

  reads-earlier : (k : ℕ) → k < length (cone_of net).cells → AllByRecursion (λ a. a < k) (operands_of (cell_at (cone_of net).cells k))
  reads-earlier k l =
      let i : ℕ = get_or (stay_of net) k 0 in
      let at = rank-of k l in
      subst (AllByRecursion (λ a. a < k)) (sym (operands-are k l))
      (all-map (λ a. a < k) (rank (stay_of net)) (operands_of (cell_at net.cells i))
      (has-itself (λ a. rank (stay_of net) a < k) (operands_of (cell_at net.cells i))
      (λ a r. let less = rank-less (stay_of net) a i (reads-stay i (has-at k l) a r) (all-has (λ b. b < i) (operands_of (cell_at net.cells i)) a (h.reads i) r) in omega (arith, less, at))))

  outputs-within : AllByRecursion (λ a. a < length (cone_of net).cells) (cone_of net).outputs
  unfolding cone_of
  outputs-within =
      all-map (λ a. a < length (cone_of net).cells) (rank (stay_before net.cells (length net.cells) net.outputs)) net.outputs
      (has-itself (λ a. rank (stay_before net.cells (length net.cells) net.outputs) a < length (cone_of net).cells) net.outputs
      (λ o s. let w = rank-within (stay_before net.cells (length net.cells) net.outputs) o (outputs-stay o s) in omega (arith, w, cone_of-count)))

  output-kept : (i : ℕ) → Has net.outputs i → Has (cone_of net).outputs (rank (stay_of net) i)
  unfolding cone_of
  output-kept i s = has-map (rank (stay_of net)) net.outputs i s

  operand-kept : (j : ℕ) → Has (stay_of net) j → (i : ℕ) → Has (operands_of (cell_at net.cells j)) i → rank (stay_of net) j < length (cone_of net).cells →
      Has (operands_of (cell_at (cone_of net).cells (rank (stay_of net) j))) (rank (stay_of net) i)
  operand-kept j s i r w =
      let at = at-rank (stay_of net) (stay_before-rises net.cells (length net.cells) net.outputs) j s in
      subst (λ (ops : List ℕ). Has ops (rank (stay_of net) i))
      (sym (operands-are (rank (stay_of net) j) w ∙ ap (λ (m : ℕ). map (rank (stay_of net)) (operands_of (cell_at net.cells m))) at))
      (has-map (rank (stay_of net)) (operands_of (cell_at net.cells j)) i r)

  each-read : (k : ℕ) → k < length (cone_of net).cells → 0 < length (consumers (cone_of net) k)
  each-read k l =
      let i : ℕ = get_or (stay_of net) k 0 in
      let at = rank-of k l in
      let count = consumers-count (cone_of net) k in
      elim (stay-read net.cells (length net.cells) net.outputs i (has-at k l)) [
        | inl out ↦
            let r : Has (cone_of net).outputs (rank (stay_of net) i) = output-kept i out in
            let u = output-used k 0 (cone_of net).outputs (subst (Has (cone_of net).outputs) at r) in
            omega (arith, count, u)
        | inr by ↦
            let (j, s, r) = by in
            let q : ℕ = rank (stay_of net) j in
            let w : q < length (cone_of net).cells = omega (arith, rank-within (stay_of net) j s, cone_of-count) in
            let u = cell-used k 0 (cone_of net).cells q w (subst (Has (operands_of (cell_at (cone_of net).cells q))) at (operand-kept j s i r w)) in
            omega (arith, count, u)
      ]

  ports-apart : (i j port : ℕ) → i < length (cone_of net).cells → j < length (cone_of net).cells → cell_at (cone_of net).cells i ≡ Input port → cell_at (cone_of net).cells j ≡ Input port → i ≡ j
  ports-apart i j port l m e f =
      let s : ℕ = get_or (stay_of net) i 0 in
      let t : ℕ = get_or (stay_of net) j 0 in
      let a = input-with_numbers (rank (stay_of net)) (cell_at net.cells s) port (sym (cell-is i l) ∙ e) in
      let b = input-with_numbers (rank (stay_of net)) (cell_at net.cells t) port (sym (cell-is j m) ∙ f) in
      let same = h.apart s t port (stay-within s (has-at i l)) (stay-within t (has-at j m)) a b in
      sym (rank-of i l) ∙ (ap (rank (stay_of net)) same ∙ rank-of j m)

  pub cone_of-is_cell_net : IsCellNet (cone_of net)
  cone_of-is_cell_net = record {
    cells = record {
      reads = λ k. elim (cases_lt k (length (cone_of net).cells)) [ inl l ↦ reads-earlier k l | inr past ↦ reads-past (cone_of net).cells k past ];
      arity = λ k l.
          let i : ℕ = get_or (stay_of net) k 0 in
          ap length (operands-are k l) ∙ (length-map (operands_of (cell_at net.cells i)) (rank (stay_of net))
          ∙ (h.arity i (stay-within i (has-at k l)) ∙ sym (ap operands (kind-is k l))));
      slot = λ k l. ap slots (kind-is k l) ∙ h.slot (get_or (stay_of net) k 0) (stay-within (get_or (stay_of net) k 0) (has-at k l));
      outputs = outputs-within;
      apart = ports-apart;
    };
    consumed = each-read;
  }

  -- an input among the cells that stay is one of all
  pub cone_of-input : (i port : ℕ) → i < length (cone_of net).cells → cell_at (cone_of net).cells i ≡ Input port →
      (s : ℕ) × (s < length net.cells) × (cell_at net.cells s ≡ Input port)
  cone_of-input i port l e =
      let s : ℕ = get_or (stay_of net) i 0 in
      (s, stay-within s (has-at i l), input-with_numbers (rank (stay_of net)) (cell_at net.cells s) port (sym (cell-is i l) ∙ e))

  pub cone_of-outputs : length (cone_of net).outputs ≡ length net.outputs
  unfolding cone_of
  cone_of-outputs = length-map net.outputs (rank (stay_of net))
