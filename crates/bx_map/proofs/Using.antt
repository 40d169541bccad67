-- Uses of a net in cells, one cell and one output after the other.
use Rattle.std.proofs.Common.{◌≡◌, ℕ, suc, ◌+◌, ◌<◌, List, [], ◌∷◌, ◌++◌, length, take, get_or, sym, ◌∙◌, ap, ap₂, arith}
use Rattle.std.proofs.lemmas.List.{append_assoc, length-take}
use Rattle.std.proofs.Math.Seq.{take-suc}
use Rattle.bx_map.specs.declared.cell.Cell.{Cell}
use Rattle.bx_map.specs.declared.consumer.Consumer.TheVariants.{Output}
use Rattle.bx_map.specs.declared.consumer.Use.{Use}
use Rattle.bx_map.specs.Cells.{CellNet, cell_at, operands_of}
use Rattle.bx_map.specs.FanOuts.{use_of, operand_uses, cell_uses, output_uses, uses}
use Rattle.bx_map.proofs.Numbering.{cell_uses-next}

output_uses-append : (j : ℕ) (is : List ℕ) (i : ℕ) → output_uses j (is ++ i ∷ []) ≡ output_uses j is ++ use_of i (Output (j + length is)) ∷ []
output_uses-append j [] i = ap (λ (p : ℕ). use_of i (Output p) ∷ []) (omega arith)
output_uses-append j (k ∷ is) i =
    ap (λ (us : List Use). use_of k (Output j) ∷ us) (output_uses-append (suc j) is i ∙ ap (λ (p : ℕ). output_uses (suc j) is ++ use_of i (Output p) ∷ []) (omega arith))

-- one output more
pub output_uses-more : (all now after : List Use) (outputs : List ℕ) (m i : ℕ) → m < length outputs → i ≡ get_or outputs m 0 → now ≡ all ++ output_uses 0 (take m outputs) → after ≡ now ++ use_of i (Output m) ∷ [] →
    after ≡ all ++ output_uses 0 (take (m + 1) outputs)
output_uses-more all now after outputs m i l e h f =
    let more : m + 1 ≡ suc m = omega arith in
    let many : 0 + length (take m outputs) ≡ m = let a = length-take m outputs in omega (arith, a) in
    f ∙ (ap (λ (us : List Use). us ++ use_of i (Output m) ∷ []) h
    ∙ (append_assoc all (output_uses 0 (take m outputs)) (use_of i (Output m) ∷ [])
    ∙ sym (ap (λ (us : List Use). all ++ us)
    (ap (λ (q : ℕ). output_uses 0 (take q outputs)) more
    ∙ (ap (output_uses 0) (take-suc outputs m 0 l)
    ∙ (output_uses-append 0 (take m outputs) (get_or outputs m 0)
    ∙ ap₂ (λ (q k : ℕ). output_uses 0 (take m outputs) ++ use_of k (Output q) ∷ []) many (sym e)))))))

-- one cell more
pub cell_uses-more : (all now after : List Use) (cells : List Cell) (m : ℕ) (c : Cell) → m < length cells → c ≡ cell_at cells m → now ≡ all ++ cell_uses 0 (take m cells) → after ≡ now ++ operand_uses m 0 (operands_of c) →
    after ≡ all ++ cell_uses 0 (take (m + 1) cells)
cell_uses-more all now after cells m c l e h f =
    let more : m + 1 ≡ suc m = omega arith in
    f ∙ (ap₂ (λ (us : List Use) (d : Cell). us ++ operand_uses m 0 (operands_of d)) h e
    ∙ (append_assoc all (cell_uses 0 (take m cells)) (operand_uses m 0 (operands_of (cell_at cells m)))
    ∙ sym (ap (λ (us : List Use). all ++ us) (ap (λ (q : ℕ). cell_uses 0 (take q cells)) more ∙ cell_uses-next cells m l))))

pub uses-are : (net : CellNet) (cells : List Cell) (outputs : List ℕ) (first all : List Use) → cells ≡ net.cells → outputs ≡ net.outputs → first ≡ [] ++ cell_uses 0 cells → all ≡ first ++ output_uses 0 outputs → all ≡ uses net
unfolding uses
uses-are net cells outputs first all c o f g = g ∙ ap₂ (λ (us vs : List Use). us ++ vs) (f ∙ ap (cell_uses 0) c) (ap (output_uses 0) o)
