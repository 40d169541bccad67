-- How many nodes there are, counted without making them.
use Rattle.std.proofs.Common.{◌≡◌, ℕ, zero, suc, ◌+◌, ◌<◌, ◌≤◌, List, [], ◌∷◌, length, take, refl, sym, ◌∙◌, ap, arith, length-append}
use Rattle.std.proofs.lemmas.List.{take_all}
use Rattle.bx_map.specs.declared.cell.Cell.{Cell}
use Rattle.bx_map.specs.Cells.{CellNet, cell_at, operands_of}
use Rattle.bx_map.specs.FanOuts.{operand_uses, cell_uses, output_uses, uses, IsCellNet}
use Rattle.bx_map.specs.Numbers.{numbering_of}
use Rattle.bx_map.proofs.Numbering.{uses-within, cell_uses-next}
use Rattle.bx_map.proofs.Networked.{nodes-count}
use Rattle.bx_map.proofs.Sorting.{before-all}
use Rattle.bx_map.proofs.Starts.{before-number}

length-operand_uses : (j k : ℕ) (is : List ℕ) → length (operand_uses j k is) ≡ length is
length-operand_uses j k [] = refl
length-operand_uses j k (i ∷ is) = ap suc (length-operand_uses j (suc k) is)

length-output_uses : (j : ℕ) (is : List ℕ) → length (output_uses j is) ≡ length is
length-output_uses j [] = refl
length-output_uses j (i ∷ is) = ap suc (length-output_uses (suc j) is)

-- how many nodes are counted after so many cells
abbrev pub IsCounted : List Cell → ℕ → ℕ → ℕ → Type 0
IsCounted cells outputs i count = count ≡ outputs + outputs + length (cell_uses 0 (take i cells))

pub counted-more : (cells : List Cell) (outputs i count more after : ℕ) (c : Cell) → i < length cells → c ≡ cell_at cells i → more ≡ length (operands_of c) → after ≡ count + more →
    IsCounted cells outputs i count → IsCounted cells outputs (i + 1) after
counted-more cells outputs i count more after c l e m s h =
    let next : i + 1 ≡ suc i = omega arith in
    let a = ap (λ (q : ℕ). length (cell_uses 0 (take q cells))) next ∙ (ap length (cell_uses-next cells i l) ∙ length-append (cell_uses 0 (take i cells)) (operand_uses i 0 (operands_of (cell_at cells i)))) in
    let b = length-operand_uses i 0 (operands_of (cell_at cells i)) in
    let f : more ≡ length (operands_of (cell_at cells i)) = m ∙ ap (λ (x : Cell). length (operands_of x)) e in
    omega (arith, a, b, f, h, s)

nodes-many : (net : CellNet) → IsCellNet net → length (numbering_of net).nodes ≡ length net.outputs + length net.outputs + length (cell_uses 0 net.cells)
unfolding uses
nodes-many net h =
    let a = nodes-count net in
    let b = sym (before-number net h (length net.cells) (omega arith)) ∙ (before-all (uses net) (length net.cells) (uses-within net h)
    ∙ length-append (cell_uses 0 net.cells) (output_uses 0 net.outputs)) in
    let c = length-output_uses 0 net.outputs in
    omega (arith, a, b, c)

pub counted-all : (net : CellNet) (cells : List Cell) (outputs i count : ℕ) → IsCellNet net → cells ≡ net.cells → outputs ≡ length net.outputs → length cells ≤ i → IsCounted cells outputs i count →
    count ≡ length (numbering_of net).nodes
counted-all net cells outputs i count h e f l is =
    let a = nodes-many net h in
    let b = ap (λ (cs : List Cell). length (cell_uses 0 cs)) (take_all i cells l ∙ e) in
    omega (arith, a, b, f, is)

uses-most : (j i : ℕ) (cells : List Cell) → length (cell_uses j (take i cells)) ≤ length (cell_uses j cells)
uses-most j zero cells = omega arith
uses-most j (suc i) [] = omega arith
uses-most j (suc i) (c ∷ cs) =
    let rest = uses-most (suc j) i cs in
    let a = length-append (operand_uses j 0 (operands_of c)) (cell_uses (suc j) (take i cs)) in
    let b = length-append (operand_uses j 0 (operands_of c)) (cell_uses (suc j) cs) in
    omega (arith, rest, a, b)

-- what is counted so far is no more than all
pub counted-most : (net : CellNet) (cells : List Cell) (outputs i count : ℕ) → IsCellNet net → cells ≡ net.cells → outputs ≡ length net.outputs → IsCounted cells outputs i count →
    count ≤ length (numbering_of net).nodes
counted-most net cells outputs i count h e f is =
    let a = nodes-many net h in
    let b = uses-most 0 i cells in
    let c = ap (λ (cs : List Cell). length (cell_uses 0 cs)) e in
    omega (arith, a, b, c, f, is)
