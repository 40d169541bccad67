-- The cells that stay, one after the other: which are marked, how many there are before each, and what
-- is kept of the first so many.
use Rattle.std.proofs.Common.{◌≡◌, ℕ, zero, suc, ◌+◌, ◌<◌, ◌≤◌, ◌==◌, nat_lt, Bool, true, false, ◌||◌, if◌then◌else◌, List, [], ◌∷◌, ◌++◌, length, map, take, get_or, replicate, refl, sym, ◌∙◌, ap, subst, arith, inl, inr}
use Rattle.std.specs.List.{AllByRecursion}
use Rattle.std.proofs.Math.Seq.{take-suc}
use Rattle.std.proofs.lemmas.Bool.{cases_eq, cases_lt, eq-eqb, ne_eqb, le-ltb}
use Rattle.std.proofs.lemmas.List.{append-nil, append_assoc, length-append, length-map, length-take, length-replicate, take_all, map-append, get_or-replicate, get_or_append_left, get_or_at}
use Rattle.bx_logic.proofs.Lists.{all-weaker}
use Rattle.bx_network.specs.Networks.{one_if}
use Rattle.bx_map.specs.declared.cell.Cell.{Cell}
use Rattle.bx_map.specs.declared.cell.Cell.TheVariants.{Input, Not, Gate}
use Rattle.bx_map.specs.Cells.{CellNet, cell_net, AreCells, cell_at, operands_of, with_numbers}
use Rattle.bx_map.specs.Walks.{has}
use Rattle.bx_map.specs.Drops.{AreRanks, stay_before, stay_of, rank, cone_cells, cone_of}
use Rattle.bx_map.specs.Marks.{AreMarks, with_marks}
use Rattle.bx_map.proofs.Tallies.{tally, tally-sum, tally-append, one_next}
use Rattle.bx_map.proofs.Keeping.{Rising, none, more, stay_before-wants, stay_before-lacks, stay_before-within, stay_before-rises, place_of, place-most, place-all, rank-is, at-rank}
use Rattle.bx_map.proofs.Marking.{has-both, has-behind, with_marks-at, with_marks-length}

has-none : (xs : List ℕ) (n : ℕ) → AllByRecursion (λ a. a ≡ n → ⊥) xs → has xs n ≡ false
has-none [] n a = refl
has-none (x ∷ xs) n a = ap (λ (b : Bool). b || has xs n) (ne_eqb x n a.0) ∙ has-none xs n a.1

or-nothing : (a b : Bool) → b ≡ false → (a || b) ≡ a
or-nothing true b e = refl
or-nothing false b e = e

-- the marks once the cells from one on are dealt with: of the earlier ones those are marked that are
-- wanted, and of the later ones those that stay
pub record IsMarking (net : CellNet) (i : ℕ) (marks : List Bool) : Type 0 where
  pub wanted : List ℕ
  pub tail : List ℕ
  pub whole : length marks ≡ length net.cells
  pub splits : stay_of net ≡ stay_before net.cells i wanted ++ tail
  pub above : AllByRecursion (λ a. i ≤ a) tail
  pub low : (j : ℕ) → j < i → get_or marks j false ≡ has wanted j
  pub high : (j : ℕ) → i ≤ j → j < length net.cells → get_or marks j false ≡ has tail j

module _ (net : CellNet) (h : AreCells net) where
  pub marking-begin : (marks : List Bool) → marks ≡ with_marks (replicate (length net.cells) false) net.outputs → IsMarking net (length net.cells) marks
  marking-begin marks is =
      let n : ℕ = length net.cells in
      let none_yet : List Bool = replicate n false in
      let whole : length none_yet ≡ n = length-replicate n false in
      let all : AllByRecursion (λ a. a < length none_yet) net.outputs = all-weaker (λ a. a < n) (λ a. a < length none_yet) (λ a l. omega (arith, l, whole)) net.outputs h.outputs in
      record {
        wanted = net.outputs;
        tail = [];
        whole = ap length is ∙ (with_marks-length none_yet net.outputs ∙ whole);
        splits = sym (append-nil (stay_before net.cells n net.outputs));
        above = tt;
        low = λ j l. ap (λ (ms : List Bool). get_or ms j false) is ∙ (with_marks-at none_yet net.outputs j all ∙ or-nothing (has net.outputs j) (get_or none_yet j false) (get_or-replicate n j false false l));
        high = λ j m l. absurd (omega arith);
      }

  pub marking-lacks : (i : ℕ) (marks : List Bool) → IsMarking net (i + 1) marks → get_or marks i false ≡ false → IsMarking net i marks
  marking-lacks i marks m off = lacks (subst (λ (k : ℕ). IsMarking net k marks) (omega arith) m)
    where
      lacks : IsMarking net (suc i) marks → IsMarking net i marks
      lacks m = record {
        wanted = m.wanted;
        tail = m.tail;
        whole = m.whole;
        splits = m.splits ∙ ap (λ (xs : List ℕ). xs ++ m.tail) (stay_before-lacks net.cells i m.wanted (sym (m.low i (omega arith)) ∙ off));
        above = all-weaker (λ a. suc i ≤ a) (λ a. i ≤ a) (λ a l. omega arith) m.tail m.above;
        low = λ j l. m.low j (omega arith);
        high = λ j l k. elim (cases_eq j i) [
          | inl e ↦
              ap (λ (q : ℕ). get_or marks q false) e ∙ (off ∙ sym (has-none m.tail j (all-weaker (λ a. suc i ≤ a) (λ a. a ≡ j → ⊥) (λ a l f. omega arith) m.tail m.above)))
          | inr ne ↦ m.high j (omega arith) k
        ];
      }

  pub marking-wants : (i : ℕ) (marks next : List Bool) → i < length net.cells → IsMarking net (i + 1) marks → get_or marks i false ≡ true →
      next ≡ with_marks marks (operands_of (cell_at net.cells i)) → IsMarking net i next
  marking-wants i marks next within m on is = wants (subst (λ (k : ℕ). IsMarking net k marks) (omega arith) m)
    where
      wants : IsMarking net (suc i) marks → IsMarking net i next
      wants m =
          let whole = m.whole in
          let all : AllByRecursion (λ a. a < length marks) (operands_of (cell_at net.cells i)) =
          all-weaker (λ a. a < i) (λ a. a < length marks) (λ a l. omega (arith, l, whole)) (operands_of (cell_at net.cells i)) (h.reads i) in
          let at : (j : ℕ) → get_or next j false ≡ (has (operands_of (cell_at net.cells i)) j || get_or marks j false) =
          λ j. ap (λ (ms : List Bool). get_or ms j false) is ∙ with_marks-at marks (operands_of (cell_at net.cells i)) j all in
          record {
            wanted = operands_of (cell_at net.cells i) ++ m.wanted;
            tail = i ∷ m.tail;
            whole = ap length is ∙ (with_marks-length marks (operands_of (cell_at net.cells i)) ∙ m.whole);
            splits = m.splits
                ∙ (ap (λ (xs : List ℕ). xs ++ m.tail) (stay_before-wants net.cells i m.wanted (sym (m.low i (omega arith)) ∙ on))
                ∙ append_assoc (stay_before net.cells i (operands_of (cell_at net.cells i) ++ m.wanted)) (i ∷ []) m.tail);
            above = (omega arith, all-weaker (λ a. suc i ≤ a) (λ a. i ≤ a) (λ a l. omega arith) m.tail m.above);
            low = λ j l.
                at j ∙ (ap (λ (b : Bool). has (operands_of (cell_at net.cells i)) j || b) (m.low j (omega arith)) ∙ sym (has-both (operands_of (cell_at net.cells i)) m.wanted j));
            high = λ j l k.
                let unread : has (operands_of (cell_at net.cells i)) j ≡ false =
                has-none (operands_of (cell_at net.cells i)) j
                (all-weaker (λ a. a < i) (λ a. a ≡ j → ⊥) (λ a f e. omega arith) (operands_of (cell_at net.cells i)) (h.reads i)) in
                at j ∙ (ap (λ (b : Bool). b || get_or marks j false) unread ∙ elim (cases_eq i j) [
                  | inl e ↦ sym (ap (λ (q : ℕ). get_or marks q false) e) ∙ (on ∙ sym (ap (λ (b : Bool). b || has m.tail j) (eq-eqb i j e)))
                  | inr ne ↦ m.high j (omega arith) k ∙ sym (ap (λ (b : Bool). b || has m.tail j) (ne_eqb i j ne))
                ]);
          }

  pub marking-end : (marks : List Bool) → IsMarking net 0 marks → AreMarks (length net.cells) (stay_of net) marks
  unfolding stay_before
  marking-end marks m = record {
    whole = m.whole;
    each = λ i l. m.high i (omega arith) l ∙ sym (ap (λ (xs : List ℕ). has xs i) m.splits);
  }

-- ranks

one-at : (xs : List ℕ) → Rising xs → (i : ℕ) → tally (λ j. j == i) xs ≡ one_if (has xs i)
one-at _ none i = refl
one-at _ (more xs n below rises) i =
    let both = tally-append (λ j. j == i) xs (n ∷ []) in
    let before = one-at xs rises i in
    both ∙ (elim (cases_eq n i) [
      | inl e ↦
          let lacks : has xs i ≡ false = has-none xs i (all-weaker (λ x. x < n) (λ x. x ≡ i → ⊥) (λ x l f. omega arith) xs below) in
          let zero_before : tally (λ j. j == i) xs ≡ 0 = before ∙ ap one_if lacks in
          let one : one_if (n == i) ≡ 1 = ap one_if (eq-eqb n i e) in
          let there : has (xs ++ n ∷ []) i ≡ true = has-behind xs n i ∙ (ap (λ (b : Bool). b || (n == i)) lacks ∙ eq-eqb n i e) in
          let goal : one_if (has (xs ++ n ∷ []) i) ≡ 1 = ap one_if there in
          omega (arith, zero_before, one, goal)
      | inr ne ↦
          let off : one_if (n == i) ≡ 0 = ap one_if (ne_eqb n i ne) in
          let same : has (xs ++ n ∷ []) i ≡ has xs i = has-behind xs n i ∙ or-nothing (has xs i) (n == i) (ne_eqb n i ne) in
          let goal : one_if (has (xs ++ n ∷ []) i) ≡ one_if (has xs i) = ap one_if same in
          omega (arith, before, off, goal)
    ])

pub place-next : (xs : List ℕ) → Rising xs → (i : ℕ) → place_of xs (suc i) ≡ place_of xs i + one_if (has xs i)
place-next xs rises i =
    let step = tally-sum (λ j. nat_lt j (suc i)) (λ j. nat_lt j i) (λ j. j == i) (λ j. one_next j i) xs in
    let at = one-at xs rises i in
    omega (arith, step, at)

pub rank-next : (xs : List ℕ) → Rising xs → (i : ℕ) → rank xs (i + 1) ≡ rank xs i + one_if (has xs i)
rank-next xs rises i =
    let step = place-next xs rises i in
    let before = rank-is xs i in
    let same : rank xs (i + 1) ≡ place_of xs (suc i) = rank-is xs (i + 1) ∙ ap (place_of xs) (omega arith) in
    omega (arith, step, before, same)

rank-within_length : (xs : List ℕ) (i : ℕ) → rank xs i ≤ length xs
rank-within_length xs i = let a = rank-is xs i in let b = place-most xs i in omega (arith, a, b)

-- what is kept of the first so many cells
pub kept_before : CellNet → ℕ → List Cell
kept_before net i = map (λ k. with_numbers (rank (stay_of net)) (cell_at net.cells k)) (take (rank (stay_of net) i) (stay_of net))

module _ (net : CellNet) where
  rising : Rising (stay_of net)
  rising = stay_before-rises net.cells (length net.cells) net.outputs

  pub kept-begin : [] ≡ kept_before net 0
  unfolding kept_before
  kept-begin = sym (ap (λ (r : ℕ). map (λ k. with_numbers (rank (stay_of net)) (cell_at net.cells k)) (take r (stay_of net))) (rank-is (stay_of net) 0 ∙ none-below (stay_of net)))
    where
      none-below : (xs : List ℕ) → place_of xs 0 ≡ 0
      none-below [] = refl
      none-below (x ∷ xs) = let here = ap one_if (le-ltb x 0 (omega arith)) in let rest = none-below xs in omega (arith, here, rest)

  pub kept-length : (i : ℕ) → length (kept_before net i) ≡ rank (stay_of net) i
  unfolding kept_before
  kept-length i =
      let within = rank-within_length (stay_of net) i in
      length-map (take (rank (stay_of net) i) (stay_of net)) (λ k. with_numbers (rank (stay_of net)) (cell_at net.cells k))
      ∙ (length-take (rank (stay_of net) i) (stay_of net) ∙ omega (arith, within))

  pub kept-lacks : (i : ℕ) → has (stay_of net) i ≡ false → kept_before net i ≡ kept_before net (i + 1)
  unfolding kept_before
  kept-lacks i off =
      let next = rank-next (stay_of net) rising i in
      let zero_more = ap one_if off in
      ap (λ (r : ℕ). map (λ k. with_numbers (rank (stay_of net)) (cell_at net.cells k)) (take r (stay_of net))) (omega (arith, next, zero_more))

  pub kept-has : (i : ℕ) (c : Cell) → has (stay_of net) i ≡ true → c ≡ with_numbers (rank (stay_of net)) (cell_at net.cells i) →
      kept_before net i ++ c ∷ [] ≡ kept_before net (i + 1)
  unfolding kept_before
  kept-has i c on is =
      let stay : List ℕ = stay_of net in
      let next = rank-next stay rising i in
      let one_more = ap one_if on in
      let f : ℕ → Cell = λ k. with_numbers (rank stay) (cell_at net.cells k) in
      let r : ℕ = rank stay i in
      let up : suc r ≡ rank stay (i + 1) = omega (arith, next, one_more) in
      let within : r < length stay = (let most = rank-within_length stay (i + 1) in omega (arith, most, up)) in
      let longer : take (suc r) stay ≡ take r stay ++ i ∷ [] =
      take-suc stay r 0 within ∙ ap (λ (k : ℕ). take r stay ++ k ∷ []) (at-rank stay rising i on) in
      ap (λ (d : Cell). map f (take r stay) ++ d ∷ []) is
      ∙ (sym (map-append f (take r stay) (i ∷ [])) ∙ (sym (ap (map f) longer) ∙ ap (λ (k : ℕ). map f (take k stay)) up))

  pub kept-all : kept_before net (length net.cells) ≡ cone_cells net
  unfolding kept_before
  kept-all =
      let stay : List ℕ = stay_of net in
      let many = rank-is stay (length net.cells) ∙ place-all stay (length net.cells) (stay_before-within net.cells (length net.cells) net.outputs) in
      ap (map (λ k. with_numbers (rank stay) (cell_at net.cells k))) (take_all (rank stay (length net.cells)) stay (omega (arith, many)))

pub ranks-push : (n r : ℕ) (stay ranks : List ℕ) → AreRanks n stay ranks → r ≡ rank stay n → AreRanks (n + 1) stay (ranks ++ r ∷ [])
ranks-push n r stay ranks h e =
    let w = h.whole in
    record {
      whole = length-append ranks (r ∷ []) ∙ omega (arith, w);
      each = λ i l. elim (cases_lt i n) [
        | inl m ↦ get_or_append_left ranks (r ∷ []) 0 i (omega (arith, w)) ∙ h.each i m
        | inr m ↦ let same : i ≡ n = omega arith in get_or_at ranks r [] 0 i (omega (arith, w)) ∙ (e ∙ ap (rank stay) (sym same))
      ];
    }

-- ranks in a list of them, where the cell reads those alone
pub with_numbers-same : (n : ℕ) (stay ranks : List ℕ) (c : Cell) → AreRanks n stay ranks → AllByRecursion (λ a. a < n) (operands_of c) →
    with_numbers (λ a. get_or ranks a 0) c ≡ with_numbers (rank stay) c
with_numbers-same n stay ranks (Input port) h a = refl
with_numbers-same n stay ranks (Not x) h a = ap Not (h.each x a.0)
with_numbers-same n stay ranks (Gate kind x y) h a = ap (λ (k : ℕ). Gate kind k (get_or ranks y 0)) (h.each x a.0) ∙ ap (λ (k : ℕ). Gate kind (rank stay x) k) (h.each y a.1.0)

pub map-ranks : (n : ℕ) (stay ranks xs : List ℕ) → AreRanks n stay ranks → AllByRecursion (λ a. a < n) xs → map (λ a. get_or ranks a 0) xs ≡ map (rank stay) xs
map-ranks n stay ranks [] h a = refl
map-ranks n stay ranks (x ∷ xs) h a = ap (λ (k : ℕ). k ∷ map (λ b. get_or ranks b 0) xs) (h.each x a.0) ∙ ap (λ (ks : List ℕ). rank stay x ∷ ks) (map-ranks n stay ranks xs h a.1)

-- one cell more: it is kept where it stays, with the ranks of what it reads
pub kept-next : (net : CellNet) → AreCells net → (i : ℕ) (ranks : List ℕ) (marks : List Bool) (before later : List Cell) → i < length net.cells →
    AreRanks i (stay_of net) ranks → AreMarks (length net.cells) (stay_of net) marks → before ≡ kept_before net i →
    later ≡ (if get_or marks i false then before ++ with_numbers (λ a. get_or ranks a 0) (cell_at net.cells i) ∷ [] else before) → later ≡ kept_before net (i + 1)
kept-next net h i ranks marks before later l are marked_ones is e =
    e ∙ by (get_or marks i false) (sym (marked_ones.each i l))
  where
    by : (b : Bool) → has (stay_of net) i ≡ b → (if b then before ++ with_numbers (λ a. get_or ranks a 0) (cell_at net.cells i) ∷ [] else before) ≡ kept_before net (i + 1)
    by true on =
        ap (λ (cs : List Cell). cs ++ with_numbers (λ a. get_or ranks a 0) (cell_at net.cells i) ∷ []) is
        ∙ kept-has net i (with_numbers (λ a. get_or ranks a 0) (cell_at net.cells i)) on (with_numbers-same i (stay_of net) ranks (cell_at net.cells i) are (h.reads i))
    by false off = is ∙ kept-lacks net i off

pub ranks-begin : (net : CellNet) (ranks : List ℕ) → ranks ≡ [] → AreRanks 0 (stay_of net) ranks
ranks-begin net ranks e = record { whole = ap length e; each = λ i l. absurd (omega arith) }

pub ranks-next : (net : CellNet) (i : ℕ) (ranks later : List ℕ) (before : List Cell) → AreRanks i (stay_of net) ranks → before ≡ kept_before net i →
    later ≡ ranks ++ length before ∷ [] → AreRanks (i + 1) (stay_of net) later
ranks-next net i ranks later before are is e =
    subst (AreRanks (i + 1) (stay_of net)) (sym e) (ranks-push i (length before) (stay_of net) ranks are (ap length is ∙ kept-length net i))

pub all-kept : (net : CellNet) (i : ℕ) (cells : List Cell) → i ≡ length net.cells → cells ≡ kept_before net i → cells ≡ cone_cells net
all-kept net i cells e f = f ∙ (ap (kept_before net) e ∙ kept-all net)

pub cone_of-is : (net : CellNet) (cells : List Cell) (ranks outputs : List ℕ) → AreCells net → cells ≡ cone_cells net →
    AreRanks (length net.cells) (stay_of net) ranks → outputs ≡ map (λ a. get_or ranks a 0) net.outputs → cell_net cells outputs ≡ cone_of net
unfolding cone_of
cone_of-is net cells ranks outputs h is are e =
    ap (λ (cs : List Cell). cell_net cs outputs) is
    ∙ ap (λ (os : List ℕ). cell_net (cone_cells net) os) (e ∙ map-ranks (length net.cells) (stay_of net) ranks net.outputs are h.outputs)
