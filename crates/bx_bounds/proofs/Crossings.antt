-- The edges that pass below two nodes, counted by the bits of rows.
use Rattle.std.proofs.Common.{◌≡◌, ◌≢◌, ℕ, zero, suc, ◌+◌, ◌*◌, ◌^◌, ◌<◌, ◌≤◌, ◌⊎◌, List, [], ◌∷◌, ◌++◌, length, map, get_or, Some, count_ones, bit_or, bit_and, inl, inr, refl, sym, ap, ap₂, ◌∙◌, subst, arith, length-append}
use Rattle.std.proofs.lemmas.List.{length-map}
use Rattle.bx_logic.specs.Lists.{AreDistinct}
use Rattle.bx_logic.proofs.Members.{Member, Contains-from_member, Member-from_contains, Member-append_left, Member-append_right, Member-append_cases, Member-map, Member-map_cases, AllByRecursion-from_member, member_of_AllByRecursion}
use Rattle.bx_network.specs.declared.node.Edge.{Edge}
use Rattle.bx_network.specs.Networks.{Network, IsNetwork}
use Rattle.bx_network.proofs.Networks.{kind-at, operands-few, operand-within, goes-forward}
use Rattle.bx_network.proofs.Placed.{in-placed}
use Rattle.bx_layout.proofs.PinLists.{distinct-append}
use Rattle.bx_bounds.specs.Ancestors.{IsAncestor, IsAtOrAbove}
use Rattle.bx_bounds.specs.Numbers.{IsCount}
use Rattle.bx_bounds.specs.Refutes.{PassesBelow}
use Rattle.bx_bounds.specs.Rows.{HasBit, AreRowsOf, ArePassing, EntersFromAbove, passing_bits}
use Rattle.bx_bounds.proofs.BitRows.{bit-or, bit-and, ones_of, ones-member, ones-are, ones-distinct, length-ones}
use Rattle.bx_bounds.proofs.Pigeons.{sent}

-- an edge's target and operand as a number
abbrev code_of : ℕ → ℕ → ℕ
code_of operand t = 2 * t + operand

distinct-codes : (operand : ℕ) (xs : List ℕ) → AreDistinct xs → AreDistinct (map (code_of operand) xs)
distinct-codes operand [] d = tt
distinct-codes operand (x ∷ xs) d = (
  AllByRecursion-from_member (λ y. y ≢ code_of operand x) (map (code_of operand) xs) (λ y m same.
      let (z, n, e) = Member-map_cases (code_of operand) y xs m in
      let other : z ≢ x = member_of_AllByRecursion (λ (w : ℕ). w ≢ x) z xs d.0 n in
      other (omega arith)),
  distinct-codes operand xs d.1,
)

module _ (N : Network) (net : IsNetwork N) (few : length N.nodes ≤ 128) (below first second : List ℕ) (passing : ArePassing N.edges below first second)
    (u v : ℕ) (one : u < 128) (two : v < 128) where
  -- a bit stands for an edge
  record IsPassing (operand t e : ℕ) : Type 0 where
    passes : PassesBelow N u v e
    enters : passes.edge.target ≡ t
    by : passes.edge.operand ≡ operand

  bits-say : (operand : ℕ) (entered : List ℕ) → AreRowsOf (EntersFromAbove N.edges operand) entered → (t : ℕ) → t < 128 → HasBit (passing_bits below entered u v) t → (e : ℕ) × IsPassing operand t e
  bits-say operand entered rows t low has =
      let (up, down) = (bit-and (bit_or (get_or entered u 0) (get_or entered v 0)) (bit_and (get_or below u 0) (get_or below v 0)) t).0 has in
      let (below_one, below_two) = (bit-and (get_or below u 0) (get_or below v 0) t).0 down in
      let under_one = (passing.descendants.each u t one low).0 below_one in
      let under_two = (passing.descendants.each v t two low).0 below_two in
      elim ((bit-or (get_or entered u 0) (get_or entered v 0) t).0 up) [
        | inl by_one ↦ made under_one under_two u (λ x at. inl at) ((rows.each u t one low).0 by_one)
        | inr by_two ↦ made under_one under_two v (λ x at. inr at) ((rows.each v t two low).0 by_two)
      ]
    where
      made : IsAncestor N.edges u t → IsAncestor N.edges v t → (w : ℕ) → ((x : ℕ) → IsAtOrAbove N.edges x w → IsAtOrAbove N.edges x u ⊎ IsAtOrAbove N.edges x v) → EntersFromAbove N.edges operand w t → (e : ℕ) × IsPassing operand t e
      made under_one under_two w which (x, at, (e, edge, is, from, to, by)) = (
        e,
        record {
          passes = record {
            edge = edge;
            is = is;
            source = subst (λ (y : ℕ). IsAtOrAbove N.edges y u ⊎ IsAtOrAbove N.edges y v) (sym from) (which x at);
            below_one = subst (IsAncestor N.edges u) (sym to) under_one;
            below_two = subst (IsAncestor N.edges v) (sym to) under_two;
          };
          enters = to;
          by = by;
        },
      )

  bits-have : (operand : ℕ) (entered : List ℕ) → AreRowsOf (EntersFromAbove N.edges operand) entered → (e : ℕ) (p : PassesBelow N u v e) → p.edge.operand ≡ operand → HasBit (passing_bits below entered u v) p.edge.target
  bits-have operand entered rows e p by =
      let inside = (goes-forward N net e p.edge p.is).within in
      let t = p.edge.target in
      (bit-and (bit_or (get_or entered u 0) (get_or entered v 0)) (bit_and (get_or below u 0) (get_or below v 0)) t).1 (
        (bit-or (get_or entered u 0) (get_or entered v 0) t).1 (elim p.source [
          | inl above ↦ inl ((rows.each u t one (omega arith)).1 (p.edge.source, above, (e, p.edge, p.is, refl, refl, by)))
          | inr above ↦ inr ((rows.each v t two (omega arith)).1 (p.edge.source, above, (e, p.edge, p.is, refl, refl, by)))
        ]),
        (bit-and (get_or below u 0) (get_or below v 0) t).1 (
          (passing.descendants.each u t one (omega arith)).1 p.below_one,
          (passing.descendants.each v t two (omega arith)).1 p.below_two,
        ),
      )

  -- the codes of the edges that pass
  codes : List ℕ
  codes = map (code_of 0) (ones_of 128 (passing_bits below first u v)) ++ map (code_of 1) (ones_of 128 (passing_bits below second u v))

  codes-distinct : AreDistinct codes
  unfolding codes
  codes-distinct =
      distinct-append (map (code_of 0) (ones_of 128 (passing_bits below first u v))) (map (code_of 1) (ones_of 128 (passing_bits below second u v)))
      (distinct-codes 0 (ones_of 128 (passing_bits below first u v)) (ones-distinct 128 (passing_bits below first u v)))
      (distinct-codes 1 (ones_of 128 (passing_bits below second u v)) (ones-distinct 128 (passing_bits below second u v)))
      (λ x y m n same.
      let (s, k, a) = Member-map_cases (code_of 0) x (ones_of 128 (passing_bits below first u v)) m in
      let (t, l, b) = Member-map_cases (code_of 1) y (ones_of 128 (passing_bits below second u v)) n in
      omega arith)

  record IsCode (c e : ℕ) : Type 0 where
    passes : PassesBelow N u v e
    code : c ≡ code_of passes.edge.operand passes.edge.target

  edge-once : (c d e : ℕ) → IsCode c e → IsCode d e → c ≡ d
  edge-once c d e p q =
      let both : Some p.passes.edge ≡ Some q.passes.edge = sym p.passes.is ∙ q.passes.is in
      let same : p.passes.edge ≡ q.passes.edge = cc in
      p.code ∙ ap (λ (x : Edge). code_of x.operand x.target) same ∙ sym q.code

  code-once : (c d e : ℕ) → IsCode c d → IsCode c e → d ≡ e
  code-once c d e p q = (in-placed N net e q.passes.edge q.passes.is).apart d p.passes.edge p.passes.is (sym p.code ∙ q.code)

  of-code : (operand c e : ℕ) (t : ℕ) → code_of operand t ≡ c → IsPassing operand t e → IsCode c e
  of-code operand c e t same p = record { passes = p.passes; code = sym same ∙ sym (ap₂ code_of p.by p.enters) }

  each-code : (c : ℕ) → Member c codes → (e : ℕ) × IsCode c e
  unfolding codes
  each-code c m = elim (Member-append_cases c (map (code_of 0) (ones_of 128 (passing_bits below first u v))) (map (code_of 1) (ones_of 128 (passing_bits below second u v))) m) [
    | inl left ↦ (
        let (t, among, same) = Member-map_cases (code_of 0) c (ones_of 128 (passing_bits below first u v)) left in
        let (low, has) = ones-are 128 (passing_bits below first u v) t among in
        let (e, p) = bits-say 0 first passing.by_first t low has in
        (e, of-code 0 c e t same p))
    | inr right ↦ (
        let (t, among, same) = Member-map_cases (code_of 1) c (ones_of 128 (passing_bits below second u v)) right in
        let (low, has) = ones-are 128 (passing_bits below second u v) t among in
        let (e, p) = bits-say 1 second passing.by_second t low has in
        (e, of-code 1 c e t same p))
  ]

  has-code : (e : ℕ) (p : PassesBelow N u v e) → Member (code_of p.edge.operand p.edge.target) codes
  unfolding codes
  has-code e p = at p.edge.operand refl few_operands
    where
      inside : p.edge.target < length N.nodes
      inside = (goes-forward N net e p.edge p.is).within

      few_operands : p.edge.operand < 2
      few_operands =
          let (kind, has) = kind-at N p.edge.target inside in
          let low = operand-within N net e p.edge p.is kind has in
          let most = operands-few kind in
          omega arith

      at : (o : ℕ) → p.edge.operand ≡ o → o < 2 → Member (code_of o p.edge.target) (map (code_of 0) (ones_of 128 (passing_bits below first u v)) ++ map (code_of 1) (ones_of 128 (passing_bits below second u v)))
      at zero by low =
          Member-append_left (code_of 0 p.edge.target) (map (code_of 0) (ones_of 128 (passing_bits below first u v))) (map (code_of 1) (ones_of 128 (passing_bits below second u v)))
          (Member-map (code_of 0) p.edge.target (ones_of 128 (passing_bits below first u v)) (ones-member 128 (passing_bits below first u v) p.edge.target (omega (arith, inside)) (bits-have 0 first passing.by_first e p by)))
      at (suc zero) by low =
          Member-append_right (code_of 1 p.edge.target) (map (code_of 0) (ones_of 128 (passing_bits below first u v))) (map (code_of 1) (ones_of 128 (passing_bits below second u v)))
          (Member-map (code_of 1) p.edge.target (ones_of 128 (passing_bits below second u v)) (ones-member 128 (passing_bits below second u v) p.edge.target (omega (arith, inside)) (bits-have 1 second passing.by_second e p by)))
      at (suc (suc o)) by low = absurd (omega arith)

  pub passing-count : passing_bits below first u v < 2 ^ 128 → passing_bits below second u v < 2 ^ 128 → IsCount (PassesBelow N u v) (count_ones (passing_bits below first u v) + count_ones (passing_bits below second u v))
  unfolding codes
  passing-count short_first short_second =
      let all = sent IsCode codes codes-distinct edge-once each-code in
      record {
        numbers = all.images;
        distinct = all.distinct;
        are = λ e. (
          (λ p.
              let (d, m, q) = all.to (code_of p.edge.operand p.edge.target) (has-code e p) in
              let same : d ≡ e = code-once (code_of p.edge.operand p.edge.target) d e q (record { passes = p; code = refl }) in
              Contains-from_member e all.images (subst (λ (x : ℕ). Member x all.images) same m)),
          (λ h. let (c, m, q) = all.from e (Member-from_contains e all.images h) in q.passes),
        );
        size =
            all.size
            ∙ length-append (map (code_of 0) (ones_of 128 (passing_bits below first u v))) (map (code_of 1) (ones_of 128 (passing_bits below second u v)))
            ∙ ap₂ ◌+◌ (length-map (ones_of 128 (passing_bits below first u v)) (code_of 0) ∙ length-ones 128 (passing_bits below first u v) short_first)
            (length-map (ones_of 128 (passing_bits below second u v)) (code_of 1) ∙ length-ones 128 (passing_bits below second u v) short_second);
      }
