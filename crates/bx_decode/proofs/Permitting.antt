-- On a layout that true bits mean no tile has a form that isn't permitted there.
use Rattle.std.proofs.Common.{◌≡◌, ℕ, ◌<◌, ◌&&◌, Bool, true, false, not, cond, List, [], ◌∷◌, ◌++◌, map, filter, length, slice_get, Option, Some, None, is_some, inl, inr, refl, sym, ap, ◌∙◌, subst, arith, eq-eqb}
use Rattle.std.proofs.lemmas.Bool.{cases_Bool, false≢true}
use Rattle.std.specs.List.{range_with_len}
use Rattle.std.specs.Prelude.{option_and_then}
use Rattle.bx_logic.proofs.Members.{Member, Member-map, Member-filter, Member-flat_map}
use Rattle.bx_logic.proofs.Ordered.{Member-range}
use Rattle.bx_cnf.specs.Literals.{Literal, value_of}
use Rattle.bx_forms.specs.declared.kind.Kind.{Kind}
use Rattle.bx_forms.specs.declared.kind.Kind.TheVariants.{Output, Not, Fan}
use Rattle.bx_forms.specs.declared.side.Side.{Side}
use Rattle.bx_forms.specs.declared.side.Side.TheVariants.{Left, Right}
use Rattle.bx_forms.specs.declared.side.Sides.{Sides}
use Rattle.bx_forms.specs.declared.table.TheConstants.{FORMS}
use Rattle.bx_forms.specs.Forms.{IsForm, form_upper, form_lower, form_value}
use Rattle.bx_forms.specs.Sides.{is_used}
use Rattle.bx_grid.specs.Tiles.{tile_count, IsTile, border, entering}
use Rattle.bx_layout.specs.declared.layout.Layout.{Layout}
use Rattle.bx_layout.specs.Layouts.{edge_on, enters, leaves}
use Rattle.bx_layout.specs.Legal.{IsPermitted}
use Rattle.bx_layout.specs.Permits.{PermitTest}
use Rattle.bx_layout.specs.TileForms.{upper_sides, slot_of, ComesFrom, on_side, HasNodeForm, HasWireForm}
use Rattle.bx_layout.proofs.Balances.{option-cases, entering-is, leaving-is}
use Rattle.bx_layout.proofs.OnTiles.{slot-some, some-of}
use Rattle.bx_network.specs.Networks.{Network, IsNetwork}
use Rattle.bx_network.proofs.Lists.{got-at}
use Rattle.bx_encode.specs.declared.variable.Variable.TheVariants.{NodeOn, Taken, Used, EdgeOn}
use Rattle.bx_encode.specs.Variables.{border_count, number, is, isnt}
use Rattle.bx_encode.specs.Families.{Clause, each, nodes, edges, tiles, list_of, has_kind, kind_number, used_side, used_unlike, bars_node, bars, is_permitted}
use Rattle.bx_encode.proofs.Barring.{wire_list, wire-is, two-is, one-is, holding-is, entering-in}
use Rattle.bx_decode.specs.Meaning.{AreTrue, Means}
use Rattle.bx_decode.proofs.Clauses.{SomeTrue, some-append, IsOn, not-both, not-three}
use Rattle.bx_decode.proofs.Families.{of-permitted, uses-it, used-by}
use Rattle.bx_decode.proofs.Sides.{list_of-has, enters-by}
use Rattle.bx_decode.proofs.Placing.{node-set, edge-set, placed}
use Rattle.bx_decode.proofs.Balancing.{not-twice-out, ended-there}
use Rattle.bx_decode.proofs.Table.{any_side, both_sides, known_by, as_many, fits, line-fits, holding-within, used-itself, left-alone, right-alone, both-below, one-each}

numbered : (n k : ℕ) → k < n → Member k (range_with_len 0 n)
numbered n k low = Member-range 0 n k (omega arith) (omega arith)

-- both of two tests
and-left : (a b : Bool) → (a && b) ≡ true → a ≡ true
and-left true b h = refl
and-left false b h = h

and-right : (a b : Bool) → (a && b) ≡ true → b ≡ true
and-right true b h = h
and-right false b h = absurd (false≢true h)

some-side : (o : Option Side) → is_some o ≡ true → (side : Side) × (o ≡ Some side)
some-side None h = absurd (false≢true h)
some-side (Some side) h = (side, refl)

upper-used : (L : Layout) (t : ℕ) (side : Side) → is_used (upper_sides L t) side ≡ is_some (enters L t side)
upper-used L t Left = refl
upper-used L t Right = refl

module _ (N : Network) (permit : PermitTest) (L : Layout) (bits : List Bool) (network : IsNetwork N) (all : AreTrue N permit L.ratio bits) (means : Means N L.ratio bits L)
    (t : ℕ) (tile : IsTile L.ratio t) where
  -- ---- used borders

  border-in : (side : Side) → border t side < border_count L.ratio
  border-in Left = omega arith
  border-in Right = omega arith

  -- a border is used exactly where it carries an edge
  carrying-used : (b e : ℕ) → edge_on L b ≡ Some e → IsOn N L.ratio bits (Used b)
  carrying-used b e carries =
      let ((edge, inside), on) = edge-set N permit L bits all means e b carries in
      uses-it N permit L.ratio bits all e b edge inside on

  used-is : (b : ℕ) → b < border_count L.ratio → value_of bits (number N L.ratio (Used b)) ≡ is_some (edge_on L b)
  used-is b inside = elim (option-cases (edge_on L b)) [
    | inl none ↦ elim (cases_Bool (value_of bits (number N L.ratio (Used b)))) [
      | inl on ↦
          let (e, edge, own) = used-by N permit L.ratio bits all b inside on in
          let carries = (means.carries e b).1 ((edge, inside), own) in
          let clash : None ≡ Some e = sym none ∙ carries in
          cc
      | inr off ↦ off ∙ ap is_some (sym none)
    ]
    | inr (e, carries) ↦ carrying-used b e carries ∙ ap is_some (sym carries)
  ]

  entry-used : (side : Side) (b : ℕ) → entering L.ratio t side ≡ Some b → value_of bits (number N L.ratio (Used b)) ≡ is_some (enters L t side)
  entry-used side b is =
      let low = entering-in L.ratio t b side is in
      used-is b (omega arith) ∙ ap is_some (same is)
    where
      same : entering L.ratio t side ≡ Some b → edge_on L b ≡ enters L t side
      same e = sym (ap (option_and_then (edge_on L)) e)

  exit-used : (side : Side) → value_of bits (number N L.ratio (Used (border t side))) ≡ is_some (leaves L t side)
  exit-used side = used-is (border t side) (border-in side)

  -- ---- the clauses against a form

  of-bars : (form : ℕ) (c : Clause) → IsForm form → permit L.ratio t form ≡ false → Member c (bars N L.ratio t form) → SomeTrue bits c
  unfolding is_permitted
  of-bars form c inside off own =
      of-permitted N permit L.ratio bits all c
      (Member-flat_map (λ s. each (filter (λ f. not (permit L.ratio s f)) (range_with_len 0 (length FORMS))) (bars N L.ratio s)) t c (tiles N L.ratio) (numbered (tile_count L.ratio) t tile)
      (Member-flat_map (bars N L.ratio t) form c (filter (λ f. not (permit L.ratio t f)) (range_with_len 0 (length FORMS)))
      (Member-filter (λ f. not (permit L.ratio t f)) form (range_with_len 0 (length FORMS)) (ap not off) (numbered (length FORMS) form inside)) own))

  -- ---- a form with a node

  barred : (kind : Kind) (v : ℕ) (upper lower : Sides) → known_by kind upper lower ≡ true →
      ((c : Clause) → Member c (bars_node N L.ratio t (used_side upper) (used_side lower) kind v) → SomeTrue bits c) →
      ((side : Side) → is_used upper side ≡ true → (a : ℕ) × (entering L.ratio t side ≡ Some a) × IsOn N L.ratio bits (Used a)) →
      ((side : Side) → is_used lower side ≡ true → IsOn N L.ratio bits (Used (border t side))) →
      IsOn N L.ratio bits (NodeOn v t) → ⊥
  barred Output v upper lower known says above below on =
      let (a, enter, used) = above (used_side upper) (used-itself upper known) in
      not-both N L.ratio bits (NodeOn v t) (Used a)
      (says _ (Member-map (λ b. isnt N L.ratio (NodeOn v t) ∷ isnt N L.ratio (Used b) ∷ []) a (list_of (entering L.ratio t (used_side upper))) (list_of-has _ a enter))) on used
  barred Fan v upper lower known says above below on =
      let (a, enter, used) = above (used_side upper) (used-itself upper known) in
      not-both N L.ratio bits (NodeOn v t) (Used a)
      (says _ (Member-map (λ b. isnt N L.ratio (NodeOn v t) ∷ isnt N L.ratio (Used b) ∷ []) a (list_of (entering L.ratio t (used_side upper))) (list_of-has _ a enter))) on used
  barred Not v upper lower known says above below on =
      let (a, enter, used) = above (used_side upper) (used-itself upper (and-left (any_side upper) (any_side lower) known)) in
      let out = below (used_side lower) (used-itself lower (and-right (any_side upper) (any_side lower) known)) in
      not-three N L.ratio bits (NodeOn v t) (Used a) (Used (border t (used_side lower)))
      (says _ (Member-map (λ b. isnt N L.ratio (NodeOn v t) ∷ isnt N L.ratio (Used b) ∷ isnt N L.ratio (Used (border t (used_side lower))) ∷ []) a (list_of (entering L.ratio t (used_side upper))) (list_of-has _ a enter))) on used out
  barred _ v upper lower known says above below on =
      not-both N L.ratio bits (NodeOn v t) (Used (border t (used_side lower))) (says _ (inl refl)) on (below (used_side lower) (used-itself lower known))

  no-node-form : (form : ℕ) → permit L.ratio t form ≡ false → HasNodeForm N L t form → ⊥
  no-node-form form off has =
      let uses = has.form_of.uses in
      let inside = holding-within form has.node.kind uses.node in
      let known : known_by has.node.kind (form_upper form) (form_lower form) ≡ true = sym (ap (λ o. fits o (form_upper form) (form_lower form)) uses.node) ∙ line-fits form inside in
      let ((node, _), on) = node-set N permit L bits all means has.v t has.stands in
      barred has.node.kind has.v (form_upper form) (form_lower form) known
      (λ c own. of-bars form c inside off (subst (λ (cs : List Clause). Member c cs) (sym (holding-is N L.ratio t form has.node.kind uses.node))
      (Member-flat_map (bars_node N L.ratio t (used_side (form_upper form)) (used_side (form_lower form)) has.node.kind) has.v c (filter (λ w. has_kind has.node.kind (slice_get N.nodes w)) (nodes N L.ratio))
      (Member-filter (λ w. has_kind has.node.kind (slice_get N.nodes w)) has.v (nodes N L.ratio) (ap (has_kind has.node.kind) has.is_node ∙ eq-eqb (kind_number has.node.kind) (kind_number has.node.kind) refl) (numbered (length N.nodes) has.v node)) own)))
      (λ side h. above side (sym (upper-used L t side) ∙ sym (ap (λ s. is_used s side) uses.upper_sides) ∙ h))
      (λ side h. below side (sym (slots side) ∙ sym (ap (λ s. is_used s side) uses.lower_sides) ∙ h))
      on
    where
      above : (side : Side) → is_some (enters L t side) ≡ true → (a : ℕ) × (entering L.ratio t side ≡ Some a) × IsOn N L.ratio bits (Used a)
      above side h =
          let (e, come) = some-of (enters L t side) h in
          let by = enters-by L t e side come in
          (by.border, by.is, carrying-used by.border e by.carries)

      leaving : (side : Side) → is_some (slot_of N (leaves L t side)) ≡ is_some (leaves L t side)
      leaving side = slot-some N (leaves L t side) (λ e out. leaving-is N L (placed N permit L bits all means) t e side out)

      slots : (side : Side) → is_used (record { left = is_some (slot_of N (leaves L t Left)); right = is_some (slot_of N (leaves L t Right)) }) side ≡ is_some (slot_of N (leaves L t side))
      slots Left = refl
      slots Right = refl

      below : (side : Side) → is_some (slot_of N (leaves L t side)) ≡ true → IsOn N L.ratio bits (Used (border t side))
      below side h = exit-used side ∙ sym (leaving side) ∙ h

  -- ---- a double or a cross

  -- what enters on the upper left leaves on the side that the form says
  crosses : (form : ℕ) (left right : Option Side) → ComesFrom L t Left left → ComesFrom L t Right right → is_some left ≡ true → is_some right ≡ true →
      ((side from : Side) → on_side left right side ≡ Some from → (a b : Bool) → form_value form a b side ≡ on_side a b from) →
      (e : ℕ) × (enters L t Left ≡ Some e) × (leaves L t (cond (form_value form true false Left) Left Right) ≡ Some e)
  crosses form None right from_left from_right some other sends = absurd (false≢true some)
  crosses form (Some Left) right (e, out, come) from_right some other sends =
      let way = ap (λ b. leaves L t (cond b Left Right)) (sends Left Left refl true false) in
      (e, come, way ∙ out)
  crosses form (Some Right) None from_left from_right some other sends = absurd (false≢true other)
  crosses form (Some Right) (Some Left) from_left (e, out, come) some other sends =
      let way = ap (λ b. leaves L t (cond b Left Right)) (sends Left Right refl true false) in
      (e, come, way ∙ out)
  crosses form (Some Right) (Some Right) (e, out, come) (f, leave, enter) some other sends =
      let same : f ≡ e = let both : Some f ≡ Some e = sym enter ∙ come in cc in
      let at = got-at N.edges e (leaving-is N L (placed N permit L bits all means) t e Left out) in
      absurd (not-twice-out N permit L bits network all means t e at.item tile at.at out (leave ∙ ap Some same))

  no-two-form : (form : ℕ) → permit L.ratio t form ≡ false → HasWireForm L t form → both_sides (form_upper form) ≡ true → ⊥
  no-two-form form off has both =
      let wire = has.wire_of in
      let many : as_many (form_upper form) (form_lower form) ≡ true = sym (ap (λ o. fits o (form_upper form) (form_lower form)) wire.holds_none) ∙ line-fits form wire.form in
      let lower = both-below (form_upper form) (form_lower form) many both in
      let way : Side = cond (form_value form true false Left) Left Right in
      let (e, come, out) = crosses form has.left has.right has.from_left has.from_right
      (sym (ap (λ (s : Sides). s.left) wire.lower_sides) ∙ and-left (form_lower form).left (form_lower form).right lower) (sym (ap (λ (s : Sides). s.right) wire.lower_sides) ∙ and-right (form_lower form).left (form_lower form).right lower) wire.sends in
      let by = enters-by L t e Left come in
      let (f, enter) = some-of (enters L t Right) (sym (ap (λ (s : Sides). s.right) wire.upper_sides) ∙ and-right (form_upper form).left (form_upper form).right both) in
      let other = enters-by L t f Right enter in
      let ((edge, _), on) = edge-set N permit L bits all means e by.border by.carries in
      let below = (edge-set N permit L bits all means e (border t way) out).1 in
      let clause : Clause = isnt N L.ratio (Used other.border) ∷ isnt N L.ratio (EdgeOn e by.border) ∷ isnt N L.ratio (EdgeOn e (border t way)) ∷ [] in
      not-three N L.ratio bits (Used other.border) (EdgeOn e by.border) (EdgeOn e (border t way))
      (of-bars form clause wire.form off (subst (λ (cs : List Clause). Member clause cs) (two-is N L.ratio t form way wire.form wire.holds_none both refl)
      (Member-flat_map (λ a. each (list_of (entering L.ratio t Right)) (λ b. map (λ d. isnt N L.ratio (Used b) ∷ isnt N L.ratio (EdgeOn d a) ∷ isnt N L.ratio (EdgeOn d (border t way)) ∷ []) (edges N L.ratio))) by.border clause (list_of (entering L.ratio t Left)) (list_of-has (entering L.ratio t Left) by.border by.is)
      (Member-flat_map (λ b. map (λ d. isnt N L.ratio (Used b) ∷ isnt N L.ratio (EdgeOn d by.border) ∷ isnt N L.ratio (EdgeOn d (border t way)) ∷ []) (edges N L.ratio)) other.border clause (list_of (entering L.ratio t Right)) (list_of-has (entering L.ratio t Right) other.border other.is)
      (Member-map (λ d. isnt N L.ratio (Used other.border) ∷ isnt N L.ratio (EdgeOn d by.border) ∷ isnt N L.ratio (EdgeOn d (border t way)) ∷ []) e (edges N L.ratio) (numbered (length N.edges) e edge))))))
      (carrying-used other.border f other.carries) on below

  -- ---- a wire

  -- of a border that is used as told no literal is true
  told-off : (o : Option ℕ) (u : Bool) → ((b : ℕ) → o ≡ Some b → value_of bits (number N L.ratio (Used b)) ≡ u) → SomeTrue bits (used_unlike N L.ratio o u) → ⊥
  told-off None u is h = h
  told-off (Some b) u is (inl on) = neither u (sym (is b refl) ∙ on)
    where
      neither : (a : Bool) → a ≡ not a → ⊥
      neither true e = false≢true (sym e)
      neither false e = false≢true e
  told-off (Some b) u is (inr none) = none

  came : (side : Side) (o : Option Side) → ComesFrom L t side o → is_some o ≡ is_some (leaves L t side)
  came side None none = ap is_some (sym none)
  came side (Some from) (e, out, come) = ap is_some (sym out)

  only-taken : (upper lower : Side) → is_some (enters L t Left) ≡ on_side true false upper → is_some (enters L t Right) ≡ not (on_side true false upper) →
      is_some (leaves L t Left) ≡ on_side true false lower → is_some (leaves L t Right) ≡ not (on_side true false lower) →
      SomeTrue bits (wire_list N L.ratio t upper lower) → IsOn N L.ratio bits (Taken t)
  only-taken upper lower a b c d h =
      elim (some-append bits ((((is N L.ratio (Taken t) ∷ []) ++ x) ++ y) ++ z) w h) [
        | inr last ↦ absurd (told-off (Some (border t Right)) (not (on_side true false lower)) (λ k e. let same : border t Right ≡ k = cc in ap (λ n. value_of bits (number N L.ratio (Used n))) (sym same) ∙ exit-used Right ∙ d) last)
        | inl h3 ↦ elim (some-append bits (((is N L.ratio (Taken t) ∷ []) ++ x) ++ y) z h3) [
          | inr third ↦ absurd (told-off (Some (border t Left)) (on_side true false lower) (λ k e. let same : border t Left ≡ k = cc in ap (λ n. value_of bits (number N L.ratio (Used n))) (sym same) ∙ exit-used Left ∙ c) third)
          | inl h2 ↦ elim (some-append bits ((is N L.ratio (Taken t) ∷ []) ++ x) y h2) [
            | inr second ↦ absurd (told-off (entering L.ratio t Right) (not (on_side true false upper)) (λ k e. entry-used Right k e ∙ b) second)
            | inl h1 ↦ elim (some-append bits (is N L.ratio (Taken t) ∷ []) x h1) [
              | inr first ↦ absurd (told-off (entering L.ratio t Left) (on_side true false upper) (λ k e. entry-used Left k e ∙ a) first)
              | inl own ↦ taken own
            ]
          ]
        ]
      ]
    where
      x : List Literal
      x = used_unlike N L.ratio (entering L.ratio t Left) (on_side true false upper)

      y : List Literal
      y = used_unlike N L.ratio (entering L.ratio t Right) (not (on_side true false upper))

      z : List Literal
      z = used_unlike N L.ratio (Some (border t Left)) (on_side true false lower)

      w : List Literal
      w = used_unlike N L.ratio (Some (border t Right)) (not (on_side true false lower))

      taken : SomeTrue bits (is N L.ratio (Taken t) ∷ []) → IsOn N L.ratio bits (Taken t)
      taken (inl on) = on
      taken (inr none) = absurd none

  no-one-form : (form : ℕ) → permit L.ratio t form ≡ false → HasWireForm L t form → both_sides (form_upper form) ≡ false → ⊥
  no-one-form form off has one =
      let wire = has.wire_of in
      let many : as_many (form_upper form) (form_lower form) ≡ true = sym (ap (λ o. fits o (form_upper form) (form_lower form)) wire.holds_none) ∙ line-fits form wire.form in
      let single = one-each (form_upper form) (form_lower form) many one in
      let upper = used_side (form_upper form) in
      let lower = used_side (form_lower form) in
      let (e, come) = some-of (enters L t upper) (sym (upper-used L t upper) ∙ sym (ap (λ s. is_used s upper) wire.upper_sides) ∙ used-itself (form_upper form) single.above) in
      let by = enters-by L t e upper come in
      let own : Member (wire_list N L.ratio t upper lower) (bars N L.ratio t form) =
      subst (λ (cs : List Clause). Member (wire_list N L.ratio t upper lower) cs) (sym (wire-is N L.ratio t upper lower (Some by.border) by.is) ∙ one-is N L.ratio t form upper lower wire.form wire.holds_none one refl refl) (inl refl) in
      let taken = only-taken upper lower
      (sym (ap (λ (s : Sides). s.left) wire.upper_sides) ∙ left-alone (form_upper form) single.above one)
      (sym (ap (λ (s : Sides). s.right) wire.upper_sides) ∙ right-alone (form_upper form) single.above one)
      (sym (came Left has.left has.from_left) ∙ sym (ap (λ (s : Sides). s.left) wire.lower_sides) ∙ left-alone (form_lower form) single.below single.alone)
      (sym (came Right has.right has.from_right) ∙ sym (ap (λ (s : Sides). s.right) wire.lower_sides) ∙ right-alone (form_lower form) single.below single.alone)
      (of-bars form (wire_list N L.ratio t upper lower) wire.form off own) in
      let at = got-at N.edges e (entering-is N L (placed N permit L bits all means) t e upper come) in
      has.free at.item.target (ended-there N permit L bits network all means t e at.item tile at.at upper taken come)

  no-wire-form : (form : ℕ) → permit L.ratio t form ≡ false → HasWireForm L t form → ⊥
  no-wire-form form off has = elim (cases_Bool (both_sides (form_upper form))) [
    | inl both ↦ no-two-form form off has both
    | inr one ↦ no-one-form form off has one
  ]

-- ---- all of them

pub permitted : (N : Network) (permit : PermitTest) (L : Layout) (bits : List Bool) → IsNetwork N → AreTrue N permit L.ratio bits → Means N L.ratio bits L → IsPermitted N permit L
permitted N permit L bits network all means t form tile has = elim (cases_Bool (permit L.ratio t form)) [
  | inl allowed ↦ allowed
  | inr off ↦ elim has [
    | inl node ↦ absurd (no-node-form N permit L bits network all means t tile form off node)
    | inr wire ↦ absurd (no-wire-form N permit L bits network all means t tile form off wire)
  ]
]
