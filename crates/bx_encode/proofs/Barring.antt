-- The clauses against forms that aren't permitted: what the table says of each form, and that they are clauses.
use Rattle.std.proofs.Common.{◌≡◌, ℕ, ◌+◌, ◌*◌, ◌<◌, ◌≤◌, ◌&&◌, Bool, true, false, not, cond, List, [], ◌∷◌, ◌++◌, map, Some, None, MatchOption, refl, sym, ap, ◌∙◌, subst, arith, append_assoc}
use Rattle.std.specs.Prelude.{Option, option_map, IfSome}
use Rattle.bx_cnf.specs.Literals.{Literal}
use Rattle.bx_cnf.specs.Formulas.{IsClause}
use Rattle.bx_forms.specs.declared.side.Side.{Side}
use Rattle.bx_forms.specs.declared.side.Side.TheVariants.{Left, Right}
use Rattle.bx_forms.specs.declared.kind.Kind.{Kind}
use Rattle.bx_forms.specs.declared.table.Shape.{Shape}
use Rattle.bx_grid.proofs.Neighbours.{above-less}
use Rattle.bx_forms.specs.Forms.{IsForm, shape_of, shape_node, shape_upper, shape_lower, form_node, form_upper, form_lower, form_value}
use Rattle.bx_forms.specs.Sides.{opposite}
use Rattle.bx_forms.proofs.Lines.{AllForms, at-form}
use Rattle.bx_grid.specs.declared.ratio.Ratio.{Ratio}
use Rattle.bx_grid.specs.Tiles.{IsTile, above, border, entering}
use Rattle.bx_layout.specs.TileForms.{on_side}
use Rattle.bx_network.specs.Networks.{Network}
use Rattle.bx_encode.specs.declared.variable.Variable.TheVariants.{Taken, Used}
use Rattle.bx_encode.specs.Variables.{border_count, used_offset, variable_count, number, is}
use Rattle.bx_encode.specs.Families.{Clause, bars_nodes, list_of, bars_holding, bars_shape, used_side, used_unlike, not_alone, bars_wire, bars_two, bars}
use Rattle.bx_encode.proofs.Rising.{Rises, rises-from, rises-to, rises-append, rises-clause}
use Rattle.bx_encode.proofs.Numbering.{taken-is, used-is, number-above}
use Rattle.bx_encode.proofs.Entering.{Climbs, entries-climb}

-- ---- the wire, the double and the cross

abbrev pub free_bars : Network → Ratio → ℕ → ℕ → List Clause
free_bars N r t form =
    cond ((form_upper form).left && (form_upper form).right)
    (bars_two N r t (cond (form_value form true false Left) Left Right))
    (bars_wire N r t (used_side (form_upper form)) (used_side (form_lower form)))

LineIsFree : Network → Ratio → ℕ → ℕ → Type 0
LineIsFree N r t form = MatchOption (form_node form) (bars N r t form ≡ free_bars N r t form) (λ kind. Unit {0})

lines-free : (N : Network) (r : Ratio) (t : ℕ) → AllForms (LineIsFree N r t)
unfolding LineIsFree bars
lines-free N r t =
    (tt, (tt, (tt, (tt, (refl, (refl, (refl, (refl, (tt, (tt, (tt, (tt, (tt, (tt, (tt, (tt, (tt, (tt, (tt, (tt, (tt, (tt, (tt, (tt, (tt, (tt, (refl, (refl, tt))))))))))))))))))))))))))))

pub free-is : (N : Network) (r : Ratio) (t form : ℕ) → IsForm form → form_node form ≡ None → bars N r t form ≡ free_bars N r t form
unfolding LineIsFree
free-is N r t form inside node =
    let line : LineIsFree N r t form = at-form (LineIsFree N r t) (lines-free N r t) form inside in
    subst (λ (o : Option _). MatchOption o (bars N r t form ≡ free_bars N r t form) (λ kind. Unit {0})) node line

pub two-is : (N : Network) (r : Ratio) (t form : ℕ) (way : Side) → IsForm form → form_node form ≡ None → ((form_upper form).left && (form_upper form).right) ≡ true →
    way ≡ cond (form_value form true false Left) Left Right → bars_two N r t way ≡ bars N r t form
two-is N r t form way inside node both is =
    ap (bars_two N r t) is
    ∙ sym (free-is N r t form inside node
    ∙ ap (λ b. cond b (bars_two N r t (cond (form_value form true false Left) Left Right)) (bars_wire N r t (used_side (form_upper form)) (used_side (form_lower form)))) both)

pub one-is : (N : Network) (r : Ratio) (t form : ℕ) (upper lower : Side) → IsForm form → form_node form ≡ None → ((form_upper form).left && (form_upper form).right) ≡ false →
    upper ≡ used_side (form_upper form) → lower ≡ used_side (form_lower form) → bars_wire N r t upper lower ≡ bars N r t form
one-is N r t form upper lower inside node both above below =
    ap (λ s. bars_wire N r t s lower) above ∙ ap (bars_wire N r t (used_side (form_upper form))) below
    ∙ sym (free-is N r t form inside node
    ∙ ap (λ b. cond b (bars_two N r t (cond (form_value form true false Left) Left Right)) (bars_wire N r t (used_side (form_upper form)) (used_side (form_lower form)))) both)

-- ---- a wire's clause

abbrev pub wire_list : Network → Ratio → ℕ → Side → Side → List Literal
wire_list N r t upper lower =
    (((is N r (Taken t) ∷ []) ++ used_unlike N r (entering r t Left) (on_side true false upper)) ++ used_unlike N r (entering r t Right) (not (on_side true false upper)))
    ++ used_unlike N r (Some (border t Left)) (on_side true false lower) ++ used_unlike N r (Some (border t Right)) (not (on_side true false lower))

below-told : (N : Network) (r : Ratio) (t : ℕ) (lower : Side) → not_alone N r lower (border t lower) (border t (opposite lower) ∷ []) ≡ used_unlike N r (Some (border t Left)) (on_side true false lower) ++ used_unlike N r (Some (border t Right)) (not (on_side true false lower))
below-told N r t Left = refl
below-told N r t Right = refl

above-told : (N : Network) (r : Ratio) (t a : ℕ) (upper : Side) → entering r t upper ≡ Some a →
    not_alone N r upper a (list_of (entering r t (opposite upper))) ≡ used_unlike N r (entering r t Left) (on_side true false upper) ++ used_unlike N r (entering r t Right) (not (on_side true false upper))
above-told N r t a Left e = ap (λ o. used_unlike N r o true ++ used_unlike N r (entering r t Right) false) (sym e)
above-told N r t a Right e = ap (λ o. used_unlike N r (entering r t Left) false ++ used_unlike N r o true) (sym e)

pub wire-is : (N : Network) (r : Ratio) (t : ℕ) (upper lower : Side) (o : Option ℕ) → entering r t upper ≡ o → bars_wire N r t upper lower ≡ map (λ a. wire_list N r t upper lower) (list_of o)
wire-is N r t upper lower None e = ap (λ p. map (λ a. is N r (Taken t) ∷ not_alone N r upper a (list_of (entering r t (opposite upper))) ++ not_alone N r lower (border t lower) (border t (opposite lower) ∷ [])) (list_of p)) e
wire-is N r t upper lower (Some a) e =
    ap (λ p. map (λ a. is N r (Taken t) ∷ not_alone N r upper a (list_of (entering r t (opposite upper))) ++ not_alone N r lower (border t lower) (border t (opposite lower) ∷ [])) (list_of p)) e
    ∙ ap (λ ls. (is N r (Taken t) ∷ ls ++ not_alone N r lower (border t lower) (border t (opposite lower) ∷ [])) ∷ []) (above-told N r t a upper e)
    ∙ ap (λ ls. (is N r (Taken t) ∷ (used_unlike N r (entering r t Left) (on_side true false upper) ++ used_unlike N r (entering r t Right) (not (on_side true false upper))) ++ ls) ∷ []) (below-told N r t lower)
    ∙ ap (λ ls. ls ∷ []) (sym (append_assoc (is N r (Taken t) ∷ used_unlike N r (entering r t Left) (on_side true false upper) ++ used_unlike N r (entering r t Right) (not (on_side true false upper))) (used_unlike N r (Some (border t Left)) (on_side true false lower)) (used_unlike N r (Some (border t Right)) (not (on_side true false lower)))))

-- borders that climb in two parts
record Splits (low high : ℕ) (xs ys : List ℕ) : Type 0 where
  middle : ℕ
  before : Climbs low middle xs
  behind : Climbs middle high ys

climbs-split : (low high : ℕ) (xs ys : List ℕ) → Climbs low high (xs ++ ys) → Splits low high xs ys
climbs-split low high [] ys climbs = record { middle = low; before = omega arith; behind = climbs }
climbs-split low high (x ∷ xs) ys (above, rest) =
    let split = climbs-split (x + 1) high xs ys rest in
    record { middle = split.middle; before = (above, split.before); behind = split.behind }

used-rises : (N : Network) (r : Ratio) (low high : ℕ) (p : Bool) (bs : List ℕ) → Climbs low high bs → Rises (used_offset N r + low) (used_offset N r + high) (map (λ b. record { var = number N r (Used b); positive = p }) bs)
used-rises N r low high p [] le = omega arith
used-rises N r low high p (b ∷ bs) (above, rest) =
    let own = used-is N r b in
    (omega arith, rises-from (used_offset N r + (b + 1)) (number N r (Used b)) _ _ (omega arith) (used-rises N r (b + 1) high p bs rest))

pub wire-clause : (N : Network) (r : Ratio) (t : ℕ) (upper lower : Side) → IsTile r t → IsClause (variable_count N r) (wire_list N r t upper lower)
wire-clause N r t upper lower tile =
    let split = climbs-split 0 (2 * t) (list_of (entering r t Left)) (list_of (entering r t Right)) (entries-climb N r t) in
    let u = used_offset N r in
    let taken : Rises 0 (u + 0) (is N r (Taken t) ∷ []) = (number-above N r (Taken t), omega (arith, taken-is N r t)) in
    let left = used-rises N r 0 split.middle (not (on_side true false upper)) (list_of (entering r t Left)) split.before in
    let right = used-rises N r split.middle (2 * t) (not (not (on_side true false upper))) (list_of (entering r t Right)) split.behind in
    let under = used-rises N r (2 * t) (2 * t + 1) (not (on_side true false lower)) (list_of (Some (border t Left))) (omega arith, omega arith) in
    let last = used-rises N r (2 * t + 1) (2 * t + 2) (not (not (on_side true false lower))) (list_of (Some (border t Right))) (omega arith, omega arith) in
    let x = is N r (Taken t) ∷ [] in
    let y = used_unlike N r (entering r t Left) (on_side true false upper) in
    let z = used_unlike N r (entering r t Right) (not (on_side true false upper)) in
    let v = used_unlike N r (Some (border t Left)) (on_side true false lower) in
    let w = used_unlike N r (Some (border t Right)) (not (on_side true false lower)) in
    let one = rises-append 0 (u + 0) (u + split.middle) x y taken left in
    let two = rises-append 0 (u + split.middle) (u + 2 * t) (x ++ y) z one right in
    let three = rises-append 0 (u + 2 * t) (u + (2 * t + 1)) ((x ++ y) ++ z) v two under in
    let four = rises-append 0 (u + (2 * t + 1)) (u + (2 * t + 2)) (((x ++ y) ++ z) ++ v) w three last in
    rises-clause (variable_count N r) ((((x ++ y) ++ z) ++ v) ++ w) (rises-to 0 (u + (2 * t + 2)) (variable_count N r) ((((x ++ y) ++ z) ++ v) ++ w) (omega arith) four)

entering-of : (t b : ℕ) (side : Side) (o : Option ℕ) → ((u : ℕ) → o ≡ Some u → u < t) → option_map (λ u. border u (opposite side)) o ≡ Some b → b < 2 * t
entering-of t b side None low e = cc
entering-of t b Left (Some u) low e = let same : border u Right ≡ b = cc in omega (arith, low u refl, same)
entering-of t b Right (Some u) low e = let same : border u Left ≡ b = cc in omega (arith, low u refl, same)

-- a border that enters a tile lies before those that leave it
pub entering-in : (r : Ratio) (t b : ℕ) (side : Side) → entering r t side ≡ Some b → b < 2 * t
entering-in r t b side e = entering-of t b side (above r t side) (λ u is. above-less r t u side is) e

pub border-from : (t : ℕ) (side : Side) → 2 * t ≤ border t side
border-from t Left = omega arith
border-from t Right = omega arith

pub entering-some : (r : Ratio) (t : ℕ) (side : Side) (o : Option ℕ) → o ≡ entering r t side → IsTile r t → IfSome o (λ n. n < border_count r)
entering-some r t side None e tile = tt
entering-some r t side (Some b) e tile = let low = entering-in r t b side (sym e) in omega arith

-- ---- the list of a wire as it is made

both-same : (a b c d : List Literal) → a ≡ b → c ≡ d → a ++ c ≡ b ++ d
both-same a b c d e f = ap (λ l. l ++ c) e ∙ ap (λ l. b ++ l) f

told-same : (N : Network) (r : Ratio) (o p : Option ℕ) (u w : Bool) → o ≡ p → u ≡ w → used_unlike N r o u ≡ used_unlike N r p w
told-same N r o p u w e f = ap (λ q. used_unlike N r q u) e ∙ ap (used_unlike N r p) f

pub wire-made : (N : Network) (r : Ratio) (t : ℕ) (upper lower : Side) (now l4 l3 l2 l1 l0 none : List Literal) (x : Literal) (o p : Option ℕ) (m n : ℕ) (u w : Bool) →
    now ≡ l4 → l4 ≡ l3 ++ used_unlike N r (Some n) (not w) → l3 ≡ l2 ++ used_unlike N r (Some m) w → l2 ≡ l1 ++ used_unlike N r p (not u) → l1 ≡ l0 ++ used_unlike N r o u → l0 ≡ none ++ x ∷ [] → none ≡ [] →
    x ≡ is N r (Taken t) → o ≡ entering r t Left → p ≡ entering r t Right → m ≡ border t Left → n ≡ border t Right → u ≡ on_side true false upper → w ≡ on_side true false lower →
    now ≡ wire_list N r t upper lower
wire-made N r t upper lower now l4 l3 l2 l1 l0 none x o p m n u w read e4 e3 e2 e1 e0 empty first left right under last above below =
    let a0 : l0 ≡ is N r (Taken t) ∷ [] = e0 ∙ ap (λ l. l ++ x ∷ []) empty ∙ ap (λ l. l ∷ []) first in
    let a1 = e1 ∙ both-same l0 _ (used_unlike N r o u) _ a0 (told-same N r o (entering r t Left) u (on_side true false upper) left above) in
    let a2 = e2 ∙ both-same l1 _ (used_unlike N r p (not u)) _ a1 (told-same N r p (entering r t Right) (not u) (not (on_side true false upper)) right (ap not above)) in
    let a3 = e3 ∙ both-same l2 _ (used_unlike N r (Some m) w) _ a2 (told-same N r (Some m) (Some (border t Left)) w (on_side true false lower) (ap Some under) below) in
    read ∙ e4 ∙ both-same l3 _ (used_unlike N r (Some n) (not w)) _ a3 (told-same N r (Some n) (Some (border t Right)) (not w) (not (on_side true false lower)) (ap Some last) (ap not below))

-- ---- a form with a node

by-shape : (N : Network) (r : Ratio) (t : ℕ) (o : Option Shape) (kind : Kind) → shape_node o ≡ Some kind →
    bars_shape N r t o ≡ bars_nodes N r t (used_side (shape_upper o)) (used_side (shape_lower o)) kind
by-shape N r t None kind e = cc
by-shape N r t (Some shape) kind e = ap (bars_holding N r t (used_side shape.upper) (used_side shape.lower) shape.function) e

pub holding-is : (N : Network) (r : Ratio) (t form : ℕ) (kind : Kind) → form_node form ≡ Some kind →
    bars N r t form ≡ bars_nodes N r t (used_side (form_upper form)) (used_side (form_lower form)) kind
unfolding bars
holding-is N r t form kind e = by-shape N r t (shape_of form) kind e
