-- How the logic stores a module: a code for each tree, which no other tree has.
use Rattle.std.specs.Prelude.{◌≡◌, ◌⊎◌, ℕ, List, Option, refl}
use Rattle.std.specs.Coded.{Coded, code_by, coded_ℕ, coded_bool, coded_list, coded_option, coded×, coded⊎}
use base.Stored.{Gv, gnil, gnum, gcons}
use Rattle.std.proofs.Common.{sym, ap, ◌∙◌, inl, inr, false, eqb}
use Rattle.std.proofs.lemmas.Bool.{true≢false}
use Rattle.std.proofs.lemmas.Bool.Decides.{Decides-eqb}
use Rattle.bx_logic.specs.declared.op.Op.{Op}
use Rattle.bx_logic.specs.contracts.op.Op as op
use Rattle.bx_syntax.specs.contracts.tree.Operator as operator
use Rattle.bx_syntax.specs.declared.tree.Direction.{Direction}
use Rattle.bx_syntax.specs.contracts.tree.Direction as direction
use Rattle.bx_syntax.specs.declared.tree.Port.{Port}
use Rattle.bx_syntax.specs.contracts.tree.Port as port
use Rattle.bx_syntax.specs.Trees.{Tree, net, bit, inverse, group, joined, Tail, done, link}
use Rattle.bx_syntax.specs.Parts.{PartTree, declaration, wire, assign, gate, copies, ModuleTree}

abbrev text_code : Coded (List ℕ)
text_code = coded_list coded_ℕ

abbrev tag : Tree → ℕ
tag (net n) = 0
tag (bit b) = 1
tag (inverse t) = 2
tag (group t) = 3
tag (joined t o u ts) = 4

abbrev mutual
  stored : Tree → Gv
  stored (net n) = gcons (gnum 0) (text_code.code n)
  stored (bit b) = gcons (gnum 1) (coded_bool.code b)
  stored (inverse t) = gcons (gnum 2) (stored t)
  stored (group t) = gcons (gnum 3) (stored t)
  stored (joined t o u ts) = gcons (gnum 4) (gcons (stored t) (gcons (operator.the_row.coded.code o) (gcons (stored u) (stored_tail ts))))

  stored_tail : Tail → Gv
  stored_tail done = gnil
  stored_tail (link o t ts) = gcons (operator.the_row.coded.code o) (gcons (stored t) (stored_tail ts))

abbrev number : Gv → ℕ
number gnil = 0
number (gnum n) = n
number (gcons a b) = 1

abbrev front : Gv → Gv
front gnil = gnil
front (gnum n) = gnum n
front (gcons a b) = a

abbrev back : Gv → Gv
back gnil = gnil
back (gnum n) = gnil
back (gcons a b) = b

apart : (a b : ℕ) → eqb a b ≡ false → a ≡ b → ⊥
apart a b e h = true≢false (sym ((Decides-eqb a b).1 h) ∙ e)

mutual
  pub stored_once : (t u : Tree) → stored t ≡ stored u → t ≡ u
  stored_once (net n) (net m) p = ap net (text_code.inj n m (ap back p))
  stored_once (bit b) (bit c) p = ap bit (coded_bool.inj b c (ap back p))
  stored_once (inverse t) (inverse u) p = ap inverse (stored_once t u (ap back p))
  stored_once (group t) (group u) p = ap group (stored_once t u (ap back p))
  stored_once (joined t o u ts) (joined v q w us) p = λ i. joined
      (stored_once t v (ap (λ g. front (back g)) p) i)
      (operator.the_row.coded.inj o q (ap (λ g. front (back (back g))) p) i)
      (stored_once u w (ap (λ g. front (back (back (back g)))) p) i)
      (stored_tail_once ts us (ap (λ g. back (back (back (back g)))) p) i)
  stored_once t u p = absurd (apart (tag t) (tag u) refl (ap (λ g. number (front g)) p))

  stored_tail_once : (ts us : Tail) → stored_tail ts ≡ stored_tail us → ts ≡ us
  stored_tail_once done done p = refl
  stored_tail_once (link o t ts) (link q u us) p = λ i. link
      (operator.the_row.coded.inj o q (ap front p) i)
      (stored_once t u (ap (λ g. front (back g)) p) i)
      (stored_tail_once ts us (ap (λ g. back (back g)) p) i)
  stored_tail_once done (link o t ts) p = absurd (apart 0 1 refl (ap number p))
  stored_tail_once (link o t ts) done p = absurd (apart 1 0 refl (ap number p))

abbrev tree_code : Coded Tree
tree_code = record { code = stored; inj = stored_once }

abbrev Sum : Type 0
Sum = (Direction × List ℕ) ⊎ ((List ℕ × Option Tree) ⊎ ((List ℕ × Tree) ⊎ ((Op × (List ℕ × List Tree)) ⊎ (Op × (List (List ℕ) × Tree)))))

abbrev to_sum : PartTree → Sum
to_sum (declaration d n) = inl (d, n)
to_sum (wire n e) = inr (inl (n, e))
to_sum (assign n e) = inr (inr (inl (n, e)))
to_sum (gate o n es) = inr (inr (inr (inl (o, (n, es)))))
to_sum (copies o ns e) = inr (inr (inr (inr (o, (ns, e)))))

abbrev from_sum : Sum → PartTree
from_sum (inl x) = declaration x.0 x.1
from_sum (inr (inl x)) = wire x.0 x.1
from_sum (inr (inr (inl x))) = assign x.0 x.1
from_sum (inr (inr (inr (inl x)))) = gate x.0 x.1.0 x.1.1
from_sum (inr (inr (inr (inr x)))) = copies x.0 x.1.0 x.1.1

pub from_sum-to_sum : (p : PartTree) → from_sum (to_sum p) ≡ p
from_sum-to_sum (declaration d n) = refl
from_sum-to_sum (wire n e) = refl
from_sum-to_sum (assign n e) = refl
from_sum-to_sum (gate o n es) = refl
from_sum-to_sum (copies o ns e) = refl

abbrev sum_code : Coded Sum
sum_code = coded⊎ (coded× direction.the_row.coded text_code)
    (coded⊎ (coded× text_code (coded_option tree_code))
    (coded⊎ (coded× text_code tree_code)
    (coded⊎ (coded× op.the_row.coded (coded× text_code (coded_list tree_code)))
    (coded× op.the_row.coded (coded× (coded_list text_code) tree_code)))))

abbrev part_code : Coded PartTree
part_code = code_by Sum sum_code to_sum from_sum from_sum-to_sum

abbrev pub module_code : Coded ModuleTree
module_code =
    code_by (List ℕ × (List Port × List (List PartTree))) (coded× text_code (coded× (coded_list port.the_row.coded) (coded_list (coded_list part_code))))
    (λ m. (m.name, (m.ports, m.items))) (λ p. record { name = p.0; ports = p.1.0; items = p.1.1 }) (λ _. refl)
