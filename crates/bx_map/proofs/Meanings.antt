-- The folded value of each net on the walk has the net's value.
use Rattle.std.proofs.Common.{◌≡◌, ℕ, ◌<◌, Bool, false, List, [], ◌∷◌, ◌++◌, length, map, set, refl, sym, ◌∙◌, ap, subst, arith, inl, inr}
use Rattle.std.specs.List.{AllByRecursion, fold}
use Rattle.std.proofs.lemmas.Bool.{cases_eq}
use Rattle.std.proofs.lemmas.List.{get_or-set_same, get_or-set_other, length-set, length-map, length-replicate}
use Rattle.std.proofs.lemmas.List.Sums.{fold-append}
use Rattle.std.proofs.lemmas.List.Elements.{recursion_from_All}
use Rattle.bx_logic.specs.declared.op.Op.{Op}
use Rattle.bx_logic.specs.declared.op.Op.TheVariants.{Buf, Not, And, Or, Nand, Nor, Xor, Xnor}
use Rattle.bx_logic.specs.declared.driver.Driver.{Driver}
use Rattle.bx_logic.specs.declared.driver.Driver.TheVariants as driver
use Rattle.bx_logic.specs.Nets.{arguments_of, driver_at, HasArity, IsDriver, Netlist, IsNet, output_nets}
use Rattle.bx_logic.specs.Op.{op_value}
use Rattle.bx_logic.specs.Values.{value_of, driver_value, IsNetValuation}
use Rattle.bx_logic.proofs.Valuations.{driver-at, driver_value-local}
use Rattle.bx_logic.proofs.Lists.{all-weaker}
use Rattle.bx_map.specs.declared.cell.Cell.{Cell}
use Rattle.bx_map.specs.declared.cell.Value.{Value}
use Rattle.bx_map.specs.declared.cell.Value.TheVariants.{Constant}
use Rattle.bx_map.specs.Walks.{walk}
use Rattle.bx_map.specs.Folds.{Fold, fold_value, driver_fold, Folding, net_fold, before_folding, folding}
use Rattle.bx_map.proofs.Keeping.{Has, has-cases, has-one_same, all-has}
use Rattle.bx_map.proofs.Folding.{AreMade, AllWithin, map-within, IsFoldingOf, folding-step, folding-start}
use Rattle.bx_map.proofs.Truths.{truths, cell_truth, truth-at, means, IsTrueOf, true-gate, IsProper}
use Rattle.bx_map.proofs.Walking.{Ordered, none, more, walk-visits}

proper-several : (op : Op) (args : List ℕ) → HasArity op args → 1 < length args → IsProper op
proper-several Buf args h l = absurd (omega (arith, h))
proper-several Not args h l = absurd (omega (arith, h))
proper-several op args h l = tt

some-arguments : (op : Op) (args : List ℕ) → HasArity op args → 0 < length args
some-arguments Buf args h = omega (arith, h)
some-arguments Not args h = omega (arith, h)
some-arguments op args h = h

maps-same : {X Y : Type 0} (f : X → Y) (g : ℕ → X) (ns : List ℕ) → map f (map g ns) ≡ map (λ n. f (g n)) ns
maps-same f g [] = refl
maps-same f g (n ∷ ns) = ap (λ ys. f (g n) ∷ ys) (maps-same f g ns)

-- what a driver makes of folded values has the value that it gives for theirs
true-driver : (inputs nets : ℕ) (bits : List Bool) (values : List Value) (cells : List Cell) (d : Driver) → IsDriver inputs nets d → AreMade inputs cells → AllWithin (length cells) values →
    IsTrueOf bits cells (driver_fold values cells d) (driver_value bits (λ n. means bits cells (fold_value values n)) d)
true-driver inputs nets bits values cells (driver.Input i) is made within = record {
  value = truth-at bits cells made.reads i (omega (arith, is, made.inputs_first)) ∙ ap (cell_truth bits (truths bits cells)) (made.firsts i is);
  keeps = λ v h. refl;
  longer = omega arith;
}
true-driver inputs nets bits values cells (driver.Constant b) is made within = record { value = refl; keeps = λ v h. refl; longer = omega arith }
true-driver inputs nets bits values cells (driver.Gate op args) is made within =
    let many = length-map args (fold_value values) in
    subst (IsTrueOf bits cells (driver_fold values cells (driver.Gate op args))) (ap (op_value op) (maps-same (means bits cells) (fold_value values) args))
    (true-gate bits op cells (map (fold_value values) args) (omega (arith, many, some-arguments op args is.0)) (λ l. proper-several op args is.0 (omega (arith, many)))
    (map-within (length cells) values args within))

abbrev pub state_after : Netlist → List ℕ → Folding
state_after net order = fold (net_fold net.drivers) (before_folding net) order

pub record IsMeant (net : Netlist) (bits values : List Bool) (done : List ℕ) : Type 0 where
  pub folds : IsFoldingOf (length net.inputs) (state_after net done)
  pub whole : length (state_after net done).values ≡ length net.drivers
  pub meant : (n : ℕ) → Has done n → means bits (state_after net done).cells (fold_value (state_after net done).values n) ≡ value_of values n

module _ (net : Netlist) (h : IsNet net) (bits values : List Bool) (valuation : IsNetValuation net.drivers bits values) where
  driver-is : (n : ℕ) → IsDriver (length net.inputs) (length net.drivers) (driver_at net.drivers n)
  driver-is n = driver-at (length net.inputs) net.drivers h.drivers n

  meant-next : (f : Folding) (done : List ℕ) (n : ℕ) → n < length net.drivers → AllByRecursion (Has done) (arguments_of (driver_at net.drivers n)) →
      IsFoldingOf (length net.inputs) f → length f.values ≡ length net.drivers →
      ((m : ℕ) → Has done m → means bits f.cells (fold_value f.values m) ≡ value_of values m) →
      (m : ℕ) → Has (done ++ n ∷ []) m → means bits (net_fold net.drivers f n).cells (fold_value (net_fold net.drivers f n).values m) ≡ value_of values m
  meant-next f done n l there folds whole meant m has_m =
      let d : Driver = driver_at net.drivers n in
      let made : Fold = driver_fold f.values f.cells d in
      let t = true-driver (length net.inputs) (length net.drivers) bits f.values f.cells d (driver-is n) folds.made folds.within in
      let here : means bits made.cells made.value ≡ value_of values n =
      t.value
      ∙ (driver_value-local bits (λ k. means bits f.cells (fold_value f.values k)) (value_of values) d
      (all-weaker (Has done) (λ k. means bits f.cells (fold_value f.values k) ≡ value_of values k) meant (arguments_of d) there)
      ∙ sym (valuation.each n l)) in
      elim (cases_eq m n) [
        | inl e ↦
            subst (λ (k : ℕ). means bits made.cells (fold_value (set f.values n made.value) k) ≡ value_of values k) (sym e)
            (ap (means bits made.cells) (get_or-set_same f.values n made.value (Constant false) (omega (arith, whole))) ∙ here)
        | inr ne ↦
            ap (means bits made.cells) (get_or-set_other f.values n m made.value (Constant false) ne)
            ∙ (t.keeps (fold_value f.values m) (folds.within m)
            ∙ meant m (elim (has-cases done (n ∷ []) m has_m) [
              | inl old ↦ old
              | inr new ↦ absurd (ne (sym (has-one_same n m new)))
            ]))
      ]

  all-meant : (order : List ℕ) → Ordered net.drivers order → IsMeant net bits values order
  all-meant _ none = record {
    folds = folding-start net;
    whole = length-replicate (length net.drivers) (Constant false);
    meant = λ n has_n. absurd (cc);
  }
  all-meant _ (more done n l there ordered) =
      let before = all-meant done ordered in
      let f : Folding = state_after net done in
      let next : state_after net (done ++ n ∷ []) ≡ net_fold net.drivers f n = fold-append (net_fold net.drivers) (before_folding net) done (n ∷ []) in
      record {
        folds = subst (IsFoldingOf (length net.inputs)) (sym next) (folding-step (length net.inputs) (length net.drivers) net.drivers f n (driver-is n) before.folds);
        whole = ap (λ (g : Folding). length g.values) next ∙ (length-set f.values n (driver_fold f.values f.cells (driver_at net.drivers n)).value ∙ before.whole);
        meant = λ m has_m.
            ap (λ (g : Folding). means bits g.cells (fold_value g.values m)) next
            ∙ meant-next f done n l there before.folds before.whole before.meant m has_m;
      }

  -- each output's net has the value that was folded for it
  pub outputs-meant : (o : ℕ) → Has (output_nets net) o → means bits (folding net).cells (fold_value (folding net).values o) ≡ value_of values o
  unfolding folding
  outputs-meant o has_o =
      let within = recursion_from_All (λ n. n < length net.drivers) (output_nets net) h.outputs in
      let visited = walk-visits net h within in
      (all-meant (walk net) visited.ordered).meant o (all-has (Has (walk net)) (output_nets net) o visited.there has_o)
