-- The fold of the nets one after the other, and of a gate's arguments.
use Rattle.std.proofs.Common.{◌≡◌, ℕ, ◌+◌, ◌<◌, ◌≤◌, false, List, [], ◌∷◌, length, map, drop, get_or, set, replicate, refl, sym, ◌∙◌, ap, subst, arith}
use Rattle.std.specs.List.{All, fold, range_with_len}
use Rattle.std.proofs.lemmas.List.{at_drop_more, at_drop_all}
use Rattle.std.proofs.lemmas.List.Elements.{All-from_recursion, All-same}
use Rattle.bx_logic.specs.declared.driver.Driver.{Driver}
use Rattle.bx_logic.specs.Nets.{Netlist, IsNet, arguments_of, driver_at}
use Rattle.bx_logic.proofs.Valuations.{net-reads_within}
use Rattle.bx_map.specs.declared.cell.Cell.{Cell}
use Rattle.bx_map.specs.declared.cell.Cell.TheVariants as cell
use Rattle.bx_map.specs.declared.cell.Value.{Value}
use Rattle.bx_map.specs.declared.cell.Value.TheVariants.{Constant}
use Rattle.bx_map.specs.Walks.{walk}
use Rattle.bx_map.specs.Folds.{Fold, fold_of, fold_value, driver_fold, Folding, fold_state, net_fold, before_folding, folding}
use Rattle.bx_map.proofs.Walking.{arguments-within}

module _ (net : Netlist) (h : IsNet net) where
  pub arguments-valued : (values : List Value) (d : Driver) (n : ℕ) → length values ≡ length net.drivers → d ≡ driver_at net.drivers n → All (λ m. m < length values) (arguments_of d)
  arguments-valued values d n whole e =
      subst (λ (k : ℕ). All (λ m. m < k) (arguments_of d)) (sym whole)
      (All-same (λ m. m < length net.drivers) (arguments_of d) (arguments_of (driver_at net.drivers n)) (ap arguments_of e)
      (All-from_recursion (λ m. m < length net.drivers) (arguments_of (driver_at net.drivers n)) (arguments-within net.drivers (net-reads_within net h) n)))

  pub folding-begin : (values : List Value) (cells : List Cell) (order : List ℕ) → values ≡ replicate (length net.drivers) (Constant false) →
      cells ≡ map cell.Input (range_with_len 0 (length net.inputs)) → order ≡ walk net → fold (net_fold net.drivers) (fold_state values cells) order ≡ folding net
  unfolding folding
  folding-begin values cells order e f g =
      ap (λ (vs : List Value). fold (net_fold net.drivers) (fold_state vs cells) order) e
      ∙ (ap (λ (cs : List Cell). fold (net_fold net.drivers) (fold_state (replicate (length net.drivers) (Constant false)) cs) order) f
      ∙ ap (λ (ns : List ℕ). fold (net_fold net.drivers) (before_folding net) ns) g)

  pub folding-next : (values later : List Value) (cells made : List Cell) (order : List ℕ) (i n : ℕ) (v : Value) (d : Driver) → i < length order → n ≡ get_or order i 0 →
      d ≡ driver_at net.drivers n → fold_of v made ≡ driver_fold values cells d → later ≡ set values n v →
      fold (net_fold net.drivers) (fold_state values cells) (drop i order) ≡ folding net → fold (net_fold net.drivers) (fold_state later made) (drop (i + 1) order) ≡ folding net
  folding-next values later cells made order i n v d l is is_d is_v is_later before =
      let m : ℕ = get_or order i 0 in
      let step : fold_state later made ≡ net_fold net.drivers (fold_state values cells) m =
      ap (λ (vs : List Value). fold_state vs made) is_later
      ∙ (ap (λ (f : Fold). fold_state (set values n f.value) f.cells) (is_v ∙ ap (driver_fold values cells) is_d)
      ∙ ap (λ (k : ℕ). net_fold net.drivers (fold_state values cells) k) is) in
      ap (λ (f : Folding). fold (net_fold net.drivers) f (drop (i + 1) order)) step
      ∙ (sym (at_drop_more (λ (ns : List ℕ). fold (net_fold net.drivers) (fold_state values cells) ns) order i 0 l) ∙ before)

  pub folding-end : (values : List Value) (cells : List Cell) (order : List ℕ) (i : ℕ) → length order ≤ i →
      fold (net_fold net.drivers) (fold_state values cells) (drop i order) ≡ folding net → fold_state values cells ≡ folding net
  folding-end values cells order i l e = sym (at_drop_all (λ (ns : List ℕ). fold (net_fold net.drivers) (fold_state values cells) ns) order i l) ∙ e
