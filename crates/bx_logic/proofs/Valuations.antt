-- A net has exactly one valuation, since no net depends on itself.
use Rattle.std.proofs.Common.{take, ◌≤◌, ◌≡◌, ℕ, suc, ◌+◌, ◌<◌, Bool, false, List, [], ◌∷◌, length, map, refl, sym, ◌∙◌, ap, arith, inl, inr}
use Rattle.std.specs.List.{All, AllByRecursion, range_with_len, sum_by}
use Rattle.std.proofs.lemmas.Bool.{cases_lt}
use Rattle.std.proofs.lemmas.List.{length-map, take_all, ext_get_or, get_or_past}
use Rattle.std.proofs.lemmas.List.FromFn.{length-map-range_with_len, get_or-map-range_with_len}
use Rattle.std.proofs.lemmas.List.Sums.{sum_by-cons}
use Rattle.std.proofs.lemmas.List.Elements.{All-contains, All-get_or}
use Rattle.bx_logic.specs.declared.driver.Driver.{Driver}
use Rattle.bx_logic.specs.declared.driver.Driver.TheVariants.{Input, Constant, Gate}
use Rattle.bx_logic.specs.Op.{op_value}
use Rattle.bx_logic.specs.Nets.{arguments_of, driver_at, Reads, IsAcyclic, IsDriver, Netlist, IsNet, output_nets}
use Rattle.bx_logic.specs.Values.{value_of, driver_value, IsNetValuation, IsOnlyNetValuation, AreOutputValues}
use Rattle.bx_logic.specs.Cycles.{ReadsNetsOnly}
use Rattle.bx_logic.proofs.Lists.{all-weaker}
use Rattle.bx_logic.proofs.Acyclic.{arguments-read, unroll, IsLocal, shallow, unrolled, same_unrolled}

driver-reads_within : (inputs nets : ℕ) (d : Driver) → IsDriver inputs nets d → All (λ m. m < nets) (arguments_of d)
driver-reads_within inputs nets (Input i) h = λ k d l. absurd (omega arith)
driver-reads_within inputs nets (Constant b) h = λ k d l. absurd (omega arith)
driver-reads_within inputs nets (Gate op args) h = h.1

-- also where there is no such net
pub driver-at : (inputs : ℕ) (drivers : List Driver) → All (IsDriver inputs (length drivers)) drivers → (n : ℕ) →
    IsDriver inputs (length drivers) (driver_at drivers n)
driver-at inputs drivers h n =
    elim (cases_lt n (length drivers)) [
      | inl l ↦ All-get_or (IsDriver inputs (length drivers)) drivers n (Constant false) l h
      | inr past ↦ rw get_or_past tt
    ]

pub reads_within : (inputs : ℕ) (drivers : List Driver) → All (IsDriver inputs (length drivers)) drivers → ReadsNetsOnly drivers
reads_within inputs drivers h n m reads =
    All-contains (λ m. m < length drivers) (arguments_of (driver_at drivers n)) m
    (driver-reads_within inputs (length drivers) (driver_at drivers n) (driver-at inputs drivers h n)) reads

same_map : (f g : ℕ → Bool) (xs : List ℕ) → AllByRecursion (λ m. f m ≡ g m) xs → map f xs ≡ map g xs
same_map f g [] a = refl
same_map f g (x ∷ xs) a = cc (same_map f g xs a.1)

-- the value of a driver, and a cost above the costs of what it reads
value_step : List Driver → List Bool → ℕ → (ℕ → Bool) → Bool
value_step drivers bits n values = driver_value bits values (driver_at drivers n)

cost_step : List Driver → ℕ → (ℕ → ℕ) → ℕ
cost_step drivers n costs = 2 + sum_by costs (arguments_of (driver_at drivers n))

pub driver_value-local : (bits : List Bool) (f g : ℕ → Bool) (d : Driver) → AllByRecursion (λ m. f m ≡ g m) (arguments_of d) →
    driver_value bits f d ≡ driver_value bits g d
driver_value-local bits f g (Input i) a = refl
driver_value-local bits f g (Constant b) a = refl
driver_value-local bits f g (Gate op args) a = ap (op_value op) (same_map f g args a)

same_sum : (f g : ℕ → ℕ) (xs : List ℕ) → AllByRecursion (λ m. f m ≡ g m) xs → sum_by f xs ≡ sum_by g xs
same_sum f g [] a = refl
same_sum f g (x ∷ xs) a = sum_by-cons f x xs ∙ (ap (λ n. n + sum_by f xs) a.0 ∙ ap (λ n. g x + n) (same_sum f g xs a.1)) ∙ sym (sum_by-cons g x xs)

value_step-local : (drivers : List Driver) (bits : List Bool) → IsLocal drivers (value_step drivers bits)
unfolding IsLocal value_step
value_step-local drivers bits n f g a = driver_value-local bits f g (driver_at drivers n) a

cost_step-local : (drivers : List Driver) → IsLocal drivers (cost_step drivers)
unfolding IsLocal cost_step
cost_step-local drivers n f g a = ap (λ s. 2 + s) (same_sum f g (arguments_of (driver_at drivers n)) a)

-- the work that evaluating a net can take
pub cost : List Driver → ℕ → ℕ
cost drivers = unroll 0 (cost_step drivers) (suc (length drivers))

pub cost-is : (drivers : List Driver) → IsAcyclic drivers → ReadsNetsOnly drivers → (n : ℕ) →
    cost drivers n ≡ 2 + sum_by (cost drivers) (arguments_of (driver_at drivers n))
unfolding cost cost_step
cost-is drivers acyclic within n = unrolled 0 (cost_step drivers) drivers (cost_step-local drivers) acyclic within n

the_value : List Driver → List Bool → ℕ → Bool
the_value drivers bits = unroll false (value_step drivers bits) (suc (length drivers))

the_value-is : (drivers : List Driver) (bits : List Bool) → IsAcyclic drivers → ReadsNetsOnly drivers → (n : ℕ) →
    the_value drivers bits n ≡ driver_value bits (the_value drivers bits) (driver_at drivers n)
unfolding the_value value_step
the_value-is drivers bits acyclic within n =
    unrolled false (value_step drivers bits) drivers (value_step-local drivers bits) acyclic within n

pub the_values : List Driver → List Bool → List Bool
the_values drivers bits = map (the_value drivers bits) (range_with_len 0 (length drivers))

the_values-at : (drivers : List Driver) (bits : List Bool) (n : ℕ) → n < length drivers →
    value_of (the_values drivers bits) n ≡ the_value drivers bits n
unfolding the_values
the_values-at drivers bits n h = get_or-map-range_with_len (the_value drivers bits) 0 (length drivers) n n false h (omega arith)

the_values-is : (drivers : List Driver) (bits : List Bool) → IsAcyclic drivers → ReadsNetsOnly drivers → IsNetValuation drivers bits (the_values drivers bits)
unfolding the_values
the_values-is drivers bits acyclic within = record {
  whole = length-map-range_with_len (the_value drivers bits) 0 (length drivers);
  each = λ n h. the_values-at drivers bits n h ∙ the_value-is drivers bits acyclic within n
      ∙ driver_value-local bits (the_value drivers bits) (value_of (the_values drivers bits)) (driver_at drivers n)
      (all-weaker (λ m. Reads drivers n m) (λ m. the_value drivers bits m ≡ value_of (the_values drivers bits) m)
      (λ m reads. sym (the_values-at drivers bits m (within n m reads))) (arguments_of (driver_at drivers n)) (arguments-read drivers n));
}

valuation-only : (drivers : List Driver) (bits values others : List Bool) → IsAcyclic drivers → ReadsNetsOnly drivers →
    IsNetValuation drivers bits values → IsNetValuation drivers bits others → others ≡ values
unfolding value_step
valuation-only drivers bits values others acyclic within v o =
    ext_get_or false others values (o.whole ∙ sym v.whole)
    (λ i h. same_unrolled (value_step drivers bits) drivers (value_step-local drivers bits) within (value_of others) (value_of values)
    (λ n l. o.each n l) (λ n l. v.each n l) (suc (length drivers)) i (omega (arith, o.whole)) (shallow drivers acyclic within i))

pub only_valuation : (drivers : List Driver) (bits : List Bool) → IsAcyclic drivers → ReadsNetsOnly drivers →
    IsOnlyNetValuation drivers bits (the_values drivers bits)
only_valuation drivers bits acyclic within =
    let is = the_values-is drivers bits acyclic within in
    record {
      is = is;
      only = λ others o. valuation-only drivers bits (the_values drivers bits) others acyclic within is o;
    }

pub net-reads_within : (net : Netlist) → IsNet net → ReadsNetsOnly net.drivers
net-reads_within net h = reads_within (length net.inputs) net.drivers h.drivers

-- where all outputs were read in every valuation
pub all_read : (net : Netlist) (bits outputs : List Bool) (j : ℕ) → IsNet net → length bits ≡ length net.inputs → length net.outputs ≤ j →
    ((values : List Bool) → IsNetValuation net.drivers bits values → outputs ≡ map (value_of values) (take j (output_nets net))) →
    AreOutputValues net bits outputs
all_read net bits outputs j h given l read =
    let only = only_valuation net.drivers bits h.acyclic (net-reads_within net h) in
    let length_is = length-map net.outputs (λ (output : List ℕ × ℕ). output.1) in
    record {
      inputs = given;
      values = the_values net.drivers bits;
      valuation = only;
      read = read (the_values net.drivers bits) only.is
          ∙ ap (λ (ns : List ℕ). map (value_of (the_values net.drivers bits)) ns) (take_all j (output_nets net) (omega (arith, length_is)));
    }
