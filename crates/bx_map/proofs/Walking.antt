-- The walk visits each output's net and all that it reads, each net behind what it reads.
use Rattle.std.proofs.Common.{◌≡◌, ℕ, zero, suc, ◌<◌, true, false, List, [], ◌∷◌, ◌++◌, length, sym, subst, inl, inr}
use Rattle.std.specs.List.{AllByRecursion, fold}
use Rattle.std.proofs.lemmas.Bool.{cases_Bool, cond-true, cond-false}
use Rattle.bx_logic.specs.declared.driver.Driver.{Driver}
use Rattle.bx_logic.specs.Nets.{arguments_of, driver_at, Reads, Netlist, IsNet, output_nets}
use Rattle.bx_logic.specs.Cycles.{ReadsNetsOnly}
use Rattle.bx_logic.proofs.Acyclic.{arguments-read, IsShallow, shallow}
use Rattle.bx_logic.proofs.Valuations.{net-reads_within}
use Rattle.bx_logic.proofs.Lists.{all-weaker}
use Rattle.bx_map.specs.Walks.{has, visit, walk}
use Rattle.bx_map.proofs.Keeping.{Has, has-left, has-right, has-one}

-- each net stands behind what it reads
pub data Ordered (drivers : List Driver) : List ℕ → Type 0 where
  none : Ordered drivers []
  more : (done : List ℕ) (n : ℕ) → n < length drivers → AllByRecursion (Has done) (arguments_of (driver_at drivers n)) → Ordered drivers done → Ordered drivers (done ++ n ∷ [])

pub record AreVisited (drivers : List Driver) (before after nets : List ℕ) : Type 0 where
  pub ordered : Ordered drivers after
  pub kept : (m : ℕ) → Has before m → Has after m
  pub there : AllByRecursion (Has after) nets

abbrev pub Visits : List Driver → ℕ → Type 0
Visits drivers k =
    (done : List ℕ) (n : ℕ) → n < length drivers → IsShallow drivers k n → Ordered drivers done → AreVisited drivers done (visit drivers k done n) (n ∷ [])

visits-all : (drivers : List Driver) (k : ℕ) → Visits drivers k → (done nets : List ℕ) → AllByRecursion (λ m. m < length drivers) nets → AllByRecursion (IsShallow drivers k) nets →
    Ordered drivers done → AreVisited drivers done (fold (visit drivers k) done nets) nets
visits-all drivers k visits done [] within all ordered = record { ordered = ordered; kept = λ m h. h; there = tt }
visits-all drivers k visits done (n ∷ ns) within all ordered =
    let first = visits done n within.0 all.0 ordered in
    let rest = visits-all drivers k visits (visit drivers k done n) ns within.1 all.1 first.ordered in
    record {
      ordered = rest.ordered;
      kept = λ m h. rest.kept m (first.kept m h);
      there = (rest.kept n first.there.0, rest.there);
    }

pub arguments-within : (drivers : List Driver) → ReadsNetsOnly drivers → (n : ℕ) → AllByRecursion (λ m. m < length drivers) (arguments_of (driver_at drivers n))
arguments-within drivers within n =
    all-weaker (λ m. Reads drivers n m) (λ m. m < length drivers) (λ m r. within n m r) (arguments_of (driver_at drivers n)) (arguments-read drivers n)

pub visit-is : (drivers : List Driver) (k : ℕ) (done : List ℕ) (n : ℕ) → has done n ≡ false →
    visit drivers (suc k) done n ≡ fold (visit drivers k) done (arguments_of (driver_at drivers n)) ++ n ∷ []
unfolding visit
visit-is drivers k done n h = cond-false (has done n) done (fold (visit drivers k) done (arguments_of (driver_at drivers n)) ++ n ∷ []) h

pub visit-was : (drivers : List Driver) (k : ℕ) (done : List ℕ) (n : ℕ) → has done n ≡ true → visit drivers (suc k) done n ≡ done
unfolding visit
visit-was drivers k done n h = cond-true (has done n) done (fold (visit drivers k) done (arguments_of (driver_at drivers n)) ++ n ∷ []) h

pub visits : (drivers : List Driver) → ReadsNetsOnly drivers → (k : ℕ) → Visits drivers k
unfolding IsShallow
visits drivers within zero done n l s ordered = absurd s
visits drivers within (suc k) done n l s ordered =
    elim (cases_Bool (has done n)) [
      | inl was ↦
          subst (λ (after : List ℕ). AreVisited drivers done after (n ∷ [])) (sym (visit-was drivers k done n was))
          (record { ordered = ordered; kept = λ m h. h; there = (was, tt) })
      | inr new ↦
          let args : List ℕ = arguments_of (driver_at drivers n) in
          let inner = visits-all drivers k (visits drivers within k) done args (arguments-within drivers within n) s ordered in
          let below : List ℕ = fold (visit drivers k) done args in
          subst (λ (after : List ℕ). AreVisited drivers done after (n ∷ [])) (sym (visit-is drivers k done n new))
          (record {
            ordered = more below n l inner.there inner.ordered;
            kept = λ m h. has-left below (n ∷ []) m (inner.kept m h);
            there = (has-right below (n ∷ []) n (has-one n), tt);
          })
    ]

all-shallow : (drivers : List Driver) (k : ℕ) → ((n : ℕ) → IsShallow drivers k n) → (nets : List ℕ) → AllByRecursion (IsShallow drivers k) nets
all-shallow drivers k h [] = tt
all-shallow drivers k h (n ∷ ns) = (h n, all-shallow drivers k h ns)

pub walk-visits : (net : Netlist) → IsNet net → AllByRecursion (λ m. m < length net.drivers) (output_nets net) → AreVisited net.drivers [] (walk net) (output_nets net)
unfolding walk
walk-visits net h within =
    let reads = net-reads_within net h in
    visits-all net.drivers (suc (length net.drivers)) (visits net.drivers reads (suc (length net.drivers))) [] (output_nets net) within
    (all-shallow net.drivers (suc (length net.drivers)) (shallow net.drivers h.acyclic reads) (output_nets net)) none
