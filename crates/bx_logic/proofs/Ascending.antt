-- Where each net reads earlier ones alone, none depends on itself, and each input drives one net.
use Rattle.std.proofs.Common.{◌≡◌, ℕ, ◌<◌, List, length, false, sym, subst, arith, inl, inr}
use Rattle.std.specs.List.{All}
use Rattle.std.proofs.lemmas.Bool.{cases_lt}
use Rattle.std.proofs.lemmas.List.{get_or_past}
use Rattle.std.proofs.lemmas.List.Elements.{All-contains, All-from_get_or, All-weaker}
use Rattle.bx_logic.specs.declared.driver.Driver.{Driver}
use Rattle.bx_logic.specs.declared.driver.Driver.TheVariants.{Input, Constant, Gate}
use Rattle.bx_logic.specs.Nets.{arguments_of, driver_at, Reads, DependsOn, directly, through, IsAcyclic, IsDriver, IsDrivenOnce, Netlist, IsNet, output_nets}
use Rattle.bx_logic.specs.Ascending.{MayStandAt, IsAscending}

reads-less : (inputs n : ℕ) (d : Driver) → MayStandAt inputs n d → All (λ m. m < n) (arguments_of d)
reads-less inputs n (Input i) h = λ k d l. absurd (omega arith)
reads-less inputs n (Constant b) h = λ k d l. absurd (omega arith)
reads-less inputs n (Gate op args) h = h.2

is_driver : (inputs n nets : ℕ) (d : Driver) → n < nets → MayStandAt inputs n d → IsDriver inputs nets d
is_driver inputs n nets (Input i) l h = omega arith
is_driver inputs n nets (Constant b) l h = tt
is_driver inputs n nets (Gate op args) l h = (h.1, All-weaker (λ m. m < n) (λ m. m < nets) (λ m k. omega arith) args h.2)

reads-earlier : (inputs : ℕ) (drivers : List Driver) → IsAscending inputs drivers → (n m : ℕ) → Reads drivers n m → m < n
reads-earlier inputs drivers h n m reads =
    elim (cases_lt n (length drivers)) [
      | inl l ↦ All-contains (λ m. m < n) (arguments_of (driver_at drivers n)) m (reads-less inputs n (driver_at drivers n) (h.each n l)) reads
      | inr past ↦
          let e : driver_at drivers n ≡ Constant false = get_or_past drivers n (Constant false) past in
          let none = reads-less 0 n (Constant false) (omega arith) in
          All-contains (λ m. m < n) (arguments_of (driver_at drivers n)) m
          (subst (λ (d : Driver). All (λ m. m < n) (arguments_of d)) (sym e) none) reads
    ]

depends-less : (inputs : ℕ) (drivers : List Driver) → IsAscending inputs drivers → (n m : ℕ) → DependsOn drivers n m → m < n
depends-less inputs drivers h _ _ (directly n m reads) = reads-earlier inputs drivers h n m reads
depends-less inputs drivers h _ _ (through n k m reads d) =
    let first = reads-earlier inputs drivers h n k reads in
    let rest = depends-less inputs drivers h k m d in
    omega (arith, first, rest)

pub acyclic : (inputs : ℕ) (drivers : List Driver) → IsAscending inputs drivers → IsAcyclic drivers
acyclic inputs drivers h n d = let less = depends-less inputs drivers h n n d in omega (arith, less)

driven_once-at : (inputs i n : ℕ) (d : Driver) → MayStandAt inputs n d → d ≡ Input i → n ≡ i
driven_once-at inputs i n (Input j) h e = let same : j ≡ i = cc in omega (arith, same)
driven_once-at inputs i n (Constant b) h e = cc
driven_once-at inputs i n (Gate op args) h e = cc

input-at : (inputs n : ℕ) (d : Driver) → n < inputs → MayStandAt inputs n d → d ≡ Input n
input-at inputs n (Input i) l h = cc h.1
input-at inputs n (Constant b) l h = absurd (omega arith)
input-at inputs n (Gate op args) l h = absurd (omega (arith, h.0))

driven_once : (inputs : ℕ) (drivers : List Driver) → IsAscending inputs drivers → (i : ℕ) → i < inputs → IsDrivenOnce drivers i
driven_once inputs drivers h i l = record {
  net = i;
  driven = input-at inputs i (driver_at drivers i) l (h.each i (omega (arith, h.inputs_within)));
  only = λ n e. elim (cases_lt n (length drivers)) [
    | inl m ↦ driven_once-at inputs i n (driver_at drivers n) (h.each n m) e
    | inr past ↦ let d : driver_at drivers n ≡ Constant false = get_or_past drivers n (Constant false) past in cc (d, e)
  ];
}

pub ascending-is_net : (net : Netlist) → length net.inputs < 4294967296 → length net.outputs < 4294967296 → length net.drivers < 4294967296 →
    All (λ n. n < length net.drivers) (output_nets net) → IsAscending (length net.inputs) net.drivers → IsNet net
ascending-is_net net inputs outputs nets within h = record {
  few_inputs = inputs;
  few_outputs = outputs;
  few_nets = nets;
  drivers = All-from_get_or (IsDriver (length net.inputs) (length net.drivers)) net.drivers (Constant false)
      (λ n l. is_driver (length net.inputs) n (length net.drivers) (driver_at net.drivers n) l (h.each n l));
  outputs = within;
  inputs = λ i l. driven_once (length net.inputs) net.drivers h i l;
  acyclic = acyclic (length net.inputs) net.drivers h;
}
