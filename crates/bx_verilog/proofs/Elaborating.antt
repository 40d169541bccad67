-- What the net of a module rests on, and that nothing else is answered.
use Rattle.std.proofs.Common.{◌≡◌, ◌≢◌, ℕ, ◌+◌, ◌<◌, List, [], ◌++◌, length, map, get_or, Result, Ok, Err, IfOk, IfErr, sym, ap, ◌∙◌, subst, arith}
use Rattle.std.proofs.lemmas.Option.{slice_get_within, get_or_from_slice_get}
use Rattle.bx_logic.specs.declared.driver.Driver.{Driver}
use Rattle.bx_logic.specs.Cycles.{ReadsNetsOnly, IsLeastOnCycle}
use Rattle.bx_logic.specs.Nets.{Netlist, IsNet, IsAcyclic, netlist}
use Rattle.bx_syntax.proofs.Sizes.{module_fits}
use Rattle.bx_syntax.specs.Parts.{ModuleTree}
use Rattle.bx_syntax.specs.Texts.{IsTree}
use Rattle.bx_verilog.specs.declared.fault.NetFault.{NetFault}
use Rattle.bx_verilog.specs.declared.fault.NetFault.TheVariants.{NoMemory}
use Rattle.bx_verilog.specs.Formulas.{Text}
use Rattle.bx_verilog.specs.Drives.{Drive, drives}
use Rattle.bx_verilog.specs.Mentions.{names, number, inputs, outputs}
use Rattle.bx_verilog.specs.Faults.{IsDriven, IsAccepted, IsLeast, IsOnCycle}
use Rattle.bx_verilog.specs.Elaboration.{inner_size, name_count, driver_of, inner_drivers, net_of, Elaborates}
use Rattle.bx_verilog.specs.Lowering.{HaveArguments}
use Rattle.bx_verilog.proofs.Arity.{drive-arity}
use Rattle.bx_verilog.proofs.Cyclic.{acyclic-names, cycle-named}
use Rattle.bx_verilog.proofs.ElaboratedNets.{is_net, few-nets, reads-nets-only}
use Rattle.bx_logic.proofs.Members.{AllByRecursion-from_member, Contains-from_member}
use Rattle.bx_verilog.proofs.MentionSizes.{nets-fit}
use Rattle.bx_verilog.proofs.OneMeaning.{one-meaning}

pub have-arguments : (m : ModuleTree) → IsTree m → HaveArguments (drives m)
have-arguments m tree =
    AllByRecursion-from_member (λ (d : Drive). 0 < length d.arguments) (drives m) (λ d h. (drive-arity m tree d (Contains-from_member d (drives m) h)).0)

-- There are few enough nets for numbers of 32 bits.
pub few-names : (m : ModuleTree) → IsTree m → name_count m + inner_size (drives m) < 4294967296
few-names m tree = omega (arith, nets-fit m, module_fits 256 m tree.terminals tree.is_module, tree.few)

abbrev drivers_of : ModuleTree → List Driver
drivers_of m = map (driver_of m) (names m) ++ inner_drivers (number m) (name_count m) (drives m)

pub few-drivers : (m : ModuleTree) (ds : List Driver) → IsTree m → ds ≡ drivers_of m → length ds < 4294967296
few-drivers m ds tree e = omega (arith, ap length e, few-nets m tree)

pub reads-only : (m : ModuleTree) (ds : List Driver) → ds ≡ drivers_of m → ReadsNetsOnly ds
reads-only m ds e = subst ReadsNetsOnly (sym e) (reads-nets-only m)

-- A net on a cycle is a name's.
pub cycle-within : (m : ModuleTree) (all : List Text) (ds : List Driver) (k : ℕ) → IsDriven m → all ≡ names m → ds ≡ drivers_of m → IsLeastOnCycle ds k → k < length all
cycle-within m all ds k driven a e least =
    let named = cycle-named m driven k (subst (λ (xs : List Driver). IsLeastOnCycle xs k) e least) in
    omega (arith, ap length a, slice_get_within (names m) k named.0 named.1)

pub cycle-least : (m : ModuleTree) (all : List Text) (ds : List Driver) (k : ℕ) (n : Text) → IsDriven m → all ≡ names m → ds ≡ drivers_of m → IsLeastOnCycle ds k → n ≡ get_or all k [] → IsLeast m (IsOnCycle m) n
cycle-least m all ds k n driven a e least is =
    let named = cycle-named m driven k (subst (λ (xs : List Driver). IsLeastOnCycle xs k) e least) in
    let same : named.0 ≡ n = sym (get_or_from_slice_get (names m) k named.0 [] named.1) ∙ (ap (λ xs. get_or xs k []) (sym a) ∙ sym is) in
    subst (IsLeast m (IsOnCycle m)) same named.2

pub parts-are : (m : ModuleTree) (name : Text) (ins : List Text) (outs : List (Text × ℕ)) (ds : List Driver) → name ≡ m.name → ins ≡ inputs m → outs ≡ map (λ n. (n, number m n)) (outputs m) → ds ≡ drivers_of m →
    netlist name ins outs ds ≡ net_of m
parts-are m name ins outs ds a b c d = λ i. netlist (a i) (b i) (c i) (d i)

pub parts-net : (m : ModuleTree) (net : Netlist) → IsTree m → IsDriven m → IsAcyclic net.drivers → net ≡ net_of m → IsNet net
parts-net m net tree driven acyclic e = subst IsNet (sym e) (is_net m tree driven (subst IsAcyclic (ap (λ (n : Netlist). n.drivers) e) acyclic))

pub accepted : (m : ModuleTree) (net : Netlist) → IsDriven m → IsAcyclic net.drivers → net ≡ net_of m → IsAccepted m × (net ≡ net_of m)
accepted m net driven acyclic e = ((driven, acyclic-names m driven (subst IsAcyclic (ap (λ (n : Netlist). n.drivers) e) acyclic)), e)

-- What is answered is all that the module gives.
pub exact : (m : ModuleTree) (answer : Result Netlist NetFault) → IfOk answer (λ net. Elaborates m (Ok net)) → IfErr answer (λ fault. fault ≢ NoMemory → Elaborates m (Err fault)) →
    (r : Result Netlist NetFault) → Elaborates m r → answer ≢ Err NoMemory → answer ≡ r
exact m (Ok net) found faults r gives other = one-meaning m (Ok net) r found gives
exact m (Err fault) found faults r gives other = one-meaning m (Err fault) r (faults (λ e. other (ap Err e))) gives
