-- A module has one meaning: a net or a first fault, and one of these.
use Rattle.std.proofs.Common.{◌≡◌, List, [], ◌∷◌, ◌++◌, length, Result, Ok, Err, refl, sym, subst, ap, ◌∙◌, arith}
use Rattle.std.specs.List.{All}
use Rattle.std.proofs.lemmas.List.Elements.{All-head, All-tail}
use Rattle.bx_logic.specs.Nets.{Netlist}
use Rattle.bx_syntax.specs.Parts.{ModuleTree}
use Rattle.bx_verilog.specs.declared.fault.NetFault.{NetFault}
use Rattle.bx_verilog.specs.declared.fault.NetFault.TheVariants.{BadPort, NoOutput, TwoDrivers, NoDriver, Cycle, NoMemory}
use Rattle.bx_verilog.specs.Formulas.{Text}
use Rattle.bx_verilog.specs.Mentions.{outputs}
use Rattle.bx_verilog.specs.Faults.{IsBadPort, HasTwoDrivers, HasNoDriver, IsOnCycle, IsLeast, HasOutput, IsAccepted, IsFault}
use Rattle.bx_verilog.specs.Elaboration.{Elaborates}

-- of two texts that are the first to have a fault in one list, both are the same
same-first : (Fault : Text → Type 0) (front other : List Text) (n k : Text) (rest end : List Text) → front ++ n ∷ rest ≡ other ++ k ∷ end →
    Fault n → Fault k → All (λ x. Fault x → ⊥) front → All (λ x. Fault x → ⊥) other → n ≡ k
same-first Fault [] [] n k rest end e has too none none' = cc
same-first Fault [] (y ∷ other) n k rest end e has too none none' =
    absurd (All-head (λ x. Fault x → ⊥) y other none' (subst Fault (cc) has))
same-first Fault (x ∷ front) [] n k rest end e has too none none' =
    absurd (All-head (λ x. Fault x → ⊥) x front none (subst Fault (cc) too))
same-first Fault (x ∷ front) (y ∷ other) n k rest end e has too none none' =
    same-first Fault front other n k rest end (cc) has too (All-tail (λ x. Fault x → ⊥) x front none) (All-tail (λ x. Fault x → ⊥) y other none')

pub same-least : (m : ModuleTree) (Fault : Text → Type 0) (n k : Text) → IsLeast m Fault n → IsLeast m Fault k → n ≡ k
same-least m Fault n k a b = same-first Fault a.before b.before n k a.after b.after (sym a.splits ∙ b.splits) a.has b.has a.none b.none

-- where there is an output, its absence is no fault
no_output : (m : ModuleTree) → HasOutput m → outputs m ≡ [] → ⊥
no_output m h e = omega (arith, h.1, ap length e)

-- a module that is accepted has no fault
no-fault : (m : ModuleTree) (f : NetFault) → IsAccepted m → IsFault m f → ⊥
no-fault m (BadPort n) h x = h.0.0.0.0 n x.has
no-fault m NoOutput h x = no_output m h.0.0.0 x.1
no-fault m (TwoDrivers n) h x = h.0.0.1 n x.1.has
no-fault m (NoDriver n) h x = h.0.1 n x.1.has
no-fault m (Cycle n) h x = h.1 n x.1.has
no-fault m NoMemory h x = x

-- a fault says that there is none of the kinds before it, and is the least of its own
one-fault : (m : ModuleTree) (f g : NetFault) → IsFault m f → IsFault m g → f ≡ g
one-fault m (BadPort n) (BadPort k) x y = ap BadPort (same-least m (IsBadPort m) n k x y)
one-fault m NoOutput NoOutput x y = refl
one-fault m (TwoDrivers n) (TwoDrivers k) x y = ap TwoDrivers (same-least m (HasTwoDrivers m) n k x.1 y.1)
one-fault m (NoDriver n) (NoDriver k) x y = ap NoDriver (same-least m (HasNoDriver m) n k x.1 y.1)
one-fault m (Cycle n) (Cycle k) x y = ap Cycle (same-least m (IsOnCycle m) n k x.1 y.1)
one-fault m (BadPort n) NoOutput x y = absurd (y.0 n x.has)
one-fault m (BadPort n) (TwoDrivers k) x y = absurd (y.0.0 n x.has)
one-fault m (BadPort n) (NoDriver k) x y = absurd (y.0.0.0 n x.has)
one-fault m (BadPort n) (Cycle k) x y = absurd (y.0.0.0.0 n x.has)
one-fault m NoOutput (BadPort k) x y = absurd (x.0 k y.has)
one-fault m NoOutput (TwoDrivers k) x y = absurd (no_output m y.0 x.1)
one-fault m NoOutput (NoDriver k) x y = absurd (no_output m y.0.0 x.1)
one-fault m NoOutput (Cycle k) x y = absurd (no_output m y.0.0.0 x.1)
one-fault m (TwoDrivers n) (BadPort k) x y = absurd (x.0.0 k y.has)
one-fault m (TwoDrivers n) NoOutput x y = absurd (no_output m x.0 y.1)
one-fault m (TwoDrivers n) (NoDriver k) x y = absurd (y.0.1 n x.1.has)
one-fault m (TwoDrivers n) (Cycle k) x y = absurd (y.0.0.1 n x.1.has)
one-fault m (NoDriver n) (BadPort k) x y = absurd (x.0.0.0 k y.has)
one-fault m (NoDriver n) NoOutput x y = absurd (no_output m x.0.0 y.1)
one-fault m (NoDriver n) (TwoDrivers k) x y = absurd (x.0.1 k y.1.has)
one-fault m (NoDriver n) (Cycle k) x y = absurd (y.0.1 n x.1.has)
one-fault m (Cycle n) (BadPort k) x y = absurd (x.0.0.0.0 k y.has)
one-fault m (Cycle n) NoOutput x y = absurd (no_output m x.0.0.0 y.1)
one-fault m (Cycle n) (TwoDrivers k) x y = absurd (x.0.0.1 k y.1.has)
one-fault m (Cycle n) (NoDriver k) x y = absurd (x.0.1 k y.1.has)
one-fault m NoMemory g x y = absurd x
one-fault m f NoMemory x y = absurd y

pub one-meaning : (m : ModuleTree) (r s : Result Netlist NetFault) → Elaborates m r → Elaborates m s → r ≡ s
one-meaning m (Ok net) (Ok other) x y = ap Ok (x.1 ∙ sym y.1)
one-meaning m (Ok net) (Err f) x y = absurd (no-fault m f x.0 y)
one-meaning m (Err f) (Ok net) x y = absurd (no-fault m f y.0 x)
one-meaning m (Err f) (Err g) x y = ap Err (one-fault m f g x y)
