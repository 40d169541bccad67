-- There is one answer, and what each answer says.
use Rattle.std.proofs.Common.{◌≡◌, ℕ, Ok, Err, refl, sym, ap, ◌∙◌, arith}
use Rattle.std.specs.Prelude.{◌≢◌, Result}
use Rattle.std.proofs.lemmas.Option.{same_Some, none-some}
use Rattle.bx_cert.specs.Certs.{Certificate}
use Rattle.bx_library.specs.Tiles.{Tiles}
use Rattle.bx_logic.specs.Nets.{Netlist}
use Rattle.bx_map.specs.Maps.{mapping_of}
use Rattle.bx_map.specs.declared.map.MapFault.{MapFault}
use Rattle.bx_map.specs.declared.map.MapFault.TheVariants as map_fault
use Rattle.bx_siqad.specs.Designs.{Drawing}
use Rattle.bx_verify.specs.Answers.{IsAnswer, IsMapped, IsUnmapped}
use Rattle.bx_verify.specs.declared.fault.VerifyFault.{VerifyFault}
use Rattle.bx_verify.specs.declared.fault.VerifyFault.TheVariants.{Map, NoMemory}
use Rattle.bx_verify.specs.declared.verdict.Verdict.{Verdict}
use Rattle.bx_verify.proofs.Parts.{verdict-once}

-- a net with a network has no fault
mapped-fine : (net : Netlist) (fault : MapFault) → IsMapped net → IsUnmapped net fault → ⊥
mapped-fine net (map_fault.ConstantOutput j) mapped un = none-some j (sym mapped.no_constant ∙ un.fault_is)
mapped-fine net (map_fault.TooManyNodes c) mapped un = let (none, count, more) = un.fault_is in let few = mapped.few in omega (arith, count, more, few)
mapped-fine net map_fault.NoMemory mapped un = un.told refl

-- and a net has one fault
fault-once : (net : Netlist) (a b : MapFault) → IsUnmapped net a → IsUnmapped net b → a ≡ b
fault-once net (map_fault.ConstantOutput i) (map_fault.ConstantOutput j) a b = ap (λ (n : ℕ). map_fault.ConstantOutput n) (same_Some i j (sym a.fault_is ∙ b.fault_is))
fault-once net (map_fault.ConstantOutput i) (map_fault.TooManyNodes c) a b = absurd (none-some i (sym b.fault_is.0 ∙ a.fault_is))
fault-once net (map_fault.TooManyNodes c) (map_fault.ConstantOutput j) a b = absurd (none-some j (sym a.fault_is.0 ∙ b.fault_is))
fault-once net (map_fault.TooManyNodes c) (map_fault.TooManyNodes d) a b = ap (λ (n : ℕ). map_fault.TooManyNodes n) (a.fault_is.1 ∙ sym b.fault_is.1)
fault-once net map_fault.NoMemory b x y = absurd (x.told refl)
fault-once net (map_fault.ConstantOutput i) map_fault.NoMemory x y = absurd (y.told refl)
fault-once net (map_fault.TooManyNodes c) map_fault.NoMemory x y = absurd (y.told refl)

module _ (net : Netlist) (lib : Tiles) (design : Drawing) (cert : Certificate) where
  abbrev pub Answer : Type 0
  Answer = Result Verdict VerifyFault

  pub answer-once : (a b : Answer) → IsAnswer net lib design cert a → IsAnswer net lib design cert b → b ≢ Err NoMemory → a ≢ Err NoMemory → a ≡ b
  answer-once (Ok v) (Ok w) x y some other = ap (λ (u : Verdict). let answer : Answer = Ok u in answer) (verdict-once (mapping_of net) lib design cert v w x.1 y.1)
  answer-once (Ok v) (Err (Map f)) x y some other = absurd (mapped-fine net f x.0 y)
  answer-once (Err (Map f)) (Ok v) x y some other = absurd (mapped-fine net f y.0 x)
  answer-once (Err (Map f)) (Err (Map g)) x y some other = ap (λ (h : MapFault). let answer : Answer = Err (Map h) in answer) (fault-once net f g x y)
  answer-once (Err NoMemory) b x y some other = absurd (other refl)
  answer-once (Ok v) (Err NoMemory) x y some other = absurd (some refl)
  answer-once (Err (Map f)) (Err NoMemory) x y some other = absurd (some refl)
