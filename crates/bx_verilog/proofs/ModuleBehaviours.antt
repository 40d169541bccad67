-- A module in which nothing is wrong and its net have the same behaviour.
use Rattle.std.proofs.Common.{◌≡◌, Bool, List, [], ◌∷◌, length, refl, sym, ap, ap₂, ◌∙◌, subst}
use Rattle.std.specs.List.{AllZip}
use Rattle.std.proofs.lemmas.List.{length-map}
use Rattle.bx_logic.specs.Values.{AreOutputValues}
use Rattle.bx_logic.specs.Behaviours.{net_behaviour, SameBehaviour}
use Rattle.bx_logic.proofs.Behaviours.{net-function}
use Rattle.bx_syntax.specs.Parts.{ModuleTree}
use Rattle.bx_syntax.specs.Texts.{IsTree}
use Rattle.bx_verilog.specs.Formulas.{Text}
use Rattle.bx_verilog.specs.Mentions.{inputs, outputs}
use Rattle.bx_verilog.specs.Faults.{IsAccepted}
use Rattle.bx_verilog.specs.Equations.{Module, module_of, Assignment, Gives, module_behaviour}
use Rattle.bx_verilog.specs.Elaboration.{net_of}
use Rattle.bx_verilog.proofs.Cyclic.{acyclic-net}
use Rattle.bx_verilog.proofs.ElaboratedNets.{is_net}
use Rattle.bx_verilog.proofs.Existence.{any-inputs}
use Rattle.bx_verilog.proofs.Meanings.{net-gives-outputs}

pub one-given : (m : Module) (a : Assignment) (n : Text) (b c : Bool) → Gives m a n b → Gives m a n c → b ≡ c
one-given m a n b c x y = sym (x.every x.some.0 x.some.1) ∙ y.every x.some.0 x.some.1

all-given : (m : Module) (a : Assignment) (ns : List Text) (bs cs : List Bool) → AllZip (Gives m a) ns bs → AllZip (Gives m a) ns cs → bs ≡ cs
all-given m a [] [] [] x y = refl
all-given m a [] [] (c ∷ cs) x y = absurd y
all-given m a [] (b ∷ bs) cs x y = absurd x
all-given m a (n ∷ ns) [] cs x y = absurd x
all-given m a (n ∷ ns) (b ∷ bs) [] x y = absurd y
all-given m a (n ∷ ns) (b ∷ bs) (c ∷ cs) x y =
    ap₂ (λ (d : Bool) (ds : List Bool). d ∷ ds) (one-given m a n b c x.0 y.0) (all-given m a ns bs cs x.1 y.1)

pub same-behaviour : (m : ModuleTree) → IsTree m → IsAccepted m → SameBehaviour (net_behaviour (net_of m)) (module_behaviour (module_of m))
same-behaviour m tree accepted =
    let net = is_net m tree accepted.0 (acyclic-net m accepted.1) in
    record {
      forth = λ bits outs o.
          let (a, given) = any-inputs m accepted.0.0.0.0 bits o.inputs in
          record {
            assignment = a;
            inputs = given;
            each = net-gives-outputs m accepted.0 a outs (subst (λ (bs : List Bool). AreOutputValues (net_of m) bs outs) (sym given) o);
          };
      back = λ bits outs g.
          let fits : length bits ≡ length (inputs m) = ap length (sym g.inputs) ∙ length-map (inputs m) g.assignment in
          let (values, one) = (net-function (net_of m) net).one bits fits in
          let here = subst (λ (bs : List Bool). AreOutputValues (net_of m) bs values) (sym g.inputs) one.gives in
          let same = all-given (module_of m) g.assignment (outputs m) values outs (net-gives-outputs m accepted.0 g.assignment values here) g.each in
          subst (AreOutputValues (net_of m) bits) same one.gives;
    }
