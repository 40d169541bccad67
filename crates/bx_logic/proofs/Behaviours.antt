-- Behaviours that are functions, and behaviours that are the same.
use Rattle.std.proofs.Common.{◌≡◌, ℕ, Bool, List, length, sym, ◌∙◌, ap, subst}
use Rattle.std.proofs.lemmas.List.{length-map}
use Rattle.bx_logic.specs.Nets.{Netlist, IsNet, output_nets}
use Rattle.bx_logic.specs.Values.{value_of, IsNetValuation, output_values, AreOutputValues}
use Rattle.bx_logic.specs.Behaviours.{Behaviour, net_behaviour, SameBehaviour, IsFunction}
use Rattle.bx_logic.proofs.Valuations.{the_values, only_valuation, net-reads_within}

pub same-sym : (one other : Behaviour) → SameBehaviour one other → SameBehaviour other one
same-sym one other same = record { forth = same.back; back = same.forth }

pub same-trans : (one other third : Behaviour) → SameBehaviour one other → SameBehaviour other third → SameBehaviour one third
same-trans one other third a b = record {
  forth = λ bits outputs h. b.forth bits outputs (a.forth bits outputs h);
  back = λ bits outputs h. a.back bits outputs (b.back bits outputs h);
}

-- of two functions of as many inputs, where the second gives all that the first gives, it gives no more
pub same-functions : (inputs outputs more : ℕ) (one other : Behaviour) → IsFunction inputs outputs one → IsFunction inputs more other →
    ((bits values : List Bool) → one bits values → other bits values) → SameBehaviour one other
same-functions inputs outputs more one other f g forth = record {
  forth = forth;
  back = λ bits values h.
      let fits = g.inputs_given bits values h in
      let (mine, given) = f.one bits fits in
      let (theirs, only) = g.one bits fits in
      subst (one bits) (only.only mine (forth bits mine given.gives) ∙ sym (only.only values h)) given.gives;
}

-- the outputs of a net in any valuation of it
pub outputs-of_valuation : (net : Netlist) (bits values : List Bool) → IsNet net → length bits ≡ length net.inputs → IsNetValuation net.drivers bits values →
    AreOutputValues net bits (output_values net values)
outputs-of_valuation net bits values h fits is =
    let only = only_valuation net.drivers bits h.acyclic (net-reads_within net h) in
    record { inputs = fits; values = the_values net.drivers bits; valuation = only; read = ap (output_values net) (only.only values is) }

pub only-outputs : (net : Netlist) (bits outputs others : List Bool) → AreOutputValues net bits outputs → AreOutputValues net bits others → others ≡ outputs
only-outputs net bits outputs others a b = b.read ∙ ap (output_values net) (a.valuation.only b.values b.valuation.is) ∙ sym a.read

length-outputs : (net : Netlist) (values : List Bool) → length (output_values net values) ≡ length net.outputs
length-outputs net values =
    length-map (output_nets net) (value_of values) ∙ length-map net.outputs (λ (output : List ℕ × ℕ). output.1)

pub net-function : (net : Netlist) → IsNet net → IsFunction (length net.inputs) (length net.outputs) (net_behaviour net)
net-function net h = record {
  one = λ bits fits.
      let outputs = output_values net (the_values net.drivers bits) in
      let is = (only_valuation net.drivers bits h.acyclic (net-reads_within net h)).is in
      let given : AreOutputValues net bits outputs = outputs-of_valuation net bits (the_values net.drivers bits) h fits is in
      (outputs, record { gives = given; only = λ others o. only-outputs net bits outputs others given o });
  inputs_given = λ bits values o. o.inputs;
  outputs_given = λ bits values o. ap length o.read ∙ length-outputs net o.values;
}
