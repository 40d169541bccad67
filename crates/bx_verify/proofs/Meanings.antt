-- What a verdict shows of the mapped network it means of the net.
use Rattle.std.proofs.Common.{◌≡◌, ℕ, List, length, subst}
use Rattle.bx_cert.specs.Certs.{Certificate}
use Rattle.bx_grid.specs.declared.ratio.Ratio.{Ratio}
use Rattle.bx_layout.specs.Pins.{Computes, grid_behaviour, pins_of}
use Rattle.bx_layout.proofs.Computing.{computes as grid-computes}
use Rattle.bx_layout.proofs.Soundness.{sound as grid-sound}
use Rattle.bx_library.specs.Tiles.{Tiles}
use Rattle.bx_logic.specs.Behaviours.{SameBehaviour, net_behaviour}
use Rattle.bx_logic.specs.Nets.{Netlist}
use Rattle.bx_logic.proofs.Behaviours.{same-sym, same-trans}
use Rattle.bx_map.specs.Maps.{mapping_of}
use Rattle.bx_network.specs.Networks.{Network, IsNetwork}
use Rattle.bx_network.specs.Values.{network_behaviour}
use Rattle.bx_siqad.specs.Designs.{Drawing}
use Rattle.bx_trace.specs.Traced.{pins_on}
use Rattle.bx_verify.specs.Meaning.{IsLaidOut, NoneIsEarlier, IsMinimal, Means, Shows}
use Rattle.bx_dots.specs.Permits.{permit_of}
use Rattle.bx_verify.specs.Failing.{tiles_of}
use Rattle.bx_verify.specs.declared.verdict.Verdict.{Verdict}
use Rattle.bx_verify.specs.declared.verdict.Verdict.TheVariants.{Minimal, Wrong}

module _ (net : Netlist) (lib : Tiles) (design : Drawing) (cert : Certificate) where
  abbrev Computed : Network → Type 0
  Computed N = IsNetwork N × SameBehaviour (net_behaviour net) (network_behaviour (length net.inputs) N)

  minimal : (r : Ratio) → Computed (mapping_of net) → IsLaidOut (mapping_of net) lib design cert r → NoneIsEarlier (mapping_of net) lib design cert r → IsMinimal net lib design cert r
  minimal r (network, same) laid least =
      let N : Network = mapping_of net in
      let inputs = length net.inputs in
      let given : Computes inputs laid.grid (pins_of N laid.layout) N = grid-computes N (permit_of lib) laid.layout laid.grid inputs network laid.legal laid.forms in
      let computes : Computes inputs laid.grid (pins_on N (tiles_of r laid.spots)) N =
      subst (λ (tiles : List ℕ). Computes inputs laid.grid (pins_on N tiles) N) laid.places given in
      record {
        laid = laid;
        sound = grid-sound N (permit_of lib) laid.layout laid.grid network laid.legal laid.forms;
        pins = computes.pins_fit;
        computes = same-trans (grid_behaviour inputs laid.grid (pins_on N (tiles_of r laid.spots))) (network_behaviour inputs N) (net_behaviour net) computes.same (same-sym (net_behaviour net) (network_behaviour inputs N) same);
        least = least;
      }

  pub means : (N : Network) (verdict : Verdict) → N ≡ mapping_of net → Computed N → Shows N lib design cert verdict → Means net lib design cert verdict
  means N (Minimal r) is computed shows =
      let shown : IsLaidOut (mapping_of net) lib design cert r × NoneIsEarlier (mapping_of net) lib design cert r = subst (λ (M : Network). Shows M lib design cert (Minimal r)) is shows in
      minimal r (subst Computed is computed) shown.0 shown.1
  means N (Wrong p k) is computed shows = tt
