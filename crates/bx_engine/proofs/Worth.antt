-- What the answer to a module that is taken is worth.
use Rattle.std.proofs.Common.{◌≡◌, ℕ, ◌<◌, ◌≤◌, List, Option, Some, None, length, subst, refl, sym, ap, ◌∙◌, arith}
use Rattle.std.specs.Prelude.{slice_get, option_map, IfSome, IsSomeAnd}
use Rattle.std.proofs.lemmas.List.{length-map}
use Rattle.bx_cert.specs.Certs.{Certificate, IsCert}
use Rattle.bx_cert.specs.Texts.{cert_text}
use Rattle.bx_cert.specs.declared.parts.CertLast.{CertLast}
use Rattle.bx_cert.specs.declared.parts.CertLast.TheVariants.{Found, Undecided, NoneWithin}
use Rattle.bx_cert.specs.declared.parts.Spot.{Spot}
use Rattle.bx_design.specs.Certificates.{spots_of}
use Rattle.bx_design.specs.Meaning.{IsMinimal, IsFoundWith, IsEndAt}
use Rattle.bx_design.proofs.Certified.{certified as cert-is}
use Rattle.bx_design.proofs.Minimal.{minimal as minimal-is}
use Rattle.bx_design.specs.declared.solution.LaidOut.{LaidOut}
use Rattle.bx_dots.specs.Cuts.{IsCut}
use Rattle.bx_dots.specs.Permits.{permit_of}
use Rattle.bx_grid.specs.Orders.{order}
use Rattle.bx_grid.specs.declared.ratio.Ratio.{Ratio}
use Rattle.bx_layout.specs.Pins.{pins_of, grid_behaviour}
use Rattle.bx_layout.proofs.Flow.{row-clocked}
use Rattle.bx_layout.specs.declared.layout.Layout.{Layout}
use Rattle.bx_lex.proofs.Cuts.{tokens_spans, tokens_whole}
use Rattle.bx_library.specs.Tiles.{Tiles}
use Rattle.bx_logic.specs.Nets.{IsNet}
use Rattle.bx_logic.specs.Behaviours.{SameBehaviour, net_behaviour}
use Rattle.bx_logic.proofs.Behaviours.{same-sym, same-trans}
use Rattle.bx_map.specs.Maps.{mapping_of}
use Rattle.bx_map.proofs.Mapping.{mapping_of-is_network}
use Rattle.bx_map.proofs.Ported.{input-ports, output-ports}
use Rattle.bx_map.proofs.Behaving.{computes as mapped-computes}
use Rattle.bx_network.specs.Networks.{Network, IsNetwork}
use Rattle.bx_network.specs.Values.{network_behaviour}
use Rattle.bx_siqad.specs.Designs.{Drawing}
use Rattle.bx_siqad.specs.Texts.{design_text}
use Rattle.bx_syntax.specs.Parts.{ModuleTree}
use Rattle.bx_syntax.specs.Terminals.{terminal_of, terminals_of}
use Rattle.bx_syntax.specs.Texts.{IsTree}
use Rattle.bx_syntax.proofs.Sizes.{spans_fit}
use Rattle.bx_verilog.specs.Formulas.{Text}
use Rattle.bx_verilog.specs.Equations.{module_of, module_behaviour}
use Rattle.bx_verilog.specs.Elaboration.{net_of}
use Rattle.bx_verilog.proofs.Cyclic.{acyclic-net}
use Rattle.bx_verilog.proofs.ElaboratedNets.{is_net}
use Rattle.bx_verilog.proofs.ModuleBehaviours.{same-behaviour}
use Rattle.bx_engine.specs.Answers.{Draws, IsDrawn, Solves}
use Rattle.bx_engine.specs.Said.{search_text}
use Rattle.bx_engine.specs.Steps.{CanBeDrawn}
use Rattle.bx_engine.specs.Tasks.{Task, IsTask}
use Rattle.bx_engine.specs.Texts.{IsText, IsTaken, IsTakenLibrary, network_of}
use Rattle.bx_engine.specs.Worth.{ComputesModule, IsEvidence, IsFound, IsWorth}
use Rattle.bx_engine.proofs.Drawings.{drawn-text, drawn-cut}
use Rattle.bx_engine.proofs.Lines.{found-text}
use Rattle.bx_engine.proofs.Permits.{allowed-offered, drawable}
use Rattle.bx_engine.proofs.Tasks.{limits_are, budget_is}

-- ---- the module

-- a text that is short has a tree of few terminals
pub tree-of_text : (text : Text) (m : ModuleTree) → length text ≤ 1048576 → IsText text m → IsTree m
tree-of_text text m short is =
    let room = spans_fit 0 is.found.end is.found.tokens (tokens_spans text is.found is.tokens) in
    let whole = tokens_whole text is.found is.tokens in
    let count = length-map is.found.tokens (terminal_of text) in
    record { terminals = terminals_of text is.found.tokens; is_module = is.is_module; few = omega arith }

module _ (text : Text) (m : ModuleTree) (taken : IsTaken text m) where
  tree : IsTree m
  tree = tree-of_text text m taken.good.short taken.good.is_text

  net-is : IsNet (net_of m)
  net-is = is_net m tree taken.good.accepted.0 (acyclic-net m taken.good.accepted.1)

  few : length (mapping_of (net_of m)).nodes < 2147483648
  few = let a = taken.is_mapped.few in omega arith

  pub network-is : IsNetwork (network_of m)
  network-is = mapping_of-is_network (net_of m) net-is taken.is_mapped.no_constant few

  pub net-computed : SameBehaviour (net_behaviour (net_of m)) (network_behaviour (length (net_of m).inputs) (network_of m))
  net-computed = mapped-computes (net_of m) net-is taken.is_mapped.no_constant few

  pub module-computed : ComputesModule (net_of m) (module_of m) (network_of m)
  module-computed =
      let inputs : ℕ = length (net_of m).inputs in
      record {
        network = network-is;
        inputs = λ v port has. input-ports (net_of m) net-is taken.is_mapped.no_constant v port has;
        outputs = output-ports (net_of m) net-is taken.is_mapped.no_constant;
        meaning =
            same-trans (network_behaviour inputs (network_of m)) (net_behaviour (net_of m)) (module_behaviour (module_of m))
            (same-sym (net_behaviour (net_of m)) (network_behaviour inputs (network_of m)) net-computed)
            (same-behaviour m tree taken.good.accepted);
      }

-- ---- the solution of its network

module _ (words : List Text) (task : Task) (asks : IsTask words task) (text : Text) (m : ModuleTree) (taken : IsTaken text m) (lib : Tiles)
    (cert : Certificate) (found : Option LaidOut) (solves : Solves task m lib cert found) where
  abbrev N : Network
  N = network_of m

  small : length N.nodes ≤ 96
  small = let few = taken.is_mapped.few in omega arith

  pub minimal : IsMinimal N (permit_of lib) task.limits task.budget cert found
  minimal = minimal-is N (permit_of lib) task.limits task.budget (network-is text m taken) small (limits_are words task asks) cert found solves

  certified : IsCert cert
  certified = cert-is N (permit_of lib) task.limits task.budget (network-is text m taken) small (limits_are words task asks) (budget_is words task asks) cert found solves

  abbrev evidence : (last : CertLast) → cert.last ≡ last → IsEvidence task N (permit_of lib) (cert_text cert) last
  evidence last ends = record {
    cert = cert;
    is_cert = certified;
    limits = ap (λ (c : Certificate). c.limits) solves.certified;
    budget = ap (λ (c : Certificate). c.budget) solves.certified;
    ends = ends;
    spelled = refl;
    sections = minimal.sections;
    lacking = minimal.lacking;
  }

  can-be-drawn : IfSome found (CanBeDrawn lib)
  can-be-drawn = drawable N (permit_of lib) lib (allowed-offered lib) task.limits (limits_are words task asks) task.budget cert found minimal

  module _ (lib_text : Text) (library : IsTakenLibrary lib_text lib) where
    -- what was found, as it is drawn
    found-is : (r : Ratio) (spots : List Spot) → cert.last ≡ Found r spots → slice_get (order task.limits) (length cert.sections) ≡ Some r → (with : IsFoundWith N (permit_of lib) r spots found)
        → (drawing : Drawing) → Draws lib with.laid.grid drawing → CanBeDrawn lib with.laid
        → IsFound task m lib r (design_text drawing) (cert_text cert) (search_text (net_of m) N (Found r spots) found)
    found-is r spots ends at with drawing draws can =
        let inputs : ℕ = length (net_of m).inputs in
        let computed = module-computed text m taken in
        let L : Layout = with.laid.layout in
        let sides : with.laid.grid.ratio ≡ r = with.is.forms.ratio ∙ with.sides in
        let computes = with.is.computes inputs in
        record {
          computed = computed;
          drawing = drawing;
          drawn = drawn-text lib library.is with.laid.grid drawing draws can.ratio;
          drawn_sides = draws.ratio ∙ sides;
          grid = with.laid.grid;
          cut = subst (λ (q : Ratio). IsCut lib q drawing.dots with.laid.grid) sides (drawn-cut lib library.is with.laid.grid drawing draws with.is.whole.whole with.is.sound can.offered);
          whole = with.is.whole;
          sound = with.is.sound;
          layout = L;
          sides = with.sides;
          legal = with.is.legal;
          forms = with.is.forms;
          clocked = row-clocked N (permit_of lib) L with.is.legal;
          ports = computes.pins_fit;
          computes = same-trans (grid_behaviour inputs with.laid.grid (pins_of N L)) (network_behaviour inputs N) (module_behaviour (module_of m)) computes.same computed.meaning;
          printed = ap (λ (o : Option LaidOut). search_text (net_of m) N (Found r spots) o) with.found_is
              ∙ found-text (net_of m) N r spots with.laid (sym sides);
          least = record { evidence = evidence (Found r (spots_of L)) (ends ∙ ap (λ (xs : List Spot). Found r xs) with.places); next = at };
        }

    -- so it is with each way in which the search ended
    worth-by : (design : Option Drawing) → IsDrawn lib found design → (last : CertLast) → cert.last ≡ last → IsEndAt N (permit_of lib) task.limits task.budget (length cert.sections) last found
        → IsWorth task m lib last (option_map design_text design) (cert_text cert) (search_text (net_of m) N last found)
    worth-by design drawn (Found r spots) ends (at, with) =
        by design (subst (λ (o : Option LaidOut). IsDrawn lib o design) with.found_is drawn) (subst (λ (o : Option LaidOut). IfSome o (CanBeDrawn lib)) with.found_is can-be-drawn)
      where
        by : (d : Option Drawing) → IsDrawn lib (Some with.laid) d → CanBeDrawn lib with.laid
            → IsSomeAnd (option_map design_text d) (λ bytes. IsFound task m lib r bytes (cert_text cert) (search_text (net_of m) N (Found r spots) found))
        by (Some drawing) draws can = found-is r spots ends at with drawing draws can
        by None none can = absurd none
    worth-by design drawn (Undecided r spent) ends (at, none, verdict) = (
      ap (λ (o : Option Drawing). option_map design_text o) (subst (λ (o : Option LaidOut). IsDrawn lib o design) none drawn),
      record {
        computed = module-computed text m taken;
        verdict = verdict;
        printed = ap (λ (o : Option LaidOut). search_text (net_of m) N (Undecided r spent) o) none;
        least = record { evidence = evidence (Undecided r spent) ends; next = at };
      },
    )
    worth-by design drawn NoneWithin ends (over, none) = (
      ap (λ (o : Option Drawing). option_map design_text o) (subst (λ (o : Option LaidOut). IsDrawn lib o design) none drawn),
      record {
        computed = module-computed text m taken;
        printed = ap (λ (o : Option LaidOut). search_text (net_of m) N NoneWithin o) none;
        evidence = evidence NoneWithin ends;
        all = over;
      },
    )

    pub worth-is : (design : Option Drawing) → IsDrawn lib found design
        → IsWorth task m lib cert.last (option_map design_text design) (cert_text cert) (search_text (net_of m) N cert.last found)
    worth-is design drawn = worth-by design drawn cert.last refl minimal.end_at
