-- What was found passes the judgement of anybody who reads it back.
use Rattle.std.proofs.Common.{◌≡◌, ℕ, ◌*◌, ◌<◌, List, [], ◌∷◌, Some, All, length, get_or, true, refl, sym, ap, ◌∙◌, subst, arith, inl, inr}
use Rattle.std.specs.Prelude.{slice_get, map}
use Rattle.std.proofs.lemmas.List.{length-map}
use Rattle.std.proofs.lemmas.List.Elements.{All-map, All-from_get_or}
use Rattle.std.proofs.lemmas.Nat.{div_below, mod_below, div-add-mod'}
use Rattle.std.proofs.lemmas.Option.{slice_get-get_or, slice_get_within, slice_get_cases}
use Rattle.bx_cert.specs.Certs.{Certificate}
use Rattle.bx_cert.specs.Texts.{IsTextOf as IsTextOfCert}
use Rattle.bx_cert.specs.declared.parts.CertLast.TheVariants.{Found}
use Rattle.bx_cert.specs.declared.parts.Section.{Section}
use Rattle.bx_cert.specs.declared.parts.Spot.{Spot}
use Rattle.bx_cert.proofs.Leading.{one_cert}
use Rattle.bx_design.specs.Certificates.{spot_of, spots_of}
use Rattle.bx_dots.specs.Cuts.{IsCut}
use Rattle.bx_dots.specs.Permits.{permit_of}
use Rattle.bx_grid.specs.Orders.{order}
use Rattle.bx_grid.specs.Tiles.{tile_count, x_of, y_of, IsGrid}
use Rattle.bx_grid.specs.declared.ratio.Limits.{Limits}
use Rattle.bx_grid.specs.declared.ratio.Ratio.{Ratio}
use Rattle.bx_layout.specs.Grids.{FormGrid, IsSound}
use Rattle.bx_layout.specs.Legal.{IsLegal}
use Rattle.bx_layout.specs.Permits.{all_forms}
use Rattle.bx_layout.specs.declared.layout.Layout.{Layout}
use Rattle.bx_layout.proofs.Permitted.{under-larger}
use Rattle.bx_library.specs.Tiles.{Tiles, IsLibrary}
use Rattle.bx_lines.specs.Lines.{ended}
use Rattle.bx_network.specs.Networks.{Network}
use Rattle.bx_siqad.specs.Designs.{Drawing}
use Rattle.bx_siqad.specs.Texts.{IsTextOf}
use Rattle.bx_siqad.proofs.OneDesign.{one_design}
use Rattle.bx_syntax.specs.Parts.{ModuleTree}
use Rattle.bx_verify.specs.Answers.{IsVerdict}
use Rattle.bx_verify.specs.Failing.{IsFoundAt, IsOff, IsOn, IsUnproved, Fits, NoneFails, named, tile_of, tiles_of}
use Rattle.bx_verify.specs.Meaning.{IsLaidOut, NoneIsEarlier, Means}
use Rattle.bx_verify.specs.declared.verdict.Verdict.TheVariants as verdict
use Rattle.bx_verify.proofs.Meanings.{means}
use Rattle.bx_verify.proofs.Offs.{on-at, on-end, none-off}
use Rattle.bx_verify.proofs.Stages.{past-proof, past-size, past-dots, past-network, found-is, none-earlier, laid-out}
use Rattle.bx_verilog.specs.Formulas.{Text}
use Rattle.bx_verilog.specs.Elaboration.{net_of}
use Rattle.bx_engine.specs.declared.status.Status.TheVariants.{Done, Minimal}
use Rattle.bx_engine.specs.Answers.{Answer, IsReply, told, reply}
use Rattle.bx_engine.specs.Grids.{grid_text}
use Rattle.bx_engine.specs.Jobs.{extracts, verifies}
use Rattle.bx_engine.specs.ReadBack.{AreReadBack}
use Rattle.bx_engine.specs.Replies.{AreHeld, HoldsLibrary, HoldsDesign, TellsJudged}
use Rattle.bx_engine.specs.Tasks.{Task, Inputs}
use Rattle.bx_engine.specs.Texts.{network_of}
use Rattle.bx_engine.specs.Verdicts.{minimal_line}
use Rattle.bx_engine.specs.Worth.{IsFound}
use Rattle.bx_engine.proofs.Jobs.{one_reply}
use Rattle.bx_engine.proofs.Worth.{network-is, net-computed}

-- ---- places

-- a tile stands at its column and its row, and is the one that stands there
spot-on : (r : Ratio) (t : ℕ) → IsGrid r → t < tile_count r → IsOn r (spot_of r t)
spot-on r t grid low =
    let wide = grid.wide in
    record { x = mod_below t r.w (omega (arith, wide)); y = div_below t r.w r.h (omega (arith, wide)) (omega (arith, low)) }

spot-back : (r : Ratio) (t : ℕ) → tile_of r (spot_of r t) ≡ t
spot-back r t = div-add-mod' t r.w

tiles-back : (r : Ratio) (ts : List ℕ) → tiles_of r (map (spot_of r) ts) ≡ ts
tiles-back r [] = refl
tiles-back r (t ∷ ts) = λ i. spot-back r t i ∷ tiles-back r ts i

module _ (N : Network) (L : Layout) (legal : IsLegal N all_forms L) where
  inside : (i : ℕ) → i < length L.places → get_or L.places i 0 < tile_count L.ratio
  inside i low = legal.placed.inside i (get_or L.places i 0) (slice_get-get_or L.places i 0 low)

  each-on : All (IsOn L.ratio) (spots_of L)
  each-on =
      All-map (IsOn L.ratio) (spot_of L.ratio) L.places
      (All-from_get_or (λ (t : ℕ). IsOn L.ratio (spot_of L.ratio t)) L.places 0 (λ i low. spot-on L.ratio (get_or L.places i 0) legal.grid (inside i low)))

-- ---- what was found

module _ (task : Task) (m : ModuleTree) (lib : Tiles) (ratio : Ratio) (design cert said : Text) (found : IsFound task m lib ratio design cert said) (library : IsLibrary lib) where
  abbrev N : Network
  N = network_of m

  abbrev L : Layout
  L = found.layout

  abbrev D : Drawing
  D = found.drawing

  abbrev C : Certificate
  C = found.least.evidence.cert

  abbrev spots : List Spot
  spots = spots_of L

  claimed : IsFoundAt C.last ratio spots
  claimed = found.least.evidence.ends

  legal : IsLegal N all_forms L
  legal = under-larger N (permit_of lib) all_forms L (λ r t form allows. refl) found.legal

  grid-sides : found.grid.ratio ≡ L.ratio
  grid-sides = found.forms.ratio

  fits : Fits N found.grid spots
  fits = record {
    count = length-map L.places (spot_of L.ratio) ∙ legal.placed.places;
    on = subst (λ (r : Ratio). All (IsOn r) spots) (sym grid-sides) (each-on N L legal);
    traced = record {
      layout = L;
      stands = sym (subst (λ (r : Ratio). tiles_of r spots ≡ L.places) (sym grid-sides) (tiles-back L.ratio L.places));
      legal = legal;
      forms = record { ratio = grid-sides; each = found.forms.each };
    };
  }

  limits-are : C.limits ≡ task.limits
  limits-are = found.least.evidence.limits

  at-end : slice_get (order C.limits) (length C.sections) ≡ Some ratio
  at-end = subst (λ (l : Limits). slice_get (order l) (length C.sections) ≡ Some ratio) (sym limits-are) found.least.next

  at-each : (k : ℕ) (s : Section) → slice_get C.sections k ≡ Some s → slice_get (order C.limits) k ≡ Some s.ratio
  at-each k s at = subst (λ (l : Limits). slice_get (order l) k ≡ Some s.ratio) (sym limits-are) (found.least.evidence.sections k s at).0

  on-below : (j : ℕ) → j < length C.sections → ¬ IsOff (order C.limits) (named C.sections ratio) j
  on-below j low = elim (slice_get_cases C.sections j).1 [
    | inl (s, within, at, same) ↦ on-at C.sections ratio (order C.limits) j s at (at-each j s at)
    | inr (high, none) ↦ absurd (omega (arith, low, high))
  ]

  none-is-off : (k : ℕ) → ¬ IsOff (order C.limits) (named C.sections ratio) k
  none-is-off = none-off C.sections ratio (order C.limits) (length C.sections) (omega arith) on-below (on-end C.sections ratio (order C.limits) at-end)

  none-unproved : (k : ℕ) → ¬ IsUnproved N (permit_of lib) C.sections k
  none-unproved k un = un.unproved (found.least.evidence.sections k un.section un.at).1

  cut : IsCut lib D.ratio D.dots found.grid
  cut = subst (λ (r : Ratio). IsCut lib r D.dots found.grid) (sym found.drawn_sides) found.cut

  none-fails : NoneFails N lib D C
  none-fails =
      past-network N lib D C ratio spots claimed found.grid library cut fits
      (past-dots N lib D C ratio spots claimed found.grid library cut
      (past-size N lib D C ratio spots claimed
      (past-proof N lib D C ratio spots claimed none-is-off none-unproved) found.drawn_sides))

  pub nothing-fails : (drawing : Drawing) (certificate : Certificate) → IsTextOf drawing design → IsTextOfCert certificate cert → NoneFails N lib drawing certificate
  nothing-fails drawing certificate drawn spelled =
      let drawings : D ≡ drawing = one_design design D drawing found.drawn drawn in
      let certs : C ≡ certificate = one_cert cert C certificate (record { is = found.least.evidence.is_cert; spelled = found.least.evidence.spelled }) spelled in
      subst (λ (c : Certificate). NoneFails N lib drawing c) certs (subst (λ (d : Drawing). NoneFails N lib d C) drawings none-fails)

  verdict-is : IsVerdict N lib D C (verdict.Minimal ratio)
  verdict-is = (found-is N lib D C ratio spots claimed, none-fails)

  module _ (inputs : Inputs) (read : AreReadBack inputs m lib design cert) where
    abbrev net_text : Text
    net_text = read.taken.net_text

    laid : IsLaidOut N lib D C ratio
    laid = laid-out N lib D C ratio spots claimed found.grid found.drawn_sides cut fits

    earlier : NoneIsEarlier N lib D C ratio
    earlier = none-earlier N lib D C ratio spots claimed found.least.evidence.is_cert.limits none-is-off (network-is net_text m read.taken.taken) (λ k s at. (found.least.evidence.sections k s at).1)

    means-it : Means (net_of m) lib D C (verdict.Minimal ratio)
    means-it = means (net_of m) lib D C N (verdict.Minimal ratio) refl (network-is net_text m read.taken.taken, net-computed net_text m read.taken.taken) (laid, earlier)

    holds-library : HoldsLibrary inputs lib
    holds-library = record { text = read.taken.lib_text; is = read.taken.lib_is; taken = read.taken.taken_library }

    holds-design : HoldsDesign inputs D
    holds-design = record { text = design; is = read.design_is; taken = record { short = read.short_design; is = found.drawn } }

    held : AreHeld inputs m lib D C
    held = record {
      net = record { text = net_text; is = read.taken.net_is; taken = read.taken.taken };
      library = holds-library;
      design = holds-design;
      certificate = record {
        text = cert;
        is = read.cert_is;
        taken = record { short = read.short_cert; is = record { is = found.least.evidence.is_cert; spelled = found.least.evidence.spelled } };
      };
    }

    judged : TellsJudged inputs (Minimal ratio) (ended (minimal_line ratio task.limits))
    judged = record {
      m = m;
      lib = lib;
      drawing = D;
      cert = C;
      held = held;
      verdict = verdict.Minimal ratio;
      judged = verdict-is;
      means = means-it;
      status_is = refl;
      printed = ap (λ (l : Limits). ended (minimal_line ratio l)) (sym limits-are);
    }

    pub minimal-told : (net book drawn kept : Text) → IsReply (verifies net book drawn kept) inputs (reply (Minimal ratio) (ended (minimal_line ratio task.limits)))
    minimal-told net book drawn kept = told (Minimal ratio) (ended (minimal_line ratio task.limits)) judged

    pub nothing-else-told : (net book drawn kept : Text) (answer : Answer) → IsReply (verifies net book drawn kept) inputs answer → answer ≡ reply (Minimal ratio) (ended (minimal_line ratio task.limits))
    nothing-else-told net book drawn kept answer is = one_reply (verifies net book drawn kept) inputs answer (reply (Minimal ratio) (ended (minimal_line ratio task.limits))) is (minimal-told net book drawn kept)

    pub grid-told : (book drawn : Text) → (grid : FormGrid) × IsSound grid × IsReply (extracts book drawn) inputs (reply Done (grid_text grid true))
    grid-told book drawn = (
      found.grid,
      found.sound,
      told Done (grid_text found.grid true) (record {
        grid = found.grid;
        extracted = record { lib = lib; library = holds-library; drawing = D; design = holds-design; cut = cut };
        done = refl;
        tells = record { sound = true; is = ((λ yes. found.sound), (λ sound. refl)); printed = refl };
      }),
    )
