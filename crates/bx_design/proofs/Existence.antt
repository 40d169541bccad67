-- A network has a solution.
use Rattle.std.proofs.Common.{◌≡◌, ℕ, zero, suc, ◌+◌, ◌≤◌, List, [], ◌∷◌, ◌++◌, length, Option, Some, None, inl, inr, refl, sym, ap, ◌∙◌, subst, arith, length-append}
use Rattle.std.proofs.lemmas.Option.{same_Some, none-some, get_or_from_slice_get, slice_get_cases}
use Rattle.std.specs.Prelude.{◌↔◌}
use Rattle.bx_bounds.proofs.Decided.{first-count}
use Rattle.bx_cert.specs.Certs.{Certificate}
use Rattle.bx_cert.specs.declared.parts.CertLast.{CertLast}
use Rattle.bx_cert.specs.declared.parts.CertLast.TheVariants as told
use Rattle.bx_encode.specs.declared.numbers.TheConstants.{MOST_NODES}
use Rattle.bx_grid.specs.Orders.{AreLimits, IsWithin, order}
use Rattle.bx_grid.specs.Tiles.{IsTile, tile_count}
use Rattle.bx_grid.specs.declared.ratio.Limits.{Limits}
use Rattle.bx_grid.proofs.Orders.{order_is_exact}
use Rattle.bx_layout.specs.Grids.{FormGrid}
use Rattle.bx_layout.specs.Legal.{IsLegal}
use Rattle.bx_layout.specs.Permits.{PermitTest}
use Rattle.bx_layout.specs.TileForms.{HasForm, IsFormGridOf}
use Rattle.bx_layout.specs.declared.layout.Layout.{Layout}
use Rattle.bx_layout.proofs.OnTiles.{tile-cases, one-form, bare-form}
use Rattle.bx_logic.proofs.Members.{Contains-from_member}
use Rattle.bx_network.specs.Networks.{Network, IsNetwork}
use Rattle.bx_proof.specs.declared.refutation.Refutation.{Refutation}
use Rattle.bx_verdict.proofs.Existence.{some-verdict, some-settled}
use Rattle.bx_verdict.proofs.InOrder.{Each, each-more}
use Rattle.bx_verdict.proofs.Meaning.{found-legal}
use Rattle.bx_verdict.specs.Settling.{AreSettled, IsLastAt}
use Rattle.bx_verdict.specs.declared.settled.Last.{Last}
use Rattle.bx_verdict.specs.declared.settled.Last.TheVariants.{Found, Undecided, NoneWithin}
use Rattle.bx_design.specs.declared.solution.LaidOut.{LaidOut}
use Rattle.bx_design.specs.Certificates.{spots_of, certificate_of}
use Rattle.bx_design.specs.Solutions.{IsSolution, IsTold}
use Rattle.bx_encode.proofs.Formed.{formed}
use Rattle.bx_design.proofs.Minimal.{small, frame-of, within-at, formed-at}

-- ---- the form grid of a legal layout

module _ (N : Network) (permit : PermitTest) (L : Layout) (network : IsNetwork N) (legal : IsLegal N permit L) where
  -- these are the forms that the tile has: one, or none
  abbrev AreForms : ℕ → Option ℕ → Type 0
  AreForms t found = (form : ℕ) → (found ≡ Some form) ↔ HasForm N L t form

  some-form : (t : ℕ) → IsTile L.ratio t → (found : Option ℕ) × AreForms t found
  some-form t inside = elim (tile-cases N permit L network legal t inside) [
    | inl bare ↦ (None, λ form. ((λ e. absurd (none-some form e)), (λ has. absurd (bare-form N permit L network legal t inside form bare has))))
    | inr (form, has) ↦ (Some form, λ other. ((λ e. subst (HasForm N L t) (same_Some form other e) has), (λ owns. ap Some (one-form N permit L network legal t inside form other has owns))))
  ]

  some-tiles : (n : ℕ) → n ≤ tile_count L.ratio → (tiles : List (Option ℕ)) × (length tiles ≡ n) × Each AreForms tiles
  some-tiles zero low = ([], refl, λ t found at. absurd (none-some found at))
  some-tiles (suc n) low =
      let (tiles, count, each) = some-tiles n (omega (arith, low)) in
      let (found, are) = some-form n (omega (arith, low)) in
      (tiles ++ found ∷ [], length-append tiles (found ∷ []) ∙ omega (arith, count), each-more AreForms tiles found each (subst (λ (t : ℕ). AreForms t found) (sym count) are))

  some-grid : (g : FormGrid) × IsFormGridOf N L g
  some-grid =
      let (tiles, count, each) = some-tiles (tile_count L.ratio) (omega arith) in (
        record { ratio = L.ratio; tiles = tiles },
        record {
          ratio = refl;
          whole = count;
          each = λ t form inside. elim (slice_get_cases tiles t).1 [
            | inl (found, within, at, read) ↦ subst (λ (o : Option ℕ). (o ≡ Some form) ↔ HasForm N L t form) (sym (get_or_from_slice_get tiles t found None at)) (each t found at form)
            | inr (past, none) ↦ absurd (omega (arith, inside, past, count))
          ];
        },
      )

-- ---- a solution

module _ (N : Network) (permit : PermitTest) (limits : Limits) (budget : ℕ) (network : IsNetwork N) (few : length N.nodes ≤ MOST_NODES) (are : AreLimits limits) where
  some-known : (proofs : List Refutation) × (last : Last) × AreSettled N permit budget (order limits) proofs last
  some-known = some-settled N permit budget (order limits) (λ r on.
      let within : IsWithin limits r = (order_is_exact limits r).0 (Contains-from_member r (order limits) on) in
      let first = first-count N r network in
      some-verdict N permit budget r first.0 first.1 (formed N r (frame-of N limits r network few are within) permit))

  some-told : (k : ℕ) (last : Last) → IsLastAt N permit budget (order limits) k last → (end : CertLast) × (found : Option LaidOut) × IsTold N (order limits) k last end found
  some-told k (Found bits) is =
      let within = within-at limits k is.ratio is.at in
      let (L, same, means, legal) = found-legal N permit is.ratio budget bits network (small limits is.ratio are within).0 (formed-at N permit limits budget network few are k is.ratio is.at) is.is in
      let (g, forms) = some-grid N permit L network legal in
      let laid : LaidOut = record { layout = L; grid = g } in
      (told.Found is.ratio (spots_of L), Some laid, record { ratio = is.ratio; laid = laid; at = is.at; means = means; forms = forms; told_is = refl; found_is = refl })
  some-told k (Undecided spent) is = (told.Undecided is.ratio spent, None, (record { ratio = is.ratio; at = is.at; told_is = refl }, refl))
  some-told k NoneWithin is = (told.NoneWithin, None, (refl, refl))

  pub some-solution : (cert : Certificate) × (found : Option LaidOut) × IsSolution N permit limits budget cert found
  some-solution =
      let (proofs, last, settled) = some-known in
      let (end, found, tells) = some-told (length proofs) last settled.last_at in
      (certificate_of limits budget proofs end, found, record { proofs = proofs; last = last; settled = settled; tells = tells; certified = refl })
