-- What all workers found out, and what it settles.
use Rattle.std.proofs.Common.{◌≡◌, ◌⊎◌, ℕ, ◌+◌, ◌<◌, ◌≤◌, min, true, false, cond, List, [], ◌∷◌, ◌++◌, length, map, Contains, Some, None, inl, inr, refl, sym, ap, ◌∙◌, subst, arith}
use Rattle.std.specs.Prelude.{All, IsTrue, IsSome, flat_map, slice_get, sum_by, option_map}
use Rattle.std.proofs.lemmas.Bool.{cases_lt}
use Rattle.std.proofs.lemmas.Bool.Decides.{eqb_tells}
use Rattle.std.proofs.lemmas.List.{length-map}
use Rattle.std.proofs.lemmas.List.Concat.{flat_map-cons}
use Rattle.std.proofs.lemmas.List.Elements.{All-nil, All-cons, All-head, All-tail, All-map, All-contains}
use Rattle.std.proofs.lemmas.List.Sums.{sum_by-cons, sum_by-append}
use Rattle.std.proofs.lemmas.Option.{get_or_from_slice_get, slice_get-map}
use Rattle.bx_layout.specs.Permits.{test_of}
use Rattle.bx_logic.proofs.Members.{Member, Contains-from_member, Member-from_contains, Member-append_left, Member-append_right, Member-map_cases, Member-flat_map, Member-flat_map_cases}
use Rattle.bx_proof.specs.declared.refutation.Refutation.{Refutation}
use Rattle.bx_race.specs.declared.race.Race.{Race}
use Rattle.bx_race.specs.declared.seat.RaceSeat.{RaceSeat}
use Rattle.bx_race.specs.Draws.{has_ended, times}
use Rattle.bx_race.specs.Finished.{HaveEnded}
use Rattle.bx_race.specs.Seats.{draws, looks, stands, IsNewSeatOf, IsSeatOf}
use Rattle.bx_race.proofs.Counts.{times-cons}
use Rattle.bx_verdict.specs.Settling.{AreSettled, IsLastAt}
use Rattle.bx_verdict.specs.declared.settled.Last.{Last}
use Rattle.bx_verdict.specs.declared.settled.Last.TheVariants as last
use Rattle.bx_workers.specs.Ordering.{end_of, HasTried, IsOrdered, Places}
use Rattle.bx_workers.specs.Racing.{due_below, HasWorked, IsNewWorker, IsUnused}
use Rattle.bx_workers.specs.Results.{tried_of}
use Rattle.bx_workers.specs.Working.{due_for, due_for_all, indices_tried, is_known, is_refuted, ratio_count, CountsLooks, IsEndAt, IsResult}
use Rattle.bx_workers.specs.declared.order.Ordered.{Ordered}
use Rattle.bx_workers.specs.declared.problem.Problem.{Problem}
use Rattle.bx_workers.specs.declared.results.Ended.{Ended}
use Rattle.bx_workers.specs.declared.results.Ended.TheVariants.{Refuted, Found, Undecided, NoMemory}
use Rattle.bx_workers.specs.declared.results.Tried.{Tried}
use Rattle.bx_workers.specs.declared.worker.Worker.{Worker}
use Rattle.bx_workers.proofs.Due.{AreCovered, due-covered}

not-true : false ≡ true → ⊥
not-true is = cc

all-unmapped : {X Y : Type 0} (P : Y → Type 0) (f : X → Y) (xs : List X) → All P (map f xs) → All (λ x. P (f x)) xs
all-unmapped P f [] all = All-nil (λ x. P (f x))
all-unmapped P f (x ∷ xs) all = All-cons (λ y. P (f y)) x xs (All-head P (f x) (map f xs) all) (all-unmapped P f xs (All-tail P (f x) (map f xs) all))

pub new-workers : (p : Problem) (race : Race) (crew : List Worker) (seats : List RaceSeat) (room : ℕ) → map (λ w. w.seat) crew ≡ seats → room ≡ ratio_count p → All (IsNewSeatOf race) seats → All (IsUnused room) crew
    → All (IsNewWorker p race) crew
new-workers p race crew seats room are same new unused =
    let each : All (λ (w : Worker). IsNewSeatOf race w.seat) crew = all-unmapped (IsNewSeatOf race) (λ (w : Worker). w.seat) crew (subst (All (IsNewSeatOf race)) (sym are) new) in
    let free : All (IsUnused (ratio_count p)) crew = subst (λ (n : ℕ). All (IsUnused n) crew) same unused in
    λ k d low. record { seat = each k d low; unused = free k d low }

member-times : (k : ℕ) (xs : List ℕ) → 0 < times k xs → Member k xs
member-times k [] there = absurd (omega (arith, there))
member-times k (x ∷ xs) there = elim (eqb_tells x k) [
  | inl (on, same) ↦ inl same
  | inr (off, other) ↦ inr (member-times k xs (omega (arith, there, times-cons k x xs, ap {B = ℕ} (λ b. cond b 1 0) off)))
]

ones : (crew : List Worker) → All (λ w. stands w.seat ≡ 1) crew → sum_by stands (map (λ w. w.seat) crew) ≡ length crew
ones [] all = refl
ones (w ∷ ws) all = omega (arith, sum_by-cons stands w.seat (map (λ (v : Worker). v.seat) ws), All-head (λ (v : Worker). stands v.seat ≡ 1) w ws all, ones ws (All-tail (λ (v : Worker). stands v.seat ≡ 1) w ws all))

module _ (p : Problem) (race : Race) where
  looked-by-all : (due : ℕ → ℕ) (crew : List Worker) → CountsLooks p due → All (HasWorked p race) crew → due_for_all due (flat_map (λ w. tried_of w.results) crew) ≤ sum_by looks (map (λ w. w.seat) crew)
  looked-by-all due [] counts all = omega arith
  looked-by-all due (w ∷ ws) counts all =
      let own : 0 + due_for_all due (tried_of w.results) ≤ looks w.seat = (All-head (HasWorked p race) w ws all).looked due counts in
      let rest = looked-by-all due ws counts (All-tail (HasWorked p race) w ws all) in
      let parts : due_for_all due (flat_map (λ (v : Worker). tried_of v.results) (w ∷ ws)) ≡ due_for_all due (tried_of w.results ++ flat_map (λ (v : Worker). tried_of v.results) ws) =
      ap (due_for_all due) (flat_map-cons (λ (v : Worker). tried_of v.results) w ws) in
      omega (arith, own, rest, parts, sum_by-append (due_for due) (tried_of w.results) (flat_map (λ (v : Worker). tried_of v.results) ws), sum_by-cons looks w.seat (map (λ (v : Worker). v.seat) ws))

  module _ (crew : List Worker) (seats : List RaceSeat) (tried : List Tried) (are : seats ≡ map (λ w. w.seat) crew) (all : tried ≡ flat_map (λ w. tried_of w.results) crew) (worked : All (HasWorked p race) crew) where
    seats-are : (P : RaceSeat → Type 0) → All (λ w. P w.seat) crew → All P seats
    seats-are P each = subst (All P) (sym are) (All-map P (λ (w : Worker). w.seat) crew each)

    pub of-race : All (IsSeatOf race) seats
    of-race = seats-are (IsSeatOf race) (λ k d low. (worked k d low).of_race)

    pub idle : All (λ s. (draws s).current ≡ None) seats
    idle = seats-are (λ s. (draws s).current ≡ None) (λ k d low. (worked k d low).idle)

    pub have-ended : HaveEnded seats
    have-ended = seats-are (λ s. IsTrue (has_ended (draws s))) (λ k d low. (worked k d low).ended)

    pub stand-for : sum_by stands seats ≡ length crew
    stand-for = ap (λ (ss : List RaceSeat). sum_by stands ss) are ∙ ones crew (λ k d low. (worked k d low).one)

    pub looked : (due : ℕ → ℕ) → CountsLooks p due → due_for_all due tried ≤ sum_by looks seats
    looked due counts = omega (arith, looked-by-all due crew counts worked, ap (due_for_all due) all, ap (λ (ss : List RaceSeat). sum_by looks ss) are)

    -- ---- whose results they are

    by-worker : (w : Worker) → Member w crew → HasWorked p race w
    by-worker w on = All-contains (HasWorked p race) crew w worked (Contains-from_member w crew on)

    of-seat : (s : RaceSeat) → Member s seats → (w : Worker) × Member w crew × (w.seat ≡ s)
    of-seat s on = Member-map_cases (λ (w : Worker). w.seat) s crew (subst (λ (ss : List RaceSeat). Member s ss) are on)

    in-all : (w : Worker) (t : Tried) → Member w crew → Member t (tried_of w.results) → Contains tried t
    in-all w t on own = subst (λ (ts : List Tried). Contains ts t) (sym all) (Contains-from_member t (flat_map (λ (v : Worker). tried_of v.results) crew) (Member-flat_map (λ (v : Worker). tried_of v.results) w t crew on own))

    pub each-is : (k : ℕ) (e : Ended) → HasTried tried k e → IsEndAt p k e
    each-is k e has =
        let t : Tried = record { index = k; ended = e } in
        let on : Member t (flat_map (λ (v : Worker). tried_of v.results) crew) = subst (λ (ts : List Tried). Member t ts) all (Member-from_contains t tried has) in
        let (w, of-crew, own) = Member-flat_map_cases (λ (v : Worker). tried_of v.results) t crew on in
        All-contains (IsResult p) (tried_of w.results) t (by-worker w of-crew).results.each (Contains-from_member t (tried_of w.results) own)

    refutation : (k : ℕ) (e : Ended) → IsTrue (is_refuted e) → HasTried tried k e → (proof : Refutation) × HasTried tried k (Refuted proof)
    refutation k (Refuted proof) is has = (proof, has)
    refutation k (Found bits) is has = absurd (not-true is)
    refutation k (Undecided spent) is has = absurd (not-true is)
    refutation k NoMemory is has = absurd (not-true is)

    indexed : (t : Tried) (k : ℕ) → t.index ≡ k → Contains tried t → HasTried tried k t.ended
    indexed t k same has = subst (λ (i : ℕ). HasTried tried i t.ended) same has

    done-of : (k : ℕ) → Member k (flat_map (λ s. (draws s).done) seats) → (proof : Refutation) × HasTried tried k (Refuted proof)
    done-of k on =
        let (s, seated, drawn) = Member-flat_map_cases (λ (u : RaceSeat). (draws u).done) k seats on in
        let (w, of-crew, own) = of-seat s seated in
        let are = (by-worker w of-crew).results in
        let here : Member k (indices_tried are.refuted) = subst (λ (ks : List ℕ). Member k ks) (sym are.done) (subst (λ (u : RaceSeat). Member k (draws u).done) (sym own) drawn) in
        let (t, among, same) = Member-map_cases (λ (u : Tried). u.index) k are.refuted here in
        let kept : Member t (tried_of w.results) = subst (λ (ts : List Tried). Member t ts) (sym are.parts) (Member-append_left t are.refuted are.last among) in
        refutation k t.ended (All-contains (λ (u : Tried). IsTrue (is_refuted u.ended)) are.refuted t are.each_refuted (Contains-from_member t are.refuted among)) (indexed t k same (in-all w t of-crew kept))

    offered-of : (k : ℕ) → Member k (flat_map (λ s. (draws s).offered) seats) → (e : Ended) × HasTried tried k e × (is_refuted e ≡ false)
    offered-of k on =
        let (s, seated, drawn) = Member-flat_map_cases (λ (u : RaceSeat). (draws u).offered) k seats on in
        let (w, of-crew, own) = of-seat s seated in
        let are = (by-worker w of-crew).results in
        let here : Member k (indices_tried are.last) = subst (λ (ks : List ℕ). Member k ks) (sym are.offered) (subst (λ (u : RaceSeat). Member k (draws u).offered) (sym own) drawn) in
        let (t, among, same) = Member-map_cases (λ (u : Tried). u.index) k are.last here in
        let kept : Member t (tried_of w.results) = subst (λ (ts : List Tried). Member t ts) (sym are.parts) (Member-append_right t are.refuted are.last among) in
        (t.ended, indexed t k same (in-all w t of-crew kept), All-contains (λ (u : Tried). is_refuted u.ended ≡ false) are.last t are.each_last (Contains-from_member t are.last among))

    -- ---- in order

    module _ (least : ℕ) (done offered : List ℕ) (o : Ordered) (all_done : done ≡ flat_map (λ s. (draws s).done) seats) (all_offered : offered ≡ flat_map (λ s. (draws s).offered) seats)
        (once : (k : ℕ) → k < least → times k done ≡ 1) (is_offered : (least ≡ ratio_count p) ⊎ Contains offered least) (ordered : IsOrdered least tried o) where
      refuted-at : (k : ℕ) → k < least → (proof : Refutation) × HasTried tried k (Refuted proof)
      refuted-at k low = done-of k (subst (λ (ks : List ℕ). Member k ks) all_done (member-times k done (omega (arith, once k low))))

      pub all-some : All IsSome o.refuted.items
      all-some = λ k d low.
          let below : k < least = omega (arith, low, ordered.count) in
          let (proof, has) = refuted-at k below in
          let (own, at) = ordered.all k proof below has in
          subst IsSome (sym (get_or_from_slice_get o.refuted.items k (Some own) d at)) refl

      some-end : Contains offered least → IsSome o.end
      some-end on =
          let (e, has, unrefuted) = offered-of least (subst (λ (ks : List ℕ). Member least ks) all_offered (Member-from_contains least offered on)) in
          ordered.some_end e has unrefuted

      module _ (proofs : List Refutation) (l : Last) (places : map Some proofs ≡ o.refuted.items) (end : o.end ≡ end_of l) where
        count : length proofs ≡ least
        count = sym (length-map proofs Some) ∙ ap (λ (ps : Places). length ps) places ∙ ordered.count

        none-left : o.end ≡ None → least ≡ ratio_count p
        none-left none = elim is_offered [ inl over ↦ over | inr on ↦ absurd (not-true (subst IsSome none (some-end on))) ]

        last-at : (m : Last) → o.end ≡ end_of m → IsLastAt p.net.now (test_of p.permit.now) p.budget p.ratios.now least m
        last-at (last.Found bits) is = each-is least (Found bits) (ordered.ended (Found bits) is).0
        last-at (last.Undecided spent) is = each-is least (Undecided spent) (ordered.ended (Undecided spent) is).0
        last-at last.NoneWithin is = none-left is

        pub settled : AreSettled p.net.now (test_of p.permit.now) p.budget p.ratios.now proofs l
        settled = record {
          refuted = λ k proof at. each-is k (Refuted proof) (ordered.placed k proof (subst (λ (ps : Places). slice_get ps k ≡ Some (Some proof)) places (slice_get-map Some proofs k ∙ ap (option_map Some) at)));
          last_at = subst (λ (n : ℕ). IsLastAt p.net.now (test_of p.permit.now) p.budget p.ratios.now n l) (sym count) (last-at l end);
        }

        known-end : (m : Last) → o.end ≡ end_of m → least < ratio_count p → (e : Ended) × HasTried tried least e × (is_known e ≡ true)
        known-end (last.Found bits) is low = (Found bits, (ordered.ended (Found bits) is).0, refl)
        known-end (last.Undecided spent) is low = (Undecided spent, (ordered.ended (Undecided spent) is).0, refl)
        known-end last.NoneWithin is low = absurd (omega (arith, low, none-left is))

        covered : AreCovered tried (min (least + 1) (ratio_count p))
        covered k low = elim (cases_lt k least) [
          | inl below ↦ (let (proof, has) = refuted-at k below in (Refuted proof, has, refl))
          | inr behind ↦ (
              let same : least ≡ k = omega (arith, low, behind) in
              let within : least < ratio_count p = omega (arith, low, behind) in
              subst (λ (i : ℕ). (e : Ended) × HasTried tried i e × (is_known e ≡ true)) same (known-end l end within)
              )
        ]

        pub enough-looks : (due : ℕ → ℕ) → CountsLooks p due → due_below due (min (least + 1) (ratio_count p)) ≤ sum_by looks seats
        enough-looks due counts = omega (arith, due-covered due (min (least + 1) (ratio_count p)) tried covered, looked due counts)
