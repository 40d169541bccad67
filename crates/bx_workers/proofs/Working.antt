-- What is known of a worker before each claim, while it tries an index, and at its end.
use Rattle.std.proofs.Common.{◌≡◌, ℕ, ◌+◌, ◌-◌, ◌<◌, ◌≤◌, true, false, List, [], ◌∷◌, ◌++◌, length, Some, refl, sym, ap, ◌∙◌, subst, arith, length-append}
use Rattle.std.specs.Prelude.{All, IsTrue, Option, option_to_list}
use Rattle.std.proofs.lemmas.List.{length-map, map-append}
use Rattle.std.proofs.lemmas.List.Elements.{All-nil, All-push, All-cons}
use Rattle.std.proofs.lemmas.List.Sums.{sum_by-append}
use Rattle.bx_race.specs.declared.race.Race.{Race}
use Rattle.bx_race.specs.declared.seat.RaceSeat.{RaceSeat}
use Rattle.bx_race.specs.declared.view.Draws.{Draws}
use Rattle.bx_race.specs.Draws.{no_draws, indices, claiming, offering}
use Rattle.bx_race.specs.Rule.{AreDifferentBelow}
use Rattle.bx_race.specs.Seats.{draws, looks, stands, IsSeatOf, IsSameSeat}
use Rattle.bx_workers.specs.Results.{room_of, tried_of}
use Rattle.bx_workers.specs.Working.{due_for, due_for_all, indices_tried, is_refuted, ratio_count, AreResults, IsEndAt, IsResult, LookedFor}
use Rattle.bx_workers.specs.declared.problem.Problem.{Problem}
use Rattle.bx_workers.specs.declared.results.Ended.{Ended}
use Rattle.bx_workers.specs.declared.results.Results.{Results}
use Rattle.bx_workers.specs.declared.results.Tried.{Tried}
use Rattle.bx_workers.proofs.Few.{few-different}

-- nothing was offered, dropped, or drawn past the indices
pub record GoesOn (d : Draws) : Type 0 where
  pub offered : d.offered ≡ []
  pub dropped : d.dropped ≡ []
  pub past : d.past ≡ 0

-- all results are refutations, of as many looks
pub record AreRefutations (p : Problem) (before after : ℕ) (tried : List Tried) : Type 0 where
  pub refuted : All (λ t. IsTrue (is_refuted t.ended)) tried
  pub each : All (IsResult p) tried
  pub looks : LookedFor p tried before after

-- before each claim: all indices that were drawn are refuted
pub record IsAtWork (p : Problem) (race : Race) (first seat : RaceSeat) (results : Results) : Type 0 where
  pub of_race : IsSeatOf race seat
  pub same_stands : stands seat ≡ stands first
  pub goes_on : GoesOn (draws seat)
  pub drawn : indices_tried (tried_of results) ≡ (draws seat).done ++ option_to_list (draws seat).current
  pub are : AreRefutations p (looks first) (looks seat) (tried_of results)
  pub few : length (tried_of results) ≤ ratio_count p
  pub room : ratio_count p ≤ room_of results

few-parts : (one done offered dropped : List ℕ) (n m : ℕ) → length (((one ++ done) ++ offered) ++ dropped) ≤ n → length one ≡ 1 → length done ≡ m → m < n
few-parts one done offered dropped n m few is own = omega (arith, few, is, own, length-append ((one ++ done) ++ offered) dropped, length-append (one ++ done) offered, length-append one done)

module _ (p : Problem) (race : Race) (first : RaceSeat) where
  -- ---- the start

  unlooked : (before : ℕ) (tried : List Tried) → tried ≡ [] → LookedFor p tried before before
  unlooked before tried none = λ due counts. subst (λ (ts : List Tried). before + due_for_all due ts ≤ before) (sym none) (omega arith)

  pub starts : (results : Results) → IsSeatOf race first → draws first ≡ no_draws → tried_of results ≡ [] → ratio_count p ≤ room_of results → IsAtWork p race first first results
  starts results of_race unused none room = record {
    of_race = of_race;
    same_stands = refl;
    goes_on = subst GoesOn (sym unused) (record { offered = refl; dropped = refl; past = refl });
    drawn = ap indices_tried none ∙ sym (ap (λ (d : Draws). d.done ++ option_to_list d.current) unused);
    are = record {
      refuted = subst (All (λ t. IsTrue (is_refuted t.ended))) (sym none) (All-nil (λ t. IsTrue (is_refuted t.ended)));
      each = subst (All (IsResult p)) (sym none) (All-nil (IsResult p));
      looks = unlooked (looks first) (tried_of results) none;
    };
    few = omega (arith, ap (λ (ts : List Tried). length ts) none);
    room = room;
  }

  -- ---- an index is tried

  -- the index that was drawn last, with all before it refuted
  pub record IsTrying (k : ℕ) (seat : RaceSeat) (results : Results) : Type 0 where
    pub of_race : IsSeatOf race seat
    pub same_stands : stands seat ≡ stands first
    pub goes_on : GoesOn (draws seat)
    pub current : (draws seat).current ≡ Some k
    pub done : indices_tried (tried_of results) ≡ (draws seat).done
    pub are : AreRefutations p (looks first) (looks seat) (tried_of results)
    pub few : length (tried_of results) < ratio_count p
    pub room : ratio_count p ≤ room_of results

  room-left : (n x k : ℕ) (d e : Draws) (tried : List Tried) → e ≡ claiming n x d → e.current ≡ Some k → indices_tried tried ≡ d.done ++ option_to_list d.current → AreDifferentBelow n (indices e) → length tried < n
  room-left n x k d e tried is current drawn different =
      few-parts (option_to_list e.current) e.done e.offered e.dropped n (length tried) (few-different n (indices e) different)
      (ap (λ (o : Option ℕ). length (option_to_list o)) current)
      (ap (λ (y : Draws). length y.done) is ∙ sym (ap (λ (xs : List ℕ). length xs) drawn) ∙ length-map tried (λ (t : Tried). t.index))

  pub claims : (n x k : ℕ) (before seat : RaceSeat) (results : Results) → n ≡ ratio_count p → IsAtWork p race first before results → IsSameSeat race before seat
      → draws seat ≡ claiming n x (draws before) → (draws seat).current ≡ Some k → (draws seat).past ≡ (draws before).past → AreDifferentBelow n (indices (draws seat)) → looks seat ≡ looks before
      → IsTrying k seat results
  claims n x k before seat results count at same is current past different looked = record {
    of_race = same.of_race;
    same_stands = same.same_stands ∙ at.same_stands;
    goes_on = record {
      offered = ap (λ (d : Draws). d.offered) is ∙ at.goes_on.offered;
      dropped = ap (λ (d : Draws). d.dropped) is ∙ at.goes_on.dropped;
      past = past ∙ at.goes_on.past;
    };
    current = current;
    done = at.drawn ∙ sym (ap (λ (d : Draws). d.done) is);
    are = subst (λ (after : ℕ). AreRefutations p (looks first) after (tried_of results)) (sym looked) at.are;
    few = subst (λ (m : ℕ). length (tried_of results) < m) count (room-left n x k (draws before) (draws seat) (tried_of results) is current at.drawn different);
    room = at.room;
  }

  module _ (k : ℕ) (seat : RaceSeat) (results : Results) (trying : IsTrying k seat results) where
    pub has-room : length (tried_of results) < room_of results
    has-room = omega (arith, trying.few, trying.room)

    more-looks : (tried : List Tried) (t : Tried) (before mid after : ℕ) → LookedFor p tried before mid → LookedFor p (t ∷ []) mid after → LookedFor p (tried ++ t ∷ []) before after
    more-looks tried t before mid after one two = λ due counts. omega (arith, one due counts, two due counts, sum_by-append (due_for due) tried (t ∷ []))

    -- ---- and it is refuted

    pub fewer-left : (more : Results) (e : Ended) → tried_of more ≡ tried_of results ++ record { index = k; ended = e } ∷ [] → ratio_count p - length (tried_of more) < ratio_count p - length (tried_of results)
    fewer-left more e are =
        let t : Tried = record { index = k; ended = e } in
        let longer : length (tried_of more) ≡ length (tried_of results ++ t ∷ []) = ap (λ (ts : List Tried). length ts) are in
        omega (arith, trying.few, longer, length-append (tried_of results) (t ∷ []))

    pub goes-on : (mid later : RaceSeat) (more : Results) (e : Ended) → IsSameSeat race seat mid → IsSameSeat race mid later → draws mid ≡ draws seat → draws later ≡ draws mid → IsEndAt p k e → is_refuted e ≡ true
        → LookedFor p (record { index = k; ended = e } ∷ []) (looks seat) (looks mid) → looks later ≡ looks mid → tried_of more ≡ tried_of results ++ record { index = k; ended = e } ∷ [] → room_of results ≤ room_of more
        → IsAtWork p race first later more
    goes-on mid later more e tried same kept stays end refuted looked no-more are room =
        let t : Tried = record { index = k; ended = e } in
        let is : draws later ≡ draws seat = stays ∙ kept in record {
          of_race = same.of_race;
          same_stands = same.same_stands ∙ (tried.same_stands ∙ trying.same_stands);
          goes_on = subst GoesOn (sym is) trying.goes_on;
          drawn = ap indices_tried are ∙ map-append (λ (u : Tried). u.index) (tried_of results) (t ∷ []) ∙ ap (λ (xs : List ℕ). xs ++ k ∷ []) trying.done
              ∙ ap (λ (o : Option ℕ). (draws seat).done ++ option_to_list o) (sym trying.current) ∙ sym (ap (λ (d : Draws). d.done ++ option_to_list d.current) is);
          are = subst (AreRefutations p (looks first) (looks later)) (sym are) (record {
            refuted = All-push (λ (u : Tried). IsTrue (is_refuted u.ended)) (tried_of results) t trying.are.refuted refuted;
            each = All-push (IsResult p) (tried_of results) t trying.are.each end;
            looks = more-looks (tried_of results) t (looks first) (looks seat) (looks later) trying.are.looks (subst (LookedFor p (t ∷ []) (looks seat)) (sym no-more) looked);
          });
          few = omega (arith, trying.few, ap (λ (ts : List Tried). length ts) are, length-append (tried_of results) (t ∷ []));
          room = omega (arith, trying.room, room);
        }

    -- ---- and it is offered

    pub offers : (mid later : RaceSeat) (more : Results) (e : Ended) → draws mid ≡ draws seat → draws later ≡ offering (draws mid) → IsEndAt p k e → is_refuted e ≡ false
        → tried_of more ≡ tried_of results ++ record { index = k; ended = e } ∷ [] → AreResults p (draws later) (tried_of more)
    offers mid later more e kept off end unrefuted are =
        let t : Tried = record { index = k; ended = e } in
        let is : draws later ≡ offering (draws seat) = off ∙ ap offering kept in record {
          refuted = tried_of results;
          last = t ∷ [];
          parts = are;
          done = trying.done ∙ sym (ap (λ (d : Draws). d.done) is);
          offered = ap (λ (o : Option ℕ). option_to_list o) (sym trying.current) ∙ ap (λ (xs : List ℕ). xs ++ option_to_list (draws seat).current) (sym trying.goes_on.offered) ∙ sym (ap (λ (d : Draws). d.offered) is);
          each_refuted = trying.are.refuted;
          each_last = All-cons (λ (u : Tried). is_refuted u.ended ≡ false) t [] unrefuted (All-nil (λ (u : Tried). is_refuted u.ended ≡ false));
          each = subst (All (IsResult p)) (sym are) (All-push (IsResult p) (tried_of results) t trying.are.each end);
        }
