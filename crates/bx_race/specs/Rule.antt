-- The rule of a race's two words: what holds between any two steps of running threads, and what each step
-- leaves of the view of the seat that makes it.
use Rattle.std.specs.Prelude.{◌≡◌, ◌⊎◌, ℕ, ◌+◌, ◌-◌, ◌≤◌, List, [], ◌∷◌, ◌++◌, map, length, slice_index, sum_by, None}
use Rattle.std.specs.List.{AllByRecursion}
use Rattle.atomic_table.specs.Table.{State, Me, Step}
use Rattle.bx_race.specs.declared.view.Draws.{Draws}
use Rattle.bx_race.specs.declared.view.View.{View}
use Rattle.bx_race.specs.declared.view.Course.{Course}
use Rattle.bx_race.specs.Draws.{times, indices, no_draws, claiming, offering, looking}
use Rattle.bx_race.specs.Fair.{once_below, RespectsLeast, IsFair}

-- the first word counts the claims, the second is the least index that was offered, or n
abbrev pub claim_word : List ℕ → ℕ
claim_word words = slice_index words 0

abbrev pub least_word : List ℕ → ℕ
least_word words = slice_index words 1

abbrev pub draws_of : View → Draws
draws_of v = v.draws

-- one that stands for so many seats and has drawn nothing
abbrev pub fresh : ℕ → ℕ → View
fresh n seats = record { n = n; draws = no_draws; looks = 0; stands = seats }

-- one that was joined to another, and stands for no seat any more
abbrev pub spent : View
spent = fresh 0 0

-- it stands for at least one seat of a race over n indices, and was past these at most once for each seat
pub record StandsFor (n : ℕ) (v : View) : Type 0 where
  pub some_seat : 1 ≤ v.stands
  pub past : v.draws.past ≤ v.stands
  pub same_n : v.n ≡ n

-- The draws of all views are fair by both words. A view that isn't spent stands for at least one seat, and
-- all together stand for the seats of the race.
pub record IsRaced (course : Course) (words : List ℕ) (views : List View) : Type 0 where
  pub two_words : length words ≡ 2
  pub fair : IsFair course.n (claim_word words) (least_word words) (map draws_of views)
  pub each : AllByRecursion (λ v. StandsFor course.n v ⊎ (v ≡ spent)) views
  pub all_seats : sum_by (λ v. v.stands) views ≡ course.seats

abbrev Words : Type 0
Words = State (Unit {0}) View

abbrev Seated : Type 0
Seated = Me (Unit {0}) View

abbrev pub Rule : Course → Words → Type 0
Rule course s = IsRaced course s.words s.views

-- Claim: the number that was found is drawn.
abbrev pub after_claim : ℕ → View → View
after_claim x v = record { n = v.n; draws = claiming v.n x v.draws; looks = v.looks; stands = v.stands }

-- Offer: the current index is offered.
abbrev pub after_offer : View → View
after_offer v = record { n = v.n; draws = offering v.draws; looks = v.looks; stands = v.stands }

-- Look: the current index is dropped where the least word that was found is below it.
abbrev pub after_look : ℕ → View → View
after_look least v = record { n = v.n; draws = looking least v.draws; looks = v.looks + 1; stands = v.stands }

-- Split: a seat of its own is cut off.
abbrev pub without_seat : View → View
without_seat v = record { n = v.n; draws = v.draws; looks = v.looks; stands = v.stands - 1 }

abbrev pub one_seat : View → View
one_seat v = fresh v.n 1

-- Join: the lists are joined and the numbers added.
abbrev pub joint : View → View → View
joint v w = record {
  n = v.n;
  draws = record {
    current = None;
    done = v.draws.done ++ w.draws.done;
    offered = v.draws.offered ++ w.draws.offered;
    dropped = v.draws.dropped ++ w.draws.dropped;
    past = v.draws.past + w.draws.past;
  };
  looks = v.looks + w.looks;
  stands = v.stands + w.stands;
}

-- all different, and below n
abbrev pub AreDifferentBelow : ℕ → List ℕ → Type 0
AreDifferentBelow n xs = (i : ℕ) → times i xs ≤ once_below n i

-- what each step tells of its seat before, the number found, and the seat after
abbrev pub claims : Step (Unit {0}) → Seated → ℕ → Seated → Type 0
claims step me found now = (now.0 ≡ after_claim found me.0) × (now.1 ≡ me.1) × AreDifferentBelow me.0.n (indices now.0.draws)

abbrev pub offers : Step (Unit {0}) → Seated → ℕ → Seated → Type 0
offers step me found now = (now.0 ≡ after_offer me.0) × (now.1 ≡ me.1)

abbrev pub looks : Step (Unit {0}) → Seated → ℕ → Seated → Type 0
looks step me found now = (now.0 ≡ after_look found me.0) × (now.1 ≡ me.1) × RespectsLeast found now.0.draws

-- At the end one seat stands for all, and its draws are all that there are.
abbrev pub closes : Step (Unit {0}) → Seated → ℕ → Seated → Type 0
closes step me found now = (now ≡ me) × ((next : ℕ) × IsFair me.0.n next found (me.0.draws ∷ []))
