-- Bytes are the text of a certificate, or they have a first bad line: it is decided of each state whether a line goes on
-- from it.
use Rattle.std.proofs.Common.{◌≡◌, ◌⊎◌, ℕ, ◌+◌, ◌<◌, ◌≤◌, ◌^◌, List, [], ◌∷◌, ◌++◌, length, inl, inr, refl, sym, ap, ◌∙◌, subst, arith}
use Rattle.bx_grid.specs.Orders.{AreLimits, IsRatio}
use Rattle.bx_grid.specs.declared.count.CountProof.{CountProof}
use Rattle.bx_grid.specs.declared.count.CountProof.TheVariants.{Late, Crowd, Cut, Pair}
use Rattle.bx_grid.specs.declared.ratio.Limits.{Limits}
use Rattle.bx_grid.specs.declared.ratio.Ratio.{Ratio}
use Rattle.bx_grid.proofs.Decided.{Decided, both, either, same, less, at-most, some-number, is-ratio, some-ratio}
use Rattle.bx_lines.specs.Lines.{ended, IsFirstBadLine}
use Rattle.bx_lines.proofs.Deciding.{behind-decided, HasNext, some_reading}
use Rattle.bx_proof.specs.Readings.{IsStepAt}
use Rattle.bx_proof.specs.Steps.{Step, StepList, IsStep}
use Rattle.bx_proof.specs.Texts.{step_line}
use Rattle.bx_proof.proofs.Deciding.{StepAt, step-decided, end_apart, end_joined}
use Rattle.bx_cert.specs.declared.line.Line.{Line}
use Rattle.bx_cert.specs.declared.line.Line.TheVariants.{Head, Bounds, Counted, Run, FoundAt, GaveUp, NoRatio, Place, End}
use Rattle.bx_cert.specs.declared.parts.CertLast.TheVariants.{Found, Undecided, NoneWithin}
use Rattle.bx_cert.specs.declared.parts.Spot.{Spot}
use Rattle.bx_proof.specs.declared.refutation.Refutation.TheVariants.{Count}
use Rattle.bx_cert.specs.Certs.{IsCount, IsNumber, IsSpot}
use Rattle.bx_cert.specs.Texts.{line_text, IsCertText}
use Rattle.bx_cert.specs.Grammar.{IsSaid, Draft, with_section, ended_by, State, at_head, at_limits, at_section, at_first_step, at_step, at_place, at_end, at_nothing, Leads, GoesByLine, log_of, behind_steps, Ends, cert_grammar}
use Rattle.bx_cert.specs.Readings.{IsLineAt}
use Rattle.bx_cert.proofs.CertGrammar.{cert_is_line_grammar}
use Rattle.bx_cert.proofs.Leading.{cert_from_text, first_bad}
use Rattle.bx_cert.proofs.OneLine.{one_line}

-- ---- what a line says

limits-decided : (l : Limits) → Decided (AreLimits l)
limits-decided l =
    same ((1 ≤ l.area) × ((1 ≤ l.width) × ((1 ≤ l.height) × ((l.area ≤ 144) × ((l.width ≤ 144) × (l.height ≤ 144)))))) (AreLimits l) (
      (λ h. record { some_area = h.0; some_width = h.1.0; some_height = h.1.1.0; area = h.1.1.1.0; width = h.1.1.1.1.0; height = h.1.1.1.1.1 }),
      (λ are. (are.some_area, (are.some_width, (are.some_height, (are.area, (are.width, are.height)))))),
    )
    (both _ _ (at-most 1 l.area) (both _ _ (at-most 1 l.width) (both _ _ (at-most 1 l.height)
    (both _ _ (at-most l.area 144) (both _ _ (at-most l.width 144) (at-most l.height 144))))))

is-number : (n : ℕ) → Decided (IsNumber n)
is-number n = less n (2 ^ 32)

is-count : (proof : CountProof) → Decided (IsCount proof)
is-count (Late node) = is-number node
is-count (Crowd first last) = both _ _ (is-number first) (is-number last)
is-count (Cut row) = is-number row
is-count (Pair one two) = both _ _ (is-number one) (is-number two)

is-spot : (spot : Spot) → Decided (IsSpot spot)
is-spot spot =
    same (IsNumber spot.x × IsNumber spot.y) (IsSpot spot)
    ((λ h. record { x = h.0; y = h.1 }), (λ is. (is.x, is.y)))
    (both _ _ (is-number spot.x) (is-number spot.y))

is-run : (ratio : Ratio) (count : ℕ) → Decided (IsSaid (Run ratio count))
is-run ratio count =
    same (IsRatio ratio × ((1 ≤ count) × (count ≤ 4294967294))) (IsSaid (Run ratio count))
    ((λ h. (h.0, h.1.0, h.1.1)), (λ said. (said.0, (said.1, said.2))))
    (both _ _ (is-ratio ratio) (both _ _ (at-most 1 count) (at-most count 4294967294)))

is-said : (line : Line) → Decided (IsSaid line)
is-said Head = inl tt
is-said (Bounds limits budget) = both _ _ (limits-decided limits) (at-most budget 67108864)
is-said (Counted ratio proof) = both _ _ (is-ratio ratio) (is-count proof)
is-said (Run ratio count) = is-run ratio count
is-said (FoundAt ratio) = is-ratio ratio
is-said (GaveUp ratio spent) = both _ _ (is-ratio ratio) (is-number spent)
is-said NoRatio = inl tt
is-said (Place spot) = is-spot spot
is-said End = inl tt

-- ---- a line at the front of bytes

abbrev Stands : List ℕ → Line → Type 0
Stands bytes line = (rest : List ℕ) × IsLineAt bytes line rest

stands-decided : (bytes : List ℕ) (line : Line) → Decided (Stands bytes line)
stands-decided bytes line =
    same (IsSaid line × ((rest : List ℕ) × (bytes ≡ ended (line_text line) ++ rest))) (Stands bytes line) (
      (λ (said, (rest, e)). (rest, record { said = said; spelled = end_joined bytes (line_text line) rest e })),
      (λ (rest, at). (at.said, (rest, end_apart bytes (line_text line) rest at.spelled))),
    )
    (both _ _ (is-said line) (behind-decided (ended (line_text line)) bytes))

-- a line with a number more that it says, which is in the range of numbers
one-number : (bytes : List ℕ) (line : ℕ → Line) → ((n : ℕ) → IsSaid (line n) → n < 2 ^ 32) → Decided ((n : ℕ) × Stands bytes (line n))
one-number bytes line low = some-number (2 ^ 32) (λ n. Stands bytes (line n)) (λ n. stands-decided bytes (line n)) (λ n (rest, at). low n at.said)

two-numbers : (bytes : List ℕ) (line : ℕ → ℕ → Line) → ((n m : ℕ) → IsSaid (line n m) → (n < 2 ^ 32) × (m < 2 ^ 32)) → Decided ((n : ℕ) × ((m : ℕ) × Stands bytes (line n m)))
two-numbers bytes line low =
    some-number (2 ^ 32) (λ n. (m : ℕ) × Stands bytes (line n m))
    (λ n. one-number bytes (line n) (λ m said. (low n m said).1))
    (λ n (m, (rest, at)). (low n m at.said).0)

bounds-decided : (bytes : List ℕ) → Decided ((limits : Limits) × ((budget : ℕ) × Stands bytes (Bounds limits budget)))
bounds-decided bytes =
    same ((a : ℕ) × ((w : ℕ) × ((h : ℕ) × ((n : ℕ) × At a w h n)))) ((limits : Limits) × ((budget : ℕ) × Stands bytes (Bounds limits budget)))
    ((λ (a, (w, (h, (n, at)))). (of a w h, (n, at))), (λ (l, (n, at)). (l.area, (l.width, (l.height, (n, at))))))
    (some-number 145 (λ a. (w : ℕ) × ((h : ℕ) × ((n : ℕ) × At a w h n)))
    (λ a. some-number 145 (λ w. (h : ℕ) × ((n : ℕ) × At a w h n))
    (λ w. some-number 145 (λ h. (n : ℕ) × At a w h n)
    (λ h. some-number 67108865 (At a w h) (λ n. stands-decided bytes (Bounds (of a w h) n)) (λ n (rest, at). let most = at.said.1 in omega arith))
    (λ h (n, (rest, at)). let most : h ≤ 144 = at.said.0.height in omega arith))
    (λ w (h, (n, (rest, at))). let most : w ≤ 144 = at.said.0.width in omega arith))
    (λ a (w, (h, (n, (rest, at)))). let most : a ≤ 144 = at.said.0.area in omega arith))
  where
    of : ℕ → ℕ → ℕ → Limits
    of a w h = record { area = a; width = w; height = h }

    At : ℕ → ℕ → ℕ → ℕ → Type 0
    At a w h n = Stands bytes (Bounds (of a w h) n)

counted-decided : (bytes : List ℕ) (ratio : Ratio) → Decided ((proof : CountProof) × Stands bytes (Counted ratio proof))
counted-decided bytes ratio = elim (one-number bytes (λ n. Counted ratio (Late n)) (λ n said. said.1)) [
  | inl (n, at) ↦ inl (Late n, at)
  | inr no_late ↦ elim (two-numbers bytes (λ n m. Counted ratio (Crowd n m)) (λ n m said. said.1)) [
    | inl (n, (m, at)) ↦ inl (Crowd n m, at)
    | inr no_crowd ↦ elim (one-number bytes (λ n. Counted ratio (Cut n)) (λ n said. said.1)) [
      | inl (n, at) ↦ inl (Cut n, at)
      | inr no_cut ↦ elim (two-numbers bytes (λ n m. Counted ratio (Pair n m)) (λ n m said. said.1)) [
        | inl (n, (m, at)) ↦ inl (Pair n m, at)
        | inr no_pair ↦ inr (λ (proof, at). by proof at no_late no_crowd no_cut no_pair)
      ]
    ]
  ]
]
  where
    by : (proof : CountProof) → Stands bytes (Counted ratio proof) → (((n : ℕ) × Stands bytes (Counted ratio (Late n))) → ⊥) → (((n : ℕ) × ((m : ℕ) × Stands bytes (Counted ratio (Crowd n m)))) → ⊥)
        → (((n : ℕ) × Stands bytes (Counted ratio (Cut n))) → ⊥) → (((n : ℕ) × ((m : ℕ) × Stands bytes (Counted ratio (Pair n m)))) → ⊥) → ⊥
    by (Late n) at no_late no_crowd no_cut no_pair = no_late (n, at)
    by (Crowd n m) at no_late no_crowd no_cut no_pair = no_crowd (n, (m, at))
    by (Cut n) at no_late no_crowd no_cut no_pair = no_cut (n, at)
    by (Pair n m) at no_late no_crowd no_cut no_pair = no_pair (n, (m, at))

abbrev AnyStands : List ℕ → Type 0
AnyStands bytes =
    Stands bytes Head
    ⊎ (((limits : Limits) × ((budget : ℕ) × Stands bytes (Bounds limits budget)))
    ⊎ (((ratio : Ratio) × ((proof : CountProof) × Stands bytes (Counted ratio proof)))
    ⊎ (((ratio : Ratio) × ((count : ℕ) × Stands bytes (Run ratio count)))
    ⊎ (((ratio : Ratio) × Stands bytes (FoundAt ratio))
    ⊎ (((ratio : Ratio) × ((spent : ℕ) × Stands bytes (GaveUp ratio spent)))
    ⊎ (Stands bytes NoRatio
    ⊎ (((spot : Spot) × Stands bytes (Place spot))
    ⊎ Stands bytes End)))))))

line_of_any : (bytes : List ℕ) → AnyStands bytes → (line : Line) × Stands bytes line
line_of_any bytes (inl at) = (Head, at)
line_of_any bytes (inr (inl (l, (n, at)))) = (Bounds l n, at)
line_of_any bytes (inr (inr (inl (r, (p, at))))) = (Counted r p, at)
line_of_any bytes (inr (inr (inr (inl (r, (n, at)))))) = (Run r n, at)
line_of_any bytes (inr (inr (inr (inr (inl (r, at)))))) = (FoundAt r, at)
line_of_any bytes (inr (inr (inr (inr (inr (inl (r, (n, at)))))))) = (GaveUp r n, at)
line_of_any bytes (inr (inr (inr (inr (inr (inr (inl at))))))) = (NoRatio, at)
line_of_any bytes (inr (inr (inr (inr (inr (inr (inr (inl (s, at))))))))) = (Place s, at)
line_of_any bytes (inr (inr (inr (inr (inr (inr (inr (inr at)))))))) = (End, at)

any_of_line : (bytes : List ℕ) (line : Line) → Stands bytes line → AnyStands bytes
any_of_line bytes Head at = inl at
any_of_line bytes (Bounds l n) at = inr (inl (l, (n, at)))
any_of_line bytes (Counted r p) at = inr (inr (inl (r, (p, at))))
any_of_line bytes (Run r n) at = inr (inr (inr (inl (r, (n, at)))))
any_of_line bytes (FoundAt r) at = inr (inr (inr (inr (inl (r, at)))))
any_of_line bytes (GaveUp r n) at = inr (inr (inr (inr (inr (inl (r, (n, at)))))))
any_of_line bytes NoRatio at = inr (inr (inr (inr (inr (inr (inl at))))))
any_of_line bytes (Place s) at = inr (inr (inr (inr (inr (inr (inr (inl (s, at))))))))
any_of_line bytes End at = inr (inr (inr (inr (inr (inr (inr (inr at)))))))

place-decided : (bytes : List ℕ) → Decided ((spot : Spot) × Stands bytes (Place spot))
place-decided bytes =
    same ((x : ℕ) × ((y : ℕ) × Stands bytes (Place (spot x y)))) ((s : Spot) × Stands bytes (Place s))
    ((λ (x, (y, at)). (spot x y, at)), (λ (s, at). (s.x, (s.y, at))))
    (two-numbers bytes (λ x y. Place (spot x y)) (λ x y said. (said.x, said.y)))
  where
    spot : ℕ → ℕ → Spot
    spot x y = record { x = x; y = y }

of-ratio : (bytes : List ℕ) (line : Ratio → ℕ → Line) → ((r : Ratio) (n : ℕ) → IsSaid (line r n) → IsRatio r × (n < 2 ^ 32)) → Decided ((r : Ratio) × ((n : ℕ) × Stands bytes (line r n)))
of-ratio bytes line says =
    some-ratio (λ r. (n : ℕ) × Stands bytes (line r n))
    (λ r. one-number bytes (line r) (λ n said. (says r n said).1))
    (λ r (n, (rest, at)). (says r n at.said).0)

line-decided : (bytes : List ℕ) → Decided ((line : Line) × Stands bytes line)
line-decided bytes =
    same (AnyStands bytes) ((line : Line) × Stands bytes line) (line_of_any bytes, (λ (line, at). any_of_line bytes line at))
    (either _ _ (stands-decided bytes Head)
    (either _ _ (bounds-decided bytes)
    (either _ _ (some-ratio (λ r. (p : CountProof) × Stands bytes (Counted r p)) (counted-decided bytes) (λ r (p, (rest, at)). at.said.0))
    (either _ _ (of-ratio bytes Run (λ r n said. let most = said.2 in (said.0, omega arith)))
    (either _ _ (some-ratio (λ r. Stands bytes (FoundAt r)) (λ r. stands-decided bytes (FoundAt r)) (λ r (rest, at). at.said))
    (either _ _ (of-ratio bytes GaveUp (λ r n said. said))
    (either _ _ (stands-decided bytes NoRatio)
    (either _ _ (place-decided bytes) (stands-decided bytes End)))))))))

-- ---- where a line leads

leads-decided : (from : State) (line : Line) → Decided ((to : State) × Leads from line to)
leads-decided at_head Head = inl (at_limits, refl)
leads-decided at_limits (Bounds limits budget) = inl (at_section (record { limits = limits; budget = budget; sections = [] }), refl)
leads-decided (at_section d) (Counted r p) = inl (at_section (with_section d r (Count p)), refl)
leads-decided (at_section d) (Run r n) = inl (at_first_step d r n, refl)
leads-decided (at_section d) (FoundAt r) = inl (at_place d r [], refl)
leads-decided (at_section d) (GaveUp r n) = inl (at_end (ended_by d (Undecided r n)), refl)
leads-decided (at_section d) NoRatio = inl (at_end (ended_by d NoneWithin), refl)
leads-decided (at_place d r ss) (Place s) = inl (at_place d r (ss ++ s ∷ []), refl)
leads-decided (at_place d r ss) End = inl (at_nothing (ended_by d (Found r ss)), refl)
leads-decided (at_end c) End = inl (at_nothing c, refl)
leads-decided from line = inr (λ (to, h). h)

-- a line leads on from a state
abbrev HasLine : State → List ℕ → Type 0
HasLine from rest = (bytes : List ℕ) × ((to : State) × ((behind : List ℕ) × (GoesByLine from bytes to × (rest ≡ ended bytes ++ behind))))

line_here : (from : State) (rest bytes : List ℕ) (to : State) (behind : List ℕ) (goes : GoesByLine from bytes to) → rest ≡ ended bytes ++ behind → IsLineAt rest goes.line behind
line_here from rest bytes to behind goes e = record { said = goes.said; spelled = end_joined rest bytes behind e ∙ ap (λ bs. bs ++ 10 ∷ behind) goes.spelled }

has-line : (from : State) (rest : List ℕ) → Decided (HasLine from rest)
has-line from rest = elim (line-decided rest) [
  | inl (line, (behind, at)) ↦ elim (leads-decided from line) [
    | inl (to, leads) ↦ inl (line_text line, (to, (behind, (record { line = line; said = at.said; spelled = refl; leads = leads }, end_apart rest (line_text line) behind at.spelled))))
    | inr never ↦ inr (λ (bytes, (to, (other, (goes, e)))).
        let both = one_line rest line goes.line behind other at (line_here from rest bytes to other goes e) in
        never (to, subst (λ l. Leads from l to) (sym both.0) goes.leads))
  ]
  | inr none ↦ inr (λ (bytes, (to, (behind, (goes, e)))). none (goes.line, (behind, line_here from rest bytes to behind goes e)))
]

-- ---- steps

step_apart : (id : ℕ) (rest : List ℕ) (step : Step) (behind : List ℕ) → IsStepAt rest id step behind → rest ≡ ended (step_line id step) ++ behind
step_apart id rest step behind at = end_apart rest (step_line id step) behind at.spelled

step_here : (id : ℕ) (rest bytes : List ℕ) (step : Step) (behind : List ℕ) → IsStep id step → bytes ≡ step_line id step → rest ≡ ended bytes ++ behind → IsStepAt rest id step behind
step_here id rest bytes step behind is spelled e = record { step = is; spelled = end_joined rest bytes behind e ∙ ap (λ bs. bs ++ 10 ∷ behind) spelled }

first-decided : (d : Draft) (r : Ratio) (count : ℕ) (rest : List ℕ) → Decided (HasNext cert_grammar (at_first_step d r count) rest)
first-decided d r count rest =
    same ((1 ≤ count) × ((id : ℕ) × ((id + count ≤ 2 ^ 32) × StepAt id rest))) (HasNext cert_grammar (at_first_step d r count) rest) (
      (λ (some, (id, (fits, (step, (behind, at))))). (
        step_line id step,
        (
          behind_steps d r count (log_of id (step ∷ [])),
          (
            behind,
            (
              record { id = id; step = step; is = at.step; some = some; fits = fits; spelled = refl; reached = refl },
              step_apart id rest step behind at,
            ),
          ),
        ),
      )),
      (λ (bytes, (to, (behind, (goes, e)))). (goes.some, (goes.id, (goes.fits, (goes.step, (behind, step_here goes.id rest bytes goes.step behind goes.is goes.spelled e)))))),
    )
    (both _ _ (at-most 1 count)
    (some-number (2 ^ 32) (λ id. (id + count ≤ 2 ^ 32) × StepAt id rest)
    (λ id. both _ _ (at-most (id + count) (2 ^ 32)) (step-decided id rest))
    (λ id (fits, (step, (behind, at))). at.step.numbered)))

further-decided : (d : Draft) (r : Ratio) (count : ℕ) (log : StepList) (rest : List ℕ) → Decided (HasNext cert_grammar (at_step d r count log) rest)
further-decided d r count log rest =
    let id = log.first + length log.steps in
    same (((1 < log.first) × ((length log.steps < count) × (log.first + count ≤ 2 ^ 32))) × StepAt id rest) (HasNext cert_grammar (at_step d r count log) rest) (
      (λ ((above, (left, fits)), (step, (behind, at))). (
        step_line id step,
        (
          behind_steps d r count (log_of log.first (log.steps ++ step ∷ [])),
          (
            behind,
            (
              record { step = step; is = at.step; above = above; left = left; fits = fits; spelled = refl; reached = refl },
              step_apart id rest step behind at,
            ),
          ),
        ),
      )),
      (λ (bytes, (to, (behind, (goes, e)))). ((goes.above, (goes.left, goes.fits)), (goes.step, (behind, step_here id rest bytes goes.step behind goes.is goes.spelled e)))),
    )
    (both _ _ (both _ _ (less 1 log.first) (both _ _ (less (length log.steps) count) (at-most (log.first + count) (2 ^ 32)))) (step-decided id rest))

-- ---- certificates

next-decided : (from : State) (rest : List ℕ) → Decided (HasNext cert_grammar from rest)
next-decided at_head rest = has-line at_head rest
next-decided at_limits rest = has-line at_limits rest
next-decided (at_section d) rest = has-line (at_section d) rest
next-decided (at_first_step d r n) rest = first-decided d r n rest
next-decided (at_step d r n log) rest = further-decided d r n log rest
next-decided (at_place d r ss) rest = has-line (at_place d r ss) rest
next-decided (at_end c) rest = has-line (at_end c) rest
next-decided (at_nothing c) rest = has-line (at_nothing c) rest

ends-decided : (state : State) → Decided (Ends state)
ends-decided (at_nothing c) = inl tt
ends-decided state = inr (λ h. h)

pub some_cert : (bytes : List ℕ) → IsCertText bytes ⊎ ((k : ℕ) × IsFirstBadLine IsCertText bytes k)
some_cert bytes = elim (some_reading cert_grammar cert_is_line_grammar bytes next-decided ends-decided) [
  | inl is ↦ inl (cert_from_text bytes is)
  | inr (k, bad) ↦ inr (k, first_bad bytes k bad)
]
