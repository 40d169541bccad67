-- Bytes begin with the line of a step of an id, or they don't; so they are the text of a log, or they have a first bad
-- line.
use Rattle.std.proofs.Common.{◌≡◌, ◌⊎◌, ℕ, zero, suc, ◌+◌, ◌<◌, ◌≤◌, ◌^◌, Bool, true, false, List, [], ◌∷◌, ◌++◌, length, Option, Some, None, inl, inr, refl, sym, ap, ◌∙◌, subst, arith, append_assoc, length-append}
use Rattle.std.proofs.lemmas.List.{append_cancel_left}
use Rattle.std.proofs.lemmas.List.Elements.{All-from_recursion, recursion_from_All}
use Rattle.std.specs.Prelude.{codes, decimal}
use Rattle.std.specs.List.{AllByRecursion}
use Rattle.bx_cnf.specs.Literals.{Literal, literal_text}
use Rattle.bx_cnf.specs.Formulas.{AscendAbove}
use Rattle.bx_grid.proofs.Decided.{Decided, both, same, less, at-most, some-number}
use Rattle.bx_lines.specs.Lines.{ended, IsFirstBadLine}
use Rattle.bx_lines.specs.Grammars.{IsText}
use Rattle.bx_lines.proofs.Deciding.{Behind, behind-decided, HasNext, some_reading}
use Rattle.bx_proof.specs.Steps.{Step, IsStep}
use Rattle.bx_proof.specs.Texts.{list_text, step_line, IsLogText}
use Rattle.bx_proof.specs.Readings.{IsStepAt}
use Rattle.bx_proof.proofs.Closed.{closed_cons}
use Rattle.bx_proof.proofs.LogGrammar.{log_grammar, log_is_line_grammar, text_from_log, log_from_text}
use Rattle.bx_proof.proofs.StepLines.{step_of, line_front}

-- bytes begin with a word behind which something holds that is decided
behind-then : (word bytes : List ℕ) (Q : List ℕ → Type 0) → ((rest : List ℕ) → bytes ≡ word ++ rest → Decided (Q rest)) → Decided ((rest : List ℕ) × ((bytes ≡ word ++ rest) × Q rest))
behind-then word bytes Q decided = elim (behind-decided word bytes) [
  | inl (rest, e) ↦ elim (decided rest e) [
    | inl q ↦ inl (rest, (e, q))
    | inr never ↦ inr (λ (other, (is, q)). never (subst Q (append_cancel_left word other rest (sym is ∙ e)) q))
  ]
  | inr none ↦ inr (λ (rest, (e, q)). none (rest, e))
]

-- ---- lists

-- each item may stand in the state behind those before it
abbrev pub Along : {X S : Type 0} → (S → X → Type 0) → (S → X → S) → S → List X → Type 0
Along Fits move s [] = Unit {0}
Along Fits move s (x ∷ xs) = Fits s x × Along Fits move (move s x) xs

abbrev pub after : {X S : Type 0} → (S → X → S) → S → List X → S
after move s [] = s
after move s (x ∷ xs) = after move (move s x) xs

module _ {X S : Type 0} (text : X → List ℕ) (Fits : S → X → Type 0) (move : S → X → S) (Tail : S → List ℕ → Type 0) where
  -- a list at the front of bytes, and what has to stand behind it
  abbrev pub Listed : S → List ℕ → Type 0
  Listed s bytes = (xs : List X) × (Along Fits move s xs × ((rest : List ℕ) × ((bytes ≡ list_text text xs ++ rest) × Tail (after move s xs) rest)))

  abbrev More : S → List ℕ → X → Type 0
  More s bytes x = (rest : List ℕ) × ((bytes ≡ (32 ∷ text x) ++ rest) × Listed (move s x) rest)

  refuted : (s : S) (bytes : List ℕ) → (((rest : List ℕ) × ((bytes ≡ codes " 0" ++ rest) × Tail s rest)) → ⊥) → (((x : X) × (Fits s x × More s bytes x)) → ⊥) → Listed s bytes → ⊥
  refuted s bytes not_ended none ([], (along, (rest, (e, t)))) = not_ended (rest, (e, t))
  refuted s bytes not_ended none (x ∷ xs, (along, (rest, (e, t)))) = none (x, (along.0, (list_text text xs ++ rest, (e ∙ closed_cons text x xs rest, (xs, (along.1, (rest, (refl, t))))))))

  module _ (search : (s : S) (Q : X → Type 0) → ((x : X) → Decided (Q x)) → Decided ((x : X) × (Fits s x × Q x))) (tail : (s : S) (rest : List ℕ) → Decided (Tail s rest)) where
    one-decided : (s : S) (bytes : List ℕ) → ((x : X) (rest : List ℕ) → bytes ≡ (32 ∷ text x) ++ rest → Decided (Listed (move s x) rest)) → Decided (Listed s bytes)
    one-decided s bytes further = elim (behind-then (codes " 0") bytes (Tail s) (λ rest e. tail s rest)) [
      | inl (rest, (e, t)) ↦ inl ([], (tt, (rest, (e, t))))
      | inr not_ended ↦ elim (search s (More s bytes) (λ x. behind-then (32 ∷ text x) bytes (Listed (move s x)) (further x))) [
        | inl (x, (fits, (rest, (e, (xs, (along, (last, (is, t)))))))) ↦
            inl (x ∷ xs, ((fits, along), (last, (e ∙ ap (λ bs. (32 ∷ text x) ++ bs) is ∙ sym (closed_cons text x xs last), t))))
        | inr none ↦ inr (refuted s bytes not_ended none)
      ]
    ]

    item_less : (x : X) (bytes rest : List ℕ) → bytes ≡ (32 ∷ text x) ++ rest → length rest < length bytes
    item_less x bytes rest e = omega (arith, ap length e, length-append (32 ∷ text x) rest)

    -- so many bytes are there at most
    within-decided : (most : ℕ) (s : S) (bytes : List ℕ) → length bytes ≤ most → Decided (Listed s bytes)
    within-decided zero s bytes few = one-decided s bytes (λ x rest e. let shorter = item_less x bytes rest e in absurd (omega arith))
    within-decided (suc most) s bytes few = one-decided s bytes (λ x rest e. let shorter = item_less x bytes rest e in within-decided most (move s x) rest (omega arith))

    listed-decided : (s : S) (bytes : List ℕ) → Decided (Listed s bytes)
    listed-decided s bytes = within-decided (length bytes) s bytes (omega arith)

-- ---- hints, by how many there are so far

abbrev pub HintFits : ℕ → ℕ → ℕ → Type 0
HintFits id count h = (0 < h) × (h < id)

abbrev pub one_more : ℕ → ℕ → ℕ
one_more count h = suc count

-- the end of a line, behind a hint at least
abbrev pub EndsLine : ℕ → List ℕ → Type 0
EndsLine count rest = (0 < count) × Behind (10 ∷ []) rest

abbrev pub HintsAt : ℕ → ℕ → List ℕ → Type 0
HintsAt id count bytes = Listed decimal (HintFits id) one_more EndsLine count bytes

hint-search : (id count : ℕ) (Q : ℕ → Type 0) → ((h : ℕ) → Decided (Q h)) → Decided ((h : ℕ) × (HintFits id count h × Q h))
hint-search id count Q decided =
    some-number id (λ h. HintFits id count h × Q h) (λ h. both _ _ (both _ _ (less 0 h) (less h id)) (decided h)) (λ h (fits, q). fits.1)

hints-decided : (id count : ℕ) (bytes : List ℕ) → Decided (HintsAt id count bytes)
hints-decided id count bytes =
    listed-decided decimal (HintFits id) one_more EndsLine (hint-search id) (λ count rest. both _ _ (less 0 count) (behind-decided (10 ∷ []) rest)) count bytes

-- ---- literals, by the variable of the last one

abbrev pub LiteralFits : ℕ → Literal → Type 0
LiteralFits var l = (var < l.var) × (l.var ≤ 2147483647)

abbrev pub its_var : ℕ → Literal → ℕ
its_var var l = l.var

abbrev pub LiteralsAt : ℕ → ℕ → List ℕ → Type 0
LiteralsAt id var bytes = Listed literal_text LiteralFits its_var (λ last. HintsAt id 0) var bytes

abbrev signed : ℕ → Bool → Literal
signed var positive = record { var = var; positive = positive }

either-sign : (Q : Literal → Type 0) → ((l : Literal) → Decided (Q l)) → (var : ℕ) → Decided ((positive : Bool) × Q (signed var positive))
either-sign Q decided var = elim (decided (signed var true)) [
  | inl q ↦ inl (true, q)
  | inr never ↦ elim (decided (signed var false)) [
    | inl q ↦ inl (false, q)
    | inr none ↦ inr (λ (positive, q). by positive never none q)
  ]
]
  where
    by : (positive : Bool) → (Q (signed var true) → ⊥) → (Q (signed var false) → ⊥) → Q (signed var positive) → ⊥
    by true never none q = never q
    by false never none q = none q

literal-search : (var : ℕ) (Q : Literal → Type 0) → ((l : Literal) → Decided (Q l)) → Decided ((l : Literal) × (LiteralFits var l × Q l))
literal-search var Q decided =
    same ((v : ℕ) × (((var < v) × (v ≤ 2147483647)) × ((positive : Bool) × Q (signed v positive)))) ((l : Literal) × (LiteralFits var l × Q l))
    ((λ (v, (fits, (positive, q))). (signed v positive, (fits, q))), (λ (l, (fits, q)). (l.var, (fits, (l.positive, q)))))
    (some-number 2147483648 (λ v. ((var < v) × (v ≤ 2147483647)) × ((positive : Bool) × Q (signed v positive)))
    (λ v. both _ _ (both _ _ (less var v) (at-most v 2147483647)) (either-sign Q decided v))
    (λ v (fits, q). let most = fits.1 in omega arith))

pub literals-decided : (id var : ℕ) (bytes : List ℕ) → Decided (LiteralsAt id var bytes)
literals-decided id var bytes = listed-decided literal_text LiteralFits its_var (λ last. HintsAt id 0) literal-search (λ last. hints-decided id 0) var bytes

-- ---- steps

ascend-along : (var : ℕ) (ls : List Literal) → Along LiteralFits its_var var ls → AscendAbove var ls × AllByRecursion (λ l. l.var ≤ 2147483647) ls
ascend-along var [] along = (tt, tt)
ascend-along var (l ∷ ls) along = let rest = ascend-along l.var ls along.1 in ((along.0.0, rest.0), (along.0.1, rest.1))

along-ascend : (var : ℕ) (ls : List Literal) → AscendAbove var ls → AllByRecursion (λ l. l.var ≤ 2147483647) ls → Along LiteralFits its_var var ls
along-ascend var [] ascend within = tt
along-ascend var (l ∷ ls) ascend within = ((ascend.0, within.0), along-ascend l.var ls ascend.1 within.1)

before-along : (id count : ℕ) (hs : List ℕ) → Along (HintFits id) one_more count hs → AllByRecursion (λ h. (0 < h) × (h < id)) hs
before-along id count [] along = tt
before-along id count (h ∷ hs) along = (along.0, before-along id (suc count) hs along.1)

along-before : (id count : ℕ) (hs : List ℕ) → AllByRecursion (λ h. (0 < h) × (h < id)) hs → Along (HintFits id) one_more count hs
along-before id count [] before = tt
along-before id count (h ∷ hs) before = (before.0, along-before id (suc count) hs before.1)

counted : (count : ℕ) (hs : List ℕ) → after one_more count hs ≡ count + length hs
counted count [] = omega arith
counted count (h ∷ hs) = let rest = counted (suc count) hs in omega arith

abbrev pub StepAt : ℕ → List ℕ → Type 0
StepAt id bytes = (step : Step) × ((rest : List ℕ) × IsStepAt bytes id step rest)

abbrev Parts : ℕ → List ℕ → Type 0
Parts id bytes = (id < 2 ^ 32) × ((text : List ℕ) × ((bytes ≡ decimal id ++ text) × LiteralsAt id 0 text))

step-from-parts : (id : ℕ) (bytes : List ℕ) → Parts id bytes → StepAt id bytes
step-from-parts id bytes (low, (text, (e, (ls, (ascend, (middle, (is, (hs, (before, (last, (spelled, (some, (rest, end))))))))))))) =
    let count = counted 0 hs in
    let literals = ascend-along 0 ls ascend in (
      step_of ls hs,
      (
        rest,
        record {
          step = record {
            numbered = low;
            clause = record { ascending = literals.0; within = All-from_recursion (λ l. l.var ≤ 2147483647) ls literals.1 };
            hinted = omega arith;
            before = All-from_recursion (λ h. (0 < h) × (h < id)) hs (before-along id 0 hs before);
          };
          spelled = e
              ∙ ap (λ bs. decimal id ++ bs) (is ∙ ap (λ bs. list_text literal_text ls ++ bs) (spelled ∙ ap (λ bs. list_text decimal hs ++ bs) end))
              ∙ sym (line_front id (step_of ls hs) (10 ∷ rest));
        },
      ),
    )

parts-from-step : (id : ℕ) (bytes : List ℕ) → StepAt id bytes → Parts id bytes
parts-from-step id bytes (s, (rest, at)) =
    let within = recursion_from_All (λ l. l.var ≤ 2147483647) s.literals at.step.clause.within in
    let before = recursion_from_All (λ h. (0 < h) × (h < id)) s.hints at.step.before in
    let count = counted 0 s.hints in
    let hinted = at.step.hinted in
    let last = 10 ∷ rest in
    let middle = list_text decimal s.hints ++ last in
    let hints : HintsAt id 0 middle = (s.hints, (along-before id 0 s.hints before, (last, (refl, (omega arith, (rest, refl)))))) in (
      at.step.numbered,
      (
        list_text literal_text s.literals ++ middle,
        (
          at.spelled ∙ line_front id s last,
          (s.literals, (along-ascend 0 s.literals at.step.clause.ascending within, (middle, (refl, hints)))),
        ),
      ),
    )

-- bytes begin with the line of a step of this id, or they don't
pub step-decided : (id : ℕ) (bytes : List ℕ) → Decided (StepAt id bytes)
step-decided id bytes =
    same (Parts id bytes) (StepAt id bytes) (step-from-parts id bytes, parts-from-step id bytes)
    (both _ _ (less id (2 ^ 32)) (behind-then (decimal id) bytes (LiteralsAt id 0) (λ text e. literals-decided id 0 text)))

-- ---- logs

pub end_apart : (bytes line rest : List ℕ) → bytes ≡ line ++ 10 ∷ rest → bytes ≡ ended line ++ rest
end_apart bytes line rest e = e ∙ sym (append_assoc line (10 ∷ []) rest)

pub end_joined : (bytes line rest : List ℕ) → bytes ≡ ended line ++ rest → bytes ≡ line ++ 10 ∷ rest
end_joined bytes line rest e = e ∙ append_assoc line (10 ∷ []) rest

next-decided : (from : Option ℕ) (rest : List ℕ) → Decided (HasNext log_grammar from rest)
next-decided None rest =
    same ((id : ℕ) × StepAt id rest) (HasNext log_grammar None rest) (
      (λ (id, (s, (behind, at))). (step_line id s, (Some id, (behind, (record { id = id; step = s; is = at.step; spelled = refl; follows = tt; reached = refl }, end_apart rest (step_line id s) behind at.spelled))))),
      (λ (line, (to, (behind, (goes, e)))). (goes.id, (goes.step, (behind, record { step = goes.is; spelled = end_joined rest line behind e ∙ ap (λ bs. bs ++ 10 ∷ behind) goes.spelled })))),
    )
    (some-number (2 ^ 32) (λ id. StepAt id rest) (λ id. step-decided id rest) (λ id (s, (behind, at)). at.step.numbered))
next-decided (Some before) rest =
    same (StepAt (before + 1) rest) (HasNext log_grammar (Some before) rest) (
      (λ (s, (behind, at)). (step_line (before + 1) s, (Some (before + 1), (behind, (record { id = before + 1; step = s; is = at.step; spelled = refl; follows = refl; reached = refl }, end_apart rest (step_line (before + 1) s) behind at.spelled))))),
      (λ (line, (to, (behind, (goes, e)))). (
        goes.step,
        (
          behind,
          record {
            step = subst (λ id. IsStep id goes.step) goes.follows goes.is;
            spelled = end_joined rest line behind e ∙ ap (λ bs. bs ++ 10 ∷ behind) goes.spelled ∙ ap (λ id. step_line id goes.step ++ 10 ∷ behind) goes.follows;
          },
        ),
      )),
    )
    (step-decided (before + 1) rest)

ends-decided : (state : Option ℕ) → Decided (log_grammar.ends state)
ends-decided None = inr (λ h. h)
ends-decided (Some id) = inl tt

bad_of_log : (bytes : List ℕ) (k : ℕ) → IsFirstBadLine (IsText log_grammar) bytes k → IsFirstBadLine IsLogText bytes k
bad_of_log bytes k is = record {
  bad = λ begun. is.bad (begun.0, text_from_log begun.0 begun.1, begun.2);
  before = λ j lt. let begun = is.before j lt in (begun.0, log_from_text begun.0 begun.1, begun.2);
}

pub some_log : (bytes : List ℕ) → IsLogText bytes ⊎ ((k : ℕ) × IsFirstBadLine IsLogText bytes k)
some_log bytes = elim (some_reading log_grammar log_is_line_grammar bytes next-decided ends-decided) [
  | inl is ↦ inl (log_from_text bytes is)
  | inr (k, bad) ↦ inr (k, bad_of_log bytes k bad)
]
