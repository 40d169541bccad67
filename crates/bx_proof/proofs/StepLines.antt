-- The line of a step: its parts, that it is a line, and that bytes begin with one step of an id at most.
use Rattle.std.proofs.Common.{◌≡◌, ℕ, zero, suc, ◌+◌, ◌<◌, ◌≤◌, ◌^◌, Bool, true, false, List, [], ◌∷◌, ◌++◌, length, get_or, Option, Some, None, refl, sym, ◌∙◌, ap, inl, inr, arith, append_assoc}
use Rattle.std.proofs.lemmas.List.Elements.{recursion_from_All}
use Rattle.std.specs.Prelude.{codes, decimal, slice_get, IfSome, IfNone, MatchOption}
use Rattle.std.specs.Option.{option_map}
use Rattle.std.specs.List.{AllByRecursion}
use Rattle.bx_logic.proofs.Members.{Member, Member-from_contains, Member-append_cases, Member-flat_map_cases, member_of_AllByRecursion}
use Rattle.bx_cnf.specs.Literals.{Literal, IsLiteral, literal_text}
use Rattle.bx_cnf.specs.Formulas.{AscendAbove}
use Rattle.bx_lines.specs.Lines.{IsLine, ended}
use Rattle.bx_lines.specs.Decimals.{IsNumberAt}
use Rattle.bx_lines.proofs.Numbers.{decimal_digits, one_number}
use Rattle.bx_proof.specs.Steps.{Step, IsStep}
use Rattle.bx_proof.specs.Texts.{list_text, step_line, step_lines}
use Rattle.bx_proof.specs.Readings.{IsClosedAt, IsHint, IsStepAt}
use Rattle.bx_proof.proofs.Closed.{items_text, closed_stops, one_closed}
use Rattle.bx_proof.proofs.Numbers.{hint_spelling, literal_spelling}

abbrev pub step_of : List Literal → List ℕ → Step
step_of literals hints = record { literals = literals; hints = hints }

-- a line from its parts, as they are put out
pub line_is : (id : ℕ) (ls : List Literal) (hs : List ℕ) → decimal id ++ (items_text literal_text ls ++ (codes " 0" ++ (items_text decimal hs ++ (codes " 0" ++ 10 ∷ [])))) ≡ ended (step_line id (step_of ls hs))
line_is id ls hs =
    let l = items_text literal_text ls in
    let h = items_text decimal hs in
    let z = codes " 0" in
    sym (
    append_assoc (decimal id ++ list_text literal_text ls) (list_text decimal hs) (10 ∷ [])
    ∙ append_assoc (decimal id) (list_text literal_text ls) (list_text decimal hs ++ 10 ∷ [])
    ∙ ap (λ bs. decimal id ++ bs) (append_assoc l z (list_text decimal hs ++ 10 ∷ []))
    ∙ ap (λ bs. decimal id ++ (l ++ (z ++ bs))) (append_assoc h z (10 ∷ [])))

-- a line in front of bytes
pub line_front : (id : ℕ) (s : Step) (rest : List ℕ) → step_line id s ++ rest ≡ decimal id ++ (list_text literal_text s.literals ++ (list_text decimal s.hints ++ rest))
line_front id s rest = append_assoc (decimal id ++ list_text literal_text s.literals) (list_text decimal s.hints) rest ∙ append_assoc (decimal id) (list_text literal_text s.literals) (list_text decimal s.hints ++ rest)

pub number_of_line : (bytes : List ℕ) (id : ℕ) (s : Step) (rest : List ℕ) → bytes ≡ step_line id s ++ rest → IsNumberAt bytes id (list_text literal_text s.literals ++ (list_text decimal s.hints ++ rest))
number_of_line bytes id s rest e = record { spelled = e ∙ line_front id s rest; stops = closed_stops literal_text s.literals (list_text decimal s.hints ++ rest) }

-- what a step's literals and hints are

ascend_are : (var : ℕ) (ls : List Literal) → AscendAbove var ls → AllByRecursion (λ l. l.var ≤ 2147483647) ls → AllByRecursion IsLiteral ls
ascend_are var [] ascend within = tt
ascend_are var (l ∷ ls) ascend within = (record { above = omega (arith, ascend.0); below = omega (arith, within.0) }, ascend_are l.var ls ascend.1 within.1)

pub step_literals : (id : ℕ) (s : Step) → IsStep id s → AllByRecursion IsLiteral s.literals
step_literals id s is = ascend_are 0 s.literals is.clause.ascending (recursion_from_All (λ l. l.var ≤ 2147483647) s.literals is.clause.within)

hints_are : (id : ℕ) (hs : List ℕ) → id < 2 ^ 32 → AllByRecursion (λ h. (0 < h) × (h < id)) hs → AllByRecursion IsHint hs
hints_are id [] small each = tt
hints_are id (h ∷ hs) small each = ((each.0.0, omega (arith, each.0.1)), hints_are id hs small each.1)

pub step_hints : (id : ℕ) (s : Step) → IsStep id s → AllByRecursion IsHint s.hints
step_hints id s is = hints_are id s.hints is.numbered (recursion_from_All (λ h. (0 < h) × (h < id)) s.hints is.before)

-- what stands at the front of a text that begins with the line of a step is that step's

pub follow_number : (text : List ℕ) (id n : ℕ) (s : Step) (rest after : List ℕ) → n < 2 ^ 64 → IsStepAt text id s rest → IsNumberAt text n after → (n ≡ id) × IsClosedAt literal_text after s.literals (list_text decimal s.hints ++ 10 ∷ rest)
follow_number text id n s rest after small at number =
    let same = one_number text n id after (list_text literal_text s.literals ++ (list_text decimal s.hints ++ 10 ∷ rest)) small (omega (arith, at.step.numbered)) number (number_of_line text id s (10 ∷ rest) at.spelled) in
    (same.0, record { spelled = same.1; stops = closed_stops decimal s.hints (10 ∷ rest) })

pub follow_literals : (id : ℕ) (s : Step) (rest bytes after : List ℕ) (ls : List Literal) → IsStep id s → IsClosedAt literal_text bytes s.literals (list_text decimal s.hints ++ 10 ∷ rest) → AllByRecursion IsLiteral ls → IsClosedAt literal_text bytes ls after → (ls ≡ s.literals) × IsClosedAt decimal after s.hints (10 ∷ rest)
follow_literals id s rest bytes after ls is at each found =
    let same = one_closed literal_text IsLiteral literal_spelling bytes ls s.literals after (list_text decimal s.hints ++ 10 ∷ rest) each (step_literals id s is) found at in
    (same.0, record { spelled = same.1; stops = inl (omega arith) })

pub follow_hints : (id : ℕ) (s : Step) (rest bytes after : List ℕ) (hs : List ℕ) → IsStep id s → IsClosedAt decimal bytes s.hints (10 ∷ rest) → AllByRecursion IsHint hs → IsClosedAt decimal bytes hs after → (hs ≡ s.hints) × (after ≡ 10 ∷ rest)
follow_hints id s rest bytes after hs is at each found = one_closed decimal IsHint hint_spelling bytes hs s.hints after (10 ∷ rest) each (step_hints id s is) found at

-- a line from its parts, as they are read
pub line_here : (text rest1 rest2 rest3 rest : List ℕ) (id n : ℕ) (ls : List Literal) (hs : List ℕ) → n ≡ id → IsNumberAt text n rest1 → IsClosedAt literal_text rest1 ls rest2 → IsClosedAt decimal rest2 hs rest3 → rest3 ≡ 10 ∷ rest → text ≡ step_line id (step_of ls hs) ++ 10 ∷ rest
line_here text rest1 rest2 rest3 rest id n ls hs same number literals hints feed =
    number.spelled ∙ ap (λ k. decimal k ++ rest1) same
    ∙ ap (λ bs. decimal id ++ bs) (literals.spelled ∙ ap (λ bs. list_text literal_text ls ++ bs) (hints.spelled ∙ ap (λ bs. list_text decimal hs ++ bs) feed))
    ∙ sym (line_front id (step_of ls hs) (10 ∷ rest))

-- no byte of it is a line feed

lacks_append : (xs ys : List ℕ) → (Member 10 xs → ⊥) → (Member 10 ys → ⊥) → Member 10 (xs ++ ys) → ⊥
lacks_append xs ys a b m = elim (Member-append_cases 10 xs ys m) [ inl h ↦ a h | inr h ↦ b h ]

decimal_lacks : (n : ℕ) → n < 2 ^ 64 → Member 10 (decimal n) → ⊥
decimal_lacks n small m = let digit = member_of_AllByRecursion (λ b. (48 ≤ b) × (b ≤ 57)) 10 (decimal n) (decimal_digits n small) m in omega (arith, digit.0)

literal_lacks : (l : Literal) → IsLiteral l → Member 10 (literal_text l) → ⊥
literal_lacks l is m = by_sign l.positive m where
  by_sign : (p : Bool) → Member 10 (literal_text (record { var = l.var; positive = p })) → ⊥
  by_sign true m = decimal_lacks l.var (omega (arith, is.below)) m
  by_sign false (inl e) = absurd (omega (arith, e))
  by_sign false (inr m) = decimal_lacks l.var (omega (arith, is.below)) m

closed_lacks : {X : Type 0} (text : X → List ℕ) (P : X → Type 0) (xs : List X) → ((x : X) → P x → Member 10 (text x) → ⊥) → AllByRecursion P xs → Member 10 (list_text text xs) → ⊥
closed_lacks text P xs lacks each m = lacks_append (items_text text xs) (codes " 0") in_spaced in_zero m where
  in_spaced : Member 10 (items_text text xs) → ⊥
  in_spaced m =
      let (x, member, at) = Member-flat_map_cases (λ y. 32 ∷ text y) 10 xs m in
      elim at [ inl e ↦ omega (arith, e) | inr h ↦ lacks x (member_of_AllByRecursion P x xs each member) h ]

  in_zero : Member 10 (codes " 0") → ⊥
  in_zero (inl e) = absurd (omega (arith, e))
  in_zero (inr (inl e)) = absurd (omega (arith, e))
  in_zero (inr (inr never)) = elim never [ ]

pub step_line_is_line : (id : ℕ) (s : Step) → IsStep id s → IsLine (step_line id s)
step_line_is_line id s is has =
    lacks_append (decimal id ++ list_text literal_text s.literals) (list_text decimal s.hints)
    (lacks_append (decimal id) (list_text literal_text s.literals) (decimal_lacks id (omega (arith, is.numbered))) (closed_lacks literal_text IsLiteral s.literals literal_lacks (step_literals id s is)))
    (closed_lacks decimal IsHint s.hints (λ h is_hint. decimal_lacks h (omega (arith, is_hint.1))) (step_hints id s is))
    (Member-from_contains 10 (step_line id s) has)

-- lines of one after another

pub line_at : (first : ℕ) (steps : List Step) (k : ℕ) (ls : List Literal) (hs : List ℕ) → option_map (λ (s : Step). s.literals) (slice_get steps k) ≡ Some ls → option_map (λ (s : Step). s.hints) (slice_get steps k) ≡ Some hs → get_or (step_lines first steps) k [] ≡ step_line (first + k) (step_of ls hs)
line_at first [] k ls hs l h = let never : ⊥ = cc in absurd never
line_at first (s ∷ ss) zero ls hs l h =
    let literals : s.literals ≡ ls = cc in
    let hints : s.hints ≡ hs = cc in
    let here : first ≡ first + 0 = omega arith in
    ap (λ n. step_line n s) here ∙ ap (λ xs. step_line (first + 0) (step_of xs s.hints)) literals ∙ ap (λ xs. step_line (first + 0) (step_of ls xs)) hints
line_at first (s ∷ ss) (suc k) ls hs l h = let here : first + 1 + k ≡ first + suc k = omega arith in line_at (first + 1) ss k ls hs l h ∙ ap (λ n. step_line n (step_of ls hs)) here

pub length-step_lines : (first : ℕ) (steps : List Step) → length (step_lines first steps) ≡ length steps
length-step_lines first [] = refl
length-step_lines first (s ∷ ss) = ap suc (length-step_lines (first + 1) ss)

-- what is answered where a byte was looked for
pub match_found : {A : Type 0} (P S : A → Type 0) (Q N : Type 0) (o : Option A) → IfSome o P → IfNone o Q → (Q → N) → ((x : A) → P x → S x) → MatchOption o N S
match_found P S Q N None some none missed found = missed none
match_found P S Q N (Some x) some none missed found = found x some
