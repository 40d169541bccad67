-- Words and numbers at the front of bytes: where a word and so many numbers stand there, no others do.
use Rattle.std.proofs.Common.{◌≡◌, ℕ, ◌+◌, ◌<◌, ◌≤◌, ◌^◌, List, [], ◌∷◌, ◌++◌, length, get_or, Option, Some, None, refl, sym, ◌∙◌, ap, subst, inl, arith, append_assoc}
use Rattle.std.proofs.lemmas.List.{append_cancel_left}
use Rattle.std.specs.Prelude.{decimal, IfSome, IfNone, MatchOption}
use Rattle.std.specs.List.{AllByRecursion}
use Rattle.bx_lines.specs.Decimals.{EndsNumber, IsNumberAt}
use Rattle.bx_lines.proofs.Numbers.{one_number}
use Rattle.bx_cert.specs.Certs.{IsNumber}
use Rattle.bx_cert.specs.Texts.{numbers}
use Rattle.bx_cert.specs.Readings.{IsWordedAt}

pub numbers_cons : (n : ℕ) (ns r : List ℕ) → numbers (n ∷ ns) ++ r ≡ 32 ∷ (decimal n ++ (numbers ns ++ r))
numbers_cons n ns r = append_assoc (32 ∷ decimal n) (numbers ns) r

pub numbers_stop : (ns r : List ℕ) → EndsNumber r → EndsNumber (numbers ns ++ r)
numbers_stop [] r stops = stops
numbers_stop (n ∷ ns) r stops = inl (omega arith)

pub line_stops : (r : List ℕ) → EndsNumber (10 ∷ r)
line_stops r = inl (omega arith)

-- as many numbers at the front of the same bytes are the same
pub one_numbers : (ns ms r s : List ℕ) → AllByRecursion IsNumber ns → AllByRecursion IsNumber ms → length ns ≡ length ms → EndsNumber r → EndsNumber s → numbers ns ++ r ≡ numbers ms ++ s → (ns ≡ ms) × (r ≡ s)
one_numbers [] [] r s are_n are_m same stops_r stops_s e = (refl, e)
one_numbers [] (m ∷ ms) r s are_n are_m same stops_r stops_s e = absurd (omega (arith, same))
one_numbers (n ∷ ns) [] r s are_n are_m same stops_r stops_s e = absurd (omega (arith, same))
one_numbers (n ∷ ns) (m ∷ ms) r s are_n are_m same stops_r stops_s e =
    let both : 32 ∷ (decimal n ++ (numbers ns ++ r)) ≡ 32 ∷ (decimal m ++ (numbers ms ++ s)) = sym (numbers_cons n ns r) ∙ e ∙ numbers_cons m ms s in
    let tail : decimal n ++ (numbers ns ++ r) ≡ decimal m ++ (numbers ms ++ s) = cc in
    let number = one_number (decimal n ++ (numbers ns ++ r)) n m (numbers ns ++ r) (numbers ms ++ s) (omega (arith, are_n.0)) (omega (arith, are_m.0)) (record { spelled = refl; stops = numbers_stop ns r stops_r }) (record { spelled = tail; stops = numbers_stop ms s stops_s }) in
    let inner = one_numbers ns ms r s are_n.1 are_m.1 (omega (arith, same)) stops_r stops_s number.1 in
    (ap (λ x. x ∷ ns) number.0 ∙ ap (λ xs. m ∷ xs) inner.0, inner.1)

-- lists of so many numbers
pub one_of : (ns : List ℕ) → length ns ≡ 1 → ns ≡ get_or ns 0 0 ∷ []
one_of [] e = absurd (omega (arith, e))
one_of (a ∷ []) e = refl
one_of (a ∷ b ∷ ns) e = absurd (omega (arith, e))

pub two_of : (ns : List ℕ) → length ns ≡ 2 → ns ≡ get_or ns 0 0 ∷ get_or ns 1 0 ∷ []
two_of [] e = absurd (omega (arith, e))
two_of (a ∷ ns) e = ap (λ xs. a ∷ xs) (one_of ns (omega (arith, e)))

pub three_of : (ns : List ℕ) → length ns ≡ 3 → ns ≡ get_or ns 0 0 ∷ get_or ns 1 0 ∷ get_or ns 2 0 ∷ []
three_of [] e = absurd (omega (arith, e))
three_of (a ∷ ns) e = ap (λ xs. a ∷ xs) (two_of ns (omega (arith, e)))

pub four_of : (ns : List ℕ) → length ns ≡ 4 → ns ≡ get_or ns 0 0 ∷ get_or ns 1 0 ∷ get_or ns 2 0 ∷ get_or ns 3 0 ∷ []
four_of [] e = absurd (omega (arith, e))
four_of (a ∷ ns) e = ap (λ xs. a ∷ xs) (three_of ns (omega (arith, e)))

-- the numbers from a turn of the reader on

pub goes_on : (rest word next : List ℕ) (n i count : ℕ) (ms r : List ℕ) → i < count → rest ≡ 32 ∷ word → n < 2 ^ 64 → IsNumberAt word n next → length ms + i ≡ count → AllByRecursion IsNumber ms → EndsNumber r → rest ≡ numbers ms ++ r → (qs : List ℕ) × (length qs + (i + 1) ≡ count) × AllByRecursion IsNumber qs × (next ≡ numbers qs ++ r)
goes_on rest word next n i count [] r lt space small at size are stops e = absurd (omega (arith, size, lt))
goes_on rest word next n i count (m ∷ ms) r lt space small at size are stops e =
    let both : 32 ∷ word ≡ 32 ∷ (decimal m ++ (numbers ms ++ r)) = sym space ∙ e ∙ numbers_cons m ms r in
    let tail : word ≡ decimal m ++ (numbers ms ++ r) = cc in
    let number = one_number word n m next (numbers ms ++ r) small (omega (arith, are.0)) at (record { spelled = tail; stops = numbers_stop ms r stops }) in
    (ms, (omega (arith, size)), are.1, number.1)

pub no_space : (rest : List ℕ) (i count : ℕ) (ms r : List ℕ) → i < count → length ms + i ≡ count → rest ≡ numbers ms ++ r → ((word : List ℕ) → rest ≡ 32 ∷ word → ⊥) → ⊥
no_space rest i count [] r lt size e none = omega (arith, size, lt)
no_space rest i count (m ∷ ms) r lt size e none = none (decimal m ++ (numbers ms ++ r)) (e ∙ numbers_cons m ms r)

pub no_number : (rest word : List ℕ) (i count : ℕ) (ms r : List ℕ) → i < count → rest ≡ 32 ∷ word → length ms + i ≡ count → AllByRecursion IsNumber ms → EndsNumber r → rest ≡ numbers ms ++ r → ((n : ℕ) (next : List ℕ) → n ≤ 4294967295 → IsNumberAt word n next → ⊥) → ⊥
no_number rest word i count [] r lt space size are stops e none = omega (arith, size, lt)
no_number rest word i count (m ∷ ms) r lt space size are stops e none =
    let both : 32 ∷ word ≡ 32 ∷ (decimal m ++ (numbers ms ++ r)) = sym space ∙ e ∙ numbers_cons m ms r in
    let tail : word ≡ decimal m ++ (numbers ms ++ r) = cc in
    none m (numbers ms ++ r) (omega (arith, are.0)) (record { spelled = tail; stops = numbers_stop ms r stops })

-- a line of a word and numbers

pub worded_here : (bytes word ns ms rest : List ℕ) → IsWordedAt bytes word ns rest → ns ≡ ms → bytes ≡ (word ++ numbers ms) ++ 10 ∷ rest
worded_here bytes word ns ms rest at same = at.spelled ∙ ap (λ xs. word ++ (numbers xs ++ 10 ∷ rest)) same ∙ sym (append_assoc word (numbers ms) (10 ∷ rest))

pub worded_from : (bytes word ms rest : List ℕ) → AllByRecursion IsNumber ms → bytes ≡ (word ++ numbers ms) ++ 10 ∷ rest → IsWordedAt bytes word ms rest
worded_from bytes word ms rest are e = record { are = are; spelled = e ∙ append_assoc word (numbers ms) (10 ∷ rest) }

pub one_worded : (bytes word ns ms r s : List ℕ) → length ns ≡ length ms → IsWordedAt bytes word ns r → IsWordedAt bytes word ms s → (ns ≡ ms) × (r ≡ s)
one_worded bytes word ns ms r s same a b =
    let tails : numbers ns ++ 10 ∷ r ≡ numbers ms ++ 10 ∷ s = append_cancel_left word (numbers ns ++ 10 ∷ r) (numbers ms ++ 10 ∷ s) (sym a.spelled ∙ b.spelled) in
    let found = one_numbers ns ms (10 ∷ r) (10 ∷ s) a.are b.are same (line_stops r) (line_stops s) tails in
    let lines : 10 ∷ r ≡ 10 ∷ s = found.1 in
    (found.0, (cc))

-- what holds of an answer in each case
pub if_some : {A : Type 0} (P : Type 0) (Q R : A → Type 0) (o : Option A) → MatchOption o P Q → ((x : A) → Q x → R x) → IfSome o R
if_some P Q R None is so = tt
if_some P Q R (Some x) is so = so x is

pub if_none : {A : Type 0} (P : Type 0) (Q : A → Type 0) (R : Type 0) (o : Option A) → MatchOption o P Q → (P → R) → IfNone o R
if_none P Q R None is so = so is
if_none P Q R (Some x) is so = tt

pub some_of : {A : Type 0} (r : Option A) (x : A) (R : A → Type 0) → r ≡ Some x → R x → IfSome r R
some_of r x R e is = subst (λ o. IfSome o R) (sym e) is

pub none_of : {A : Type 0} (r : Option A) (R : Type 0) → r ≡ None → R → IfNone r R
none_of r R e is = subst (λ o. IfNone o R) (sym e) is

pub map_none : {A : Type 0} (P R : Type 0) (o : Option A) → IfNone o P → (P → R) → IfNone o R
map_none P R None is so = so is
map_none P R (Some x) is so = tt

pub map_some : {A : Type 0} (P R : A → Type 0) (o : Option A) → IfSome o P → ((x : A) → P x → R x) → IfSome o R
map_some P R None is so = tt
map_some P R (Some x) is so = so x is
