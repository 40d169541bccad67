-- Lines with numbers between words: taken apart, and that one at most stands at the front of bytes.
use Rattle.std.proofs.Common.{◌≡◌, ℕ, ◌<◌, ◌≤◌, ◌^◌, List, [], ◌∷◌, ◌++◌, refl, sym, ◌∙◌, ap, subst, inl, inr, arith, append_assoc}
use Rattle.std.proofs.lemmas.List.{append_cancel_left}
use Rattle.std.specs.Prelude.{codes, decimal, Option, Some, None, MatchOption, IfSome, IfNone}
use Rattle.bx_grid.specs.declared.ratio.Ratio.{Ratio}
use Rattle.bx_library.specs.declared.dot.Dot.{Dot}
use Rattle.bx_lines.specs.Decimals.{IsNumberAt}
use Rattle.bx_lines.specs.Lines.{ended}
use Rattle.bx_lines.proofs.Numbers.{one_number}
use Rattle.bx_siqad.specs.Texts.{ratio_line, dot_line}
use Rattle.bx_siqad.specs.Readings.{IsNumberBehind, IsRatioAt, IsDotAt}

-- a word and a number, and what is behind them
pub field_apart : (word number tail rest : List ℕ) → (word ++ (number ++ tail)) ++ rest ≡ word ++ (number ++ (tail ++ rest))
field_apart word number tail rest = append_assoc word (number ++ tail) rest ∙ ap (λ bs. word ++ bs) (append_assoc number tail rest)

one_field : (bytes word : List ℕ) (n m : ℕ) (x y : List ℕ) → n < 2 ^ 64 → m < 2 ^ 64 → IsNumberBehind bytes word n x → IsNumberBehind bytes word m y → (n ≡ m) × (x ≡ y)
one_field bytes word n m x y small_n small_m a b =
    let tails : decimal n ++ x ≡ decimal m ++ y = append_cancel_left word (decimal n ++ x) (decimal m ++ y) (sym a.spelled ∙ b.spelled) in
    let at_n : IsNumberAt (decimal n ++ x) n x = record { spelled = refl; stops = a.stops } in
    let at_m : IsNumberAt (decimal n ++ x) m y = record { spelled = tails; stops = b.stops } in
    one_number (decimal n ++ x) n m x y small_n small_m at_n at_m

-- ---- the line of a dot

abbrev pub before_n : List ℕ
before_n = codes "<dbdot><latcoord n=\""

abbrev pub before_m : List ℕ
before_m = codes "\" m=\""

abbrev pub before_l : List ℕ
before_l = codes "\" l=\""

abbrev pub after_l : List ℕ → List ℕ
after_l rest = codes "\"/></dbdot>\n" ++ rest

abbrev pub after_m : Dot → List ℕ → List ℕ
after_m d rest = before_l ++ (decimal d.l ++ after_l rest)

abbrev pub after_n : Dot → List ℕ → List ℕ
after_n d rest = before_m ++ (decimal d.m ++ after_m d rest)

pub dot_apart : (d : Dot) (rest : List ℕ) → ended (dot_line d) ++ rest ≡ before_n ++ (decimal d.n ++ after_n d rest)
dot_apart d rest =
    let end = codes "\"/></dbdot>" in
    let line = 10 ∷ rest in
    append_assoc (dot_line d) (10 ∷ []) rest
    ∙ field_apart before_n (decimal d.n) (before_m ++ (decimal d.m ++ (before_l ++ (decimal d.l ++ end)))) line
    ∙ ap (λ bs. before_n ++ (decimal d.n ++ bs)) (field_apart before_m (decimal d.m) (before_l ++ (decimal d.l ++ end)) line)
    ∙ ap (λ bs. before_n ++ (decimal d.n ++ (before_m ++ (decimal d.m ++ bs)))) (field_apart before_l (decimal d.l) end line)

pub n_behind : (bytes : List ℕ) (d : Dot) (rest : List ℕ) → IsDotAt bytes d rest → IsNumberBehind bytes before_n d.n (after_n d rest)
n_behind bytes d rest at = record { spelled = at.spelled ∙ dot_apart d rest; stops = inl (omega arith) }

pub m_behind : (d : Dot) (rest : List ℕ) → IsNumberBehind (after_n d rest) before_m d.m (after_m d rest)
m_behind d rest = record { spelled = refl; stops = inl (omega arith) }

pub l_behind : (d : Dot) (rest : List ℕ) → IsNumberBehind (after_m d rest) before_l d.l (after_l rest)
l_behind d rest = record { spelled = refl; stops = inl (omega arith) }

-- the numbers that were read are its own, one after another
pub same_n : (bytes : List ℕ) (n : ℕ) (x : List ℕ) (d : Dot) (rest : List ℕ) → n ≤ 99999 → IsNumberBehind bytes before_n n x → IsDotAt bytes d rest → (n ≡ d.n) × (x ≡ after_n d rest)
same_n bytes n x d rest small found at = one_field bytes before_n n d.n x (after_n d rest) (omega (arith, small)) (omega (arith, at.is.n)) found (n_behind bytes d rest at)

pub same_m : (bytes x y : List ℕ) (n m : ℕ) (d : Dot) (rest : List ℕ) → n ≤ 99999 → m ≤ 99999 → IsNumberBehind bytes before_n n x → IsNumberBehind x before_m m y → IsDotAt bytes d rest → (m ≡ d.m) × (y ≡ after_m d rest)
same_m bytes x y n m d rest small_n small_m found_n found_m at =
    let before = same_n bytes n x d rest small_n found_n at in
    one_field (after_n d rest) before_m m d.m y (after_m d rest) (omega (arith, small_m)) (omega (arith, at.is.m)) (subst (λ bs. IsNumberBehind bs before_m m y) before.1 found_m) (m_behind d rest)

pub same_l : (bytes x y z : List ℕ) (n m l : ℕ) (d : Dot) (rest : List ℕ) → n ≤ 99999 → m ≤ 99999 → l ≤ 1 → IsNumberBehind bytes before_n n x → IsNumberBehind x before_m m y → IsNumberBehind y before_l l z → IsDotAt bytes d rest → (l ≡ d.l) × (z ≡ after_l rest)
same_l bytes x y z n m l d rest small_n small_m small_l found_n found_m found_l at =
    let before = same_m bytes x y n m d rest small_n small_m found_n found_m at in
    one_field (after_m d rest) before_l l d.l z (after_l rest) (omega (arith, small_l)) (omega (arith, at.is.l)) (subst (λ bs. IsNumberBehind bs before_l l z) before.1 found_l) (l_behind d rest)

-- one dot at most
pub one_dot : (bytes : List ℕ) (d e : Dot) (r s : List ℕ) → IsDotAt bytes d r → IsDotAt bytes e s → (d ≡ e) × (r ≡ s)
one_dot bytes d e r s a b =
    let n = same_n bytes d.n (after_n d r) e s a.is.n (n_behind bytes d r a) b in
    let m = same_m bytes (after_n d r) (after_m d r) d.n d.m e s a.is.n a.is.m (n_behind bytes d r a) (m_behind d r) b in
    let l = same_l bytes (after_n d r) (after_m d r) (after_l r) d.n d.m d.l e s a.is.n a.is.m a.is.l (n_behind bytes d r a) (m_behind d r) (l_behind d r) b in
    (same_dot d e n.0 m.0 l.0, append_cancel_left (codes "\"/></dbdot>\n") r s l.1) where
      same_dot : (d e : Dot) → d.n ≡ e.n → d.m ≡ e.m → d.l ≡ e.l → d ≡ e
      same_dot d e n m l = ap (λ x. record d { n = x }) n ∙ ap (λ x. record { m = x; l = d.l; n = e.n }) m ∙ ap (λ x. record { m = e.m; l = x; n = e.n }) l

-- ---- the line of the sides

abbrev pub before_w : List ℕ
before_w = codes "<created_by>bestagon "

abbrev pub before_h : List ℕ
before_h = codes " "

abbrev pub after_h : List ℕ → List ℕ
after_h rest = codes "</created_by>\n" ++ rest

abbrev pub after_w : Ratio → List ℕ → List ℕ
after_w r rest = before_h ++ (decimal r.h ++ after_h rest)

pub ratio_apart : (r : Ratio) (rest : List ℕ) → ended (ratio_line r) ++ rest ≡ before_w ++ (decimal r.w ++ after_w r rest)
ratio_apart r rest =
    let end = codes "</created_by>" in
    let line = 10 ∷ rest in
    append_assoc (ratio_line r) (10 ∷ []) rest
    ∙ field_apart before_w (decimal r.w) (before_h ++ (decimal r.h ++ end)) line
    ∙ ap (λ bs. before_w ++ (decimal r.w ++ bs)) (field_apart before_h (decimal r.h) end line)

pub w_behind : (bytes : List ℕ) (r : Ratio) (rest : List ℕ) → IsRatioAt bytes r rest → IsNumberBehind bytes before_w r.w (after_w r rest)
w_behind bytes r rest at = record { spelled = at.spelled ∙ ratio_apart r rest; stops = inl (omega arith) }

pub h_behind : (r : Ratio) (rest : List ℕ) → IsNumberBehind (after_w r rest) before_h r.h (after_h rest)
h_behind r rest = record { spelled = refl; stops = inr (omega arith) }

pub same_w : (bytes : List ℕ) (w : ℕ) (x : List ℕ) (r : Ratio) (rest : List ℕ) → w ≤ 144 → IsNumberBehind bytes before_w w x → IsRatioAt bytes r rest → (w ≡ r.w) × (x ≡ after_w r rest)
same_w bytes w x r rest small found at = one_field bytes before_w w r.w x (after_w r rest) (omega (arith, small)) (omega (arith, at.is.width)) found (w_behind bytes r rest at)

pub same_h : (bytes x y : List ℕ) (w h : ℕ) (r : Ratio) (rest : List ℕ) → w ≤ 144 → h ≤ 144 → IsNumberBehind bytes before_w w x → IsNumberBehind x before_h h y → IsRatioAt bytes r rest → (h ≡ r.h) × (y ≡ after_h rest)
same_h bytes x y w h r rest small_w small_h found_w found_h at =
    let before = same_w bytes w x r rest small_w found_w at in
    one_field (after_w r rest) before_h h r.h y (after_h rest) (omega (arith, small_h)) (omega (arith, at.is.height)) (subst (λ bs. IsNumberBehind bs before_h h y) before.1 found_h) (h_behind r rest)

-- one pair of sides at most
pub one_ratio : (bytes : List ℕ) (p q : Ratio) (r s : List ℕ) → IsRatioAt bytes p r → IsRatioAt bytes q s → p ≡ q
one_ratio bytes p q r s a b =
    let w = same_w bytes p.w (after_w p r) q s a.is.width (w_behind bytes p r a) b in
    let h = same_h bytes (after_w p r) (after_h r) p.w p.h q s a.is.width a.is.height (w_behind bytes p r a) (h_behind p r) b in
    ap (λ x. record { w = x; h = p.h }) w.0 ∙ ap (λ x. record { w = q.w; h = x }) h.0

-- ---- what holds of an answer in each case

pub if_some : {A : Type 0} (P : Type 0) (Q R : A → Type 0) (o : Option A) → MatchOption o P Q → ((x : A) → Q x → R x) → IfSome o R
if_some P Q R None is so = tt
if_some P Q R (Some x) is so = so x is

pub if_none : {A : Type 0} (P : Type 0) (Q : A → Type 0) (R : Type 0) (o : Option A) → MatchOption o P Q → (P → R) → IfNone o R
if_none P Q R None is so = so is
if_none P Q R (Some x) is so = tt

pub map_none : {A : Type 0} (P R : Type 0) (o : Option A) → IfNone o P → (P → R) → IfNone o R
map_none P R None is so = so is
map_none P R (Some x) is so = tt
