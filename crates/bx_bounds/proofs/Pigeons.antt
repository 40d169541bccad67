-- Counting by lists without repetition: where different numbers are sent to different ones, there are as many
-- of these, and a list without repetition is no longer than one that has all its numbers.
use Rattle.std.proofs.Common.{◌≡◌, ◌≢◌, ℕ, suc, ◌<◌, ◌≤◌, List, [], ◌∷◌, length, inl, inr, refl, sym, ap, ◌∙◌, subst, arith}
use Rattle.bx_logic.specs.Lists.{AreDistinct}
use Rattle.bx_logic.proofs.Members.{Member, Contains-from_member, Member-from_contains, AllByRecursion-from_member, member_of_AllByRecursion}
use Rattle.bx_bounds.specs.Numbers.{IsCount, AreMoreThan}

-- numbers that these are sent to: each of them to one at least, and different ones to different ones
pub record AreSent (R : ℕ → ℕ → Type 0) (xs : List ℕ) : Type 0 where
  pub images : List ℕ
  pub distinct : AreDistinct images
  pub from : (y : ℕ) → Member y images → (x : ℕ) × Member x xs × R x y
  pub to : (x : ℕ) → Member x xs → (y : ℕ) × Member y images × R x y
  pub size : length images ≡ length xs

sent-more : (R : ℕ → ℕ → Type 0) (x y : ℕ) (xs : List ℕ) → AreDistinct (x ∷ xs) → ((u v z : ℕ) → R u z → R v z → u ≡ v) → R x y → AreSent R xs → AreSent R (x ∷ xs)
sent-more R x y xs distinct apart r rest = record {
  images = y ∷ rest.images;
  distinct = (AllByRecursion-from_member (λ z. z ≢ y) rest.images new, rest.distinct);
  from = from;
  to = to;
  size = ap suc rest.size;
}
  where
    new : (z : ℕ) → Member z rest.images → z ≢ y
    new z m same =
        let (u, n, s) = rest.from z m in
        let away : u ≢ x = member_of_AllByRecursion (λ (v : ℕ). v ≢ x) u xs distinct.0 n in
        away (apart u x y (subst (R u) same s) r)

    from : (z : ℕ) → Member z (y ∷ rest.images) → (u : ℕ) × Member u (x ∷ xs) × R u z
    from z (inl same) = (x, inl refl, subst (R x) same r)
    from z (inr m) = let (u, n, s) = rest.from z m in (u, inr n, s)

    to : (u : ℕ) → Member u (x ∷ xs) → (z : ℕ) × Member z (y ∷ rest.images) × R u z
    to u (inl same) = (y, inl refl, subst (λ (v : ℕ). R v y) same r)
    to u (inr m) = let (z, n, s) = rest.to u m in (z, inr n, s)

pub sent : (R : ℕ → ℕ → Type 0) (xs : List ℕ) → AreDistinct xs → ((u v z : ℕ) → R u z → R v z → u ≡ v) → ((x : ℕ) → Member x xs → (y : ℕ) × R x y) → AreSent R xs
sent R [] distinct apart each = record { images = []; distinct = tt; from = λ y m. absurd m; to = λ x m. absurd m; size = refl }
sent R (x ∷ xs) distinct apart each =
    let (y, r) = each x (inl refl) in
    sent-more R x y xs distinct apart r (sent R xs distinct.1 apart (λ u m. each u (inr m)))

-- a list without one of its items
record IsWithout (x : ℕ) (ys : List ℕ) : Type 0 where
  rest : List ℕ
  size : length ys ≡ suc (length rest)
  keeps : (z : ℕ) → Member z ys → z ≢ x → Member z rest

without : (x : ℕ) (ys : List ℕ) → Member x ys → IsWithout x ys
without x [] m = absurd m
without x (y ∷ ys) (inl same) = record {
  rest = ys;
  size = refl;
  keeps = λ z m other. elim m [ inl e ↦ absurd (other (sym e ∙ same)) | inr n ↦ n ];
}
without x (y ∷ ys) (inr m) =
    let w = without x ys m in
    record {
      rest = y ∷ w.rest;
      size = ap suc w.size;
      keeps = λ z n other. elim n as (λ _. Member z (y ∷ w.rest)) [ inl e ↦ inl e | inr k ↦ inr (w.keeps z k other) ];
    }

pub fits : (xs ys : List ℕ) → AreDistinct xs → ((x : ℕ) → Member x xs → Member x ys) → length xs ≤ length ys
fits [] ys distinct among = omega arith
fits (x ∷ xs) ys distinct among =
    let w = without x ys (among x (inl refl)) in
    let size = w.size in
    let fewer = fits xs w.rest distinct.1 (λ z m. w.keeps z (among z (inr m)) (member_of_AllByRecursion (λ (v : ℕ). v ≢ x) z xs distinct.0 m)) in
    omega arith

-- ---- numbers of a sort

pub count-member : (P : ℕ → Type 0) (c : ℕ) (count : IsCount P c) (n : ℕ) → P n → Member n count.numbers
count-member P c count n p = Member-from_contains n count.numbers ((count.are n).0 p)

pub count-is : (P : ℕ → Type 0) (c : ℕ) (count : IsCount P c) (n : ℕ) → Member n count.numbers → P n
count-is P c count n m = (count.are n).1 (Contains-from_member n count.numbers m)

-- where numbers of a sort are sent to different ones of a list, there are no more of them
pub few-by : (P : ℕ → Type 0) (c : ℕ) (R : ℕ → ℕ → Type 0) (zs : List ℕ) → IsCount P c → ((u v z : ℕ) → R u z → R v z → u ≡ v) → ((n : ℕ) → P n → (z : ℕ) × R n z × Member z zs) → c ≤ length zs
few-by P c R zs count apart each =
    let S : ℕ → ℕ → Type 0 = λ n z. R n z × Member z zs in
    let all = sent S count.numbers count.distinct (λ u v z p q. apart u v z p.0 q.0) (λ n m. let (z, r, k) = each n (count-is P c count n m) in (z, (r, k))) in
    let size = all.size in
    let own = count.size in
    let few = fits all.images zs all.distinct (λ z m. let (n, k, s) = all.from z m in s.1) in
    omega arith

-- there is one count
pub count-once : (P : ℕ → Type 0) (c d : ℕ) → IsCount P c → IsCount P d → c ≡ d
count-once P c d one other =
    let low = fits one.numbers other.numbers one.distinct (λ n m. count-member P d other n (count-is P c one n m)) in
    let high = fits other.numbers one.numbers other.distinct (λ n m. count-member P c one n (count-is P d other n m)) in
    let a = one.size in
    let b = other.size in
    omega arith

-- so a count says whether there are more than so many
pub more-than : (P : ℕ → Type 0) (c most : ℕ) → IsCount P c → AreMoreThan most P → most < c
more-than P c most count (d, other, more) = let same = count-once P c d count other in omega arith
