-- A count that is kept while numbers are looked at one after the other.
use Rattle.std.proofs.Common.{◌≡◌, ◌≢◌, ℕ, ◌+◌, ◌<◌, ◌↔◌, Bool, true, false, [], ◌∷◌, Contains, inl, inr, refl, subst, IsTrue, nat_lt, arith}
use Rattle.std.proofs.lemmas.Bool.{cases_lt, ltb-true, lt-ltb}
use Rattle.bx_logic.proofs.Members.{Member, Contains-from_member, Member-from_contains, AllByRecursion-from_member}
use Rattle.bx_bounds.specs.Numbers.{IsCount, AreMoreThan, IsBelow}
use Rattle.bx_bounds.proofs.Pigeons.{count-member, count-is, more-than}

pub count-none : (P : ℕ → Type 0) → IsCount (IsBelow 0 P) 0
count-none P = record {
  numbers = [];
  distinct = tt;
  are = λ n. ((λ p. let low = p.0 in absurd (omega arith)), (λ m. let low = m.1 in absurd (omega arith)));
  size = refl;
}

pub count-yes : (P : ℕ → Type 0) (i c : ℕ) → P i → IsCount (IsBelow i P) c → IsCount (IsBelow (i + 1) P) (c + 1)
count-yes P i c p count = record {
  numbers = i ∷ count.numbers;
  distinct = (AllByRecursion-from_member (λ n. n ≢ i) count.numbers (λ n m same. let low = (count-is (IsBelow i P) c count n m).0 in omega arith), count.distinct);
  are = λ n. (in-list n, out-of n);
  size = let size = count.size in omega arith;
}
  where
    in-list : (n : ℕ) → IsBelow (i + 1) P n → Contains (i ∷ count.numbers) n
    in-list n (low, q) = Contains-from_member n (i ∷ count.numbers) (elim (cases_lt n i) [
      | inl less ↦ inr (count-member (IsBelow i P) c count n (less, q))
      | inr last ↦ inl (omega arith)
    ])

    member-of : (n : ℕ) → Member n (i ∷ count.numbers) → IsBelow (i + 1) P n
    member-of n (inl same) = (omega arith, subst P same p)
    member-of n (inr m) = let is = count-is (IsBelow i P) c count n m in (let low = is.0 in omega arith, is.1)

    out-of : (n : ℕ) → Contains (i ∷ count.numbers) n → IsBelow (i + 1) P n
    out-of n m = member-of n (Member-from_contains n (i ∷ count.numbers) m)

pub count-no : (P : ℕ → Type 0) (i c : ℕ) → (P i → ⊥) → IsCount (IsBelow i P) c → IsCount (IsBelow (i + 1) P) c
count-no P i c none count = record {
  numbers = count.numbers;
  distinct = count.distinct;
  are = λ n. ((λ p. (count.are n).0 (earlier n p)), (λ m. let is = (count.are n).1 m in (let low = is.0 in omega arith, is.1)));
  size = count.size;
}
  where
    earlier : (n : ℕ) → IsBelow (i + 1) P n → IsBelow i P n
    earlier n (low, q) = elim (cases_lt n i) [
      | inl less ↦ (less, q)
      | inr last ↦ (let same : n ≡ i = omega arith in absurd (none (subst P same q)))
    ]

-- as a test says
pub count-step : (P : ℕ → Type 0) (i c : ℕ) (b : Bool) → IsTrue b ↔ P i → IsCount (IsBelow i P) c → b ≡ true → IsCount (IsBelow (i + 1) P) (c + 1)
count-step P i c b says count e = count-yes P i c (says.0 e) count

pub count-stay : (P : ℕ → Type 0) (i c : ℕ) (b : Bool) → IsTrue b ↔ P i → IsCount (IsBelow i P) c → b ≡ false → IsCount (IsBelow (i + 1) P) c
count-stay P i c b says count e = count-no P i c (λ p. let yes = says.1 p in cc) count

-- all of them are below n
pub count-whole : (P : ℕ → Type 0) (n c : ℕ) → ((m : ℕ) → P m → m < n) → IsCount (IsBelow n P) c → IsCount P c
count-whole P n c low count = record {
  numbers = count.numbers;
  distinct = count.distinct;
  are = λ m. ((λ p. (count.are m).0 (low m p, p)), (λ h. ((count.are m).1 h).1));
  size = count.size;
}

-- whether there are more than so many, by a test
pub more-test : (P : ℕ → Type 0) (c most x y : ℕ) → IsCount P c → x ≡ most → y ≡ c → IsTrue (nat_lt x y) ↔ AreMoreThan most P
more-test P c most x y count same is = (
  (λ e. let less = ltb-true x y e in (c, count, omega arith)),
  (λ more. let less = more-than P c most count more in lt-ltb x y (omega arith)),
)
