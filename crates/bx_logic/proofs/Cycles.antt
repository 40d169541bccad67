-- Walks over what a net depends on: what is met on the way, and how much is left to do.
use Rattle.std.proofs.Common.{◌≡◌, ℕ, zero, suc, ◌+◌, ◌<◌, ◌≤◌, Bool, true, false, List, [], ◌∷◌, ◌++◌, length, get_or, set, if◌then◌else◌, ◌⊎◌, inl, inr, refl, sym, ◌∙◌, ap, subst, arith, get_or-set_other, get_or-set_same, replicate}
use Rattle.std.specs.Prelude.{◌↔◌, IsTrue}
use Rattle.std.specs.List.{All, Contains}
use Rattle.std.proofs.lemmas.Bool.{cases_eq, cases_lt}
use Rattle.std.proofs.lemmas.List.Elements.{Contains-append_left, Contains-append_right, Contains-append_cases, Contains-push_cases, Contains-push, All-contains, All-same, All-weaker, All-contains_itself}
use Rattle.std.proofs.lemmas.List.{length-append, length-set, nil_from_length, length-replicate, get_or-replicate, get_or_default, get_or_past}
use Rattle.bx_logic.specs.declared.driver.Driver.{Driver}
use Rattle.bx_logic.specs.declared.driver.Driver.TheVariants.{Constant}
use Rattle.bx_logic.specs.Nets.{arguments_of, driver_at, Reads, DependsOn, directly, through}
use Rattle.bx_logic.specs.Cycles.{ReadsNetsOnly, NeverRises, FallsFrom}

pub depends-later : (drivers : List Driver) (n k m : ℕ) → DependsOn drivers n k → Reads drivers k m → DependsOn drivers n m
depends-later drivers _ _ m (directly n k r) l = through n k m r (directly k m l)
depends-later drivers _ _ m (through n j k r d) l = through n j m r (depends-later drivers j k m d l)

pub depends-within : (drivers : List Driver) → ReadsNetsOnly drivers → (n m : ℕ) → DependsOn drivers n m → m < length drivers
depends-within drivers within _ _ (directly n m r) = within n m r
depends-within drivers within _ _ (through n k m r d) = depends-within drivers within k m d

-- what is past the list reads nothing
pub reader-within : (drivers : List Driver) (n m : ℕ) → Reads drivers n m → n < length drivers
reader-within drivers n m r = elim (cases_lt n (length drivers)) [
  | inl h ↦ h
  | inr h ↦
      let none : Contains [] m =
      subst (λ (d : Driver). Contains (arguments_of d) m) (get_or_past drivers n (Constant false) h) r in
      let l : none.0 < 0 = none.1 in absurd (omega (arith, l))
]

abbrev pub IsSeen : List Bool → ℕ → Type 0
IsSeen seen n = get_or seen n false ≡ true

-- it was visited, or is to be
abbrev pub IsMet : List Bool → List ℕ → ℕ → Type 0
IsMet seen pending n = IsSeen seen n ⊎ Contains pending n

-- what a walk from a net keeps
pub record IsWalk (drivers : List Driver) (start : ℕ) (seen : List Bool) (pending : List ℕ) : Type 0 where
  pub whole : length seen ≡ length drivers
  pub depends_seen : (m : ℕ) → IsSeen seen m → DependsOn drivers start m
  pub depends_pending : (m : ℕ) → Contains pending m → DependsOn drivers start m
  pub first : (m : ℕ) → Reads drivers start m → IsMet seen pending m
  pub next : (n m : ℕ) → IsSeen seen n → Reads drivers n m → IsMet seen pending m

all_seen : (drivers : List Driver) (seen : List Bool) → ((n m : ℕ) → IsSeen seen n → Reads drivers n m → IsSeen seen m) →
    (n m : ℕ) → ((k : ℕ) → Reads drivers n k → IsSeen seen k) → DependsOn drivers n m → IsSeen seen m
all_seen drivers seen closed _ _ h (directly n m r) = h m r
all_seen drivers seen closed _ _ h (through n k m r d) = all_seen drivers seen closed k m (λ j l. closed k j (h k r) l) d

met-alone : (seen : List Bool) (n : ℕ) → IsMet seen [] n → IsSeen seen n
met-alone seen n (inl s) = s
met-alone seen n (inr c) = let l : c.0 < 0 = c.1 in absurd (omega (arith, l))

pub walk-end : (drivers : List Driver) (start : ℕ) (seen : List Bool) → IsWalk drivers start seen [] → (m : ℕ) → DependsOn drivers start m → IsSeen seen m
walk-end drivers start seen walk m d =
    all_seen drivers seen (λ n k s r. met-alone seen k (walk.next n k s r)) start m (λ k r. met-alone seen k (walk.first k r)) d

unseen-at : (l n : ℕ) → IsSeen (replicate l false) n → ⊥
unseen-at l n s = elim (cases_lt n l) [
  | inl h ↦ let e = get_or-replicate l n false false h in cc
  | inr h ↦ let e = get_or_past (replicate l false) n false (subst (λ (k : ℕ). k ≤ n) (sym (length-replicate l false)) h) in cc
]

pub walk-begin : (drivers : List Driver) (start : ℕ) (seen : List Bool) (pending : List ℕ) → pending ≡ arguments_of (driver_at drivers start) →
    seen ≡ replicate (length drivers) false → IsWalk drivers start seen pending
walk-begin drivers start seen pending is_pending is_seen =
    let none : (m : ℕ) → IsSeen seen m → ⊥ = λ m s. unseen-at (length drivers) m (subst (λ (xs : List Bool). IsSeen xs m) is_seen s) in
    record {
      whole = ap length is_seen ∙ length-replicate (length drivers) false;
      depends_seen = λ m s. absurd (none m s);
      depends_pending = λ m c. directly start m (subst (λ (xs : List ℕ). Contains xs m) is_pending c);
      first = λ m r. inr (subst (λ (xs : List ℕ). Contains xs m) (sym is_pending) r);
      next = λ n m s r. absurd (none n s);
    }

-- the last pending net was seen before
pub walk-again : (drivers : List Driver) (start : ℕ) (seen : List Bool) (pending rest : List ℕ) (n : ℕ) → pending ≡ rest ++ n ∷ [] →
    IsSeen seen n → IsWalk drivers start seen pending → IsWalk drivers start seen rest
walk-again drivers start seen pending rest n is_pending s walk =
    let met : (m : ℕ) → IsMet seen pending m → IsMet seen rest m = λ m h. elim h [
      | inl t ↦ inl t
      | inr c ↦ elim (Contains-push_cases rest n m (subst (λ (xs : List ℕ). Contains xs m) is_pending c)) [
        | inl d ↦ inr d
        | inr e ↦ inl (subst (λ (k : ℕ). IsSeen seen k) e s)
      ]
    ] in
    record {
      whole = walk.whole;
      depends_seen = walk.depends_seen;
      depends_pending = λ m c. walk.depends_pending m (subst (λ (xs : List ℕ). Contains xs m) (sym is_pending) (Contains-append_left rest (n ∷ []) m c));
      first = λ m r. met m (walk.first m r);
      next = λ k m t r. met m (walk.next k m t r);
    }

-- the last pending net is seen, and what it reads is pending
pub walk-on : (drivers : List Driver) (start : ℕ) (seen : List Bool) (pending rest after : List ℕ) (n : ℕ) → pending ≡ rest ++ n ∷ [] →
    after ≡ rest ++ arguments_of (driver_at drivers n) → n < length drivers → IsWalk drivers start seen pending → IsWalk drivers start (set seen n true) after
walk-on drivers start seen pending rest after n is_pending is_after l walk =
    let args = arguments_of (driver_at drivers n) in
    let depends : DependsOn drivers start n = walk.depends_pending n (subst (λ (xs : List ℕ). Contains xs n) (sym is_pending) (Contains-push rest n)) in
    let now : IsSeen (set seen n true) n = get_or-set_same seen n true false (subst (λ (k : ℕ). n < k) (sym walk.whole) l) in
    let keep : (m : ℕ) → IsSeen seen m → IsSeen (set seen n true) m = λ m s. elim (cases_eq m n) [
      | inl e ↦ subst (λ (k : ℕ). IsSeen (set seen n true) k) (sym e) now
      | inr ne ↦ get_or-set_other seen n m true false ne ∙ s
    ] in
    let back : (m : ℕ) → IsSeen (set seen n true) m → (m ≡ n) ⊎ IsSeen seen m = λ m s. elim (cases_eq m n) [
      | inl e ↦ inl e
      | inr ne ↦ inr (sym (get_or-set_other seen n m true false ne) ∙ s)
    ] in
    let read : (m : ℕ) → Contains args m → Contains after m =
    λ m c. subst (λ (xs : List ℕ). Contains xs m) (sym is_after) (Contains-append_right rest args m c) in
    let met : (m : ℕ) → IsMet seen pending m → IsMet (set seen n true) after m = λ m h. elim h [
      | inl t ↦ inl (keep m t)
      | inr c ↦ elim (Contains-push_cases rest n m (subst (λ (xs : List ℕ). Contains xs m) is_pending c)) [
        | inl d ↦ inr (subst (λ (xs : List ℕ). Contains xs m) (sym is_after) (Contains-append_left rest args m d))
        | inr e ↦ inl (subst (λ (k : ℕ). IsSeen (set seen n true) k) e now)
      ]
    ] in
    record {
      whole = length-set seen n true ∙ walk.whole;
      depends_seen = λ m s. elim (back m s) [
        | inl e ↦ subst (λ (k : ℕ). DependsOn drivers start k) (sym e) depends
        | inr t ↦ walk.depends_seen m t
      ];
      depends_pending = λ m c. elim (Contains-append_cases rest args m (subst (λ (xs : List ℕ). Contains xs m) is_after c)) [
        | inl d ↦ walk.depends_pending m (subst (λ (xs : List ℕ). Contains xs m) (sym is_pending) (Contains-append_left rest (n ∷ []) m d))
        | inr r ↦ depends-later drivers start n m depends r
      ];
      first = λ m r. met m (walk.first m r);
      next = λ k m s r. elim (back k s) [
        | inl e ↦ inr (read m (subst (λ (j : ℕ). Reads drivers j m) e r))
        | inr t ↦ met m (walk.next k m t r)
      ];
    }

-- how many nets are unseen, and how many arguments they have
pub unseen_cost : {X : Type 0} → (X → Bool) → List X → List Driver → ℕ
unseen_cost seen [] ds = 0
unseen_cost seen (x ∷ xs) [] = 0
unseen_cost seen (x ∷ xs) (d ∷ ds) = (if seen x then 0 else 1 + length (arguments_of d)) + unseen_cost seen xs ds

pub unseen_cost-falls : {X : Type 0} (seen : X → Bool) (xs : List X) (ds : List Driver) (n : ℕ) (x d : X) → n < length xs → n < length ds →
    seen (get_or xs n d) ≡ false → seen x ≡ true →
    unseen_cost seen (set xs n x) ds + (1 + length (arguments_of (driver_at ds n))) ≡ unseen_cost seen xs ds
unfolding unseen_cost
unseen_cost-falls seen [] ds n x d h l f t = absurd (omega arith)
unseen_cost-falls seen (y ∷ ys) [] n x d h l f t = absurd (omega arith)
unseen_cost-falls seen (y ∷ ys) (e ∷ ds) zero x d h l f t = rw (f, t) (omega arith)
unseen_cost-falls seen (y ∷ ys) (e ∷ ds) (suc n) x d h l f t =
    let i = unseen_cost-falls seen ys ds n x d (omega arith) (omega arith) f t in omega (arith, i)

pub last_pending-within : (drivers : List Driver) (start : ℕ) (seen : List Bool) (pending rest : List ℕ) (n : ℕ) → ReadsNetsOnly drivers →
    pending ≡ rest ++ n ∷ [] → IsWalk drivers start seen pending → n < length drivers
last_pending-within drivers start seen pending rest n within is_pending walk =
    depends-within drivers within start n (walk.depends_pending n (subst (λ (xs : List ℕ). Contains xs n) (sym is_pending) (Contains-push rest n)))

-- seeing the last pending net leaves less to do, with what it reads pending
pub walk-less : (drivers : List Driver) (seen : List Bool) (pending rest after : List ℕ) (n : ℕ) → pending ≡ rest ++ n ∷ [] →
    after ≡ rest ++ arguments_of (driver_at drivers n) → n < length seen → n < length drivers → get_or seen n false ≡ false →
    length after + unseen_cost (λ s. s) (set seen n true) drivers < length pending + unseen_cost (λ s. s) seen drivers
walk-less drivers seen pending rest after n is_pending is_after l h f =
    let less = unseen_cost-falls (λ s. s) seen drivers n true false l h f refl in
    rw (is_pending, is_after, length-append, length-append) (omega (arith, less))

pub read-at : (seen : List Bool) (n : ℕ) (b : Bool) → n < length seen → b ≡ get_or seen n b → get_or seen n false ≡ b
read-at seen n b h e = sym (e ∙ get_or_default seen n b false h)

-- at the end nothing is pending, and a net that the start depends on is seen
pub walk-answer : (drivers : List Driver) (start : ℕ) (seen : List Bool) (pending : List ℕ) (b : Bool) → start < length drivers →
    length pending ≡ 0 → b ≡ get_or seen start b → IsWalk drivers start seen pending → IsTrue b ↔ DependsOn drivers start start
walk-answer drivers start seen pending b h none is walk =
    let e = read-at seen start b (subst (λ (k : ℕ). start < k) (sym walk.whole) h) is in
    let done : IsWalk drivers start seen [] = subst (λ (xs : List ℕ). IsWalk drivers start seen xs) (nil_from_length pending none) walk in (
      λ t. walk.depends_seen start (e ∙ t),
      λ d. sym e ∙ walk-end drivers start seen done start d,
    )

pub each-read : (P : ℕ → Type 0) (drivers : List Driver) (n : ℕ) (args : List ℕ) → args ≡ arguments_of (driver_at drivers n) → All P args →
    (m : ℕ) → Reads drivers n m → P m
each-read P drivers n args e a m r = All-contains P args m a (subst (λ (xs : List ℕ). Contains xs m) (sym e) r)

pub all-read : (P : ℕ → Type 0) (drivers : List Driver) (n : ℕ) (args : List ℕ) → args ≡ arguments_of (driver_at drivers n) →
    ((m : ℕ) → Reads drivers n m → P m) → All P args
all-read P drivers n args e h =
    let reads = arguments_of (driver_at drivers n) in All-same P args reads e (All-weaker (Contains reads) P h reads (All-contains_itself reads))

never-above : (drivers : List Driver) (ranks : List ℕ) → NeverRises drivers ranks → (n m : ℕ) → DependsOn drivers n m → get_or ranks m 0 ≤ get_or ranks n 0
never-above drivers ranks never _ _ (directly n m r) = never n m r
never-above drivers ranks never _ _ (through n k m r d) = let a = never n k r in let b = never-above drivers ranks never k m d in omega (arith, a, b)

below : (drivers : List Driver) (ranks : List ℕ) → NeverRises drivers ranks → (n m : ℕ) → FallsFrom drivers ranks n → DependsOn drivers n m →
    get_or ranks m 0 < get_or ranks n 0
below drivers ranks never _ _ falls (directly n m r) = falls m r
below drivers ranks never _ _ falls (through n k m r d) = let a = falls k r in let b = never-above drivers ranks never k m d in omega (arith, a, b)

-- where no rank rises, a net that reads smaller ranks alone does not depend on itself
pub falls-acyclic : (drivers : List Driver) (ranks : List ℕ) → NeverRises drivers ranks → (n : ℕ) → FallsFrom drivers ranks n → DependsOn drivers n n → ⊥
falls-acyclic drivers ranks never n falls d = let h = below drivers ranks never n n falls d in omega (arith, h)

pub item-arguments : (drivers : List Driver) (n : ℕ) (d : Driver) (args : List ℕ) → n < length drivers → d ≡ get_or drivers n d → args ≡ arguments_of d →
    args ≡ arguments_of (driver_at drivers n)
item-arguments drivers n d args h is_d is_args = is_args ∙ ap arguments_of (is_d ∙ get_or_default drivers n d (Constant false) h)
