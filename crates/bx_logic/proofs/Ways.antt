-- The way to the value of a net: each frame has looked at nets whose values are known, but for the
-- last, which is the net of the frame after it.
use Rattle.std.proofs.Common.{◌≡◌, ℕ, ◌+◌, ◌<◌, ◌≤◌, Bool, true, false, Option, Some, None, List, [], ◌∷◌, ◌++◌, length, get_or, set, drop, refl, sym, ◌∙◌, ap, subst, arith, inl, inr, ◌⊎◌}
use Rattle.std.specs.Prelude.{is_some, unwrap_or, if◌then◌else◌}
use Rattle.std.specs.List.{All, sum_by}
use Rattle.std.proofs.lemmas.Bool.{cases_eq}
use Rattle.std.proofs.lemmas.List.{append-nil, append_assoc, get_or-set_same, get_or-set_other}
use Rattle.std.proofs.lemmas.List.Sums.{sum_by-append, sum_by-cons, sum_by-drop_more}
use Rattle.std.proofs.lemmas.List.Elements.{All-from_get_or, recursion_from_All, Contains-get_or}
use Rattle.bx_logic.specs.declared.driver.Driver.{Driver}
use Rattle.bx_logic.specs.declared.eval.Frame.{Frame}
use Rattle.bx_logic.specs.Nets.{arguments_of, driver_at, IsAcyclic}
use Rattle.bx_logic.specs.Values.{value_of, driver_value, IsNetValuation}
use Rattle.bx_logic.specs.Known.{known_at, IsKnown, known_value, IsRight, KeepsKnown, frame_for}
use Rattle.bx_logic.specs.Cycles.{ReadsNetsOnly}
use Rattle.bx_logic.proofs.Lists.{all-weaker}
use Rattle.bx_logic.proofs.Valuations.{driver_value-local, cost, cost-is}

abbrev pub first_net : List Frame → Option ℕ
first_net [] = None
first_net (f ∷ fs) = Some f.net

-- its value is known, or the first of these frames is on the way to it
abbrev pub IsAwaited : List (Option Bool) → List Frame → ℕ → Type 0
IsAwaited known after n = IsKnown known n ⊎ (first_net after ≡ Some n)

pub record IsFrame (drivers : List Driver) (known : List (Option Bool)) (after : List Frame) (f : Frame) : Type 0 where
  pub within : f.net < length drivers
  pub looked : (k : ℕ) → k < f.next → k < length (arguments_of (driver_at drivers f.net)) →
      IsAwaited known after (get_or (arguments_of (driver_at drivers f.net)) k 0)

abbrev pub IsWay : List Driver → List (Option Bool) → List Frame → Type 0
IsWay drivers known [] = Unit {0}
IsWay drivers known (f ∷ fs) = IsFrame drivers known fs f × IsWay drivers known fs

-- where the last frame gives way to the value of its net, or to other frames for that net
pub awaited-end : (known later : List (Option Bool)) (fs gs : List Frame) (f : Frame) → KeepsKnown known later → IsAwaited later gs f.net →
    (n : ℕ) → IsAwaited known (fs ++ f ∷ []) n → IsAwaited later (fs ++ gs) n
awaited-end known later fs gs f keeps end n (inl k) = inl (keeps n k)
awaited-end known later [] gs f keeps end n (inr e) = let same : f.net ≡ n = cc in subst (λ (m : ℕ). IsAwaited later gs m) same end
awaited-end known later (g ∷ fs) gs f keeps end n (inr e) = inr e

way-end : (drivers : List Driver) (known later : List (Option Bool)) (fs gs : List Frame) (f : Frame) → KeepsKnown known later →
    IsAwaited later gs f.net → IsWay drivers later gs → IsWay drivers known (fs ++ f ∷ []) → IsWay drivers later (fs ++ gs)
way-end drivers known later [] gs f keeps end way h = way
way-end drivers known later (g ∷ fs) gs f keeps end way h = (
  record {
    within = h.0.within;
    looked = λ k l m. awaited-end known later fs gs f keeps end (get_or (arguments_of (driver_at drivers g.net)) k 0) (h.0.looked k l m);
  },
  way-end drivers known later fs gs f keeps end way h.1,
)

last_frame : (drivers : List Driver) (known : List (Option Bool)) (fs : List Frame) (f : Frame) → IsWay drivers known (fs ++ f ∷ []) →
    IsFrame drivers known [] f
last_frame drivers known [] f h = h.0
last_frame drivers known (g ∷ fs) f h = last_frame drivers known fs f h.1

known-alone : (known : List (Option Bool)) (n : ℕ) → IsAwaited known [] n → IsKnown known n
known-alone known n (inl k) = k
known-alone known n (inr e) = cc

pub last-within : (drivers : List Driver) (known : List (Option Bool)) (before rest : List Frame) (f : Frame) → before ≡ rest ++ f ∷ [] →
    IsWay drivers known before → f.net < length drivers
last-within drivers known before rest f is_before way =
    (last_frame drivers known rest f (subst (λ (gs : List Frame). IsWay drivers known gs) is_before way)).within

-- the last frame has looked at all that its net reads
pub all_known : (drivers : List Driver) (known : List (Option Bool)) (before rest : List Frame) (f : Frame) (args : List ℕ) → before ≡ rest ++ f ∷ [] →
    args ≡ arguments_of (driver_at drivers f.net) → length args ≤ f.next → IsWay drivers known before →
    All (IsKnown known) (arguments_of (driver_at drivers f.net))
all_known drivers known before rest f args is_before is_args l way =
    let reads = arguments_of (driver_at drivers f.net) in
    let all : length reads ≤ f.next = subst (λ (xs : List ℕ). length xs ≤ f.next) is_args l in
    let frame = last_frame drivers known rest f (subst (λ (gs : List Frame). IsWay drivers known gs) is_before way) in
    All-from_get_or (IsKnown known) reads 0 (λ i m. known-alone known (get_or reads i 0) (frame.looked i (omega arith) m))

awaited-by : (known : List (Option Bool)) (n : ℕ) (b : Bool) → is_some (known_at known n) ≡ b →
    IsAwaited known (if b then [] else record { net = n; next = 0 } ∷ []) n
awaited-by known n true e = inl e
awaited-by known n false e = inr refl

awaited-entered : (known : List (Option Bool)) (n : ℕ) → IsAwaited known (frame_for known n) n
awaited-entered known n = awaited-by known n (is_some (known_at known n)) refl

way-by : (drivers : List Driver) (known : List (Option Bool)) (n : ℕ) → n < length drivers → (b : Bool) →
    IsWay drivers known (if b then [] else record { net = n; next = 0 } ∷ [])
way-by drivers known n h true = tt
way-by drivers known n h false = (record { within = h; looked = λ k l m. absurd (omega arith) }, tt)

way-entered : (drivers : List Driver) (known : List (Option Bool)) (n : ℕ) → n < length drivers → IsWay drivers known (frame_for known n)
way-entered drivers known n h = way-by drivers known n h (is_some (known_at known n))

frame-advance : (drivers : List Driver) (known : List (Option Bool)) (n p : ℕ) → IsFrame drivers known [] (record { net = n; next = p }) →
    IsFrame drivers known (frame_for known (get_or (arguments_of (driver_at drivers n)) p 0)) (record { net = n; next = p + 1 })
frame-advance drivers known n p frame = record {
  within = frame.within;
  looked = λ k l m. elim (cases_eq k p) [
    | inl e ↦ subst (λ (j : ℕ). IsAwaited known (frame_for known (get_or (arguments_of (driver_at drivers n)) p 0)) (get_or (arguments_of (driver_at drivers n)) j 0))
        (sym e) (awaited-entered known (get_or (arguments_of (driver_at drivers n)) p 0))
    | inr ne ↦ inl (known-alone known (get_or (arguments_of (driver_at drivers n)) k 0) (frame.looked k (omega arith) m))
  ];
}

-- where the last frame looks at one net more
pub way-advance : (drivers : List Driver) (known : List (Option Bool)) (fs : List Frame) (n p : ℕ) →
    get_or (arguments_of (driver_at drivers n)) p 0 < length drivers → IsWay drivers known (fs ++ record { net = n; next = p } ∷ []) →
    IsWay drivers known (fs ++ record { net = n; next = p + 1 } ∷ frame_for known (get_or (arguments_of (driver_at drivers n)) p 0))
way-advance drivers known fs n p l h =
    way-end drivers known known fs (record { net = n; next = p + 1 } ∷ frame_for known (get_or (arguments_of (driver_at drivers n)) p 0))
    (record { net = n; next = p }) (λ m k. k) (inr refl) (
      frame-advance drivers known n p (last_frame drivers known fs (record { net = n; next = p }) h),
      way-entered drivers known (get_or (arguments_of (driver_at drivers n)) p 0) l,
    ) h

-- where the value of the last frame's net becomes known
pub way-finish : (drivers : List Driver) (known later : List (Option Bool)) (fs : List Frame) (f : Frame) → KeepsKnown known later →
    IsKnown later f.net → IsWay drivers known (fs ++ f ∷ []) → IsWay drivers later fs
way-finish drivers known later fs f keeps k h =
    subst (λ (gs : List Frame). IsWay drivers later gs) (append-nil fs) (way-end drivers known later fs [] f keeps (inl k) tt h)

pub known-set : (known : List (Option Bool)) (n : ℕ) (b : Bool) → n < length known → IsKnown (set known n (Some b)) n
known-set known n b h = ap is_some (get_or-set_same known n (Some b) None h)

pub keeps-set : (known : List (Option Bool)) (n : ℕ) (b : Bool) → n < length known → KeepsKnown known (set known n (Some b))
keeps-set known n b h m k =
    elim (cases_eq m n) [
      | inl e ↦ subst (λ (j : ℕ). IsKnown (set known n (Some b)) j) (sym e) (known-set known n b h)
      | inr ne ↦ subst (λ (o : Option Bool). is_some o ≡ true) (sym (get_or-set_other known n m (Some b) None ne)) k
    ]

same_values : (drivers : List Driver) (bits values : List Bool) (known : List (Option Bool)) (d : Driver) → All (IsKnown known) (arguments_of d) →
    IsRight drivers bits known → IsNetValuation drivers bits values → driver_value bits (known_value known) d ≡ driver_value bits (value_of values) d
same_values drivers bits values known d ks right valuation =
    driver_value-local bits (known_value known) (value_of values) d
    (all-weaker (IsKnown known) (λ m. known_value known m ≡ value_of values m) (λ m k. right values valuation m k)
    (arguments_of d) (recursion_from_All (IsKnown known) (arguments_of d) ks))

pub right-set : (drivers : List Driver) (bits : List Bool) (known : List (Option Bool)) (n : ℕ) (b : Bool) → n < length drivers → length known ≡ length drivers →
    All (IsKnown known) (arguments_of (driver_at drivers n)) → IsRight drivers bits known →
    b ≡ driver_value bits (known_value known) (driver_at drivers n) → IsRight drivers bits (set known n (Some b))
right-set drivers bits known n b h l ks right is values valuation m k =
    elim (cases_eq m n) [
      | inl e ↦ subst (λ (j : ℕ). known_value (set known n (Some b)) j ≡ value_of values j) (sym e)
          (ap (λ (o : Option Bool). unwrap_or o false) (get_or-set_same known n (Some b) None (omega arith))
          ∙ (is ∙ same_values drivers bits values known (driver_at drivers n) ks right valuation) ∙ sym (valuation.each n h))
      | inr ne ↦
          ap (λ (o : Option Bool). unwrap_or o false) (get_or-set_other known n m (Some b) None ne)
          ∙ right values valuation m (subst (λ (o : Option Bool). is_some o ≡ true) (get_or-set_other known n m (Some b) None ne) k)
    ]

-- how much is left to do
frame_cost : List Driver → Frame → ℕ
frame_cost drivers f = 1 + sum_by (cost drivers) (drop f.next (arguments_of (driver_at drivers f.net)))

pub way_cost : List Driver → List Frame → ℕ
way_cost drivers fs = sum_by (frame_cost drivers) fs

entered_cost-by : (drivers : List Driver) (n : ℕ) → IsAcyclic drivers → ReadsNetsOnly drivers → (b : Bool) →
    way_cost drivers (if b then [] else record { net = n; next = 0 } ∷ []) < cost drivers n
unfolding way_cost frame_cost
entered_cost-by drivers n acyclic within true = let e = cost-is drivers acyclic within n in omega (arith, e)
entered_cost-by drivers n acyclic within false = let e = cost-is drivers acyclic within n in omega (arith, e)

pub way_cost-advance : (drivers : List Driver) (known : List (Option Bool)) (fs : List Frame) (n p : ℕ) → IsAcyclic drivers → ReadsNetsOnly drivers →
    p < length (arguments_of (driver_at drivers n)) →
    way_cost drivers (fs ++ record { net = n; next = p + 1 } ∷ frame_for known (get_or (arguments_of (driver_at drivers n)) p 0))
    < way_cost drivers (fs ++ record { net = n; next = p } ∷ [])
unfolding way_cost frame_cost
way_cost-advance drivers known fs n p acyclic within h =
    let args = arguments_of (driver_at drivers n) in
    let entered = frame_for known (get_or args p 0) in
    let whole = sum_by-append (frame_cost drivers) fs (record { net = n; next = p + 1 } ∷ entered) in
    let head = sum_by-cons (frame_cost drivers) (record { net = n; next = p + 1 }) entered in
    let before = sum_by-append (frame_cost drivers) fs (record { net = n; next = p } ∷ []) in
    let first = sum_by-drop_more (cost drivers) args p 0 h in
    let less = entered_cost-by drivers (get_or args p 0) acyclic within (is_some (known_at known (get_or args p 0))) in
    omega (arith, whole, head, before, first, less)

pub way_cost-finish : (drivers : List Driver) (fs : List Frame) (f : Frame) → way_cost drivers fs < way_cost drivers (fs ++ f ∷ [])
unfolding way_cost frame_cost
way_cost-finish drivers fs f = let e = sum_by-append (frame_cost drivers) fs (f ∷ []) in omega (arith, e)

-- a step of the evaluation: it goes on to a way that is one, on which the first net is still awaited,
-- and has less left to do
pub record IsStep (drivers : List Driver) (later : List (Option Bool)) (before after : List Frame) (first : ℕ) : Type 0 where
  pub way : IsWay drivers later after
  pub awaited : IsAwaited later after first
  pub less : way_cost drivers after < way_cost drivers before

-- the last frame looks at one net more
pub step-advance : (drivers : List Driver) (known : List (Option Bool)) (before rest pushed after : List Frame) (f : Frame) (args : List ℕ) (a first : ℕ) →
    IsAcyclic drivers → ReadsNetsOnly drivers → before ≡ rest ++ f ∷ [] → args ≡ arguments_of (driver_at drivers f.net) →
    f.next < length args → a ≡ get_or args f.next 0 →
    pushed ≡ rest ++ record { net = f.net; next = f.next + 1 } ∷ [] → after ≡ pushed ++ frame_for known a →
    IsWay drivers known before → IsAwaited known before first → IsStep drivers known before after first
step-advance drivers known before rest pushed after f args a first acyclic within is_before is_args l is_a is_pushed is_after way awaited =
    let reads = arguments_of (driver_at drivers f.net) in
    let on = record { net = f.net; next = f.next + 1 } ∷ frame_for known (get_or reads f.next 0) in
    let less : f.next < length reads = subst (λ (xs : List ℕ). f.next < length xs) is_args l in
    let e : after ≡ rest ++ on =
    is_after
    ∙ (ap (λ (xs : List Frame). xs ++ frame_for known a) is_pushed ∙ append_assoc rest (record { net = f.net; next = f.next + 1 } ∷ []) (frame_for known a))
    ∙ ap (λ (m : ℕ). rest ++ record { net = f.net; next = f.next + 1 } ∷ frame_for known m) (is_a ∙ ap (λ (xs : List ℕ). get_or xs f.next 0) is_args) in
    record {
      way = subst (λ (gs : List Frame). IsWay drivers known gs) (sym e)
          (way-advance drivers known rest f.net f.next (within f.net (get_or reads f.next 0) (Contains-get_or reads f.next 0 less))
          (subst (λ (gs : List Frame). IsWay drivers known gs) is_before way));
      awaited = subst (λ (gs : List Frame). IsAwaited known gs first) (sym e)
          (awaited-end known known rest on f (λ m k. k) (inr refl) first (subst (λ (gs : List Frame). IsAwaited known gs first) is_before awaited));
      less = subst (λ (gs : List Frame). way_cost drivers gs < way_cost drivers before) (sym e)
          (subst (λ (gs : List Frame). way_cost drivers (rest ++ on) < way_cost drivers gs) (sym is_before)
          (way_cost-advance drivers known rest f.net f.next acyclic within less));
    }

pub step-less : (drivers : List Driver) (before rest : List Frame) (f : Frame) → before ≡ rest ++ f ∷ [] → way_cost drivers rest < way_cost drivers before
step-less drivers before rest f is_before =
    subst (λ (gs : List Frame). way_cost drivers rest < way_cost drivers gs) (sym is_before) (way_cost-finish drivers rest f)

-- the value of the last frame's net becomes known
pub step-finish : (drivers : List Driver) (known : List (Option Bool)) (before rest : List Frame) (f : Frame) (b : Bool) (first : ℕ) →
    before ≡ rest ++ f ∷ [] → f.net < length known →
    IsWay drivers known before → IsAwaited known before first → IsStep drivers (set known f.net (Some b)) before rest first
step-finish drivers known before rest f b first is_before l way awaited =
    let later = set known f.net (Some b) in
    let done : IsKnown later f.net = known-set known f.net b l in
    record {
      way = way-finish drivers known later rest f (keeps-set known f.net b l) done (subst (λ (gs : List Frame). IsWay drivers known gs) is_before way);
      awaited = subst (λ (gs : List Frame). IsAwaited later gs first) (append-nil rest)
          (awaited-end known later rest [] f (keeps-set known f.net b l) (inl done) first
          (subst (λ (gs : List Frame). IsAwaited known gs first) is_before awaited));
      less = step-less drivers before rest f is_before;
    }
