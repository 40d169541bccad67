-- The walk step by step: what the frames on the way still add to the order, and that the way ends.
use Rattle.std.proofs.Common.{◌≡◌, ℕ, zero, suc, ◌+◌, ◌<◌, ◌≤◌, Bool, true, false, if◌then◌else◌, List, [], ◌∷◌, ◌++◌, length, take, drop, get_or, refl, sym, ◌∙◌, ap, subst, arith, inl, inr}
use Rattle.std.specs.List.{All, AllByRecursion, fold, sum_by}
use Rattle.std.proofs.lemmas.Bool.{cases_Bool}
use Rattle.std.proofs.lemmas.List.{at_drop_more, at_drop_all, length-map, take_all}
use Rattle.std.proofs.lemmas.List.Elements.{All-from_recursion, All-get_or, All-same, All-push, All-nil, recursion_from_All}
use Rattle.std.proofs.lemmas.List.Sums.{sum_by-append, sum_by-drop_more}
use Rattle.bx_logic.specs.declared.driver.Driver.{Driver}
use Rattle.bx_logic.specs.Nets.{arguments_of, driver_at, IsAcyclic, Netlist, IsNet, output_nets}
use Rattle.bx_logic.specs.Cycles.{ReadsNetsOnly}
use Rattle.bx_logic.proofs.Acyclic.{IsShallow, shallow}
use Rattle.bx_logic.proofs.Valuations.{cost, cost-is}
use Rattle.bx_logic.proofs.Lists.{all-append, all-first, all-second, all-weaker}
use Rattle.bx_map.specs.declared.walk.Frame.{Frame}
use Rattle.bx_map.specs.Walks.{has, visit, walk}
use Rattle.bx_map.specs.Marks.{AreMarks, frame_for}
use Rattle.bx_map.proofs.Walking.{visit-is, visit-was, arguments-within, Ordered, none, more, walk-visits}

-- a net's depth doesn't matter where it is enough

abbrev pub Visit : Type 0
Visit = List ℕ → ℕ → List ℕ

abbrev Agree : Visit → Visit → ℕ → Type 0
Agree v w n = (done : List ℕ) → v done n ≡ w done n

fold-agree : (v w : Visit) (ns done : List ℕ) → AllByRecursion (Agree v w) ns → fold v done ns ≡ fold w done ns
fold-agree v w [] done a = refl
fold-agree v w (n ∷ ns) done a = fold-agree v w ns (v done n) a.1 ∙ ap (λ (xs : List ℕ). fold w xs ns) (a.0 done)

visit-deeper : (drivers : List Driver) (k n : ℕ) → IsShallow drivers k n → Agree (visit drivers k) (visit drivers (suc k)) n
unfolding IsShallow
visit-deeper drivers zero n s done = absurd s
visit-deeper drivers (suc k) n s done =
    let args : List ℕ = arguments_of (driver_at drivers n) in
    let same : fold (visit drivers k) done args ≡ fold (visit drivers (suc k)) done args =
    fold-agree (visit drivers k) (visit drivers (suc k)) args done
    (all-weaker (λ m. IsShallow drivers k m) (Agree (visit drivers k) (visit drivers (suc k))) (λ m t. visit-deeper drivers k m t) args s) in
    elim (cases_Bool (has done n)) [
      | inl was ↦ visit-was drivers k done n was ∙ sym (visit-was drivers (suc k) done n was)
      | inr new ↦ visit-is drivers k done n new ∙ (ap (λ (xs : List ℕ). xs ++ n ∷ []) same ∙ sym (visit-is drivers (suc k) done n new))
    ]

abbrev pub deep : List Driver → Visit
deep drivers = visit drivers (suc (length drivers))

abbrev pub reads_of : List Driver → ℕ → List ℕ
reads_of drivers n = arguments_of (driver_at drivers n)

visit-new : (drivers : List Driver) → IsAcyclic drivers → ReadsNetsOnly drivers → (done : List ℕ) (n : ℕ) → has done n ≡ false →
    deep drivers done n ≡ fold (deep drivers) done (reads_of drivers n) ++ n ∷ []
unfolding IsShallow
visit-new drivers acyclic within done n new =
    let N : ℕ = length drivers in
    visit-is drivers N done n new
    ∙ ap (λ (xs : List ℕ). xs ++ n ∷ [])
    (fold-agree (visit drivers N) (visit drivers (suc N)) (reads_of drivers n) done
    (all-weaker (λ m. IsShallow drivers N m) (Agree (visit drivers N) (visit drivers (suc N))) (λ m t. visit-deeper drivers N m t) (reads_of drivers n)
    (shallow drivers acyclic within n)))

-- the order once a frame is left, and once all are, the last one first

abbrev pub frame : ℕ → ℕ → Frame
frame n next = record { net = n; next = next }

abbrev pub after : List Driver → List ℕ → Frame → List ℕ
after drivers done f = fold (deep drivers) done (drop f.next (reads_of drivers f.net)) ++ f.net ∷ []

abbrev pub finish : List Driver → List ℕ → List Frame → List ℕ
finish drivers done [] = done
finish drivers done (f ∷ fs) = after drivers (finish drivers done fs) f

finish-append : (drivers : List Driver) (done : List ℕ) (fs gs : List Frame) → finish drivers done (fs ++ gs) ≡ finish drivers (finish drivers done gs) fs
finish-append drivers done [] gs = refl
finish-append drivers done (f ∷ fs) gs = ap (λ (xs : List ℕ). after drivers xs f) (finish-append drivers done fs gs)

-- what is left to do
frame_cost : List Driver → Frame → ℕ
frame_cost drivers f = 1 + sum_by (cost drivers) (drop f.next (reads_of drivers f.net))

pub way_cost : List Driver → List Frame → ℕ
way_cost drivers fs = sum_by (frame_cost drivers) fs

-- the frames are of nets, and lead from this order to that one
pub record IsWay (drivers : List Driver) (order end : List ℕ) (way : List Frame) : Type 0 where
  pub within : AllByRecursion (λ f. f.net < length drivers) way
  pub ends : finish drivers order way ≡ end

module _ (drivers : List Driver) (acyclic : IsAcyclic drivers) (reads : ReadsNetsOnly drivers) where
  entered-by : (order : List ℕ) (n : ℕ) (b : Bool) → has order n ≡ b → finish drivers order (if b then [] else frame n 0 ∷ []) ≡ deep drivers order n
  entered-by order n true h = sym (visit-was drivers (length drivers) order n h)
  entered-by order n false h = sym (visit-new drivers acyclic reads order n h)

  entered : (order : List ℕ) (left : List Bool) (n : ℕ) → n < length drivers → AreMarks (length drivers) order left →
      finish drivers order (frame_for left n) ≡ deep drivers order n
  entered order left n l h = entered-by order n (get_or left n false) (sym (h.each n l))

  entered-within : (n : ℕ) (b : Bool) → n < length drivers → AllByRecursion (λ (f : Frame). f.net < length drivers) (if b then [] else frame n 0 ∷ [])
  entered-within n true l = tt
  entered-within n false l = (l, tt)

  entered-cost : (n : ℕ) (b : Bool) → way_cost drivers (if b then [] else frame n 0 ∷ []) < cost drivers n
  unfolding way_cost frame_cost
  entered-cost n true = let e = cost-is drivers acyclic reads n in omega (arith, e)
  entered-cost n false = let e = cost-is drivers acyclic reads n in omega (arith, e)

  -- the way to a net begins
  pub way-begin : (order : List ℕ) (left : List Bool) (n : ℕ) (way : List Frame) → n < length drivers → AreMarks (length drivers) order left →
      way ≡ [] ++ frame_for left n → IsWay drivers order (deep drivers order n) way
  way-begin order left n way l h e =
      subst (IsWay drivers order (deep drivers order n)) (sym e)
      (record { within = entered-within n (get_or left n false) l; ends = entered order left n l h })

  pub last-within : (order end : List ℕ) (way rest : List Frame) (f : Frame) → way ≡ rest ++ f ∷ [] → IsWay drivers order end way → f.net < length drivers
  last-within order end way rest f e h =
      (all-second (λ g. g.net < length drivers) rest (f ∷ []) (subst (AllByRecursion (λ (g : Frame). g.net < length drivers)) e h.within)).0

  pub read-within : (args : List ℕ) (n p a : ℕ) → args ≡ reads_of drivers n → p < length args → a ≡ get_or args p 0 → a < length drivers
  read-within args n p a is_args l is_a =
      subst (λ (m : ℕ). m < length drivers) (sym is_a)
      (All-get_or (λ m. m < length drivers) args p 0 l
      (All-same (λ m. m < length drivers) args (reads_of drivers n) is_args (All-from_recursion (λ m. m < length drivers) (reads_of drivers n) (arguments-within drivers reads n))))

  one-further : (order : List ℕ) (n p : ℕ) → p < length (reads_of drivers n) →
      after drivers (deep drivers order (get_or (reads_of drivers n) p 0)) (frame n (p + 1)) ≡ after drivers order (frame n p)
  one-further order n p l =
      ap (λ (xs : List ℕ). xs ++ n ∷ []) (sym (at_drop_more (λ (xs : List ℕ). fold (deep drivers) order xs) (reads_of drivers n) p 0 l))

  read-ends : (order : List ℕ) (left : List Bool) (fs : List Frame) (n p : ℕ) → p < length (reads_of drivers n) →
      get_or (reads_of drivers n) p 0 < length drivers → AreMarks (length drivers) order left →
      finish drivers order ((fs ++ frame n (p + 1) ∷ []) ++ frame_for left (get_or (reads_of drivers n) p 0)) ≡ finish drivers order (fs ++ frame n p ∷ [])
  read-ends order left fs n p l within h =
      let a : ℕ = get_or (reads_of drivers n) p 0 in
      finish-append drivers order (fs ++ frame n (p + 1) ∷ []) (frame_for left a)
      ∙ (ap (λ (xs : List ℕ). finish drivers xs (fs ++ frame n (p + 1) ∷ [])) (entered order left a within h)
      ∙ (finish-append drivers (deep drivers order a) fs (frame n (p + 1) ∷ [])
      ∙ (ap (λ (xs : List ℕ). finish drivers xs fs) (one-further order n p l)
      ∙ sym (finish-append drivers order fs (frame n p ∷ [])))))

  read-cost : (left : List Bool) (fs : List Frame) (n p : ℕ) → p < length (reads_of drivers n) →
      way_cost drivers ((fs ++ frame n (p + 1) ∷ []) ++ frame_for left (get_or (reads_of drivers n) p 0)) < way_cost drivers (fs ++ frame n p ∷ [])
  unfolding way_cost frame_cost
  read-cost left fs n p l =
      let a : ℕ = get_or (reads_of drivers n) p 0 in
      let whole = sum_by-append (frame_cost drivers) (fs ++ frame n (p + 1) ∷ []) (frame_for left a) in
      let front = sum_by-append (frame_cost drivers) fs (frame n (p + 1) ∷ []) in
      let before = sum_by-append (frame_cost drivers) fs (frame n p ∷ []) in
      let first = sum_by-drop_more (cost drivers) (reads_of drivers n) p 0 l in
      let less = entered-cost a (get_or left a false) in
      omega (arith, whole, front, before, first, less)

  pub record IsStep (order end : List ℕ) (before later : List Frame) : Type 0 where
    pub way : IsWay drivers order end later
    pub less : way_cost drivers later < way_cost drivers before

  -- the last frame goes on to one argument more
  pub step-read : (order end : List ℕ) (left : List Bool) (before rest pushed later : List Frame) (f : Frame) (args : List ℕ) (a : ℕ) →
      before ≡ rest ++ f ∷ [] → args ≡ reads_of drivers f.net → f.next < length args → a ≡ get_or args f.next 0 → a < length drivers →
      pushed ≡ rest ++ frame f.net (f.next + 1) ∷ [] → later ≡ pushed ++ frame_for left a → AreMarks (length drivers) order left →
      IsWay drivers order end before → IsStep order end before later
  step-read order end left before rest pushed later f args a is_before is_args l is_a within is_pushed is_later marks h =
      let n : ℕ = f.net in
      let p : ℕ = f.next in
      let b : ℕ = get_or (reads_of drivers n) p 0 in
      let few : p < length (reads_of drivers n) = subst (λ (xs : List ℕ). p < length xs) is_args l in
      let same : a ≡ b = is_a ∙ ap (λ (xs : List ℕ). get_or xs p 0) is_args in
      let there : b < length drivers = subst (λ (m : ℕ). m < length drivers) same within in
      let is : later ≡ (rest ++ frame n (p + 1) ∷ []) ++ frame_for left b =
      is_later ∙ (ap (λ (fs : List Frame). fs ++ frame_for left a) is_pushed ∙ ap (λ (m : ℕ). (rest ++ frame n (p + 1) ∷ []) ++ frame_for left m) same) in
      let all = subst (AllByRecursion (λ (g : Frame). g.net < length drivers)) is_before h.within in
      record {
        way = subst (IsWay drivers order end) (sym is) (record {
          within = all-append (λ g. g.net < length drivers) (rest ++ frame n (p + 1) ∷ []) (frame_for left b)
              (all-append (λ g. g.net < length drivers) rest (frame n (p + 1) ∷ []) (all-first (λ g. g.net < length drivers) rest (f ∷ []) all)
              ((all-second (λ g. g.net < length drivers) rest (f ∷ []) all).0, tt))
              (entered-within b (get_or left b false) there);
          ends = read-ends order left rest n p few there marks ∙ (sym (ap (finish drivers order) is_before) ∙ h.ends);
        });
        less = subst (λ (fs : List Frame). way_cost drivers later < way_cost drivers fs) (sym is_before)
            (subst (λ (fs : List Frame). way_cost drivers fs < way_cost drivers (rest ++ f ∷ [])) (sym is) (read-cost left rest n p few));
      }

  -- the last frame is left
  pub step-leave : (order end next : List ℕ) (before rest : List Frame) (f : Frame) (args : List ℕ) →
      before ≡ rest ++ f ∷ [] → args ≡ reads_of drivers f.net → length args ≤ f.next → next ≡ order ++ f.net ∷ [] →
      IsWay drivers order end before → IsWay drivers next end rest
  step-leave order end next before rest f args is_before is_args l is_next h =
      let many : length (reads_of drivers f.net) ≤ f.next = subst (λ (xs : List ℕ). length xs ≤ f.next) is_args l in
      let last : after drivers order f ≡ order ++ f.net ∷ [] =
      ap (λ (xs : List ℕ). xs ++ f.net ∷ []) (at_drop_all (λ (xs : List ℕ). fold (deep drivers) order xs) (reads_of drivers f.net) f.next many) in
      subst (λ (xs : List ℕ). IsWay drivers xs end rest) (sym is_next)
      (record {
        within = all-first (λ g. g.net < length drivers) rest (f ∷ []) (subst (AllByRecursion (λ (g : Frame). g.net < length drivers)) is_before h.within);
        ends = ap (λ (xs : List ℕ). finish drivers xs rest) (sym last) ∙ (sym (finish-append drivers order rest (f ∷ [])) ∙ (sym (ap (finish drivers order) is_before) ∙ h.ends));
      })

  pub leave-less : (before rest : List Frame) (f : Frame) → before ≡ rest ++ f ∷ [] → way_cost drivers rest < way_cost drivers before
  unfolding way_cost frame_cost
  leave-less before rest f e =
      let many = sum_by-append (frame_cost drivers) rest (f ∷ []) in
      subst (λ (fs : List Frame). way_cost drivers rest < way_cost drivers fs) (sym e) (omega (arith, many))

pub enter-is : (left marks : List Bool) (before way next : List Frame) (n : ℕ) → next ≡ way ++ frame_for marks n → way ≡ before → marks ≡ left → next ≡ before ++ frame_for left n
enter-is left marks before way next n e f g = e ∙ (ap (λ (fs : List Frame). fs ++ frame_for marks n) f ∙ ap (λ (ms : List Bool). before ++ frame_for ms n) g)

pub walk-is : (net : Netlist) (order : List ℕ) (j : ℕ) → order ≡ fold (deep net.drivers) [] (take j (output_nets net)) → length net.outputs ≤ j → order ≡ walk net
unfolding walk
walk-is net order j e l =
    let many = length-map net.outputs (λ (output : List ℕ × ℕ). output.1) in
    e ∙ ap (λ (ns : List ℕ). fold (deep net.drivers) [] ns) (take_all j (output_nets net) (omega (arith, many)))

ordered-within : (drivers : List Driver) (order : List ℕ) → Ordered drivers order → All (λ n. n < length drivers) order
ordered-within drivers _ none = All-nil (λ n. n < length drivers)
ordered-within drivers _ (more done n l reads ordered) = All-push (λ m. m < length drivers) done n (ordered-within drivers done ordered) l

pub walk-within : (net : Netlist) (order : List ℕ) → IsNet net → order ≡ walk net → All (λ n. n < length net.drivers) order
walk-within net order h e =
    All-same (λ n. n < length net.drivers) order (walk net) e
    (ordered-within net.drivers (walk net) (walk-visits net h (recursion_from_All (λ n. n < length net.drivers) (output_nets net) h.outputs)).ordered)
