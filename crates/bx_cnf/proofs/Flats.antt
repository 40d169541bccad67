-- Lists in one list of items: where each stands, and one more behind them.
use Rattle.std.proofs.Common.{◌≡◌, ℕ, suc, zero, ◌+◌, ◌-◌, ◌<◌, ◌≤◌, ◌^◌, List, [], ◌∷◌, ◌++◌, length, get_or, take, drop, Some, refl, sym, ap, ◌∙◌, subst, arith, length-append}
use Rattle.std.proofs.lemmas.List.{drop-append-le, take-append-le, length-drop, take_at, drop_at, append-nil, get_or_default, length-take-le, take-append-drop}
use Rattle.std.specs.Prelude.{slice_get, slice_range}
use Rattle.bx_cnf.specs.Flat.{lists_from, AreEnds, IsFlat}

pub length-lists_from : {X : Type 0} (start : ℕ) (ends : List ℕ) (items : List X) → length (lists_from start ends items) ≡ length ends
length-lists_from start [] items = refl
length-lists_from start (e ∷ es) items = ap suc (length-lists_from e es items)

-- list k begins where the one before ends, and the first at the start
pub list_at : {X : Type 0} (start : ℕ) (ends : List ℕ) (items : List X) (k : ℕ) → k < length ends → slice_get (lists_from start ends items) k ≡ Some (slice_range items (get_or (start ∷ ends) k 0) (get_or ends k 0))
list_at start [] items k h = absurd (omega arith)
list_at start (e ∷ es) items zero h = refl
list_at start (e ∷ es) items (suc k) h = list_at e es items k (omega arith)

start_le : (start last : ℕ) (ends : List ℕ) → AreEnds start ends last → start ≤ last
start_le start last [] h = omega arith
start_le start last (e ∷ es) h = let rest = start_le e last es h.1 in omega (arith, h.0, rest)

-- each list begins before its end, and ends within the items
pub bounds_at : (start last : ℕ) (ends : List ℕ) (k : ℕ) → AreEnds start ends last → k < length ends → (get_or (start ∷ ends) k 0 ≤ get_or ends k 0) × (get_or ends k 0 ≤ last)
bounds_at start last [] k h in_range = absurd (omega arith)
bounds_at start last (e ∷ es) zero h in_range = (h.0, start_le e last es h.1)
bounds_at start last (e ∷ es) (suc k) h in_range = bounds_at e last es k h.1 (omega arith)

pub ends_push : (start last end : ℕ) (ends : List ℕ) → AreEnds start ends last → last ≤ end → AreEnds start (ends ++ end ∷ []) end
ends_push start last end [] h le = (omega arith, refl)
ends_push start last end (e ∷ es) h le = (h.0, ends_push e last end es h.1 le)

-- a part of the items stays where more come behind them
range_stays : {X : Type 0} (items more : List X) (start end : ℕ) → start ≤ end → end ≤ length items → slice_range (items ++ more) start end ≡ slice_range items start end
range_stays items more start end up within =
    ap (take (end - start)) (drop-append-le start items more (omega arith))
    ∙ take-append-le (end - start) (drop start items) more (omega (arith, length-drop start items))

-- what comes behind the items is a part of them
range_more : {X : Type 0} (items more : List X) (start end : ℕ) → start ≡ length items → end ≡ length items + length more → slice_range (items ++ more) start end ≡ more
range_more items more start end at is =
    ap (take (end - start)) (drop_at items more start (sym at)) ∙ ap (take (end - start)) (sym (append-nil more)) ∙ take_at more [] (end - start) (omega arith)

pub lists_push : {X : Type 0} (start end : ℕ) (ends : List ℕ) (items more : List X) → AreEnds start ends (length items) → end ≡ length items + length more → lists_from start (ends ++ end ∷ []) (items ++ more) ≡ lists_from start ends items ++ more ∷ []
lists_push start end [] items more h is = ap (λ part. part ∷ []) (range_more items more start end h is)
lists_push start end (e ∷ es) items more h is =
    ap (λ part. part ∷ lists_from e (es ++ end ∷ []) (items ++ more)) (range_stays items more start e h.0 (start_le e (length items) es h.1))
    ∙ ap (λ rest. slice_range items start e ∷ rest) (lists_push e end es items more h.1 is)

pub sized : {X : Type 0} (lists : List (List X)) (ends : List ℕ) (items : List X) → lists_from 0 ends items ≡ lists → length ends ≡ length lists
sized lists ends items is = sym (length-lists_from 0 ends items) ∙ ap length is

-- what a read of list k finds between its start and its end
pub list_read : {X : Type 0} (lists : List (List X)) (ends : List ℕ) (items : List X) (k start end : ℕ) → lists_from 0 ends items ≡ lists → IsFlat ends (length items) → k < length lists → start ≡ get_or (0 ∷ ends) k 0 → end ≡ get_or ends k end → (start ≤ end) × (end ≤ length items) × (slice_get lists k ≡ Some (slice_range items start end))
list_read lists ends items k start end is flat in_range starts ends_at =
    let within : k < length ends = omega (arith, sized lists ends items is) in
    let stop : end ≡ get_or ends k 0 = ends_at ∙ get_or_default ends k end 0 within in
    let bounds : (start ≤ end) × (end ≤ length items) = rw (starts, stop) (bounds_at 0 (length items) ends k flat.ascend within) in
    (bounds.0, bounds.1, ap (λ lists. slice_get lists k) (sym is) ∙ list_at 0 ends items k within ∙ ap (λ a. Some (slice_range items a (get_or ends k 0))) (sym starts) ∙ ap (λ b. Some (slice_range items start b)) (sym stop))

-- what a push leaves
pub list_pushed : {X : Type 0} (lists : List (List X)) (old_ends ends : List ℕ) (old_items items more : List X) (end : ℕ) → lists_from 0 old_ends old_items ≡ lists → IsFlat old_ends (length old_items) → items ≡ old_items ++ more → ends ≡ old_ends ++ end ∷ [] → end ≡ length items → end < 2 ^ 32 → IsFlat ends (length items) × (lists_from 0 ends items ≡ lists ++ more ∷ [])
list_pushed lists old_ends ends old_items items more end is flat grown ended stop small =
    let size : length items ≡ length old_items + length more = ap length grown ∙ length-append old_items more in
    let ascend : AreEnds 0 (old_ends ++ end ∷ []) end = ends_push 0 (length old_items) end old_ends flat.ascend (omega arith) in
    let is_flat : IsFlat ends (length items) = record { ascend = rw (ended, ← stop) ascend; small = omega arith } in
    (is_flat, ap (λ ends. lists_from 0 ends items) ended ∙ ap (lists_from 0 (old_ends ++ end ∷ [])) grown ∙ lists_push 0 end old_ends old_items more flat.ascend (stop ∙ size) ∙ ap (λ lists. lists ++ more ∷ []) is)

-- the place at which a later list begins is behind the start
later : (start last : ℕ) (ends : List ℕ) (k : ℕ) → AreEnds start ends last → k ≤ length ends → (start ≤ get_or (start ∷ ends) k 0) × (get_or (start ∷ ends) k 0 ≤ last)
later start last ends zero h le = (omega arith, start_le start last ends h)
later start last [] (suc k) h le = absurd (omega arith)
later start last (e ∷ es) (suc k) h le = let rest = later e last es k h.1 (omega arith) in (omega (arith, h.0, rest.0), rest.1)

ends_take : (start last : ℕ) (ends : List ℕ) (k : ℕ) → AreEnds start ends last → k ≤ length ends → AreEnds start (take k ends) (get_or (start ∷ ends) k 0)
ends_take start last ends zero h le = refl
ends_take start last [] (suc k) h le = absurd (omega arith)
ends_take start last (e ∷ es) (suc k) h le = (h.0, ends_take e last es k h.1 (omega arith))

-- a part of the items stays where those behind a place are taken off
range_kept : {X : Type 0} (items : List X) (start end p : ℕ) → start ≤ end → end ≤ p → p ≤ length items → slice_range (take p items) start end ≡ slice_range items start end
range_kept items start end p up within le =
    let size : length (take p items) ≡ p = length-take-le p items le in
    sym (range_stays (take p items) (drop p items) start end up (omega arith)) ∙ ap (λ xs. slice_range xs start end) (take-append-drop p items)

-- the lists that are left where some are taken off
lists_take : {X : Type 0} (start : ℕ) (ends : List ℕ) (items : List X) (k : ℕ) → AreEnds start ends (length items) → k ≤ length ends → lists_from start (take k ends) (take (get_or (start ∷ ends) k 0) items) ≡ take k (lists_from start ends items)
lists_take start ends items zero h le = refl
lists_take start [] items (suc k) h le = absurd (omega arith)
lists_take start (e ∷ es) items (suc k) h le =
    let p : ℕ = get_or (e ∷ es) k 0 in
    let behind = later e (length items) es k h.1 (omega arith) in
    ap (λ part. part ∷ lists_from e (take k es) (take p items)) (range_kept items start e p h.0 behind.0 behind.1)
    ∙ ap (λ rest. slice_range items start e ∷ rest) (lists_take e es items k h.1 (omega arith))

-- what taking the last list off leaves
pub list_popped : {X : Type 0} (lists : List (List X)) (old_ends ends : List ℕ) (old_items items : List X) (k start : ℕ) → lists_from 0 old_ends old_items ≡ lists → IsFlat old_ends (length old_items) → k ≤ length old_ends → start ≡ get_or (0 ∷ old_ends) k 0 → ends ≡ take k old_ends → items ≡ take start old_items → IsFlat ends (length items) × (lists_from 0 ends items ≡ take k lists)
list_popped lists old_ends ends old_items items k start is flat le starts kept left =
    let behind = later 0 (length old_items) old_ends k flat.ascend le in
    let within : start ≤ length old_items = omega (arith, behind.1) in
    let size : length items ≡ start = ap length left ∙ length-take-le start old_items within in
    let ascend : AreEnds 0 (take k old_ends) start = subst (AreEnds 0 (take k old_ends)) (sym starts) (ends_take 0 (length old_items) old_ends k flat.ascend le) in
    let is_flat : IsFlat ends (length items) = record { ascend = rw (kept, size) ascend; small = omega (arith, flat.small) } in
    (is_flat, ap (λ ends. lists_from 0 ends items) kept ∙ ap (lists_from 0 (take k old_ends)) left ∙ ap (λ n. lists_from 0 (take k old_ends) (take n old_items)) starts ∙ lists_take 0 old_ends old_items k flat.ascend le ∙ ap (take k) is)
