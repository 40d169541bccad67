-- The dots that are listed for a form, one after the other.
use Rattle.std.proofs.Common.{◌≡◌, ℕ, ◌+◌, ◌<◌, ◌≤◌, List, [], ◌∷◌, ◌++◌, length, get_or, take, map, Option, Some, None, refl, sym, ap, ◌∙◌, subst, arith}
use Rattle.std.proofs.lemmas.List.{get_or-take, length-take, length-map, take_more}
use Rattle.std.proofs.Math.ListN.{get_or-map}
use Rattle.std.proofs.lemmas.Option.{slice_get-get_or, slice_get_within, get_or_from_slice_get}
use Rattle.std.specs.List.{slice_get}
use Rattle.std.specs.Prelude.{All, Contains, IsSomeAnd}
use Rattle.bx_library.specs.declared.dot.Dot.{Dot}
use Rattle.bx_library.specs.declared.values.Triple.{Triple}
use Rattle.bx_library.specs.Faults.{IsOutsideAt, IsRepeatAt}
use Rattle.bx_library.specs.Tiles.{IsInside}
use Rattle.bx_library.specs.Triples.{triple_dot}

some_at : {X : Type 0} (o : Option X) (x : X) (P : X → Type 0) → o ≡ Some x → P x → IsSomeAnd o P
some_at o x P e h = rw e h

at_some : {X : Type 0} (o : Option X) (P : X → Type 0) → IsSomeAnd o P → (x : X) × (o ≡ Some x) × P x
at_some None P h = absurd h
at_some (Some x) P h = (x, refl, h)

-- where all dots lie inside, none is outside
pub none_outside : (w h : ℕ) (dots : List Dot) → All (IsInside w h) dots → (k : ℕ) → IsOutsideAt w h dots k → ⊥
none_outside w h dots all k outside =
    let (dot, e, never) = at_some (slice_get dots k) (λ dot. IsInside w h dot → ⊥) outside in
    never (subst (IsInside w h) (get_or_from_slice_get dots k dot dot e) (all k dot (slice_get_within dots k dot e)))

-- where those before k lie inside, none of them is outside
pub none_outside_before : (w h : ℕ) (dots : List Dot) (k : ℕ) → All (IsInside w h) (take k dots) → (j : ℕ) → j < k → IsOutsideAt w h dots j → ⊥
none_outside_before w h dots k all j below outside =
    let (dot, e, never) = at_some (slice_get dots j) (λ dot. IsInside w h dot → ⊥) outside in
    let within : j < length dots = slice_get_within dots j dot e in
    let in_front : j < length (take k dots) = rw length-take (omega arith) in
    never (subst (IsInside w h) (get_or-take k dots j dot below ∙ get_or_from_slice_get dots j dot dot e) (all j dot in_front))

-- the dots so far and one more
pub front_more : (ts : List Triple) (k : ℕ) (d : Triple) → k < length ts → take (k + 1) (map triple_dot ts) ≡ take k (map triple_dot ts) ++ triple_dot (get_or ts k d) ∷ []
front_more ts k d below =
    let within : k < length (map triple_dot ts) = rw length-map below in
    take_more (map triple_dot ts) k (triple_dot d) within ∙ ap (λ x. take k (map triple_dot ts) ++ x ∷ []) (get_or-map triple_dot ts k d)

-- the dot at k is one of those before it
pub repeat_at : (dots : List Dot) (k : ℕ) (d : Dot) → k < length dots → Contains (take k dots) (get_or dots k d) → IsRepeatAt dots k
repeat_at dots k d below among = some_at (slice_get dots k) (get_or dots k d) (Contains (take k dots)) (slice_get-get_or dots k d below) among

pub no_repeat_at : (dots : List Dot) (k : ℕ) (d : Dot) → (Contains (take k dots) (get_or dots k d) → ⊥) → IsRepeatAt dots k → ⊥
no_repeat_at dots k d never again =
    let (x, at, among) = at_some (slice_get dots k) (Contains (take k dots)) again in
    never (subst (Contains (take k dots)) (sym (get_or_from_slice_get dots k x d at)) among)

pub no_repeat_past : (dots : List Dot) (k : ℕ) → length dots ≤ k → IsRepeatAt dots k → ⊥
no_repeat_past dots k past again =
    let (x, at, among) = at_some (slice_get dots k) (Contains (take k dots)) again in
    let below : k < length dots = slice_get_within dots k x at in
    omega arith
