-- Reading a list of dots item by item.
use Rattle.std.proofs.Common.{◌≡◌, ℕ, suc, ◌+◌, ◌<◌, ◌≤◌, ◌⊎◌, inl, inr, List, [], ◌∷◌, ◌++◌, length, get_or, drop, map, add-one, Option, Some, None, option_map, refl, sym, ap, ◌∙◌, arith, drop-cons, append_assoc}
use Rattle.std.proofs.Math.ListN.{drop_of_length-le}
use Rattle.std.proofs.lemmas.List.{map-append, append-nil}
use Rattle.serde_json.specs.Data.{Data}
use Rattle.serde_json.specs.Find.{as_array}
use Rattle.serde_json.specs.View.{view, items_view}
use Rattle.serde_json.specs.declared.value.Value.{Value}
use Rattle.bx_library.specs.declared.dot.Dot.{Dot}
use Rattle.bx_library.specs.declared.values.Triple.{Triple}
use Rattle.bx_library.specs.Triples.{triple_dot}
use Rattle.bx_library.specs.Values.{dot_of_items, dot_of, dots_of_items}

not_three : (vs : List Value) → (length vs < 3) ⊎ (3 < length vs) → None ≡ dot_of_items (items_view vs)
not_three [] h = refl
not_three (a ∷ []) h = refl
not_three (a ∷ b ∷ []) h = refl
not_three (a ∷ b ∷ c ∷ []) h = absurd (elim h [ inl less ↦ omega arith | inr more ↦ omega arith ])
not_three (a ∷ b ∷ c ∷ d ∷ vs) h = refl

-- a list that has another length than three is no dot
pub no_dot : (value : Data) (vs : List Value) → as_array value ≡ Some (items_view vs) → (length vs < 3) ⊎ (3 < length vs) → None ≡ dot_of value
no_dot value vs e h = rw e (not_three vs h)

-- the list's dots are those so far and those of the items that are left
abbrev pub Goes : List Value → List Triple → ℕ → Type 0
Goes vs done i = dots_of_items (items_view vs) ≡ option_map (λ rest. map triple_dot done ++ rest) (dots_of_items (items_view (drop i vs)))

map_same : (o : Option (List Dot)) → o ≡ option_map (λ rest. [] ++ rest) o
map_same None = refl
map_same (Some x) = refl

pub goes_none : (vs : List Value) → Goes vs [] 0
goes_none vs = map_same (dots_of_items (items_view vs))

opened : (vs : List Value) (i : ℕ) (v : Value) → i < length vs → v ≡ get_or vs i v → drop i vs ≡ v ∷ drop (i + 1) vs
opened vs i v h e = rw (add-one, drop-cons vs i v) (ap (λ x. x ∷ drop (suc i) vs) (sym e))

joined : (done : List Triple) (t : Triple) (o : Option (List Dot))
    → option_map (λ rest. map triple_dot done ++ rest) (option_map (λ rest. triple_dot t ∷ rest) o) ≡ option_map (λ rest. map triple_dot (done ++ t ∷ []) ++ rest) o
joined done t None = refl
joined done t (Some rest) = rw map-append (ap Some (sym (append_assoc (map triple_dot done) (triple_dot t ∷ []) rest)))

pub goes_more : (vs : List Value) (done : List Triple) (i : ℕ) (v : Value) (t : Triple) → i < length vs → v ≡ get_or vs i v → dot_of (view v) ≡ Some (triple_dot t) → Goes vs done i → Goes vs (done ++ t ∷ []) (i + 1)
goes_more vs done i v t h e dot so_far =
    let at : dots_of_items (items_view (drop i vs)) ≡ option_map (λ rest. triple_dot t ∷ rest) (dots_of_items (items_view (drop (i + 1) vs))) =
    rw (opened vs i v h e, dot) refl in
    so_far ∙ ap (option_map (λ rest. map triple_dot done ++ rest)) at ∙ joined done t _

pub goes_wrong : (vs : List Value) (done : List Triple) (i : ℕ) (v : Value) → i < length vs → v ≡ get_or vs i v → dot_of (view v) ≡ None → Goes vs done i → None ≡ dots_of_items (items_view vs)
goes_wrong vs done i v h e dot so_far =
    let at : dots_of_items (items_view (drop i vs)) ≡ None = rw (opened vs i v h e, dot) refl in
    sym (so_far ∙ ap (option_map (λ rest. map triple_dot done ++ rest)) at)

pub goes_all : (vs : List Value) (done : List Triple) (i : ℕ) → length vs ≤ i → Goes vs done i → Some (map triple_dot done) ≡ dots_of_items (items_view vs)
goes_all vs done i h so_far =
    let none : drop i vs ≡ [] = drop_of_length-le vs h in
    sym (so_far ∙ ap (λ left. option_map (λ rest. map triple_dot done ++ rest) (dots_of_items (items_view left))) none ∙ ap Some (append-nil (map triple_dot done)))
