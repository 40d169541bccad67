-- Variables that move to the front one after the other.
use Rattle.std.proofs.Common.{◌≡◌, ℕ, ◌+◌, ◌<◌, List, [], ◌∷◌, ◌++◌, length, get_or, take, refl, sym, ◌∙◌, ap}
use Rattle.std.specs.Prelude.{Bool}
use Rattle.std.proofs.lemmas.List.{take_more}
use Rattle.bx_logic.proofs.Members.{Member}
use Rattle.std.proofs.Common.{inl, inr}
use Rattle.bx_cnf.specs.Literals.{Literal}
use Rattle.bx_queue.specs.Queue.{IsQueue, IsVariable, moved_to_front}
use Rattle.bx_queue.proofs.Orders.{IsQueue-moved}
use Rattle.bx_search.specs.Searching.{moved_in_turn}

moved-push : (ls : List Literal) (l : Literal) (order : List ℕ) → moved_in_turn (ls ++ l ∷ []) order ≡ moved_to_front l.var (moved_in_turn ls order)
moved-push [] l order = refl
moved-push (m ∷ ls) l order = moved-push ls l (moved_to_front m.var order)

-- one literal more
pub moved-more : (ls : List Literal) (i : ℕ) (l : Literal) (order : List ℕ) → i < length ls → l ≡ get_or ls i l → moved_in_turn (take (i + 1) ls) order ≡ moved_to_front l.var (moved_in_turn (take i ls) order)
moved-more ls i l order below is =
    ap (λ xs. moved_in_turn xs order) (take_more ls i l below ∙ ap (λ (x : Literal). take i ls ++ x ∷ []) (sym is)) ∙ moved-push (take i ls) l order

pub queue-moved : (ls : List Literal) (order : List ℕ) (taken : List Bool) → ((l : Literal) → Member l ls → IsVariable (length taken) l.var)
    → IsQueue (record { order = order; taken = taken }) → IsQueue (record { order = moved_in_turn ls order; taken = taken })
queue-moved [] order taken within is = is
queue-moved (l ∷ ls) order taken within is =
    queue-moved ls (moved_to_front l.var order) taken (λ m h. within m (inr h)) (IsQueue-moved l.var order taken (within l (inl refl)) is)
