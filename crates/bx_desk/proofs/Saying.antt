-- Texts put out one after another through one piece.
use Rattle.std.proofs.Common.{◌≡◌, ℕ, ◌+◌, ◌<◌, length, take, get_or, List, [], ◌++◌, Result, Ok, Err, sym, ◌∙◌, ap, subst, refl, append_assoc}
use Rattle.std.proofs.lemmas.List.{append-nil}
use Rattle.std.specs.Result.{IsErr}
use Rattle.std.specs.List.{flat_map}
use Rattle.bx_desk.specs.Desk.{DeskState, CanPut, PutsFront}
use Rattle.bx_desk.specs.Pieces.{pending, target_of, PutsUpTo, HandsOn, PutsOut}
use Rattle.bx_desk.specs.declared.desk.Failed.{Failed}
use Rattle.bx_desk.specs.declared.piece.Piece.{Piece}
use Rattle.bx_desk.specs.declared.target.Target.{Target}
use Rattle.bx_desk.proofs.Put.{puts_nothing, puts-puts, puts_front}
use Rattle.bx_desk.proofs.Joined.{joined_more, joined_at}

-- all but a rest was put, and then all but another rest of this rest and a text
up_then : (target : Target) (s0 s1 s2 : DeskState) (t p1 w p2 : List ℕ) → PutsUpTo target s0 s1 t p1 → PutsUpTo target s1 s2 (p1 ++ w) p2 → PutsUpTo target s0 s2 (t ++ w) p2
up_then target s0 s1 s2 t p1 w p2 a b = record {
  done = a.done ++ b.done;
  split = append_assoc a.done b.done p2 ∙ ap (λ xs. a.done ++ xs) b.split ∙ sym (append_assoc a.done p1 w) ∙ ap (λ xs. xs ++ w) a.split;
  puts = puts-puts target s0 s1 s2 a.done b.done a.puts b.puts;
}

-- all but a rest was put, and then a front of this rest and a text
front_then : (target : Target) (s0 s1 s2 : DeskState) (t p1 w : List ℕ) → PutsUpTo target s0 s1 t p1 → PutsFront target s1 s2 (p1 ++ w) → PutsFront target s0 s2 (t ++ w)
front_then target s0 s1 s2 t p1 w a b =
    let up : PutsUpTo target s0 s1 (t ++ w) ((p1 ++ w) ++ []) = record {
      done = a.done;
      split = ap (λ xs. a.done ++ xs) (append-nil (p1 ++ w)) ∙ sym (append_assoc a.done p1 w) ∙ ap (λ xs. xs ++ w) a.split;
      puts = a.puts;
    } in
    puts_front target target refl s0 s1 s2 (t ++ w) (p1 ++ w) [] up b

front_more : (target : Target) (s0 s1 : DeskState) (t w : List ℕ) → PutsFront target s0 s1 t → PutsFront target s0 s1 (t ++ w)
front_more target s0 s1 t w a = record {
  front = a.front;
  rest = a.rest ++ w;
  split = sym (append_assoc a.front a.rest w) ∙ ap (λ xs. xs ++ w) a.split;
  kept = a.kept;
  rose = a.rose;
  no_fall = a.no_fall;
}

-- an empty text, and no call
pub says_nothing : {T : Type 0} (desk : DeskState) (u : T) (p : Piece) → CanPut (target_of p) desk → PutsOut desk desk (Ok u) p p []
says_nothing desk u p can = record {
  hands_on = record { done = []; split = sym (append-nil (pending p)); puts = puts_nothing (target_of p) desk };
  target_stays = refl;
  can = can;
}

-- a text that was put out, and then a text that was put out or not
pub says_then : {S T : Type 0} (old mid new : DeskState) (first : Result S Failed) (u : S) (second : Result T Failed) (p0 p1 p2 : Piece) (t w : List ℕ) → first ≡ Ok u → PutsOut old mid first p0 p1 t → PutsOut mid new second p1 p2 w → PutsOut old new second p0 p2 (t ++ w)
says_then {S} {T} old mid new first u second p0 p1 p2 t w ok a b =
    let up : PutsUpTo (target_of p0) old mid (pending p0 ++ t) (pending p1) = subst (λ (r : Result S Failed). HandsOn r (target_of p0) old mid (pending p0 ++ t) (pending p1)) ok a.hands_on in
    record {
      hands_on = by_result second (subst (λ (x : Target). HandsOn second x mid new (pending p1 ++ w) (pending p2)) a.target_stays b.hands_on) up;
      target_stays = b.target_stays ∙ a.target_stays;
      can = b.can;
    }
  where
    by_result : (r : Result T Failed) → HandsOn r (target_of p0) mid new (pending p1 ++ w) (pending p2) → PutsUpTo (target_of p0) old mid (pending p0 ++ t) (pending p1) → HandsOn r (target_of p0) old new (pending p0 ++ (t ++ w)) (pending p2)
    by_result (Ok v) h up = subst (λ (xs : List ℕ). PutsUpTo (target_of p0) old new xs (pending p2)) (append_assoc (pending p0) t w) (up_then (target_of p0) old mid new (pending p0 ++ t) (pending p1) w (pending p2) up h)
    by_result (Err e) h up = subst (λ (xs : List ℕ). PutsFront (target_of p0) old new xs) (append_assoc (pending p0) t w) (front_then (target_of p0) old mid new (pending p0 ++ t) (pending p1) w up h)

-- a text that was not put out, and so neither what was to follow
pub says_failed : {S T : Type 0} (old new : DeskState) (first : Result S Failed) (e : Failed) (result : Result T Failed) (p0 p1 : Piece) (t w : List ℕ) → first ≡ Err e → IsErr result → PutsOut old new first p0 p1 t → PutsOut old new result p0 p1 (t ++ w)
says_failed {S} {T} old new first e (Ok v) p0 p1 t w err is a = cc
says_failed {S} {T} old new first e (Err d) p0 p1 t w err is a = record {
  hands_on = subst (λ (xs : List ℕ). PutsFront (target_of p0) old new xs) (append_assoc (pending p0) t w) (front_more (target_of p0) old new (pending p0 ++ t) w (subst (λ (r : Result S Failed). HandsOn r (target_of p0) old new (pending p0 ++ t) (pending p1)) err a.hands_on));
  target_stays = a.target_stays;
  can = a.can;
}

-- a turn of a loop that puts a text out for each element
pub says_turn : {X : Type 0} (old mid new : DeskState) (r : Result (Unit {0}) Failed) (p0 p1 p2 : Piece) (f : X → List ℕ) (xs : List X) (i : ℕ) (d : X) → i < length xs → r ≡ Ok tt → PutsOut {T = Unit {0}} old mid (Ok tt) p0 p1 (flat_map f (take i xs)) → PutsOut mid new r p1 p2 (f (get_or xs i d)) → PutsOut {T = Unit {0}} old new (Ok tt) p0 p2 (flat_map f (take (i + 1) xs))
says_turn old mid new r p0 p1 p2 f xs i d h ok before turn =
    let at_ok : PutsOut {T = Unit {0}} mid new (Ok tt) p1 p2 (f (get_or xs i d)) = subst (λ (q : Result (Unit {0}) Failed). PutsOut mid new q p1 p2 (f (get_or xs i d))) ok turn in
    subst (λ (ys : List ℕ). PutsOut {T = Unit {0}} old new (Ok tt) p0 p2 ys) (sym (joined_more f xs i d h)) (says_then old mid new (Ok tt) tt (Ok tt) p0 p1 p2 _ _ refl before at_ok)

-- a turn that failed, and with it the loop
pub says_turn_failed : {X T : Type 0} (old mid new : DeskState) (r : Result (Unit {0}) Failed) (e : Failed) (result : Result T Failed) (p0 p1 p2 : Piece) (f : X → List ℕ) (xs : List X) (i : ℕ) (d : X) → i < length xs → r ≡ Err e → IsErr result → PutsOut {T = Unit {0}} old mid (Ok tt) p0 p1 (flat_map f (take i xs)) → PutsOut mid new r p1 p2 (f (get_or xs i d)) → PutsOut old new result p0 p2 (flat_map f xs)
says_turn_failed {X} {T} old mid new r e result p0 p1 p2 f xs i d h err is before turn =
    subst (λ (ys : List ℕ). PutsOut {T = T} old new result p0 p2 ys) (sym (joined_at f xs i d h))
    (says_then old mid new (Ok tt) tt result p0 p1 p2 _ _ refl before (says_failed mid new r e result p1 p2 (f (get_or xs i d)) _ err is turn))

-- the same text in another shape
pub says_as : {T : Type 0} (old new : DeskState) (r : Result T Failed) (p0 p1 : Piece) (t w : List ℕ) → t ≡ w → PutsOut old new r p0 p1 t → PutsOut old new r p0 p1 w
says_as {T} old new r p0 p1 t w e h = subst (λ (xs : List ℕ). PutsOut {T = T} old new r p0 p1 xs) e h
