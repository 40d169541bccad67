-- A text that was put out through a piece, and what the end of the piece hands on then. And what a piece says of one
-- put, in the word for a text that is put out.
use Rattle.std.proofs.Common.{◌≡◌, ℕ, List, [], ◌++◌, Result, Ok, Err, sym, ◌∙◌, subst, refl}
use Rattle.std.specs.Prelude.{OnOk, OnErr, IsSome}
use Rattle.std.proofs.lemmas.List.{append-nil}
use Rattle.bx_desk.specs.Desk.{DeskState, CanPut, Starts, Puts, PutsFront}
use Rattle.bx_desk.specs.Pieces.{pending, target_of, PutsUpTo, HandsOn, PutsOut}
use Rattle.bx_desk.specs.declared.desk.Failed.{Failed}
use Rattle.bx_desk.specs.declared.piece.Piece.{Piece}
use Rattle.bx_desk.specs.declared.target.Target.{Target}
use Rattle.bx_desk.specs.declared.target.Target.TheVariants.{File}
use Rattle.bx_desk.proofs.Put.{puts_piece, puts_front}

pub put_out : {T : Type 0} (old new : DeskState) (r : Result T Failed) (p0 p1 : Piece) (text : List ℕ) → HandsOn r (target_of p0) old new (pending p0 ++ text) (pending p1) → target_of p1 ≡ target_of p0 → CanPut (target_of p1) new → PutsOut old new r p0 p1 text
put_out old new r p0 p1 text hands_on stays can = record { hands_on = hands_on; target_stays = stays; can = can }

-- all of the text was put
pub puts_all : (target : Target) (old new : DeskState) (text : List ℕ) → PutsUpTo target old new text [] → Puts target old new text
puts_all target old new text h = subst (λ (xs : List ℕ). Puts target old new xs) (sym (append-nil h.done) ∙ h.split) h.puts

-- what a new piece put out
put_first : {T : Type 0} (target : Target) (old new : DeskState) (r : Result T Failed) (p0 p1 : Piece) (t : List ℕ) → pending p0 ≡ [] → target_of p0 ≡ target → PutsOut old new r p0 p1 t → HandsOn r target old new t (pending p1)
put_first {T} target old new r p0 p1 t empty is h =
    subst (λ (x : Target). HandsOn r x old new t (pending p1)) is (subst (λ (xs : List ℕ). HandsOn r (target_of p0) old new (xs ++ t) (pending p1)) empty h.hands_on)

-- all of a text but what is held was put out through a new piece
pub up_to_held : {T : Type 0} (target : Target) (old new : DeskState) (r : Result T Failed) (u : T) (p0 p1 : Piece) (t : List ℕ) → pending p0 ≡ [] → target_of p0 ≡ target → r ≡ Ok u → PutsOut old new r p0 p1 t → PutsUpTo target old new t (pending p1 ++ [])
up_to_held {T} target old new r u p0 p1 t empty is ok a =
    subst (λ (xs : List ℕ). PutsUpTo target old new t xs) (sym (append-nil (pending p1)))
    (subst (λ (q : Result T Failed). HandsOn q target old new t (pending p1)) ok (put_first target old new r p0 p1 t empty is a))

-- a text that couldn't be put out through a new piece
pub front_of : {T : Type 0} (target : Target) (old new : DeskState) (r : Result T Failed) (e : Failed) (p0 p1 : Piece) (t : List ℕ) → pending p0 ≡ [] → target_of p0 ≡ target → r ≡ Err e → PutsOut old new r p0 p1 t → PutsFront target old new t
front_of {T} target old new r e p0 p1 t empty is err a =
    subst (λ (q : Result T Failed). HandsOn q target old new t (pending p1)) err (put_first target old new r p0 p1 t empty is a)

-- all but what is held was put, and then all of that, or a front of it
pub then_held : (target : Target) (s0 s1 s2 : DeskState) (text held : List ℕ) → PutsUpTo target s0 s1 text (held ++ []) → Puts target s1 s2 held → Puts target s0 s2 text
then_held target s0 s1 s2 text held up says = puts_all target s0 s2 text (puts_piece target target refl s0 s1 s2 text held [] up says)

pub then_front : (target : Target) (s0 s1 s2 : DeskState) (text held : List ℕ) → PutsUpTo target s0 s1 text (held ++ []) → PutsFront target s1 s2 held → PutsFront target s0 s2 text
then_front target s0 s1 s2 text held up front = puts_front target target refl s0 s1 s2 text held [] up front

-- a text was put out through a new piece, and what was held of it was put at the end of the piece, or not
pub ends : {S T : Type 0} (target : Target) (old mid new : DeskState) (first : Result S Failed) (u : S) (last : Result T Failed) (p0 p1 : Piece) (text : List ℕ) → pending p0 ≡ [] → target_of p0 ≡ target → first ≡ Ok u → PutsOut old mid first p0 p1 text → HandsOn last (target_of p1) mid new (pending p1) [] → OnOk last (Puts target old new text) × OnErr last (PutsFront target old new text)
ends {S} {T} target old mid new first u last p0 p1 text empty is ok a b =
    by_result last (subst (λ (x : Target). HandsOn last x mid new (pending p1) []) (a.target_stays ∙ is) b) (up_to_held target old mid first u p0 p1 text empty is ok a)
  where
    by_result : (r : Result T Failed) → HandsOn r target mid new (pending p1) [] → PutsUpTo target old mid text (pending p1 ++ []) → OnOk r (Puts target old new text) × OnErr r (PutsFront target old new text)
    by_result (Ok v) h up = (then_held target old mid new text (pending p1) up (puts_all target mid new (pending p1) h), tt)
    by_result (Err e) h up = (tt, then_front target old mid new text (pending p1) up h)

-- a file that was started can be written to
pub is_started : (old new : DeskState) (name : List ℕ) → Starts old new name → IsSome new.started
is_started old new name h = subst (λ (d : DeskState). IsSome d.started) (sym h) refl

pub can_write : (piece : Piece) (desk : DeskState) → target_of piece ≡ File → IsSome desk.started → CanPut (target_of piece) desk
can_write piece desk is started = subst (λ (t : Target). CanPut t desk) (sym is) started
