-- A file that was started, and what of a text was written into it through a piece.
use Rattle.std.proofs.Common.{◌≡◌, List, ℕ, [], ◌++◌, Result, Ok, Err, sym, ◌∙◌, subst, refl}
use Rattle.std.specs.Prelude.{OnOk, OnErr, IsSome}
use Rattle.std.proofs.lemmas.List.{append-nil}
use Rattle.bx_desk.specs.Desk.{DeskState, CanPut, Starts, Writes, WritesFront}
use Rattle.bx_desk.specs.Pieces.{pending, target_of, PutsUpTo, HandsOn, PutsOut}
use Rattle.bx_desk.specs.declared.desk.Failed.{Failed}
use Rattle.bx_desk.specs.declared.piece.Piece.{Piece}
use Rattle.bx_desk.specs.declared.target.Target.{Target}
use Rattle.bx_desk.specs.declared.target.Target.TheVariants.{File}
use Rattle.bx_desk.proofs.Put.{puts_piece, puts_front}
use Rattle.bx_sat.specs.Files.{FailsToWrite, cut_short}

-- all of the text was written
writes_all : (old new : DeskState) (text : List ℕ) → PutsUpTo File old new text [] → Writes old new text
writes_all old new text h = subst (λ (xs : List ℕ). Writes old new xs) (sym (append-nil h.done) ∙ h.split) h.puts

-- what a new piece put out
put_first : {T : Type 0} (old new : DeskState) (r : Result T Failed) (p0 p1 : Piece) (t : List ℕ) → pending p0 ≡ [] → target_of p0 ≡ File → PutsOut old new r p0 p1 t → HandsOn r File old new t (pending p1)
put_first {T} old new r p0 p1 t empty is h =
    subst (λ (x : Target). HandsOn r x old new t (pending p1)) is (subst (λ (xs : List ℕ). HandsOn r (target_of p0) old new (xs ++ t) (pending p1)) empty h.hands_on)

-- a text was put out through a new piece, and what was held of it is written or not
pub file_ends : {S T : Type 0} (old mid new : DeskState) (first : Result S Failed) (u : S) (last : Result T Failed) (p0 p1 : Piece) (text : List ℕ) → pending p0 ≡ [] → target_of p0 ≡ File → first ≡ Ok u → PutsOut old mid first p0 p1 text → HandsOn last (target_of p1) mid new (pending p1) [] → OnOk last (Writes old new text) × OnErr last (WritesFront old new text)
file_ends {S} {T} old mid new first u last p0 p1 text empty is ok a b =
    let up : PutsUpTo File old mid text (pending p1) = subst (λ (q : Result S Failed). HandsOn q File old mid text (pending p1)) ok (put_first old mid first p0 p1 text empty is a) in
    by_result last (subst (λ (x : Target). HandsOn last x mid new (pending p1) []) (a.target_stays ∙ is) b) (subst (λ (xs : List ℕ). PutsUpTo File old mid text xs) (sym (append-nil (pending p1))) up)
  where
    by_result : (r : Result T Failed) → HandsOn r File mid new (pending p1) [] → PutsUpTo File old mid text (pending p1 ++ []) → OnOk r (Writes old new text) × OnErr r (WritesFront old new text)
    by_result (Ok v) h up = (writes_all old new text (puts_piece File File refl old mid new text (pending p1) [] up (writes_all mid new (pending p1) h)), tt)
    by_result (Err e) h up = (tt, puts_front File File refl old mid new text (pending p1) [] up h)

-- a text that couldn't be put out
pub file_ends_failed : {T : Type 0} (old new : DeskState) (first : Result T Failed) (e : Failed) (p0 p1 : Piece) (text : List ℕ) → pending p0 ≡ [] → target_of p0 ≡ File → first ≡ Err e → PutsOut old new first p0 p1 text → WritesFront old new text
file_ends_failed {T} old new first e p0 p1 text empty is err a =
    subst (λ (q : Result T Failed). HandsOn q File old new text (pending p1)) err (put_first old new first p0 p1 text empty is a)

-- a file that was started can be written to
pub is_started : (old new : DeskState) (name : List ℕ) → Starts old new name → IsSome new.started
is_started old new name h = subst (λ (d : DeskState). IsSome d.started) (sym h) refl

pub can_write : (piece : Piece) (desk : DeskState) → target_of piece ≡ File → IsSome desk.started → CanPut (target_of piece) desk
can_write piece desk is started = subst (λ (t : Target). CanPut t desk) (sym is) started

-- a file was started, and not written whole
pub fails_started : {T : Type 0} (old begun new : DeskState) (name text : List ℕ) (r : Result T Failed) → Starts old begun name → OnErr r (WritesFront begun new text) → OnErr r (FailsToWrite old new name text)
fails_started old begun new name text (Ok u) starts h = tt
fails_started old begun new name text (Err e) starts h = cut_short begun starts h
