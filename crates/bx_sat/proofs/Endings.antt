-- A text that was put out to be said, and what the end of a run says then.
use Rattle.std.proofs.Common.{◌≡◌, ℕ, true, false, true≢false, List, [], ◌++◌, Option, Result, Ok, Err, OnOk, sym, ◌∙◌, subst, refl}
use Rattle.std.specs.Prelude.{is_err, OnErr}
use Rattle.std.proofs.lemmas.List.{append-nil}
use Rattle.bx_desk.specs.Desk.{DeskState, Says, PutsFront}
use Rattle.bx_desk.specs.Pieces.{pending, target_of, PutsUpTo, HandsOn, PutsOut}
use Rattle.bx_desk.specs.declared.desk.Failed.{Failed}
use Rattle.bx_desk.specs.declared.piece.Piece.{Piece}
use Rattle.bx_desk.specs.declared.target.Target.{Target}
use Rattle.bx_desk.specs.declared.target.Target.TheVariants.{Output}
use Rattle.bx_desk.proofs.Put.{puts_piece, puts_front}
use Rattle.bx_sat.specs.declared.status.SatStatus.{SatStatus}
use Rattle.bx_sat.specs.declared.status.SatStatus.TheVariants.{Failed as NotSaid}
use Rattle.bx_cnf.specs.Formulas.{Formula}
use Rattle.bx_dimacs.specs.declared.formula.DimacsFormula.{DimacsFormula}
use Rattle.bx_sat.specs.Files.{IsFormulaIn, IsBadLineIn}
use Rattle.bx_sat.specs.Sayings.{EndsSaying, done, failed}

-- all of the text was said
pub says_all : (old new : DeskState) (text : List ℕ) → PutsUpTo Output old new text [] → Says old new text
says_all old new text h = subst (λ (xs : List ℕ). Says old new xs) (sym (append-nil h.done) ∙ h.split) h.puts

-- what a piece held was handed on at its end, or a front of it
pub ends_well : (old new : DeskState) (target : Target) (held : List ℕ) (status : SatStatus) → target ≡ Output → PutsUpTo target old new held [] → EndsSaying old new status held status
ends_well old new target held status is h = done (says_all old new held (subst (λ (t : Target). PutsUpTo t old new held []) is h))

pub ends_badly : (old new : DeskState) (target : Target) (held : List ℕ) (status : SatStatus) → target ≡ Output → PutsFront target old new held → EndsSaying old new status held NotSaid
ends_badly old new target held status is h = failed (subst (λ (t : Target). PutsFront t old new held) is h)

-- a text was put out but for what is held, and that is said or not
then_held : (s0 s1 s2 : DeskState) (status : SatStatus) (text held : List ℕ) (result : SatStatus) → EndsSaying s1 s2 status held result → PutsUpTo Output s0 s1 text (held ++ []) → EndsSaying s0 s2 status text result
then_held s0 s1 s2 status text held result (done says) up = done (says_all s0 s2 text (puts_piece Output Output refl s0 s1 s2 text held [] up says))
then_held s0 s1 s2 status text held result (failed front) up = failed (puts_front Output Output refl s0 s1 s2 text held [] up front)

-- what a new piece, which is to be said, put out
said_first : {T : Type 0} (old new : DeskState) (r : Result T Failed) (p0 p1 : Piece) (t : List ℕ) → pending p0 ≡ [] → target_of p0 ≡ Output → PutsOut old new r p0 p1 t → HandsOn r Output old new t (pending p1)
said_first {T} old new r p0 p1 t empty is h =
    subst (λ (x : Target). HandsOn r x old new t (pending p1)) is (subst (λ (xs : List ℕ). HandsOn r (target_of p0) old new (xs ++ t) (pending p1)) empty h.hands_on)

-- a text was put out through a new piece, and what was held of it is said or not
pub says_ends : {T : Type 0} (old mid new : DeskState) (first : Result T Failed) (u : T) (result status : SatStatus) (p0 p1 : Piece) (text : List ℕ) → pending p0 ≡ [] → target_of p0 ≡ Output → first ≡ Ok u → PutsOut old mid first p0 p1 text → EndsSaying mid new status (pending p1) result → EndsSaying old new status text result
says_ends {T} old mid new first u result status p0 p1 text empty is ok a b =
    let up : PutsUpTo Output old mid text (pending p1) = subst (λ (r : Result T Failed). HandsOn r Output old mid text (pending p1)) ok (said_first old mid first p0 p1 text empty is a) in
    then_held old mid new status text (pending p1) result b (subst (λ (xs : List ℕ). PutsUpTo Output old mid text xs) (sym (append-nil (pending p1))) up)

-- a text that couldn't be put out
pub says_ends_failed : {T : Type 0} (old new : DeskState) (first : Result T Failed) (e : Failed) (status : SatStatus) (p0 p1 : Piece) (text : List ℕ) → pending p0 ≡ [] → target_of p0 ≡ Output → first ≡ Err e → PutsOut old new first p0 p1 text → EndsSaying old new status text NotSaid
says_ends_failed {T} old new first e status p0 p1 text empty is err a =
    failed (subst (λ (r : Result T Failed). HandsOn r Output old new text (pending p1)) err (said_first old new first p0 p1 text empty is a))

-- what holds where there is no error, where there is none
pub kept : {T E : Type 0} (r : Result T E) (P : Type 0) → is_err r ≡ false → OnOk r P → P
kept (Ok x) P none h = h
kept (Err e) P none h = absurd (true≢false none)

-- what holds where there is an error, where there is one
pub unkept_is : {T E : Type 0} (r : Result T E) (P : Type 0) → is_err r ≡ true → OnErr r P → P
unkept_is (Ok x) P some h = absurd (true≢false (sym some))
unkept_is (Err e) P some h = h

-- what was read of a desk's file, where another desk shows the same
pub moved_in : (old new : DeskState) (name : List ℕ) (read : DimacsFormula) → old ≡ new → IsFormulaIn old name read → IsFormulaIn new name read
moved_in old new name read same is = subst (λ (s : DeskState). IsFormulaIn s name read) same is

pub bad_in : (of : Option Formula) (old new : DeskState) (name : List ℕ) (line : ℕ) → old ≡ new → IsBadLineIn of old name line → IsBadLineIn of new name line
bad_in of old new name line same is = subst (λ (s : DeskState). IsBadLineIn of s name line) same is
