-- A text that was put out through a new piece, and what the end of the piece hands on then: a file that was written,
-- or an answer that was given.
use Rattle.std.proofs.Common.{◌≡◌, ℕ, List, [], ◌∷◌, ◌++◌, Option, Some, None, Result, Ok, Err, sym, ◌∙◌, subst, refl}
use Rattle.std.specs.Prelude.{OnOk, OnErr, IfErr, IsSome}
use Rattle.std.proofs.lemmas.List.{append-nil}
use Rattle.bx_cert.specs.Certs.{Certificate}
use Rattle.bx_design.specs.declared.solution.LaidOut.{LaidOut}
use Rattle.bx_desk.specs.Desk.{DeskState, CanPut, Starts, Puts, PutsFront, Writes, WritesFront}
use Rattle.bx_desk.specs.Pieces.{pending, target_of, PutsUpTo, HandsOn, PutsOut}
use Rattle.bx_desk.specs.declared.desk.Failed.{Failed}
use Rattle.bx_desk.specs.declared.piece.Piece.{Piece}
use Rattle.bx_desk.specs.declared.target.Target.{Target}
use Rattle.bx_desk.specs.declared.target.Target.TheVariants.{Output, File}
use Rattle.bx_desk.proofs.Put.{puts_piece, puts_front}
use Rattle.bx_logic.specs.Nets.{Netlist}
use Rattle.bx_network.specs.Networks.{Network}
use Rattle.bx_siqad.specs.Designs.{Drawing}
use Rattle.bx_verilog.specs.Formulas.{Text}
use Rattle.bx_engine.specs.declared.status.Status.{Status}
use Rattle.bx_engine.specs.declared.status.Status.TheVariants.{WriteFault}
use Rattle.bx_engine.specs.declared.status.Which.{Which}
use Rattle.bx_engine.specs.declared.status.Which.TheVariants.{DesignFile, CertFile, Output as OfOutput}
use Rattle.bx_engine.specs.Answers.{Written, refusal, design_file, design_files, files_of, search_answer}
use Rattle.bx_engine.specs.Effects.{WritesFile, FailsToWrite, WritesAll, FailsToWriteAll, cut_short, unwritten, unsaid}
use Rattle.bx_engine.specs.Runs.{EndsSaying, done, failed}
use Rattle.bx_engine.specs.Said.{search_text, refusal_text}
use Rattle.bx_engine.specs.Statuses.{status_of}
use Rattle.bx_engine.specs.Steps.{EndsGiving, given, ungiven}
use Rattle.bx_engine.specs.Tasks.{Task}
use Rattle.bx_engine.proofs.Effects.{all_then, fails_among}

-- ---- through a piece

-- all of the text was put
puts_all : (target : Target) (old new : DeskState) (text : List ℕ) → PutsUpTo target old new text [] → Puts target old new text
puts_all target old new text h = subst (λ (xs : List ℕ). Puts target old new xs) (sym (append-nil h.done) ∙ h.split) h.puts

-- what a new piece put out
put_first : {T : Type 0} (target : Target) (old new : DeskState) (r : Result T Failed) (p0 p1 : Piece) (t : List ℕ) → pending p0 ≡ [] → target_of p0 ≡ target → PutsOut old new r p0 p1 t → HandsOn r target old new t (pending p1)
put_first {T} target old new r p0 p1 t empty is h =
    subst (λ (x : Target). HandsOn r x old new t (pending p1)) is (subst (λ (xs : List ℕ). HandsOn r (target_of p0) old new (xs ++ t) (pending p1)) empty h.hands_on)

-- all of a text but what is held was put out through a new piece
up_to_held : {T : Type 0} (target : Target) (old new : DeskState) (r : Result T Failed) (u : T) (p0 p1 : Piece) (t : List ℕ) → pending p0 ≡ [] → target_of p0 ≡ target → r ≡ Ok u → PutsOut old new r p0 p1 t → PutsUpTo target old new t (pending p1 ++ [])
up_to_held {T} target old new r u p0 p1 t empty is ok a =
    subst (λ (xs : List ℕ). PutsUpTo target old new t xs) (sym (append-nil (pending p1)))
    (subst (λ (q : Result T Failed). HandsOn q target old new t (pending p1)) ok (put_first target old new r p0 p1 t empty is a))

-- a text that couldn't be put out through a new piece
front_of : {T : Type 0} (target : Target) (old new : DeskState) (r : Result T Failed) (e : Failed) (p0 p1 : Piece) (t : List ℕ) → pending p0 ≡ [] → target_of p0 ≡ target → r ≡ Err e → PutsOut old new r p0 p1 t → PutsFront target old new t
front_of {T} target old new r e p0 p1 t empty is err a =
    subst (λ (q : Result T Failed). HandsOn q target old new t (pending p1)) err (put_first target old new r p0 p1 t empty is a)

-- ---- what is said

-- what a piece held was handed on at its end, or a front of it
pub ends_well : (old new : DeskState) (target : Target) (held : List ℕ) (status : Status) → target ≡ Output → PutsUpTo target old new held [] → EndsSaying old new status held status
ends_well old new target held status is h = done (puts_all Output old new held (subst (λ (t : Target). PutsUpTo t old new held []) is h))

pub ends_badly : (old new : DeskState) (target : Target) (held : List ℕ) (status : Status) → target ≡ Output → PutsFront target old new held → EndsSaying old new status held (WriteFault OfOutput)
ends_badly old new target held status is h = failed (subst (λ (t : Target). PutsFront t old new held) is h)

-- a text was put out but for what is held, and that is said or not
then_held : (s0 s1 s2 : DeskState) (status : Status) (text held : List ℕ) (result : Status) → EndsSaying s1 s2 status held result → PutsUpTo Output s0 s1 text (held ++ []) → EndsSaying s0 s2 status text result
then_held s0 s1 s2 status text held result (done says) up = done (puts_all Output s0 s2 text (puts_piece Output Output refl s0 s1 s2 text held [] up says))
then_held s0 s1 s2 status text held result (failed front) up = failed (puts_front Output Output refl s0 s1 s2 text held [] up front)

-- a text was put out through a new piece, and what was held of it is said or not
pub says_ends : {T : Type 0} (old mid new : DeskState) (first : Result T Failed) (u : T) (result status : Status) (p0 p1 : Piece) (text : List ℕ) → pending p0 ≡ [] → target_of p0 ≡ Output → first ≡ Ok u → PutsOut old mid first p0 p1 text → EndsSaying mid new status (pending p1) result → EndsSaying old new status text result
says_ends {T} old mid new first u result status p0 p1 text empty is ok a b =
    then_held old mid new status text (pending p1) result b (up_to_held Output old mid first u p0 p1 text empty is ok a)

-- a text that couldn't be put out
pub says_ends_failed : {T : Type 0} (old new : DeskState) (first : Result T Failed) (e : Failed) (status : Status) (p0 p1 : Piece) (text : List ℕ) → pending p0 ≡ [] → target_of p0 ≡ Output → first ≡ Err e → PutsOut old new first p0 p1 text → EndsSaying old new status text (WriteFault OfOutput)
says_ends_failed {T} old new first e status p0 p1 text empty is err a = failed (front_of Output old new first e p0 p1 text empty is err a)

-- the same status in another shape
pub ends_as : (old new : DeskState) (result status other : Status) (text : List ℕ) → status ≡ other → EndsSaying old new status text result → EndsSaying old new other text result
ends_as old new result status other text e h = subst (λ (s : Status). EndsSaying old new s text result) e h

-- ---- what is written

-- a text was put out through a new piece, and what was held of it is written or not
pub file_ends : {S T : Type 0} (old mid new : DeskState) (first : Result S Failed) (u : S) (last : Result T Failed) (p0 p1 : Piece) (text : List ℕ) → pending p0 ≡ [] → target_of p0 ≡ File → first ≡ Ok u → PutsOut old mid first p0 p1 text → HandsOn last (target_of p1) mid new (pending p1) [] → OnOk last (Writes old new text) × OnErr last (WritesFront old new text)
file_ends {S} {T} old mid new first u last p0 p1 text empty is ok a b =
    by_result last (subst (λ (x : Target). HandsOn last x mid new (pending p1) []) (a.target_stays ∙ is) b) (up_to_held File old mid first u p0 p1 text empty is ok a)
  where
    by_result : (r : Result T Failed) → HandsOn r File mid new (pending p1) [] → PutsUpTo File old mid text (pending p1 ++ []) → OnOk r (Writes old new text) × OnErr r (WritesFront old new text)
    by_result (Ok v) h up = (puts_all File old new text (puts_piece File File refl old mid new text (pending p1) [] up (puts_all File mid new (pending p1) h)), tt)
    by_result (Err e) h up = (tt, puts_front File File refl old mid new text (pending p1) [] up h)

-- a text that couldn't be put out
pub file_ends_failed : {T : Type 0} (old new : DeskState) (first : Result T Failed) (e : Failed) (p0 p1 : Piece) (text : List ℕ) → pending p0 ≡ [] → target_of p0 ≡ File → first ≡ Err e → PutsOut old new first p0 p1 text → WritesFront old new text
file_ends_failed {T} old new first e p0 p1 text empty is err a = front_of File old new first e p0 p1 text empty is err a

-- a file that was started can be written to
pub is_started : (old new : DeskState) (name : List ℕ) → Starts old new name → IsSome new.started
is_started old new name h = subst (λ (d : DeskState). IsSome d.started) (sym h) refl

pub can_write : (piece : Piece) (desk : DeskState) → target_of piece ≡ File → IsSome desk.started → CanPut (target_of piece) desk
can_write piece desk is started = subst (λ (t : Target). CanPut t desk) (sym is) started

-- a file was started, and then written or not
pub writes_started : {T : Type 0} (old begun new : DeskState) (file : Written) (r : Result T Failed) → Starts old begun file.name → OnOk r (Writes begun new file.text) × OnErr r (WritesFront begun new file.text) → OnOk r (WritesFile old new file) × OnErr r (FailsToWrite old new file)
writes_started old begun new file (Ok u) starts h = (record { begun = begun; starts = starts; writes = h.0 }, tt)
writes_started old begun new file (Err e) starts h = (tt, cut_short begun starts h.1)

-- ---- files, one after the other

-- the design was written or not, if there is one
pub found_written : {T : Type 0} (old new : DeskState) (name : Text) (design : Option Drawing) (drawing : Drawing) (r : Result T Failed) → design ≡ Some drawing
    → OnOk r (WritesFile old new (design_file name drawing)) × OnErr r (FailsToWrite old new (design_file name drawing))
    → OnOk r (WritesAll old new (design_files name design)) × OnErr r (FailsToWriteAll old new (design_files name design) DesignFile)
found_written old new name design drawing (Ok u) is h = (subst (λ (o : Option Drawing). WritesAll old new (design_files name o)) (sym is) (new, h.0, refl), tt)
found_written old new name design drawing (Err e) is h =
    (tt, subst (λ (o : Option Drawing). FailsToWriteAll old new (design_files name o) DesignFile) (sym is) (fails_among old old new [] (design_file name drawing) DesignFile refl refl h.1))

-- there is none, and nothing was done
pub none_written : (desk : DeskState) (name : Text) (design : Option Drawing) → design ≡ None → WritesAll desk desk (design_files name design)
none_written desk name design is = subst (λ (o : Option Drawing). WritesAll desk desk (design_files name o)) (sym is) refl

-- the certificate was written or not behind it
pub last_written : {T : Type 0} (old mid new : DeskState) (files : List Written) (file : Written) (r : Result T Which) → WritesAll old mid files → file.which ≡ CertFile
    → OnOk r (WritesFile mid new file) × IfErr r (λ which. (which ≡ CertFile) × FailsToWrite mid new file)
    → OnOk r (WritesAll old new (files ++ file ∷ [])) × IfErr r (FailsToWriteAll old new (files ++ file ∷ []))
last_written old mid new files file (Ok u) written of h = (all_then old mid new files file written h.0, tt)
last_written old mid new files file (Err which) written of h = (tt, fails_among old mid new files file which (h.1.0 ∙ sym of) written h.1.1)

-- ---- what is given

-- a refusal was said or not
pub gives_refusal : (old new : DeskState) (status : Status) (text : Text) (result : Status) → EndsSaying old new status (refusal_text text) result → EndsGiving old new (refusal status text) result
gives_refusal old new status text result (done says) = given (record { written = old; files = refl; said = says })
gives_refusal old new status text result (failed front) = ungiven OfOutput (unsaid old refl front)

module _ (old mid new : DeskState) (task : Task) (net : Netlist) (N : Network) (cert : Certificate) (found : Option LaidOut) (design : Option Drawing) where
  -- the files were written, and the report said or not
  pub gives_solution : (result : Status) → WritesAll old mid (files_of task design cert) → EndsSaying mid new (status_of cert.last) (search_text net N cert.last found) result
      → EndsGiving old new (search_answer task net N cert found design) result
  gives_solution result writes (done says) = given (record { written = mid; files = writes; said = says })
  gives_solution result writes (failed front) = ungiven OfOutput (unsaid mid writes front)

-- one of them couldn't be written
pub gives_no_file : (old new : DeskState) (task : Task) (net : Netlist) (N : Network) (cert : Certificate) (found : Option LaidOut) (design : Option Drawing) (which : Which)
    → FailsToWriteAll old new (files_of task design cert) which → EndsGiving old new (search_answer task net N cert found design) (WriteFault which)
gives_no_file old new task net N cert found design which fails = ungiven which (unwritten which fails)
