-- What a started file holds after calls.
use Rattle.std.proofs.Common.{◌≡◌, ℕ, Bool, true, false, List, [], ◌∷◌, ◌++◌, Option, Some, None, inl, inr, sym, ◌∙◌, ap, refl, subst, append_assoc}
use Rattle.std.proofs.lemmas.List.{append-nil}
use Rattle.std.proofs.lemmas.Slice.Eq.{bytes_eq-Decides}
use Rattle.std.specs.Option.{option_map}
use Rattle.std.specs.Prelude.{if◌then◌else◌, ◌⊎◌}
use Rattle.std.specs.Str.{bytes_eq}
use std.Path.{fun_ext}
use Rattle.bx_desk.specs.Desk.{Files, DeskState, IsFile, with_file, with_behind, with_written, Starts, FailsToLoad, Says, SaysFront}
use Rattle.bx_desk.specs.Calls.{Call, load, append, failed_append, say, LeaveAll, written}

-- the started file is this one, with these bytes, and the other files are as they were
record Holds (files : Option Files) (name bytes : List ℕ) (desk : DeskState) : Type 0 where
  files_are : desk.files ≡ option_map (with_file name bytes) files
  started_is : desk.started ≡ Some (option_map (λ _. name) files)

behind_file : (name bytes more : List ℕ) (files : Files) → with_behind name more (with_file name bytes files) ≡ with_file name (bytes ++ more) files
behind_file name bytes more files = fun_ext (λ q. by_test (bytes_eq name q) (files q)) where
  by_test : (t : Bool) (x : Option (List ℕ)) → (if t then option_map (λ file. file ++ more) (if t then Some bytes else x) else (if t then Some bytes else x)) ≡ (if t then Some (bytes ++ more) else x)
  by_test true x = refl
  by_test false x = refl

written_file : (files : Option Files) (name bytes more : List ℕ) → option_map (with_written (Some (option_map (λ _. name) files)) more) (option_map (with_file name bytes) files) ≡ option_map (with_file name (bytes ++ more)) files
written_file None name bytes more = refl
written_file (Some files) name bytes more = ap Some (behind_file name bytes more files)

holds_more : (files : Option Files) (name bytes more : List ℕ) (old new : DeskState) → Holds files name bytes old → new.files ≡ option_map (with_written old.started more) old.files → new.started ≡ old.started → Holds files name (bytes ++ more) new
holds_more files name bytes more old new before wrote same = record {
  files_are = wrote ∙ ap (λ (x : Option (Option (List ℕ))). option_map (with_written x more) old.files) before.started_is ∙ ap (option_map (with_written (Some (option_map (λ _. name) files)) more)) before.files_are ∙ written_file files name bytes more;
  started_is = same ∙ before.started_is;
}

holds_still : (files : Option Files) (name bytes : List ℕ) (old new : DeskState) → Holds files name bytes old → new.files ≡ old.files → new.started ≡ old.started → Holds files name bytes new
holds_still files name bytes old new before same_files same_started = record { files_are = same_files ∙ before.files_are; started_is = same_started ∙ before.started_is }

after_load : (files : Option Files) (name bytes : List ℕ) (old new : DeskState) → Holds files name bytes old → (new ≡ old) ⊎ FailsToLoad old new → Holds files name bytes new
after_load files name bytes old new before (inl same) = subst (Holds files name bytes) (sym same) before
after_load files name bytes old new before (inr failed) = holds_still files name bytes old new before (ap (λ (d : DeskState). d.files) failed.kept) (ap (λ (d : DeskState). d.started) failed.kept)

after_say : (files : Option Files) (name bytes piece : List ℕ) (old new : DeskState) → Holds files name bytes old → Says old new piece ⊎ SaysFront old new piece → Holds files name bytes new
after_say files name bytes piece old new before (inl says) = holds_still files name bytes old new before (ap (λ (d : DeskState). d.files) says) (ap (λ (d : DeskState). d.started) says)
after_say files name bytes piece old new before (inr failed) = holds_still files name bytes old new before (ap (λ (d : DeskState). d.files) failed.kept) (ap (λ (d : DeskState). d.started) failed.kept)

after_calls : (files : Option Files) (name bytes : List ℕ) (calls : List Call) (old new : DeskState) → Holds files name bytes old → LeaveAll calls old new → Holds files name (bytes ++ written calls) new
after_calls files name bytes [] old new before same = subst (λ (xs : List ℕ). Holds files name xs new) (sym (append-nil bytes)) (subst (Holds files name bytes) (sym same) before)
after_calls files name bytes (load ∷ calls) old new before (mid, leaves, later) = after_calls files name bytes calls mid new (after_load files name bytes old mid before leaves) later
after_calls files name bytes (append piece ∷ calls) old new before (mid, leaves, later) =
    subst (λ (xs : List ℕ). Holds files name xs new) (append_assoc bytes piece (written calls)) (after_calls files name (bytes ++ piece) calls mid new (holds_more files name bytes piece old mid before (ap (λ (d : DeskState). d.files) leaves) (ap (λ (d : DeskState). d.started) leaves)) later)
after_calls files name bytes (failed_append front ∷ calls) old new before (mid, (piece, failed, is), later) =
    let more : Holds files name (bytes ++ failed.front) mid = holds_more files name bytes failed.front old mid before (ap (λ (d : DeskState). d.files) failed.kept) (ap (λ (d : DeskState). d.started) failed.kept) in
    subst (λ (xs : List ℕ). Holds files name xs new) (append_assoc bytes front (written calls)) (after_calls files name (bytes ++ front) calls mid new (subst (λ (xs : List ℕ). Holds files name (bytes ++ xs) mid) (sym is) more) later)
after_calls files name bytes (say piece ∷ calls) old new before (mid, leaves, later) = after_calls files name bytes calls mid new (after_say files name bytes piece old mid before leaves) later

is_file : (files told : Option Files) (name bytes : List ℕ) → told ≡ option_map (with_file name bytes) files → IsFile told name bytes
is_file None told name bytes e = subst (λ (x : Option Files). IsFile x name bytes) (sym e) tt
is_file (Some files) told name bytes e = subst (λ (x : Option Files). IsFile x name bytes) (sym e) (ap (λ (t : Bool). if t then Some bytes else files name) ((bytes_eq-Decides name name).1 refl))

-- a file that was started and then written to holds what was written, in order, and every other file is as it was
pub started_file : (old mid new : DeskState) (name : List ℕ) (calls : List Call) → Starts old mid name → LeaveAll calls mid new → (new.files ≡ option_map (with_file name (written calls)) old.files) × IsFile new.files name (written calls) × (new.started ≡ mid.started)
started_file old mid new name calls starts leaves =
    let begin : Holds old.files name [] mid = record { files_are = ap (λ (d : DeskState). d.files) starts; started_is = ap (λ (d : DeskState). d.started) starts } in
    let end : Holds old.files name (written calls) new = after_calls old.files name [] calls mid new begin leaves in
    (end.files_are, is_file old.files new.files name (written calls) end.files_are, end.started_is ∙ sym begin.started_is)
