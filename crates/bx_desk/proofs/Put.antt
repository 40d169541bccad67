-- What one put after another leaves.
use Rattle.std.proofs.Common.{◌≡◌, ℕ, ◌≤◌, Bool, true, false, List, [], ◌++◌, Option, Some, None, Result, Ok, Err, sym, ◌∙◌, ap, refl, subst, append_assoc}
use Rattle.std.proofs.lemmas.List.{append-nil}
use Rattle.std.specs.Option.{option_map}
use Rattle.std.specs.Prelude.{if◌then◌else◌, OnOk, OnErr}
use Rattle.std.specs.Str.{bytes_eq}
use std.Path.{fun_ext}
use Rattle.bx_desk.specs.Desk.{Files, DeskState, Rose, with_behind, with_written, with_put, with_count, count_at, CanPut, Puts, PutsFront}
use Rattle.bx_desk.specs.Pieces.{PutsUpTo}
use Rattle.bx_desk.specs.declared.target.Target.{Target}
use Rattle.bx_desk.specs.declared.target.Target.TheVariants.{Output, File}

map_nothing : (x : Option (List ℕ)) → option_map (λ s. s ++ []) x ≡ x
map_nothing None = refl
map_nothing (Some s) = ap Some (append-nil s)

map_both : (a b : List ℕ) (x : Option (List ℕ)) → option_map (λ s. s ++ b) (option_map (λ s. s ++ a) x) ≡ option_map (λ s. s ++ (a ++ b)) x
map_both a b None = refl
map_both a b (Some s) = ap Some (append_assoc s a b)

behind_nothing : (name : List ℕ) (files : Files) → with_behind name [] files ≡ files
behind_nothing name files = fun_ext (λ q. by_test (bytes_eq name q) (files q)) where
  by_test : (b : Bool) (x : Option (List ℕ)) → (if b then option_map (λ s. s ++ []) x else x) ≡ x
  by_test true x = map_nothing x
  by_test false x = refl

behind_both : (name a b : List ℕ) (files : Files) → with_behind name b (with_behind name a files) ≡ with_behind name (a ++ b) files
behind_both name a b files = fun_ext (λ q. by_test (bytes_eq name q) (files q)) where
  by_test : (t : Bool) (x : Option (List ℕ)) → (if t then option_map (λ s. s ++ b) (if t then option_map (λ s. s ++ a) x else x) else (if t then option_map (λ s. s ++ a) x else x)) ≡ (if t then option_map (λ s. s ++ (a ++ b)) x else x)
  by_test true x = map_both a b x
  by_test false x = refl

written_nothing : (started : Option (Option (List ℕ))) (files : Files) → with_written started [] files ≡ files
written_nothing (Some (Some name)) files = behind_nothing name files
written_nothing (Some None) files = refl
written_nothing None files = refl

written_both : (started : Option (Option (List ℕ))) (a b : List ℕ) (files : Files) → with_written started b (with_written started a files) ≡ with_written started (a ++ b) files
written_both (Some (Some name)) a b files = behind_both name a b files
written_both (Some None) a b files = refl
written_both None a b files = refl

files_nothing : (started : Option (Option (List ℕ))) (told : Option Files) → option_map (with_written started []) told ≡ told
files_nothing started None = refl
files_nothing started (Some files) = ap Some (written_nothing started files)

files_both : (started : Option (Option (List ℕ))) (a b : List ℕ) (told : Option Files) → option_map (with_written started b) (option_map (with_written started a) told) ≡ option_map (with_written started (a ++ b)) told
files_both started a b None = refl
files_both started a b (Some files) = ap Some (written_both started a b files)

-- nothing was put
pub puts_nothing : (target : Target) (desk : DeskState) → Puts target desk desk []
puts_nothing Output desk = ap (λ (x : Option (List ℕ)). record desk { said = x }) (sym (map_nothing desk.said))
puts_nothing File desk = ap (λ (x : Option Files). record desk { files = x }) (sym (files_nothing desk.started desk.files))

put_both : (target : Target) (a b : List ℕ) (desk : DeskState) → with_put target b (with_put target a desk) ≡ with_put target (a ++ b) desk
put_both Output a b desk = ap (λ (x : Option (List ℕ)). record desk { said = x }) (map_both a b desk.said)
put_both File a b desk = ap (λ (x : Option Files). record desk { files = x }) (files_both desk.started a b desk.files)

-- one put after another
pub puts-puts : (target : Target) (old mid new : DeskState) (a b : List ℕ) → Puts target old mid a → Puts target mid new b → Puts target old new (a ++ b)
puts-puts target old mid new a b first second = second ∙ ap (with_put target b) first ∙ put_both target a b old

count_stays : (target : Target) (bytes : List ℕ) (desk : DeskState) → count_at target (with_put target bytes desk).faults ≡ count_at target desk.faults
count_stays Output bytes desk = refl
count_stays File bytes desk = refl

-- Of the text all but a piece and the rest was put, and then the piece, or a front of it. The target of the
-- later put is the same.
pub puts_piece : (target here : Target) → here ≡ target → (old mid new : DeskState) (text piece rest : List ℕ) → PutsUpTo target old mid text (piece ++ rest) → Puts here mid new piece → PutsUpTo target old new text rest
puts_piece target here same old mid new text piece rest before h = record {
  done = before.done ++ piece;
  split = append_assoc before.done piece rest ∙ before.split;
  puts = puts-puts target old mid new before.done piece before.puts (subst (λ (t : Target). Puts t mid new piece) same h);
}

front_after : (target : Target) (old mid new : DeskState) (text piece rest : List ℕ) → PutsUpTo target old mid text (piece ++ rest) → PutsFront target mid new piece → PutsFront target old new text
front_after target old mid new text piece rest before h =
    let same : count_at target mid.faults ≡ count_at target old.faults = ap (λ (d : DeskState). count_at target d.faults) before.puts ∙ count_stays target before.done old in
    record {
      front = before.done ++ h.front;
      rest = h.rest ++ rest;
      split = append_assoc before.done h.front (h.rest ++ rest) ∙ ap (λ xs. before.done ++ xs) (sym (append_assoc h.front h.rest rest) ∙ ap (λ xs. xs ++ rest) h.split) ∙ before.split;
      kept = h.kept ∙ ap (with_count target (count_at target new.faults)) (ap (with_put target h.front) before.puts ∙ put_both target before.done h.front old);
      rose = subst (λ (n : ℕ). Rose n (count_at target new.faults)) same h.rose;
      no_fall = subst (λ (n : ℕ). n ≤ count_at target new.faults) same h.no_fall;
    }

pub puts_front : (target here : Target) → here ≡ target → (old mid new : DeskState) (text piece rest : List ℕ) → PutsUpTo target old mid text (piece ++ rest) → PutsFront here mid new piece → PutsFront target old new text
puts_front target here same old mid new text piece rest before h = front_after target old mid new text piece rest before (subst (λ (t : Target). PutsFront t mid new piece) same h)

-- what can be written to can still be written to after a write, also after one that failed
pub can_after : {T E : Type 0} (r : Result T E) (old new : DeskState) (bytes : List ℕ) → OnOk r (Puts File old new bytes) → OnErr r (PutsFront File old new bytes) → CanPut File old → CanPut File new
can_after (Ok u) old new bytes puts failed can = subst (CanPut File) (sym puts) can
can_after (Err e) old new bytes puts failed can = subst (CanPut File) (sym failed.kept) can
