-- What is left of files that were written, whole or as far as they went, of every other file, and of what was said.
use Rattle.std.proofs.Common.{◌≡◌, ◌≢◌, Bool, true, false, List, [], ◌∷◌, ◌++◌, Option, Some, None, refl, sym, ◌∙◌, ap, subst, arith, if◌then◌else◌}
use Rattle.std.specs.Prelude.{option_map, All}
use Rattle.std.specs.Str.{bytes_eq}
use Rattle.std.proofs.lemmas.List.Elements.{All-cons, All-head, All-tail}
use Rattle.std.proofs.lemmas.Slice.Eq.{bytes_eq-Decides}
use Rattle.bx_desk.specs.Desk.{Counts, DeskState, Files, FailsToLoad, Rose, SaysFront, with_behind, with_file, with_put, with_written}
use Rattle.bx_desk.specs.declared.target.Target.TheVariants.{File}
use Rattle.bx_verilog.specs.Formulas.{Text}
use Rattle.bx_engine.specs.Answers.{Answer, Written}
use Rattle.bx_engine.specs.declared.status.Which.{Which}
use Rattle.bx_engine.specs.declared.status.Which.TheVariants.{NetFile, LibFile, DesignFile, CertFile, Output}
use Rattle.bx_engine.specs.Effects.{WritesFile, FailsToWrite, WritesAll, FailsToWriteAll, Gives, FailsToGive, NoneFell, NoneRose, RoseWriting, file_at, unstarted, cut_short, unwritten, unsaid}

-- ---- files by names

same_name : (name : Text) → bytes_eq name name ≡ true
same_name name = (bytes_eq-Decides name name).1 refl

other_name : (a b : Text) → a ≢ b → bytes_eq a b ≡ false
other_name a b differ = by (bytes_eq a b) refl
  where
    by : (t : Bool) → bytes_eq a b ≡ t → bytes_eq a b ≡ false
    by false e = e
    by true e = absurd (differ ((bytes_eq-Decides a b).0 e))

-- a file that was started and then written, found by its name, and another one
abbrev found : Bool → Text → Option Text → Option Text
found t text file = if t then option_map (λ bytes. bytes ++ text) (if t then Some [] else file) else (if t then Some [] else file)

at_name : (name text : Text) (files : Files) → with_behind name text (with_file name [] files) name ≡ Some text
at_name name text files = ap (λ (t : Bool). found t text (files name)) (same_name name)

at_other : (name q text : Text) (files : Files) → name ≢ q → with_behind name text (with_file name [] files) q ≡ files q
at_other name q text files differ = ap (λ (t : Bool). found t text (files q)) (other_name name q differ)

emptied_other : (name q : Text) (files : Files) → name ≢ q → with_file name [] files q ≡ files q
emptied_other name q files differ = ap (λ (t : Bool). if t then Some [] else files q) (other_name name q differ)

-- the files behind a start and a writing
abbrev after : Text → Text → Option Files → Option Files
after name text told = option_map (with_written (Some (option_map (λ _. name) told)) text) (option_map (with_file name []) told)

after_other : (name q text : Text) (told : Option Files) → name ≢ q → file_at (after name text told) q ≡ file_at told q
after_other name q text None differ = refl
after_other name q text (Some files) differ = at_other name q text files differ

emptied : (name q : Text) (told : Option Files) → name ≢ q → file_at (option_map (with_file name []) told) q ≡ file_at told q
emptied name q None differ = refl
emptied name q (Some files) differ = emptied_other name q files differ

-- ---- what was written is there

abbrev started : DeskState → Text → DeskState
started old name = record old { files = option_map (with_file name []) old.files; started = Some (option_map (λ _. name) old.files) }

module _ (old new : DeskState) (file : Written) (writes : WritesFile old new file) where
  all_written : new ≡ with_put File file.text (started old file.name)
  all_written = writes.writes ∙ ap (λ (d : DeskState). with_put File file.text d) writes.starts

  pub file_there : (files : Files) → old.files ≡ Some files → file_at new.files file.name ≡ Some file.text
  file_there files e =
      ap (λ (d : DeskState). file_at d.files file.name) all_written
      ∙ ap (λ (told : Option Files). file_at (after file.name file.text told) file.name) e
      ∙ at_name file.name file.text files

  pub others_there : (q : Text) → file.name ≢ q → file_at new.files q ≡ file_at old.files q
  others_there q differ = ap (λ (d : DeskState). file_at d.files q) all_written ∙ after_other file.name q file.text old.files differ

  pub nothing_said : new.said ≡ old.said
  nothing_said = ap (λ (d : DeskState). d.said) all_written

  pub no_fault : new.faults ≡ old.faults
  no_fault = ap (λ (d : DeskState). d.faults) all_written

-- ---- what wasn't

module _ (old new : DeskState) (file : Written) where
  pub others_stay : (q : Text) → file.name ≢ q → FailsToWrite old new file → file_at new.files q ≡ file_at old.files q
  others_stay q differ (unstarted fails) =
      ap (λ (d : DeskState). file_at d.files q) fails.kept ∙ by fails.is_emptied
    where
      by : (t : Bool) → file_at (if t then option_map (with_file file.name []) old.files else old.files) q ≡ file_at old.files q
      by true = emptied file.name q old.files differ
      by false = refl
  others_stay q differ (cut_short begun starts front) =
      ap (λ (d : DeskState). file_at d.files q) front.kept
      ∙ ap (λ (d : DeskState). file_at (option_map (with_written d.started front.front) d.files) q) starts
      ∙ after_other file.name q front.front old.files differ

  pub unwritten_unsaid : FailsToWrite old new file → new.said ≡ old.said
  unwritten_unsaid (unstarted fails) = ap (λ (d : DeskState). d.said) fails.kept
  unwritten_unsaid (cut_short begun starts front) = ap (λ (d : DeskState). d.said) front.kept ∙ ap (λ (d : DeskState). d.said) starts

-- ---- counts

pub none_fell_same : (before now : Counts) → now ≡ before → NoneFell before now
none_fell_same before now same = subst (λ (c : Counts). NoneFell before c) (sym same) (record { load = omega arith; write = omega arith; say = omega arith })

pub none_fell_write : (old new : DeskState) (file : Written) → FailsToWrite old new file → NoneFell old.faults new.faults
none_fell_write old new file (unstarted fails) = record {
  load = let same : new.faults.load ≡ old.faults.load = ap (λ (d : DeskState). d.faults.load) fails.kept in omega arith;
  write = fails.no_fall;
  say = let same : new.faults.say ≡ old.faults.say = ap (λ (d : DeskState). d.faults.say) fails.kept in omega arith;
}
none_fell_write old new file (cut_short begun starts front) =
    let before : begun.faults ≡ old.faults = ap (λ (d : DeskState). d.faults) starts in
    subst (λ (c : Counts). NoneFell c new.faults) before (record {
      load = let same : new.faults.load ≡ begun.faults.load = ap (λ (d : DeskState). d.faults.load) front.kept in omega arith;
      write = front.no_fall;
      say = let same : new.faults.say ≡ begun.faults.say = ap (λ (d : DeskState). d.faults.say) front.kept in omega arith;
    })

pub none_fell_say : (old new : DeskState) (text : Text) → SaysFront old new text → NoneFell old.faults new.faults
none_fell_say old new text front = record {
  load = let same : new.faults.load ≡ old.faults.load = ap (λ (d : DeskState). d.faults.load) front.kept in omega arith;
  write = let same : new.faults.write ≡ old.faults.write = ap (λ (d : DeskState). d.faults.write) front.kept in omega arith;
  say = front.no_fall;
}

pub none_fell_load : (old new : DeskState) → FailsToLoad old new → NoneFell old.faults new.faults
none_fell_load old new fails = record {
  load = fails.no_fall;
  write = let same : new.faults.write ≡ old.faults.write = ap (λ (d : DeskState). d.faults.write) fails.kept in omega arith;
  say = let same : new.faults.say ≡ old.faults.say = ap (λ (d : DeskState). d.faults.say) fails.kept in omega arith;
}

pub rose_write : (old new : DeskState) (file : Written) → FailsToWrite old new file → Rose old.faults.write new.faults.write
rose_write old new file (unstarted fails) = fails.rose
rose_write old new file (cut_short begun starts front) = subst (λ (c : Counts). Rose c.write new.faults.write) (ap (λ (d : DeskState). d.faults) starts) front.rose

-- ---- files, one after the other

-- none of them has this name
abbrev pub AreOthers : Text → List Written → Type 0
AreOthers q files = All (λ file. file.name ≢ q) files

pub all_others : (old new : DeskState) (files : List Written) (q : Text) → AreOthers q files → WritesAll old new files → file_at new.files q ≡ file_at old.files q
all_others old new [] q differ same = ap (λ (d : DeskState). file_at d.files q) same
all_others old new (file ∷ files) q differ (mid, writes, rest) =
    all_others mid new files q (All-tail (λ f. f.name ≢ q) file files differ) rest
    ∙ others_there old mid file writes q (All-head (λ f. f.name ≢ q) file files differ)

pub all_no_fault : (old new : DeskState) (files : List Written) → WritesAll old new files → new.faults ≡ old.faults
all_no_fault old new [] same = ap (λ (d : DeskState). d.faults) same
all_no_fault old new (file ∷ files) (mid, writes, rest) = all_no_fault mid new files rest ∙ no_fault old mid file writes

pub all_unsaid : (old new : DeskState) (files : List Written) → WritesAll old new files → new.said ≡ old.said
all_unsaid old new [] same = ap (λ (d : DeskState). d.said) same
all_unsaid old new (file ∷ files) (mid, writes, rest) = all_unsaid mid new files rest ∙ nothing_said old mid file writes

-- the files stay told
pub told_on : (old new : DeskState) (file : Written) → WritesFile old new file → (files : Files) → old.files ≡ Some files → (later : Files) × (new.files ≡ Some later)
told_on old new file writes files e =
    (with_behind file.name file.text (with_file file.name [] files), ap (λ (d : DeskState). d.files) (all_written old new file writes) ∙ ap (λ (told : Option Files). after file.name file.text told) e)

-- the first of them, and then the others
pub record WritesFirst (old new : DeskState) (file : Written) (files : List Written) : Type 0 where
  pub mid : DeskState
  pub first : WritesFile old mid file
  pub rest : WritesAll mid new files

pub first_then : (old new : DeskState) (file : Written) (files : List Written) → WritesAll old new (file ∷ files) → WritesFirst old new file files
first_then old new file files (mid, writes, rest) = record { mid = mid; first = writes; rest = rest }

-- one more file
pub all_then : (old mid new : DeskState) (files : List Written) (file : Written) → WritesAll old mid files → WritesFile mid new file → WritesAll old new (files ++ file ∷ [])
all_then old mid new [] file same writes = (new, subst (λ (d : DeskState). WritesFile d new file) same writes, refl)
all_then old mid new (f ∷ files) file (begun, first, rest) writes = (begun, first, all_then begun mid new files file rest writes)

-- of two lists the first one was written, and then one couldn't be
pub fails_among : (old mid new : DeskState) (files : List Written) (file : Written) (which : Which) → which ≡ file.which → WritesAll old mid files → FailsToWrite mid new file → FailsToWriteAll old new (files ++ file ∷ []) which
fails_among old mid new files file which is written fails = record { before = files; file = file; behind = []; split = refl; is = is; mid = mid; written = written; fails = fails }

appended : (xs : List Written) (x : Written) (ys zs : List Written) → (xs ++ (x ∷ ys)) ++ zs ≡ xs ++ (x ∷ (ys ++ zs))
appended [] x ys zs = refl
appended (y ∷ xs) x ys zs = ap (λ (rest : List Written). y ∷ rest) (appended xs x ys zs)

pub fails_before : (old new : DeskState) (files more : List Written) (which : Which) → FailsToWriteAll old new files which → FailsToWriteAll old new (files ++ more) which
fails_before old new files more which h = record {
  before = h.before;
  file = h.file;
  behind = h.behind ++ more;
  split = ap (λ (xs : List Written). xs ++ more) h.split ∙ appended h.before h.file h.behind more;
  is = h.is;
  mid = h.mid;
  written = h.written;
  fails = h.fails;
}

-- ---- where one couldn't be written

split_before : (q : Text) (before : List Written) (file : Written) (behind : List Written) → AreOthers q (before ++ file ∷ behind) → AreOthers q before × (file.name ≢ q)
split_before q [] file behind differ = (λ k d low. absurd (omega (arith, low)), All-head (λ f. f.name ≢ q) file behind differ)
split_before q (f ∷ before) file behind differ =
    let rest = split_before q before file behind (All-tail (λ g. g.name ≢ q) f (before ++ file ∷ behind) differ) in
    (All-cons (λ g. g.name ≢ q) f before (All-head (λ g. g.name ≢ q) f (before ++ file ∷ behind) differ) rest.0, rest.1)

module _ (old new : DeskState) (files : List Written) (which : Which) (h : FailsToWriteAll old new files which) where
  pub fails_others : (q : Text) → AreOthers q files → file_at new.files q ≡ file_at old.files q
  fails_others q differ =
      let apart = split_before q h.before h.file h.behind (subst (AreOthers q) h.split differ) in
      others_stay h.mid new h.file q apart.1 h.fails ∙ all_others old h.mid h.before q apart.0 h.written

  abbrev kept : h.mid.faults ≡ old.faults
  kept = all_no_fault old h.mid h.before h.written

  pub fails_none_fell : NoneFell old.faults new.faults
  fails_none_fell = subst (λ (c : Counts). NoneFell c new.faults) kept (none_fell_write h.mid new h.file h.fails)

  pub fails_rose : Rose old.faults.write new.faults.write
  fails_rose = subst (λ (c : Counts). Rose c.write new.faults.write) kept (rose_write h.mid new h.file h.fails)

-- ---- an answer that was given, or couldn't be

-- no file that an answer writes is what is said
abbrev pub AreFiles : List Written → Type 0
AreFiles files = All (λ file. file.which ≢ Output) files

-- a count of writing rose, as that of a file or of what is said
rose_for_file : (which : Which) (before now : Counts) → which ≢ Output → Rose before.write now.write → RoseWriting which before now
rose_for_file NetFile before now other rose = rose
rose_for_file LibFile before now other rose = rose
rose_for_file DesignFile before now other rose = rose
rose_for_file CertFile before now other rose = rose
rose_for_file Output before now other rose = absurd (other refl)

file_among : (before : List Written) (file : Written) (behind : List Written) → AreFiles (before ++ file ∷ behind) → file.which ≢ Output
file_among [] file behind are = All-head (λ f. f.which ≢ Output) file behind are
file_among (f ∷ before) file behind are = file_among before file behind (All-tail (λ g. g.which ≢ Output) f (before ++ file ∷ behind) are)

module _ (old new : DeskState) (answer : Answer) where
  pub given_no_fault : Gives old new answer → new.faults ≡ old.faults
  given_no_fault gives = ap (λ (d : DeskState). d.faults) gives.said ∙ all_no_fault old gives.written answer.files gives.files

  module _ (q : Text) (differ : AreOthers q answer.files) where
    pub given_others : Gives old new answer → file_at new.files q ≡ file_at old.files q
    given_others gives = ap (λ (d : DeskState). file_at d.files q) gives.said ∙ all_others old gives.written answer.files q differ gives.files

    pub ungiven_others : (which : Which) → FailsToGive old new answer which → file_at new.files q ≡ file_at old.files q
    ungiven_others _ (unwritten which fails) = fails_others old new answer.files which fails q differ
    ungiven_others _ (unsaid written files front) =
        ap (λ (d : DeskState). file_at d.files q) front.kept ∙ all_others old written answer.files q differ files

  pub none_fell_ungiven : (which : Which) → FailsToGive old new answer which → NoneFell old.faults new.faults
  none_fell_ungiven _ (unwritten which fails) = fails_none_fell old new answer.files which fails
  none_fell_ungiven _ (unsaid written files front) =
      subst (λ (c : Counts). NoneFell c new.faults) (all_no_fault old written answer.files files) (none_fell_say written new answer.said front)

  rose_saying : (written : DeskState) → WritesAll old written answer.files → SaysFront written new answer.said → Rose old.faults.say new.faults.say
  rose_saying written files front = subst (λ (c : Counts). Rose c.say new.faults.say) (all_no_fault old written answer.files files) front.rose

  pub rose_ungiven : AreFiles answer.files → (which : Which) → FailsToGive old new answer which → RoseWriting which old.faults new.faults
  rose_ungiven are _ (unwritten which fails) =
      let other = file_among fails.before fails.file fails.behind (subst AreFiles fails.split are) in
      rose_for_file which old.faults new.faults (λ e. other (sym fails.is ∙ e)) (fails_rose old new answer.files which fails)
  rose_ungiven are _ (unsaid written files front) = rose_saying written files front

  pub some_rose : (which : Which) → FailsToGive old new answer which → NoneRose old.faults new.faults → ⊥
  some_rose _ (unwritten which fails) none = none.write (fails_rose old new answer.files which fails)
  some_rose _ (unsaid written files front) none = none.say (rose_saying written files front)

  -- its text was said
  pub said_on : Gives old new answer → new.said ≡ option_map (λ before. before ++ answer.said) old.said
  said_on gives =
      ap (λ (d : DeskState). d.said) gives.said
      ∙ ap (λ (said : Option Text). option_map (λ before. before ++ answer.said) said) (all_unsaid old gives.written answer.files gives.files)
