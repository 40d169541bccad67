-- A file is written over another exactly where one of those that are written, and another of all, have one name.
use Rattle.std.proofs.Common.{◌≡◌, zero, suc, ◌&&◌, ◌||◌, ◌⊎◌, not, Bool, true, false, List, [], ◌∷◌, ◌++◌, Option, Some, None, inl, inr, refl, sym, ap, subst, ◌∙◌, arith}
use Rattle.std.specs.Prelude.{◌≢◌}
use Rattle.std.specs.List.{Contains, list_any}
use Rattle.std.specs.Str.{bytes_eq}
use Rattle.std.proofs.lemmas.Bool.{true≢false}
use Rattle.std.proofs.lemmas.List.Elements.{Contains-append_cases, Contains-append_left, Contains-append_right}
use Rattle.std.proofs.lemmas.List.Folds.{Any-from_list_any, list_any-from_Any}
use Rattle.std.proofs.lemmas.Slice.Eq.{bytes_eq-Decides}
use Rattle.clap.specs.Walk.{Row}
use Rattle.clap.proofs.WalkLemmas.{both}
use Rattle.bx_words.specs.declared.verbs.File.{File}
use Rattle.bx_words.specs.Verbs.{Text, file_name}
use Rattle.bx_words.specs.Clap.{named_in}
use Rattle.bx_words.specs.Names.{have_one_name, is_same, is_written_over}

-- ---- one name

pub one_name : (x y : Option Text) → is_same x y ≡ true → (name : Text) × (x ≡ Some name) × (y ≡ Some name)
one_name None y e = absurd (true≢false (sym e))
one_name (Some a) None e = absurd (true≢false (sym e))
one_name (Some a) (Some b) e = (a, refl, ap Some (sym ((bytes_eq-Decides a b).0 e)))

pub same_name : (name : Text) (x y : Option Text) → x ≡ Some name → y ≡ Some name → is_same x y ≡ true
same_name name x y e f = ap (λ a. is_same a y) e ∙ ap (λ b. is_same (Some name) b) f ∙ (bytes_eq-Decides name name).1 refl

turned : (x y : Option Text) → is_same x y ≡ true → is_same y x ≡ true
turned x y e = let n = one_name x y e in same_name n.0 y x n.2 n.1

-- ---- a test that an element passes

passes : {X : Type 0} (p : X → Bool) (xs : List X) (x : X) → Contains xs x → p x ≡ true → list_any p xs ≡ true
passes p xs x is e = list_any-from_Any p xs (is.0, x, is.1, is.2, e)

abbrev Passing : {X : Type 0} → (X → Bool) → List X → Type 0
Passing {X} p xs = (x : X) × Contains xs x × (p x ≡ true)

passing : {X : Type 0} (p : X → Bool) (xs : List X) → list_any p xs ≡ true → Passing p xs
passing p xs e = let a = Any-from_list_any p xs e in (a.1, (a.0, a.2, a.3), a.4)

or_right : (a b : Bool) → b ≡ true → (a || b) ≡ true
or_right true b e = refl
or_right false b e = e

or_left : (a b : Bool) → a ≡ true → (a || b) ≡ true
or_left true b e = refl
or_left false b e = absurd (true≢false (sym e))

-- ---- files of which no two are one

abbrev is_file : File → File → Bool
is_file one two = bytes_eq (file_name one) (file_name two)

abbrev pub are_files : List File → List File → Bool
are_files read [] = true
are_files read (file ∷ written) = (not (list_any (is_file file) (read ++ written))) && are_files read written

not_true : (b : Bool) → not b ≡ true → b ≡ true → ⊥
not_true true e f = true≢false (sym e)
not_true false e f = true≢false (sym f)

two_files : (file other : File) (files : List File) → not (list_any (is_file file) files) ≡ true → Contains files other → file ≢ other
two_files file other files none is same =
    not_true (list_any (is_file file) files) none
    (passes (is_file file) files other is ((bytes_eq-Decides (file_name file) (file_name other)).1 (ap file_name same)))

-- ---- both ways

pub record Over (found : List Row) (read written : List File) : Type 0 where
  pub file : File
  pub other : File
  pub is_written : Contains written file
  pub is_file : Contains (read ++ written) other
  pub are_two : file ≢ other
  pub one_name : have_one_name found file other ≡ true

behind : (file : File) (written : List File) (x : File) → Contains written x → Contains (file ∷ written) x
behind file written x is = Contains-append_right (file ∷ []) written x is

at_head : (file : File) (written : List File) → Contains (file ∷ written) file
at_head file written = (0, omega arith, refl)

further : (read written : List File) (file x : File) → Contains (read ++ written) x → Contains (read ++ file ∷ written) x
further read written file x is = elim (Contains-append_cases read written x is) [
  | inl first ↦ Contains-append_left read (file ∷ written) x first
  | inr second ↦ Contains-append_right read (file ∷ written) x (behind file written x second)
]

pub over : (found : List Row) (read written : List File) → are_files read written ≡ true → is_written_over found read written ≡ true
    → Over found read written
over found read [] apart e = absurd (true≢false (sym e))
over found read (file ∷ written) apart e =
    go (list_any (have_one_name found file) read) refl (list_any (have_one_name found file) written) refl e
    (over found read written (both _ _ apart).1)
  where
    two : not (list_any (is_file file) (read ++ written)) ≡ true
    two = (both _ _ apart).0

    of : (x : File) → Contains (read ++ written) x → have_one_name found file x ≡ true → Over found read (file ∷ written)
    of x is same = record {
      file = file;
      other = x;
      is_written = at_head file written;
      is_file = further read written file x is;
      are_two = two_files file x (read ++ written) two is;
      one_name = same;
    }

    go : (a : Bool) → list_any (have_one_name found file) read ≡ a → (b : Bool) → list_any (have_one_name found file) written ≡ b
        → (a || (b || is_written_over found read written)) ≡ true → (is_written_over found read written ≡ true → Over found read written)
        → Over found read (file ∷ written)
    go true ea b eb h rest =
        let p = passing (have_one_name found file) read ea in
        of p.0 (Contains-append_left read written p.0 p.1) p.2
    go false ea true eb h rest =
        let p = passing (have_one_name found file) written eb in
        of p.0 (Contains-append_right read written p.0 p.1) p.2
    go false ea false eb h rest =
        let o = rest h in
        record {
          file = o.file;
          other = o.other;
          is_written = behind file written o.file o.is_written;
          is_file = further read written file o.other o.is_file;
          are_two = o.are_two;
          one_name = o.one_name;
        }

first_or_rest : (file : File) (written : List File) (x : File) → Contains (file ∷ written) x → (x ≡ file) ⊎ Contains written x
first_or_rest file written x is = elim (Contains-append_cases (file ∷ []) written x is) [
  | inl first ↦ inl (only first)
  | inr second ↦ inr second
]
  where
    only : Contains (file ∷ []) x → x ≡ file
    only (zero, lt, e) = sym e
    only (suc k, lt, e) = absurd (omega arith)

module _ (found : List Row) (read : List File) where
  over_read : (file : File) (written : List File) (other : File) → Contains read other → have_one_name found file other ≡ true
      → is_written_over found read (file ∷ written) ≡ true
  over_read file written other is e =
      or_left (list_any (have_one_name found file) read) _ (passes (have_one_name found file) read other is e)

  over_written : (file : File) (written : List File) (other : File) → Contains written other → have_one_name found file other ≡ true
      → is_written_over found read (file ∷ written) ≡ true
  over_written file written other is e =
      or_right (list_any (have_one_name found file) read) _
      (or_left (list_any (have_one_name found file) written) _ (passes (have_one_name found file) written other is e))

  over_rest : (file : File) (written : List File) → is_written_over found read written ≡ true → is_written_over found read (file ∷ written) ≡ true
  over_rest file written e = or_right (list_any (have_one_name found file) read) _ (or_right (list_any (have_one_name found file) written) _ e)

  pub is_over : (written : List File) (file other : File) → Contains written file → Contains (read ++ written) other → file ≢ other
      → have_one_name found file other ≡ true → is_written_over found read written ≡ true
  is_over [] file other is among two e = absurd (omega (arith, is.1))
  is_over (x ∷ written) file other is among two e =
      elim (first_or_rest x written file is) [
        | inl first ↦ elim (Contains-append_cases read (x ∷ written) other among) [
          | inl in_read ↦ over_read x written other in_read (subst (λ f. have_one_name found f other ≡ true) first e)
          | inr in_written ↦ elim (first_or_rest x written other in_written) [
            | inl same ↦ absurd (two (first ∙ sym same))
            | inr later ↦ over_written x written other later (subst (λ f. have_one_name found f other ≡ true) first e)
          ]
        ]
        | inr rest ↦ elim (Contains-append_cases read (x ∷ written) other among) [
          | inl in_read ↦ over_rest x written (is_over written file other rest (Contains-append_left read written other in_read) two e)
          | inr in_written ↦ elim (first_or_rest x written other in_written) [
            | inl same ↦ over_written x written file rest (turned_name file x (subst (λ o. have_one_name found file o ≡ true) same e))
            | inr later ↦ over_rest x written (is_over written file other rest (Contains-append_right read written other later) two e)
          ]
        ]
      ]
    where
      turned_name : (a b : File) → have_one_name found a b ≡ true → have_one_name found b a ≡ true
      turned_name a b h = turned (named_in found a) (named_in found b) h
