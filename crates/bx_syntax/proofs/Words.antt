-- What a word is: a list of uses looked up, and which words are names.
use Rattle.std.proofs.Common.{◌≡◌, ◌≢◌, ℕ, ◌+◌, Bool, true, false, ◌||◌, cond, List, [], ◌∷◌, ◌++◌, map, Option, Some, None, Result, Ok, Err, IfOk, option_map, refl, sym, ap, ◌∙◌, ⊎_elim, add-one}
use Rattle.std.specs.Prelude.{Contains, position, slice_get, if◌then◌else◌}
use Rattle.std.specs.List.{list_any, position_from}
use Rattle.std.specs.Str.{bytes_eq}
use Rattle.std.proofs.lemmas.Bool.{both_ways, cases_Bool, cond-true, cond-false, or_parts, or_from, false_from_ne_true}
use Rattle.std.proofs.lemmas.Cmp.{nat_list_eq_equiv}
use Rattle.std.proofs.lemmas.Slice.Eq.{bytes_eq-Decides}
use Rattle.std.proofs.lemmas.Map.Views.{list_any-from_Contains, Contains-from_any}
use Rattle.std.proofs.lemmas.Option.{slice_get-map}
use Rattle.std.proofs.lemmas.Iterator.Adapters.{position_from-zero}
use Rattle.bx_syntax.specs.declared.terminal.Terminal.{Terminal}
use Rattle.bx_syntax.specs.declared.terminal.Terminal.TheVariants.{Name, Reserved}
use Rattle.bx_syntax.specs.declared.reserved.Word.{Word}
use Rattle.bx_syntax.specs.declared.reserved.TheConstants.{RESERVED, USED}
use Rattle.bx_syntax.specs.Words.{uses, refused_words, used_words, reserved_words, use_of, word_terminal}
use Rattle.bx_syntax.specs.Tables.{word_of, word_at}

abbrev Text : Type 0
Text = List ℕ

abbrev is_name : Terminal → Bool
is_name (Name n) = true
is_name _ = false

-- looked up in a list of uses

found : (word : Text) (u : Text × Terminal) (rest : List (Text × Terminal)) (other : Terminal) → bytes_eq word u.0 ≡ true → use_of word (u ∷ rest) other ≡ u.1
found word u rest other e = cond-true _ _ _ e

missed : (word : Text) (u : Text × Terminal) (rest : List (Text × Terminal)) (other : Terminal) → bytes_eq word u.0 ≡ false → use_of word (u ∷ rest) other ≡ use_of word rest other
missed word u rest other e = cond-false _ _ _ e

-- a word that isn't used is what it is otherwise
unused : (word : Text) (us : List (Text × Terminal)) (other : Terminal) → list_any (bytes_eq word) (map (λ (u : Text × Terminal). u.0) us) ≡ false → use_of word us other ≡ other
unused word [] other e = refl
unused word (u ∷ us) other e =
    let parts = or_parts (bytes_eq word u.0) (list_any (bytes_eq word) (map (λ (u : Text × Terminal). u.0) us)) e in
    missed word u us other parts.0 ∙ unused word us other parts.1

-- where no use is a name, a word is one only where it is otherwise
otherwise : (word : Text) (us : List (Text × Terminal)) (other : Terminal) (name : Text) → list_any (λ (u : Text × Terminal). is_name u.1) us ≡ false → use_of word us other ≡ Name name → other ≡ Name name
otherwise word [] other name none e = e
otherwise word (u ∷ us) other name none e =
    let parts = or_parts (is_name u.1) (list_any (λ (u : Text × Terminal). is_name u.1) us) none in
    ⊎_elim
    (λ here. absurd (both_ways (is_name u.1) parts.0 (ap is_name (sym (found word u us other here) ∙ e))))
    (λ past. otherwise word us other name parts.1 (sym (missed word u us other past) ∙ e))
    (cases_Bool (bytes_eq word u.0))

-- where no use is a name, a used word is none
used_is_none : (word : Text) (us : List (Text × Terminal)) (other : Terminal) (name : Text) → list_any (λ (u : Text × Terminal). is_name u.1) us ≡ false → list_any (bytes_eq word) (map (λ (u : Text × Terminal). u.0) us) ≡ true → use_of word us other ≢ Name name
used_is_none word [] other name none used e = both_ways false refl used
used_is_none word (u ∷ us) other name none used e =
    let parts = or_parts (is_name u.1) (list_any (λ (u : Text × Terminal). is_name u.1) us) none in
    ⊎_elim
    (λ here. both_ways (is_name u.1) parts.0 (ap is_name (sym (found word u us other here) ∙ e)))
    (λ past. used_is_none word us other name parts.1 (sym (ap (λ b. b || list_any (bytes_eq word) (map (λ (u : Text × Terminal). u.0) us)) past) ∙ used) (sym (missed word u us other past) ∙ e))
    (cases_Bool (bytes_eq word u.0))

-- what a word is otherwise
abbrev elsewhere : Text → Terminal
elsewhere word = if list_any (bytes_eq word) refused_words then Reserved else Name word

elsewhere_is : (word name : Text) → elsewhere word ≡ Name name → (word ≡ name) × (list_any (bytes_eq word) refused_words ≡ false)
elsewhere_is word name e = by_test (list_any (bytes_eq word) refused_words) refl e where
  by_test : (b : Bool) → list_any (bytes_eq word) refused_words ≡ b → cond b Reserved (Name word) ≡ Name name → (word ≡ name) × (list_any (bytes_eq word) refused_words ≡ false)
  by_test true same e = absurd (cc)
  by_test false same e = (cc, same)

pub name_is_word : (word name : Text) → word_terminal word ≡ Name name → word ≡ name
unfolding word_terminal
name_is_word word name e = (elsewhere_is word name (otherwise word uses (elsewhere word) name refl e)).0

-- a word that equals one of these fails a test that each of these fails
none_of : (test : Text → Bool) (words : List Text) (word : Text) → list_any (bytes_eq word) words ≡ true → list_any test words ≡ false → test word ≡ false
none_of test [] word e h = absurd (both_ways false refl e)
none_of test (w ∷ words) word e h =
    let parts = or_parts (test w) (list_any test words) h in
    ⊎_elim
    (λ here. ap test ((bytes_eq-Decides word w).0 here) ∙ parts.0)
    (λ past. none_of test words word (sym (ap (λ b. b || list_any (bytes_eq word) words) past) ∙ e) parts.1)
    (cases_Bool (bytes_eq word w))

among : (words : List Text) (word : Text) → Contains words word → list_any (bytes_eq word) words ≡ true
among words word h = list_any-from_Contains nat_list_eq_equiv word words h

contains : (words : List Text) (word : Text) → list_any (bytes_eq word) words ≡ true → Contains words word
contains words word e = Contains-from_any (λ x y same. (bytes_eq-Decides x y).0 same) word words e

-- in one list or the other
any-append : (test : Text → Bool) (ws vs : List Text) → list_any test (ws ++ vs) ≡ (list_any test ws || list_any test vs)
any-append test [] vs = refl
any-append test (w ∷ ws) vs = by_test (test w) (any-append test ws vs) where
  by_test : (b : Bool) → list_any test (ws ++ vs) ≡ (list_any test ws || list_any test vs) → (b || list_any test (ws ++ vs)) ≡ ((b || list_any test ws) || list_any test vs)
  by_test true h = refl
  by_test false h = h

refused_is_reserved : (word : Text) → list_any (bytes_eq word) refused_words ≡ true → word_terminal word ≡ Reserved
unfolding word_terminal
refused_is_reserved word e =
    unused word uses (elsewhere word) (none_of (λ w. list_any (bytes_eq w) used_words) refused_words word e refl) ∙ cond-true _ _ _ e

pub refused_words_are : (word : Text) → Contains refused_words word → word_terminal word ≡ Reserved
refused_words_are word h = refused_is_reserved word (among refused_words word h)

other_is_name : (word : Text) → list_any (bytes_eq word) reserved_words ≡ false → word_terminal word ≡ Name word
unfolding word_terminal
other_is_name word e =
    let parts = or_parts _ _ (sym (any-append (bytes_eq word) used_words refused_words) ∙ e) in
    unused word uses (elsewhere word) parts.0 ∙ cond-false _ _ _ parts.1

name_is_other : (word : Text) → word_terminal word ≡ Name word → list_any (bytes_eq word) reserved_words ≡ false
unfolding word_terminal
name_is_other word e =
    let refused = (elsewhere_is word word (otherwise word uses (elsewhere word) word refl e)).1 in
    any-append (bytes_eq word) used_words refused_words
    ∙ or_from _ _ (false_from_ne_true _ (λ yes. used_is_none word uses (elsewhere word) word refl yes e)) refused

pub names_are : (word : Text) → (word_terminal word ≡ Name word → ¬ (Contains reserved_words word)) × (¬ (Contains reserved_words word) → word_terminal word ≡ Name word)
names_are word = (
  (λ e h. both_ways _ (name_is_other word e) (among reserved_words word h)),
  (λ h. other_is_name word (false_from_ne_true _ (λ yes. h (contains reserved_words word yes)))),
)

-- the code's tables

shifted : {X : Type 0} (test : X → Bool) (n : ℕ) (xs : List X) → position_from test (n + 1) xs ≡ option_map (λ k. k + 1) (position_from test n xs)
shifted test n [] = refl
shifted test n (x ∷ xs) = by_test (test x) (shifted test (n + 1) xs) where
  by_test : (b : Bool) → position_from test (n + 1 + 1) xs ≡ option_map (λ k. k + 1) (position_from test (n + 1) xs) → cond b (Some (n + 1)) (position_from test (n + 1 + 1) xs) ≡ option_map (λ k. k + 1) (cond b (Some n) (position_from test (n + 1) xs))
  by_test true h = refl
  by_test false h = h

-- what a word is by its place among words of which the first have these uses
abbrev or_reserved : Option Terminal → Terminal
or_reserved None = Reserved
or_reserved (Some t) = t

abbrev by_place : Text → List Terminal → Option ℕ → Terminal
by_place word ts None = Name word
by_place word ts (Some k) = or_reserved (slice_get ts k)

next_place : (word : Text) (t : Terminal) (ts : List Terminal) (place : Option ℕ) → by_place word (t ∷ ts) (option_map (λ k. k + 1) place) ≡ by_place word ts place
next_place word t ts None = refl
next_place word t ts (Some k) = rw add-one refl

refused_place : (word : Text) (words : List Text) → by_place word [] (position_from (bytes_eq word) 0 words) ≡ (if list_any (bytes_eq word) words then Reserved else Name word)
refused_place word [] = refl
refused_place word (w ∷ words) = by_test (bytes_eq word w) (refused_place word words) where
  none : (place : Option ℕ) → by_place word [] (option_map (λ k. k + 1) place) ≡ by_place word [] place
  none None = refl
  none (Some k) = refl

  by_test : (b : Bool) → by_place word [] (position_from (bytes_eq word) 0 words) ≡ (if list_any (bytes_eq word) words then Reserved else Name word) →
      by_place word [] (cond b (Some 0) (position_from (bytes_eq word) (0 + 1) words)) ≡ (if b || list_any (bytes_eq word) words then Reserved else Name word)
  by_test true h = refl
  by_test false h = ap (by_place word []) (shifted (bytes_eq word) 0 words) ∙ none (position_from (bytes_eq word) 0 words) ∙ h

used_place : (word : Text) (us : List (Text × Terminal)) (words : List Text) →
    by_place word (map (λ (u : Text × Terminal). u.1) us) (position_from (bytes_eq word) 0 (map (λ (u : Text × Terminal). u.0) us ++ words)) ≡ use_of word us (if list_any (bytes_eq word) words then Reserved else Name word)
used_place word [] words = refused_place word words
used_place word (u ∷ us) words = by_test (bytes_eq word u.0) (used_place word us words) where
  by_test : (b : Bool) → by_place word (map (λ (u : Text × Terminal). u.1) us) (position_from (bytes_eq word) 0 (map (λ (u : Text × Terminal). u.0) us ++ words)) ≡ use_of word us (if list_any (bytes_eq word) words then Reserved else Name word) →
      by_place word (u.1 ∷ map (λ (u : Text × Terminal). u.1) us) (cond b (Some 0) (position_from (bytes_eq word) (0 + 1) (map (λ (u : Text × Terminal). u.0) us ++ words)))
      ≡ (if b then u.1 else use_of word us (if list_any (bytes_eq word) words then Reserved else Name word))
  by_test true h = refl
  by_test false h =
      ap (by_place word (u.1 ∷ map (λ (u : Text × Terminal). u.1) us)) (shifted (bytes_eq word) 0 (map (λ (u : Text × Terminal). u.0) us ++ words))
      ∙ next_place word u.1 (map (λ (u : Text × Terminal). u.1) us) (position_from (bytes_eq word) 0 (map (λ (u : Text × Terminal). u.0) us ++ words))
      ∙ h

from_map : {X Y : Type 0} (test : Y → Bool) (f : X → Y) (n : ℕ) (xs : List X) → position_from (λ x. test (f x)) n xs ≡ position_from test n (map f xs)
from_map test f n [] = refl
from_map test f n (x ∷ xs) = ap (λ rest. cond (test (f x)) (Some n) rest) (from_map test f (n + 1) xs)

table_word : (word : Text) (place : Option ℕ) → word_at word place ≡ by_place word (map (λ (u : Text × Terminal). u.1) uses) place
table_word word None = refl
table_word word (Some place) = at_row place where
  row : (w : Option Word) → word_of w ≡ or_reserved (option_map (λ w. word_of (Some w)) w)
  row None = refl
  row (Some w) = refl

  at_row : (k : ℕ) → word_of (slice_get USED k) ≡ or_reserved (slice_get (map (λ (u : Text × Terminal). u.1) uses) k)
  at_row k = row (slice_get USED k) ∙ ap or_reserved (sym (slice_get-map (λ (w : Word). word_of (Some w)) USED k))

pub table_is : (word : Text) → word_at word (position (λ w. bytes_eq word w.now) RESERVED) ≡ word_terminal word
unfolding word_terminal
table_is word =
    ap (word_at word) (position_from-zero (λ w. bytes_eq word w.now) RESERVED ∙ from_map (bytes_eq word) (λ w. w.now) 0 RESERVED)
    ∙ table_word word (position_from (bytes_eq word) 0 (used_words ++ refused_words))
    ∙ used_place word uses refused_words

-- what is answered for a name is what the word is
pub name_found : {E : Type 0} (r : Result Terminal E) (t u : Terminal) → t ≡ u → IfOk r (λ x. x ≡ t) → IfOk r (λ x. x ≡ u)
name_found (Ok x) t u e h = h ∙ e
name_found (Err w) t u e h = tt
