-- The first fault is the one whose cause stands.
use Rattle.std.proofs.Common.{◌≡◌, ℕ, suc, ◌<◌, nat_lt, ◌↔◌, Bool, true, false, List, [], ◌∷◌, Option, Some, None, refl, sym, ap, subst, ◌∙◌, arith, ltb-true, lt-ltb}
use Rattle.std.specs.Prelude.{find, if◌then◌else◌}
use Rattle.std.specs.List.{Contains}
use Rattle.std.specs.Option.{option_map_or}
use Rattle.std.proofs.lemmas.Bool.{true≢false}
use Rattle.bx_words.specs.declared.opts.Opt.{Opt}
use Rattle.bx_words.specs.declared.verbs.Verb.{Verb}
use Rattle.bx_words.specs.declared.verbs.Verb.TheVariants.{Design, Verify, Extract, Sample}
use Rattle.bx_words.specs.declared.faults.WordFault.{WordFault}
use Rattle.bx_words.specs.declared.faults.WordFault.TheVariants.{Command as NoVerb, Usage, Number, Range, Same, Work}
use Rattle.bx_words.specs.Options.{most_work}
use Rattle.bx_words.specs.Verbs.{Text, line_of, opts_of, verb_of}
use Rattle.bx_words.specs.Clap.{has_matches, rows, given_in, named_in}
use Rattle.bx_words.specs.Names.{is_written_over}
use Rattle.bx_words.specs.Numbers.{AreTaken, Given, first_no_number, first_out_of_range, is_no_number, is_out_of_range}
use Rattle.bx_words.specs.Words.{limits_of, budget_of, work_of, or_next, option_fault, same_fault, work_fault, own_fault, found_fault, verb_fault, first_fault}
use Rattle.bx_words.specs.Causes.{HasOneName, IsRead, IsCause}
use Rattle.bx_words.proofs.Over.{are_files, is_over, one_name, over, same_name}
use Rattle.bx_words.proofs.Taken.{taken}

one : (a b : WordFault) → Some a ≡ Some b → a ≡ b
one a b e = cc

none_some : (a : WordFault) → None ≡ Some a → ⊥
none_some a e = cc

-- the cause of one fault is that of another that it is
pub is_cause : (words : List Text) (a b : WordFault) → IsCause words a → Some a ≡ Some b → IsCause words b
is_cause words a b cause e = subst (λ (f : WordFault). IsCause words f) (one a b e) cause

-- ---- one name

distinct : (verb : Verb) → are_files (line_of verb).read (line_of verb).written ≡ true
distinct Design = refl
distinct Verify = refl
distinct Extract = refl
distinct Sample = refl

abbrev pub over_in : List Text → Verb → Bool
over_in words verb = is_written_over (rows verb words) (line_of verb).read (line_of verb).written

has_one_name : (words : List Text) (verb : Verb) → IsRead words verb → AreTaken (opts_of (line_of verb)) (given_in (rows verb words)) → over_in words verb ≡ true
    → HasOneName words
has_one_name words verb read are e =
    let o = over (rows verb words) (line_of verb).read (line_of verb).written (distinct verb) e in
    let n = one_name (named_in (rows verb words) o.file) (named_in (rows verb words) o.other) o.one_name in
    record {
      verb = verb;
      is_read = read;
      taken = are;
      file = o.file;
      other = o.other;
      is_written = o.is_written;
      is_file = o.is_file;
      are_two = o.are_two;
      name = n.0;
      is_its = n.1;
      is_others = n.2;
    }

over_one_name : (words : List Text) (h : HasOneName words) → over_in words h.verb ≡ true
over_one_name words h =
    is_over (rows h.verb words) (line_of h.verb).read (line_of h.verb).written h.file h.other h.is_written h.is_file h.are_two
    (same_name h.name (named_in (rows h.verb words) h.file) (named_in (rows h.verb words) h.other) h.is_its h.is_others)

pub one_verb : (o : Option Verb) (a b : Verb) → o ≡ Some a → o ≡ Some b → a ≡ b
one_verb o a b e f = let same : Some a ≡ Some b = sym e ∙ f in cc

apart : (words : List Text) (verb : Verb) → IsRead words verb → over_in words verb ≡ false → HasOneName words → ⊥
apart words verb read e h =
    let same : h.verb ≡ verb = one_verb (verb_of words) h.verb verb h.is_read.first read.first in
    true≢false (sym (subst (λ (v : Verb). over_in words v ≡ true) same (over_one_name words h)) ∙ e)

not_over : (words : List Text) (verb : Verb) → IsRead words verb → AreTaken (opts_of (line_of verb)) (given_in (rows verb words)) → (HasOneName words → ⊥)
    → over_in words verb ≡ false
not_over words verb read are differ = go (over_in words verb) refl
  where
    go : (b : Bool) → over_in words verb ≡ b → over_in words verb ≡ false
    go false e = e
    go true e = absurd (differ (has_one_name words verb read are e))

-- ---- the cause of the first fault

range_cause : (words : List Text) (verb : Verb) (fault : WordFault) → IsRead words verb
    → first_no_number (opts_of (line_of verb)) (given_in (rows verb words)) ≡ None
    → (o : Option Opt) → first_out_of_range (opts_of (line_of verb)) (given_in (rows verb words)) ≡ o
    → option_map_or (λ x. Some (Range x)) o None ≡ Some fault → IsCause words fault
range_cause words verb fault read numbers None e h = absurd (none_some fault h)
range_cause words verb fault read numbers (Some o) e h =
    is_cause words (Range o) fault (record { verb = verb; is_read = read; numbers = numbers; first = e }) h

number_cause : (words : List Text) (verb : Verb) (fault : WordFault) → IsRead words verb
    → (o : Option Opt) → first_no_number (opts_of (line_of verb)) (given_in (rows verb words)) ≡ o
    → or_next (option_map_or (λ x. Some (Number x)) o None)
    (option_map_or (λ x. Some (Range x)) (first_out_of_range (opts_of (line_of verb)) (given_in (rows verb words))) None) ≡ Some fault
    → IsCause words fault
number_cause words verb fault read None e h =
    range_cause words verb fault read e (first_out_of_range (opts_of (line_of verb)) (given_in (rows verb words))) refl h
number_cause words verb fault read (Some o) e h =
    is_cause words (Number o) fault (record { verb = verb; is_read = read; first = e }) h

own_cause : (words : List Text) (verb : Verb) (fault : WordFault) → IsRead words verb → AreTaken (opts_of (line_of verb)) (given_in (rows verb words))
    → over_in words verb ≡ false → own_fault verb (rows verb words) ≡ Some fault → IsCause words fault
own_cause words Verify fault read are two h = absurd (none_some fault h)
own_cause words Extract fault read are two h = absurd (none_some fault h)
own_cause words Sample fault read are two h = absurd (none_some fault h)
own_cause words Design fault read are two h = go (nat_lt most_work work) refl h
  where
    work : ℕ
    work = work_of (limits_of (given_in (rows Design words))) (budget_of (given_in (rows Design words)))

    go : (t : Bool) → nat_lt most_work work ≡ t → (if t then Some (Work work) else None) ≡ Some fault → IsCause words fault
    go false e h = absurd (none_some fault h)
    go true e h =
        is_cause words (Work work) fault (record {
          is_read = read;
          taken = are;
          apart = apart words Design read two;
          work = refl;
          many = ltb-true most_work work e;
        }) h

same_cause : (words : List Text) (verb : Verb) (fault : WordFault) → IsRead words verb → AreTaken (opts_of (line_of verb)) (given_in (rows verb words))
    → (t : Bool) → over_in words verb ≡ t → or_next (if t then Some Same else None) (own_fault verb (rows verb words)) ≡ Some fault
    → IsCause words fault
same_cause words verb fault read are true e h = is_cause words Same fault (has_one_name words verb read are e) h
same_cause words verb fault read are false e h = own_cause words verb fault read are e h

found_cause : (words : List Text) (verb : Verb) (fault : WordFault) → IsRead words verb
    → (f : Option WordFault) → option_fault (opts_of (line_of verb)) (given_in (rows verb words)) ≡ f
    → or_next f (or_next (same_fault verb (rows verb words)) (own_fault verb (rows verb words))) ≡ Some fault → IsCause words fault
found_cause words verb fault read None e h =
    same_cause words verb fault read (taken (opts_of (line_of verb)) (given_in (rows verb words)) e) (over_in words verb) refl h
found_cause words verb fault read (Some x) e h =
    is_cause words x fault (number_cause words verb x read (first_no_number (opts_of (line_of verb)) (given_in (rows verb words))) refl e) h

verb_cause : (words : List Text) (verb : Verb) (fault : WordFault) → verb_of words ≡ Some verb
    → (t : Bool) → has_matches verb words ≡ t → (if t then found_fault verb (rows verb words) else Some Usage) ≡ Some fault → IsCause words fault
verb_cause words verb fault first true e h =
    found_cause words verb fault (record { first = first; has = e }) (option_fault (opts_of (line_of verb)) (given_in (rows verb words))) refl h
verb_cause words verb fault first false e h = is_cause words Usage fault (verb, record { first = first; has = e }) h

word_cause : (words : List Text) (fault : WordFault) (v : Option Verb) → verb_of words ≡ v
    → option_map_or (verb_fault words) v (Some NoVerb) ≡ Some fault → IsCause words fault
word_cause words fault None e h = is_cause words NoVerb fault e h
word_cause words fault (Some verb) e h = verb_cause words verb fault e (has_matches verb words) refl h

-- ---- the first fault where a cause stands

find_never : (p : Opt → Bool) (xs : List Opt) → ((o : Opt) → Contains xs o → p o ≡ false) → find p xs ≡ None
find_never p [] never = refl
find_never p (x ∷ xs) never =
    rw (never x (0, omega arith, refl)) (find_never p xs (λ o is. never o (suc is.0, omega (arith, is.1), is.2)))

none_wrong : (options : List Opt) (given : Given) → AreTaken options given → option_fault options given ≡ None
none_wrong options given are =
    ap (λ n. or_next (option_map_or (λ o. Some (Number o)) n None) (option_map_or (λ o. Some (Range o)) (first_out_of_range options given) None))
    (find_never (is_no_number given) options (λ o is. (are o is).0))
    ∙ ap (λ r. option_map_or (λ o. Some (Range o)) r None) (find_never (is_out_of_range given) options (λ o is. (are o is).1))

named_fault : (words : List Text) (verb : Verb) → verb_of words ≡ Some verb → first_fault words ≡ verb_fault words verb
named_fault words verb e = ap (λ v. option_map_or (verb_fault words) v (Some NoVerb)) e

pub read_fault : (words : List Text) (verb : Verb) → IsRead words verb → first_fault words ≡ found_fault verb (rows verb words)
read_fault words verb read =
    named_fault words verb read.first ∙ ap (λ (t : Bool). if t then found_fault verb (rows verb words) else Some Usage) read.has

abbrev later_fault : List Text → Verb → Option WordFault
later_fault words verb = or_next (same_fault verb (rows verb words)) (own_fault verb (rows verb words))

taken_fault : (words : List Text) (verb : Verb) → IsRead words verb → AreTaken (opts_of (line_of verb)) (given_in (rows verb words))
    → first_fault words ≡ later_fault words verb
taken_fault words verb read are =
    read_fault words verb read
    ∙ ap (λ f. or_next f (later_fault words verb)) (none_wrong (opts_of (line_of verb)) (given_in (rows verb words)) are)

pub cause_fault : (words : List Text) (fault : WordFault) → IsCause words fault → first_fault words ≡ Some fault
cause_fault words NoVerb h = ap (λ v. option_map_or (verb_fault words) v (Some NoVerb)) h
cause_fault words Usage (verb, m) =
    named_fault words verb m.first ∙ ap (λ (t : Bool). if t then found_fault verb (rows verb words) else Some Usage) m.has
cause_fault words (Number o) h =
    read_fault words h.verb h.is_read
    ∙ ap (λ n. or_next (or_next (option_map_or (λ x. Some (Number x)) n None)
    (option_map_or (λ x. Some (Range x)) (first_out_of_range (opts_of (line_of h.verb)) (given_in (rows h.verb words))) None))
    (later_fault words h.verb)) h.first
cause_fault words (Range o) h =
    read_fault words h.verb h.is_read
    ∙ ap (λ n. or_next (or_next (option_map_or (λ x. Some (Number x)) n None)
    (option_map_or (λ x. Some (Range x)) (first_out_of_range (opts_of (line_of h.verb)) (given_in (rows h.verb words))) None))
    (later_fault words h.verb)) h.numbers
    ∙ ap (λ r. or_next (option_map_or (λ x. Some (Range x)) r None) (later_fault words h.verb)) h.first
cause_fault words Same h =
    taken_fault words h.verb h.is_read h.taken
    ∙ ap (λ (t : Bool). or_next (if t then Some Same else None) (own_fault h.verb (rows h.verb words))) (over_one_name words h)
cause_fault words (Work n) h =
    let found = rows Design words in
    let w = work_of (limits_of (given_in found)) (budget_of (given_in found)) in
    taken_fault words Design h.is_read h.taken
    ∙ ap (λ (t : Bool). or_next (if t then Some Same else None) (work_fault w)) (not_over words Design h.is_read h.taken h.apart)
    ∙ ap (λ (t : Bool). if t then Some (Work w) else None) (lt-ltb most_work w (subst (λ (m : ℕ). most_work < m) h.work h.many))
    ∙ ap (λ (m : ℕ). Some (Work m)) (sym h.work)

pub causes : (words : List Text) (fault : WordFault) → first_fault words ≡ Some fault ↔ IsCause words fault
causes words fault = (word_cause words fault (verb_of words) refl, cause_fault words fault)
