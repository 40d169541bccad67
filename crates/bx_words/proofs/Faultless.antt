-- What holds of words with which nothing is wrong.
use Rattle.std.proofs.Common.{◌≡◌, ◌||◌, Bool, true, false, List, [], ◌∷◌, Option, Some, None, refl, sym, ap, ◌∙◌}
use Rattle.std.specs.Prelude.{◌≢◌, if◌then◌else◌}
use Rattle.std.specs.Option.{option_map_or}
use Rattle.std.proofs.lemmas.Bool.{true≢false}
use Rattle.std.proofs.lemmas.List.Elements.{All-cons, All-nil}
use Rattle.clap.specs.Walk.{Row}
use Rattle.bx_words.specs.declared.verbs.File.TheVariants.{Net, Lib, Design as DesignFile, Cert}
use Rattle.bx_words.specs.declared.verbs.Verb.{Verb}
use Rattle.bx_words.specs.declared.verbs.Verb.TheVariants.{Design}
use Rattle.bx_words.specs.declared.faults.WordFault.{WordFault}
use Rattle.bx_words.specs.declared.faults.WordFault.TheVariants.{Command as NoVerb, Usage, Same}
use Rattle.bx_words.specs.Verbs.{Text, line_of, opts_of, verb_of}
use Rattle.bx_words.specs.Clap.{has_matches, rows, given_in, named_in}
use Rattle.bx_words.specs.Names.{AreApart, is_same, is_written_over}
use Rattle.bx_words.specs.Numbers.{AreTaken}
use Rattle.bx_words.specs.Words.{first_fault, verb_fault, found_fault, option_fault, same_fault, own_fault, or_next}
use Rattle.bx_words.proofs.CauseLemmas.{over_in}
use Rattle.bx_words.proofs.Taken.{taken as all_taken}
use Rattle.bx_words.proofs.Over.{same_name}

pub record IsFaultless (words : List Text) (verb : Verb) : Type 0 where
  pub has : has_matches verb words ≡ true
  pub taken : AreTaken (opts_of (line_of verb)) (given_in (rows verb words))
  pub apart : over_in words verb ≡ false
  pub own : own_fault verb (rows verb words) ≡ None

neither : (a b : Option WordFault) → or_next a b ≡ None → (a ≡ None) × (b ≡ None)
neither None b e = (refl, e)
neither (Some f) b e = cc

not_else : (t : Bool) (f : WordFault) (o : Option WordFault) → (if t then o else Some f) ≡ None → (t ≡ true) × (o ≡ None)
not_else true f o e = (refl, e)
not_else false f o e = cc

not_then : (t : Bool) (f : WordFault) → (if t then Some f else None) ≡ None → t ≡ false
not_then false f e = refl
not_then true f e = cc

pub faultless : (words : List Text) (verb : Verb) → first_fault words ≡ None → verb_of words ≡ Some verb → IsFaultless words verb
faultless words verb none first =
    let read : verb_fault words verb ≡ None = sym (ap (λ v. option_map_or (verb_fault words) v (Some NoVerb)) first) ∙ none in
    let found = not_else (has_matches verb words) Usage (found_fault verb (rows verb words)) read in
    let two = neither (option_fault (opts_of (line_of verb)) (given_in (rows verb words)))
    (or_next (same_fault verb (rows verb words)) (own_fault verb (rows verb words))) found.1 in
    let three = neither (same_fault verb (rows verb words)) (own_fault verb (rows verb words)) two.1 in
    record {
      has = found.0;
      taken = all_taken (opts_of (line_of verb)) (given_in (rows verb words)) two.0;
      apart = not_then (over_in words verb) Same three.0;
      own = three.1;
    }

-- ---- the names of `design`

two_names : (x y : Option Text) (a b : Text) → x ≡ Some a → y ≡ Some b → is_same x y ≡ false → a ≢ b
two_names x y a b e f differ same =
    true≢false (sym (same_name a x y e (f ∙ ap Some (sym same))) ∙ differ)

left : (a b : Bool) → (a || b) ≡ false → a ≡ false
left false b e = refl
left true b e = absurd (true≢false e)

right : (a b : Bool) → (a || b) ≡ false → b ≡ false
right false b e = e
right true b e = absurd (true≢false e)

pub names_apart : (found : List Row) (net lib design cert : Text) → named_in found Net ≡ Some net → named_in found Lib ≡ Some lib
    → named_in found DesignFile ≡ Some design → named_in found Cert ≡ Some cert
    → is_written_over found (line_of Design).read (line_of Design).written ≡ false → AreApart (net ∷ lib ∷ []) (design ∷ cert ∷ [])
names_apart found net lib design cert n l d c apart =
    let over_design = left _ _ apart in
    let later = right _ _ apart in
    let over_cert = left _ _ (right _ _ later) in
    let net_design = two_names (named_in found DesignFile) (named_in found Net) design net d n (left _ _ over_design) in
    let lib_design = two_names (named_in found DesignFile) (named_in found Lib) design lib d l (left _ _ (right _ _ over_design)) in
    let cert_design = two_names (named_in found DesignFile) (named_in found Cert) design cert d c (left _ _ (left _ _ later)) in
    let net_cert = two_names (named_in found Cert) (named_in found Net) cert net c n (left _ _ over_cert) in
    let lib_cert = two_names (named_in found Cert) (named_in found Lib) cert lib c l (left _ _ (right _ _ over_cert)) in (
      All-cons (λ other. design ≢ other) net (lib ∷ cert ∷ []) net_design
          (All-cons (λ other. design ≢ other) lib (cert ∷ []) lib_design
          (All-cons (λ other. design ≢ other) cert [] cert_design (All-nil (λ other. design ≢ other)))),
      (
        All-cons (λ other. cert ≢ other) net (lib ∷ []) net_cert
            (All-cons (λ other. cert ≢ other) lib [] lib_cert (All-nil (λ other. cert ≢ other))),
        tt,
      ),
    )
