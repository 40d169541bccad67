-- Options that are numbers in their ranges, where no fault of options is found.
use Rattle.std.proofs.Common.{◌≡◌, ℕ, zero, suc, ◌<◌, ◌≤◌, ◌&&◌, nat_le, not, Bool, true, false, List, [], ◌∷◌, length, get_or, Option, Some, None, refl, sym, ap, ◌∙◌, arith, leb-true}
use Rattle.std.specs.Prelude.{find, if◌then◌else◌}
use Rattle.std.specs.List.{Contains}
use Rattle.std.specs.Option.{option_map_or}
use Rattle.clap.proofs.WalkLemmas.{both}
use Rattle.bx_words.specs.declared.opts.Opt.{Opt}
use Rattle.bx_words.specs.declared.opts.Opt.TheVariants.{Area, Width, Height, Budget, Workers, Number as SampleNumber, Gates, Extra}
use Rattle.bx_words.specs.declared.faults.WordFault.{WordFault}
use Rattle.bx_words.specs.declared.faults.WordFault.TheVariants.{Number, Range}
use Rattle.bx_words.specs.Options.{default_of, least_of, most_of}
use Rattle.bx_words.specs.Numbers.{AreTaken, IsTaken, Given, first_no_number, first_out_of_range, is_in_range, is_no_number, is_number, is_out_of_range, number_of}
use Rattle.bx_words.specs.Words.{option_fault, or_next, value_at}

-- ---- where nothing is found, nothing is wrong

find_none : (p : Opt → Bool) (xs : List Opt) → find p xs ≡ None → (k : ℕ) (d : Opt) → k < length xs → p (get_or xs k d) ≡ false
find_none p [] none k d lt = absurd (omega arith)
find_none p (x ∷ xs) none k d lt = go (p x) refl none (λ rest j. find_none p xs rest j d) k lt
  where
    go : (b : Bool) → p x ≡ b → find p (x ∷ xs) ≡ None → (find p xs ≡ None → (j : ℕ) → j < length xs → p (get_or xs j d) ≡ false)
        → (j : ℕ) → j < length (x ∷ xs) → p (get_or (x ∷ xs) j d) ≡ false
    go true e found rest j l = let some : Some x ≡ None = rw e at found in cc
    go false e found rest zero l = e
    go false e found rest (suc j) l = rest (rw e at found) j (omega arith)

none_of : (p : Opt → Bool) (xs : List Opt) → find p xs ≡ None → (o : Opt) → Contains xs o → p o ≡ false
none_of p xs none o is = ap p (sym is.2) ∙ find_none p xs none is.0 o is.1

no_option : (made : Opt → WordFault) (o : Option Opt) → option_map_or (λ x. Some (made x)) o None ≡ None → o ≡ None
no_option made None e = refl
no_option made (Some x) e = cc

neither : (a b : Option WordFault) → or_next a b ≡ None → (a ≡ None) × (b ≡ None)
neither None b e = (refl, e)
neither (Some f) b e = cc

pub taken : (options : List Opt) (given : Given) → option_fault options given ≡ None → AreTaken options given
taken options given none option is =
    let n = neither (option_map_or (λ o. Some (Number o)) (first_no_number options given) None)
    (option_map_or (λ o. Some (Range o)) (first_out_of_range options given) None) none in (
      none_of (is_no_number given) options (no_option Number (first_no_number options given) n.0) option is,
      none_of (is_out_of_range given) options (no_option Range (first_out_of_range options given) n.1) option is,
    )

-- ---- what is taken lies in its range, and so do defaults

budget_default : (b : Bool) (n m : ℕ) → n ≤ 100000 → m ≤ 100000 → (if b then n else m) ≤ 67108864
budget_default true n m h k = omega arith
budget_default false n m h k = omega arith

pub default_least : (o : Opt) (area : ℕ) → least_of o ≤ default_of o area
default_least Area area = omega arith
default_least Width area = omega arith
default_least Height area = omega arith
default_least Budget area = omega arith
default_least Workers area = omega arith
default_least SampleNumber area = omega arith
default_least Gates area = omega arith
default_least Extra area = omega arith

pub default_most : (o : Opt) (area : ℕ) → default_of o area ≤ most_of o
default_most Area area = omega arith
default_most Width area = omega arith
default_most Height area = omega arith
default_most Budget area = budget_default (nat_le area 132) 100000 50000 (omega arith) (omega arith)
default_most Workers area = omega arith
default_most SampleNumber area = omega arith
default_most Gates area = omega arith
default_most Extra area = omega arith

pub record IsWithin (o : Opt) (n : ℕ) : Type 0 where
  pub least : least_of o ≤ n
  pub most : n ≤ most_of o

within : (o : Opt) (n : ℕ) → is_in_range o n ≡ true → IsWithin o n
within o n e =
    let p = both (nat_le (least_of o) n) (nat_le n (most_of o)) e in
    record { least = leb-true (least_of o) n p.0; most = leb-true n (most_of o) p.1 }

negated : (b : Bool) → not b ≡ false → b ≡ true
negated true e = refl
negated false e = cc

second : (a b : Bool) → a ≡ true → (a && b) ≡ false → b ≡ false
second true b e f = f
second false b e f = cc

-- the number that is given
pub given_number : (given : Given) (o : Opt) → IsTaken given o → (text : List ℕ) → given o ≡ Some text → is_number text ≡ true
given_number given o is text e =
    let told : option_map_or (λ t. not (is_number t)) (Some text) false ≡ false =
    ap (λ (x : Option (List ℕ)). option_map_or (λ t. not (is_number t)) x false) (sym e) ∙ is.0 in
    negated (is_number text) told

pub given_within : (given : Given) (o : Opt) → IsTaken given o → (text : List ℕ) → given o ≡ Some text → IsWithin o (number_of text)
given_within given o is text e =
    let told : option_map_or (λ t. is_number t && not (is_in_range o (number_of t))) (Some text) false ≡ false =
    ap (λ (x : Option (List ℕ)). option_map_or (λ t. is_number t && not (is_in_range o (number_of t))) x false) (sym e) ∙ is.1 in
    within o (number_of text) (negated (is_in_range o (number_of text)) (second (is_number text) _ (given_number given o is text e) told))

pub value_within : (given : Given) (area : ℕ) (o : Opt) → IsTaken given o → IsWithin o (value_at area given o)
value_within given area o is = go (given o) refl
  where
    go : (x : Option (List ℕ)) → given o ≡ x → IsWithin o (value_at area given o)
    go None e = rw e (record { least = default_least o area; most = default_most o area })
    go (Some text) e = rw e (given_within given o is text e)
