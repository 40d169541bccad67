-- What an operation gives of one value more.
use Rattle.std.proofs.Common.{◌≡◌, ℕ, ◌+◌, ◌<◌, Bool, true, false, Option, Some, List, [], ◌∷◌, ◌++◌, length, get_or, take, map, refl, sym, ◌∙◌, ap, subst}
use Rattle.std.specs.Prelude.{not, ◌&&◌, ◌||◌, if◌then◌else◌, unwrap_or}
use mathlib.Core.Bool.{beq}
use Rattle.std.proofs.lemmas.List.{map_more}
use Rattle.bx_logic.specs.Known.{known_at, known_value}
use Rattle.bx_logic.specs.Op.{conjunction, disjunction, parity}

pub conjunction_push : (xs : List Bool) (b : Bool) → conjunction (xs ++ b ∷ []) ≡ conjunction xs && b
conjunction_push [] true = refl
conjunction_push [] false = refl
conjunction_push (true ∷ xs) b = conjunction_push xs b
conjunction_push (false ∷ xs) b = refl

pub disjunction_push : (xs : List Bool) (b : Bool) → disjunction (xs ++ b ∷ []) ≡ disjunction xs || b
disjunction_push [] true = refl
disjunction_push [] false = refl
disjunction_push (true ∷ xs) b = refl
disjunction_push (false ∷ xs) b = disjunction_push xs b

pub parity_push : (xs : List Bool) (b : Bool) → parity (xs ++ b ∷ []) ≡ (if b then not (parity xs) else parity xs)
parity_push [] true = refl
parity_push [] false = refl
parity_push (false ∷ xs) b = parity_push xs b
parity_push (true ∷ xs) true = ap not (parity_push xs true)
parity_push (true ∷ xs) false = ap not (parity_push xs false)

value_more : (known : List (Option Bool)) (nets : List ℕ) (i : ℕ) (b : Bool) → i < length nets → known_at known (get_or nets i 0) ≡ Some b →
    map (known_value known) (take (i + 1) nets) ≡ map (known_value known) (take i nets) ++ b ∷ []
value_more known nets i b h e =
    map_more (known_value known) nets i 0 h ∙ ap (λ (o : Option Bool). map (known_value known) (take i nets) ++ unwrap_or o false ∷ []) e

differs : (a b : Bool) → not (beq a b) ≡ (if b then not a else a)
differs true true = refl
differs true false = refl
differs false true = refl
differs false false = refl

pub record IsTally (values : List Bool) (all any odd : Bool) : Type 0 where
  pub all_are : all ≡ conjunction values
  pub any_is : any ≡ disjunction values
  pub odd_are : odd ≡ parity values

-- the tally of one net more
pub tally_more : (known : List (Option Bool)) (nets : List ℕ) (i : ℕ) (all any odd b : Bool) →
    IsTally (map (known_value known) (take i nets)) all any odd → i < length nets → known_at known (get_or nets i 0) ≡ Some b →
    IsTally (map (known_value known) (take (i + 1) nets)) (all && b) (any || b) (not (beq odd b))
tally_more known nets i all any odd b tally h e =
    subst (λ (values : List Bool). IsTally values (all && b) (any || b) (not (beq odd b))) (sym (value_more known nets i b h e)) (record {
      all_are = ap (λ a. a && b) tally.all_are ∙ sym (conjunction_push (map (known_value known) (take i nets)) b);
      any_is = ap (λ a. a || b) tally.any_is ∙ sym (disjunction_push (map (known_value known) (take i nets)) b);
      odd_are = ap (λ a. not (beq a b)) tally.odd_are ∙ differs (parity (map (known_value known) (take i nets))) b
          ∙ sym (parity_push (map (known_value known) (take i nets)) b);
    })
