-- Texts that begin with given bytes, and choices by a test.
use Rattle.std.proofs.Common.{◌≡◌, ℕ, Bool, true, false, cond, List, ◌++◌, ◌∷◌, length, drop, get_or, refl, sym, ap, ◌∙◌}
use Rattle.std.proofs.lemmas.Slice.Eq.{starts_is}
use Rattle.std.proofs.lemmas.Bool.{both_ways, false_from_ne_true}
use Rattle.std.proofs.lemmas.Bool.Decides.{Decides-eqb}
use Rattle.bx_lex.specs.Rules.{begins}

pub either : {X : Type 0} (P : X → Type 0) (b : Bool) (x y : X) → (b ≡ true → P x) → (b ≡ false → P y) → P (cond b x y)
either P true x y h k = h refl
either P false x y h k = k refl

pub chosen : {X : Type 0} (P : X → Type 0) (b : Bool) (x y : X) → (b ≡ true → P x) → P y → P (cond b x y)
chosen P b x y h k = either P b x y h (λ _. k)

pub begins_is : (start text : List ℕ) → begins start text ≡ true → text ≡ start ++ drop (length start) text
begins_is start text e = (starts_is Decides-eqb text start _ refl).0 e

pub is_begins : (start text back : List ℕ) → text ≡ start ++ back → begins start text ≡ true
is_begins start text back e = (starts_is Decides-eqb text start _ refl).1 back e

pub begins_first : (b : ℕ) (bs text : List ℕ) → begins (b ∷ bs) text ≡ true → get_or text 0 0 ≡ b
begins_first b bs text e = ap (λ s. get_or s 0 0) (begins_is (b ∷ bs) text e)

pub begins_other : (test : ℕ → Bool) (b : ℕ) (bs text : List ℕ) → test b ≡ false → test (get_or text 0 0) ≡ true → begins (b ∷ bs) text ≡ false
begins_other test b bs text fails passes =
    false_from_ne_true _ (λ e. both_ways (test b) fails (ap test (sym (begins_first b bs text e)) ∙ passes))
