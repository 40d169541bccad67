-- The values of variables by the literals that are taken to be true: none, one more, and giving back.
use Rattle.std.proofs.Common.{◌≡◌, ◌<◌, Bool, true, false, List, [], ◌∷◌, ◌++◌, Some, None, refl, sym, ◌∙◌, ap, subst, inl, inr, arith}
use Rattle.std.proofs.lemmas.List.Elements.{Contains-append_left, Contains-push, Contains-push_cases}
use Rattle.std.proofs.lemmas.Bool.{cases_eq}
use Rattle.std.specs.Prelude.{◌⊎◌, ◌↔◌, not, Contains}
use mathlib.Core.Bool.{beq}
use Rattle.bx_cnf.specs.Literals.{Literal, negated}
use Rattle.bx_cnf.specs.Assignments.{IsFalse}
use Rattle.bx_check.specs.declared.values.Values.{Values}
use Rattle.bx_check.specs.Valued.{value_of, Sets, AreValues}

pub same_literal : (l m : Literal) → l.var ≡ m.var → l.positive ≡ m.positive → l ≡ m
same_literal l m e f = ap (λ v. record { var = v; positive = l.positive }) e ∙ ap (λ b. record { var = m.var; positive = b }) f

pub same_or_not : (a b : Bool) → (a ≡ b) ⊎ (a ≡ not b)
same_or_not true true = inl refl
same_or_not true false = inr refl
same_or_not false true = inr refl
same_or_not false false = inl refl

-- one literal more, whose negation isn't taken
pub values_taken : (values now : Values) (trues all : List Literal) (lit : Literal) → AreValues values trues → (IsFalse trues lit → ⊥) → Sets values now lit.var (Some lit.positive) → all ≡ trues ++ lit ∷ [] → AreValues now all
values_taken values now trues all lit old free sets is_all = subst (AreValues now) (sym is_all) (record { marked = λ l above. (to l above, from l above) }) where
  by_old : (l : Literal) → 0 < l.var → Contains trues l → value_of now l.var ≡ Some l.positive
  by_old l above has =
      elim (cases_eq l.var lit.var) [
        | inr ne ↦ sets.others l.var above ne ∙ (old.marked l above).0 has
        | inl var ↦
            elim (same_or_not l.positive lit.positive) [
              | inl sign ↦ ap (value_of now) var ∙ sets.this ∙ ap Some (sym sign)
              | inr sign ↦ absurd (free (subst (Contains trues) (same_literal l (negated lit) var sign) has))
            ]
      ]

  to : (l : Literal) → 0 < l.var → Contains (trues ++ lit ∷ []) l → value_of now l.var ≡ Some l.positive
  to l above has =
      elim (Contains-push_cases trues lit l has) [
        | inl before ↦ by_old l above before
        | inr is ↦ subst (λ (m : Literal). value_of now m.var ≡ Some m.positive) is sets.this
      ]

  from : (l : Literal) → 0 < l.var → value_of now l.var ≡ Some l.positive → Contains (trues ++ lit ∷ []) l
  from l above read =
      elim (cases_eq l.var lit.var) [
        | inr ne ↦ Contains-append_left trues (lit ∷ []) l ((old.marked l above).1 (sym (sets.others l.var above ne) ∙ read))
        | inl var ↦
            let signs : Some lit.positive ≡ Some l.positive = sym sets.this ∙ ap (value_of now) (sym var) ∙ read in
            let sign : lit.positive ≡ l.positive = cc in
            subst (Contains (trues ++ lit ∷ [])) (same_literal lit l (sym var) sign) (Contains-push trues lit)
      ]

-- what holds while literals are given back: a variable that still has a value is one of those left
pub record AreLeft (values : Values) (trues : List Literal) : Type 0 where
  pub marked : (l : Literal) → 0 < l.var → value_of values l.var ≡ Some l.positive → Contains trues l

pub left_less : (values now : Values) (trues rest : List Literal) (lit : Literal) → AreLeft values trues → trues ≡ rest ++ lit ∷ [] → Sets values now lit.var None → AreLeft now rest
left_less values now trues rest lit old split sets = record { marked = kept } where
  kept : (l : Literal) → 0 < l.var → value_of now l.var ≡ Some l.positive → Contains rest l
  kept l above read =
      elim (cases_eq l.var lit.var) [
        | inl var ↦ let clash : None ≡ Some l.positive = sym sets.this ∙ ap (value_of now) (sym var) ∙ read in let never : ⊥ = cc in absurd never
        | inr ne ↦
            let has : Contains (rest ++ lit ∷ []) l = subst (λ ts. Contains ts l) split (old.marked l above (sym (sets.others l.var above ne) ∙ read)) in
            elim (Contains-push_cases rest lit l has) [
              | inl before ↦ before
              | inr is ↦ absurd (ne (ap (λ (m : Literal). m.var) (sym is)))
            ]
      ]

pub none_left : (values : Values) → AreLeft values [] → AreValues values []
none_left values are = record { marked = λ l above. (λ has. absurd (omega (arith, has.1)), λ read. are.marked l above read) }

-- a literal is false where its variable has the other value
false_at : (values : Values) (trues : List Literal) (lit : Literal) → AreValues values trues → 0 < lit.var → IsFalse trues lit ↔ (value_of values lit.var ≡ Some (not lit.positive))
false_at values trues lit are above = are.marked (negated lit) above

other_value : (v p : Bool) → (not (beq v p) ≡ true) ↔ (Some v ≡ Some (not p))
other_value true true = (λ e. cc, λ e. cc)
other_value true false = (λ e. refl, λ e. refl)
other_value false true = (λ e. refl, λ e. refl)
other_value false false = (λ e. cc, λ e. cc)

pub is_false_some : (values : Values) (trues now : List Literal) (lit : Literal) (v p : Bool) → AreValues values trues → trues ≡ now → 0 < lit.var → value_of values lit.var ≡ Some v → p ≡ lit.positive → (not (beq v p) ≡ true) ↔ IsFalse now lit
is_false_some values trues now lit v p are same above is sign =
    let other = false_at values trues lit are above in
    let value = other_value v p in (
      λ e. subst (λ ts. IsFalse ts lit) same (other.1 (is ∙ value.0 e ∙ ap (λ b. Some (not b)) sign)),
      λ has. value.1 (sym is ∙ other.0 (subst (λ ts. IsFalse ts lit) (sym same) has) ∙ ap (λ b. Some (not b)) (sym sign)),
    )

pub is_false_none : (values : Values) (trues now : List Literal) (lit : Literal) → AreValues values trues → trues ≡ now → 0 < lit.var → value_of values lit.var ≡ None → IsFalse now lit → ⊥
is_false_none values trues now lit are same above is has =
    let e : None ≡ Some (not lit.positive) = sym is ∙ (false_at values trues lit are above).0 (subst (λ ts. IsFalse ts lit) (sym same) has) in
    cc
