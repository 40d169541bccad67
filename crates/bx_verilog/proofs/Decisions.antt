-- Decisions, which compute: of two facts together, of the items of a list, and of the ways that lead from
-- one thing to another in any number of steps.
use Rattle.std.proofs.Common.{◌≡◌, ◌⊎◌, inl, inr, Bool, true, false, List, [], ◌∷◌, ◌++◌, refl, ap, subst, sym}
use Rattle.std.specs.List.{AllByRecursion}
use Rattle.std.specs.Str.{bytes_eq}
use Rattle.bx_verilog.specs.Formulas.{Text}
use Rattle.bx_verilog.proofs.Firsts.{same_texts, other_texts}
use Rattle.bx_logic.proofs.Members.{Member}

-- of two facts that follow from each other one holds where the other does
unfoldable pub dec_from : (P Q : Type 0) → (P → Q) → (Q → P) → Dec P → Dec Q
dec_from P Q there back (yes p) = yes (there p)
dec_from P Q there back (no lacks) = no (λ q. lacks (back q))

unfoldable pub dec_both : (P Q : Type 0) → Dec P → Dec Q → Dec (P × Q)
dec_both P Q (yes p) (yes q) = yes (p, q)
dec_both P Q (yes p) (no lacks) = no (λ h. lacks h.1)
dec_both P Q (no lacks) q = no (λ h. lacks h.0)

unfoldable pub dec_either : (P Q : Type 0) → Dec P → Dec Q → Dec (P ⊎ Q)
dec_either P Q (yes p) q = yes (inl p)
dec_either P Q (no lacks) (yes q) = yes (inr q)
dec_either P Q (no lacks) (no none) = no (λ h. elim h [ inl p ↦ lacks p | inr q ↦ none q ])

dec_from_test : (a b : Text) (t : Bool) → bytes_eq a b ≡ t → Dec (a ≡ b)
dec_from_test a b true e = yes (same_texts a b e)
dec_from_test a b false e = no (other_texts a b e)

unfoldable pub dec_same : (a b : Text) → Dec (a ≡ b)
unfolding dec_from_test
dec_same a b = dec_from_test a b (bytes_eq a b) refl

unfoldable pub dec_member : (n : Text) (ns : List Text) → Dec (Member n ns)
unfolding dec_same dec_either
dec_member n [] = no (λ h. h)
dec_member n (k ∷ ks) = dec_either (k ≡ n) (Member n ks) (dec_same k n) (dec_member n ks)

-- the first item that has it
pub record IsFirst {X : Type 0} (P : X → Type 0) (xs : List X) : Type 0 where
  pub before : List X
  pub item : X
  pub after : List X
  pub splits : xs ≡ before ++ item ∷ after
  pub has : P item
  pub none : AllByRecursion (λ y. P y → ⊥) before

module _ {X : Type 0} (P : X → Type 0) (decide : (x : X) → Dec (P x)) where
  some-front : (x : X) (xs : List X) → Dec (P x) → Dec ((y : X) × Member y xs × P y) → Dec ((y : X) × Member y (x ∷ xs) × P y)
  some-front x xs (yes p) rest = yes (x, inl refl, p)
  some-front x xs (no lacks) (yes found) = yes (found.0, inr found.1, found.2)
  some-front x xs (no lacks) (no none) = no (λ h. elim h.1 [
    | inl same ↦ lacks (subst P (sym same) h.2)
    | inr later ↦ none (h.0, later, h.2)
  ])

  -- some item has it, or none
  unfoldable pub dec_some : (xs : List X) → Dec ((x : X) × Member x xs × P x)
  unfolding some-front
  dec_some [] = no (λ h. h.1)
  dec_some (x ∷ xs) = some-front x xs (decide x) (dec_some xs)

  first-front : (x : X) (xs : List X) → Dec (P x) → IsFirst P xs ⊎ AllByRecursion (λ y. P y → ⊥) xs → IsFirst P (x ∷ xs) ⊎ AllByRecursion (λ y. P y → ⊥) (x ∷ xs)
  first-front x xs (yes p) rest = inl (record { before = []; item = x; after = xs; splits = refl; has = p; none = tt })
  first-front x xs (no lacks) (inl found) = inl (record {
    before = x ∷ found.before;
    item = found.item;
    after = found.after;
    splits = ap (λ ys. x ∷ ys) found.splits;
    has = found.has;
    none = (lacks, found.none);
  })
  first-front x xs (no lacks) (inr none) = inr (lacks, none)

  unfoldable pub first-or_none : (xs : List X) → IsFirst P xs ⊎ AllByRecursion (λ y. P y → ⊥) xs
  unfolding first-front
  first-or_none [] = inr tt
  first-or_none (x ∷ xs) = first-front x xs (decide x) (first-or_none xs)

-- Ways from one thing to another that pass through the items of a list alone: with one item more there
-- are those that pass through it once.
module _ {X : Type 0} (Step : X → X → Type 0) where
  abbrev pub Way : List X → X → X → Type 0
  Way [] a b = Step a b
  Way (x ∷ xs) a b = Way xs a b ⊎ (Way xs a x × Way xs x b)

  unfoldable pub dec_way : ((a b : X) → Dec (Step a b)) → (xs : List X) (a b : X) → Dec (Way xs a b)
  unfolding dec_both dec_either
  dec_way decide [] a b = decide a b
  dec_way decide (x ∷ xs) a b =
      dec_either (Way xs a b) (Way xs a x × Way xs x b) (dec_way decide xs a b)
      (dec_both (Way xs a x) (Way xs x b) (dec_way decide xs a x) (dec_way decide xs x b))

  pub way-from_step : (xs : List X) (a b : X) → Step a b → Way xs a b
  way-from_step [] a b s = s
  way-from_step (x ∷ xs) a b s = inl (way-from_step xs a b s)

  way-to : (x : X) (xs : List X) (a : X) → Way (x ∷ xs) a x → Way xs a x
  way-to x xs a (inl w) = w
  way-to x xs a (inr w) = w.0

  way-out : (x : X) (xs : List X) (b : X) → Way (x ∷ xs) x b → Way xs x b
  way-out x xs b (inl w) = w
  way-out x xs b (inr w) = w.1

  -- one way behind another, where they meet at an item of the list
  pub way-joined : (xs : List X) (a x b : X) → Member x xs → Way xs a x → Way xs x b → Way xs a b
  way-joined [] a x b h v w = absurd h
  way-joined (y ∷ ys) a x b (inl same) v w =
      inr (
        way-to y ys a (subst (λ z. Way (y ∷ ys) a z) (sym same) v),
        way-out y ys b (subst (λ z. Way (y ∷ ys) z b) (sym same) w),
      )
  way-joined (y ∷ ys) a x b (inr h) (inl v) (inl w) = inl (way-joined ys a x b h v w)
  way-joined (y ∷ ys) a x b (inr h) (inl v) (inr w) = inr (way-joined ys a x y h v w.0, w.1)
  way-joined (y ∷ ys) a x b (inr h) (inr v) (inl w) = inr (v.0, way-joined ys y x b h v.1 w)
  way-joined (y ∷ ys) a x b (inr h) (inr v) (inr w) = inr (v.0, w.1)
