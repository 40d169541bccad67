-- Texts printed one after another.
use Rattle.std.proofs.Common.{◌≡◌, ℕ, ◌+◌, ◌<◌, ◌≤◌, Bool, true, false, length, take, get_or, List, [], ◌++◌, sym, ◌∙◌, ap, subst, refl, arith, true≢false}
use Rattle.std.specs.List.{flat_map, range_with_len}
use Rattle.std.proofs.lemmas.List.{take_all}
use Rattle.std.proofs.lemmas.List.FromFn.{length-range_with_len, get_or-range_with_len}
use Rattle.std.specs.Result.{IsErr}
use Rattle.bx_desk.specs.Pieces.{PutsOut}
use Rattle.bx_desk.specs.Printing.{Prints, outcome_of}
use Rattle.bx_desk.specs.declared.desk.Desk as desk
use Rattle.bx_desk.specs.declared.printer.Printer.{Printer}
use Rattle.bx_desk.proofs.Joined.{joined_more}
use Rattle.bx_desk.proofs.Saying.{says_nothing, says_then, says_failed}

failed_is : (failed : Bool) → failed ≡ true → IsErr (outcome_of failed)
failed_is true e = refl
failed_is false e = absurd (true≢false (sym e))

module _ {D : Type 0} {g : desk.Ghosts D} where
  -- nothing
  pub prints_nothing : (q : Printer D g) → Prints q q []
  prints_nothing q = record {
    same_piece = refl;
    same_desk = refl;
    puts = λ fresh. subst (λ (b : Bool). PutsOut (g.state q.desk.now) (g.state q.desk.now) (outcome_of b) q.piece.now q.piece.now []) (sym fresh) (says_nothing (g.state q.desk.now) tt q.piece.now q.can);
    stays = λ failed. refl;
  }

  puts_both : (old mid new : Printer D g) (t w : List ℕ) (failed : Bool) → mid.has_failed ≡ failed → PutsOut (g.state old.desk.now) (g.state mid.desk.now) (outcome_of mid.has_failed) old.piece.now mid.piece.now t → Prints mid new w → PutsOut (g.state old.desk.now) (g.state new.desk.now) (outcome_of new.has_failed) old.piece.now new.piece.now (t ++ w)
  puts_both old mid new t w false is first more = says_then _ _ _ (outcome_of mid.has_failed) tt (outcome_of new.has_failed) _ _ _ t w (ap outcome_of is) first (more.puts is)
  puts_both old mid new t w true is first more =
      subst (λ (q : Printer D g). PutsOut (g.state old.desk.now) (g.state q.desk.now) (outcome_of q.has_failed) old.piece.now q.piece.now (t ++ w)) (sym (more.stays is))
      (says_failed _ _ (outcome_of mid.has_failed) (record {}) (outcome_of mid.has_failed) _ _ t w (ap outcome_of is) (failed_is mid.has_failed is) first)

  -- one text, and then another
  pub prints_then : {old mid new : Printer D g} {t w : List ℕ} → Prints old mid t → Prints mid new w → Prints old new (t ++ w)
  prints_then {old} {mid} {new} {t} {w} first more = record {
    same_piece = more.same_piece ∙ first.same_piece;
    same_desk = more.same_desk ∙ first.same_desk;
    puts = λ fresh. puts_both old mid new t w mid.has_failed refl (first.puts fresh) more;
    stays = λ failed. more.stays (ap (λ (q : Printer D g). q.has_failed) (first.stays failed) ∙ failed) ∙ first.stays failed;
  }

  -- the same text in another shape
  pub prints_as : {old new : Printer D g} {t w : List ℕ} → t ≡ w → Prints old new t → Prints old new w
  prints_as {old} {new} e h = subst (λ (xs : List ℕ). Prints old new xs) e h

  -- a turn of a loop that prints a text for each element
  pub prints_turn : {X : Type 0} {old mid new : Printer D g} (f : X → List ℕ) (xs : List X) (i : ℕ) (d : X) → i < length xs → Prints old mid (flat_map f (take i xs)) → Prints mid new (f (get_or xs i d)) → Prints old new (flat_map f (take (i + 1) xs))
  prints_turn f xs i d h before turn = prints_as (sym (joined_more f xs i d h)) (prints_then before turn)

  -- a loop over numbers from 0 on: a turn, and its end
  pub prints_count : {old mid new : Printer D g} (f : ℕ → List ℕ) (n y : ℕ) → y < n → Prints old mid (flat_map f (take y (range_with_len 0 n))) → Prints mid new (f y) → Prints old new (flat_map f (take (y + 1) (range_with_len 0 n)))
  prints_count f n y h before turn =
      let same : y ≡ get_or (range_with_len 0 n) y 0 = omega (arith, get_or-range_with_len 0 n y 0 h) in
      prints_turn f (range_with_len 0 n) y 0 (omega (arith, length-range_with_len 0 n)) before (prints_as (ap f same) turn)

  pub prints_counted : {old new : Printer D g} (f : ℕ → List ℕ) (n y : ℕ) → n ≤ y → Prints old new (flat_map f (take y (range_with_len 0 n))) → Prints old new (flat_map f (range_with_len 0 n))
  prints_counted f n y h puts = prints_as (ap (flat_map f) (take_all y (range_with_len 0 n) (omega (arith, length-range_with_len 0 n)))) puts
