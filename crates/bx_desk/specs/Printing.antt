-- What a printer has put out.
use Rattle.std.specs.Prelude.{◌≡◌, ℕ, Bool, true, false, List, Result, Ok, Err}
use Rattle.bx_desk.specs.Pieces.{PutsOut}
use Rattle.bx_desk.specs.declared.desk.Desk as desk
use Rattle.bx_desk.specs.declared.desk.Failed.{Failed}
use Rattle.bx_desk.specs.declared.printer.Printer.{Printer}

-- how it went, by whether it failed
abbrev pub outcome_of : Bool → Result (Unit {0}) Failed
outcome_of true = Err (record {})
outcome_of false = Ok tt

-- Of a printer before and after: it put this text out, or a front of it where it failed then. One that had failed
-- before is as it was. Its piece and its desk are the same ones.
pub record Prints {D : Type 0} {g : desk.Ghosts D} (old new : Printer D g) (text : List ℕ) : Type 0 where
  pub same_piece : new.piece.ghost_name ≡ old.piece.ghost_name
  pub same_desk : new.desk.ghost_name ≡ old.desk.ghost_name
  pub puts : old.has_failed ≡ false
      → PutsOut (g.state old.desk.now) (g.state new.desk.now) (outcome_of new.has_failed) old.piece.now new.piece.now text
  pub stays : old.has_failed ≡ true → new ≡ old
