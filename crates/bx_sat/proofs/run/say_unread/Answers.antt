use Rattle.std.proofs.Common.{◌≡◌, sym, subst, refl}
use Rattle.bx_desk.specs.Desk.{DeskState}
use Rattle.bx_sat.specs.declared.load.Unread.{Unread}
use Rattle.bx_sat.specs.Files.{IsBadLineIn, LeavesUnread}
use Rattle.bx_sat.specs.Runs.{Unanswered, unread, broken, refused}
use Rattle.bx_sat.proofs.Endings.{bad_in}
use Rattle.bx_sat.proofs.run.say_unread.Goals as goal

pub returns-in-BadLine : goal.returns-in-BadLine
returns-in-BadLine g c of old left =
    let bad : IsBadLineIn of old c.args.name.now c.in-BadLine.line × (g.D.Desk.state c.args.desk.now ≡ old) = subst (λ (e : Unread). LeavesUnread of old (g.D.Desk.state c.args.desk.now) c.args.name.now e) c.in-BadLine.is left in
    subst (λ (s : DeskState). Unanswered of c.args.name.now s (g.D.Desk.state c.say_bad_line.new.desk) c.say_bad_line.result) bad.1 (unread c.in-BadLine.line (bad_in _ _ _ _ _ (sym bad.1) bad.0) c.say_bad_line.ensures)

pub returns-in-Failed : goal.returns-in-Failed
returns-in-Failed g c of old left = broken (subst (λ (e : Unread). LeavesUnread of old (g.D.Desk.state c.args.desk.now) c.args.name.now e) c.in-Failed.is left) refl

pub returns-in-NoMemory : goal.returns-in-NoMemory
returns-in-NoMemory g c of old left = refused (subst (λ (e : Unread). LeavesUnread of old (g.D.Desk.state c.args.desk.now) c.args.name.now e) c.in-NoMemory.is left) refl
