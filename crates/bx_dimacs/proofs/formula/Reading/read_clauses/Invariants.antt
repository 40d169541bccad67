-- The lines that are left say what all lines do, of what was read so far.
use Rattle.std.proofs.Common.{◌≡◌, length}
use Rattle.bx_dimacs.specs.FormulaTexts.{FormulaText, clauses_behind}
use Rattle.bx_dimacs.specs.Shown.{Shows}
use Rattle.bx_dimacs.proofs.formula.Reading.read_clauses.Given as goal

abbrev pub invariant-loop-line : goal.invariant-loop-line
invariant-loop-line l = (text : FormulaText) → Shows l.initial.self text
    → (now : FormulaText) × Shows l.self now
    × (clauses_behind text l.initial.lines.number l.initial.lines.rest.now ≡ clauses_behind now l.lines.number l.lines.rest.now)

abbrev pub decreases-loop-line : goal.decreases-loop-line
decreases-loop-line l = length l.lines.rest.now
