use Rattle.std.proofs.Common.{◌≡◌, ℕ, List, [], ◌∷◌, ◌++◌, sym, ◌∙◌, append_assoc}
use Rattle.std.proofs.lemmas.List.{append_cancel_left}
use Rattle.bx_lines.specs.Lines.{ended}
use Rattle.bx_siqad.proofs.Fields.{map_none}
use Rattle.bx_siqad.proofs.scan.behind_line.Goals as goal

pub returns-clause-none : goal.returns-clause-none
returns-clause-none c = map_none _ ((rest : List ℕ) → c.args.text.now ≡ ended c.args.line.now ++ rest → ⊥) c.behind-2.result c.behind-2.ensures.none (λ missed rest at.
    missed rest (append_cancel_left c.args.line.now c.in_ok-behind.field-0.now (10 ∷ rest) (sym c.in_ok-behind.ensures.found ∙ at ∙ append_assoc c.args.line.now (10 ∷ []) rest)))
