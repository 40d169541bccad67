use Rattle.std.proofs.Common.{◌≡◌, ◌++◌, List, append_assoc, ap, sym, subst, ◌∙◌}
use Rattle.std.specs.Prelude.{OnOk, Result}
use Rattle.std.specs.List.{flat_map}
use Rattle.bx_syntax.specs.declared.tree.Operand.{Operand}
use Rattle.bx_syntax.specs.Trees.{tree}
use Rattle.bx_syntax.proofs.ReadsExpressions.{row_tail-vec}
use Rattle.bx_verilog.specs.Formulas.{formula}
use Rattle.bx_verilog.specs.Mentions.{Mention, reads_mentions}
use Rattle.bx_verilog.proofs.Formulas.{reads-joined}
use Rattle.bx_verilog.proofs.mentions.+reads.Goals as goal

-- what was found first, what was found behind it, and what both are together
behind : {E : Type 0} (r : Result (Unit {0}) E) (old between new first rest both : List Mention) → both ≡ first ++ rest → between ≡ old ++ first →
    OnOk r (new ≡ between ++ rest) → OnOk r (new ≡ old ++ both)
behind r old between new first rest both e f =
    subst (λ (xs : List Mention). OnOk r (new ≡ xs)) (ap (λ xs. xs ++ rest) f ∙ append_assoc old first rest ∙ ap (λ xs. old ++ xs) (sym e))

pub push_reads-returns-in_ok-push_reads-in-Joined-2 : goal.push_reads-returns-in_ok-push_reads-in-Joined-2
push_reads-returns-in_ok-push_reads-in-Joined-2 t c =
    let first = c.in-Joined.first in
    let second = c.in-Joined.second in
    let operands = c.in-Joined.operands in
    let further = flat_map (λ (o : Operand). reads_mentions (formula (tree o.expr))) operands.items in
    let all = ap (λ e. reads_mentions (formula (tree e))) c.in-Joined.is ∙ reads-joined (tree first.value) (tree second.value) c.in-Joined.field-1 _ operands.items (row_tail-vec operands) in
    behind c.push_operands.result _ _ _ _ (reads_mentions (formula (tree second.value)) ++ further) _
    (all ∙ ap (λ e. reads_mentions (formula (tree e)) ++ (reads_mentions (formula (tree second.value)) ++ further)) (sym c.deref.ensures))
    c.in_ok-push_reads-in-Joined.ensures
    (behind c.push_operands.result _ _ _ _ further _ (ap (λ e. reads_mentions (formula (tree e)) ++ further) (sym c.deref-in-Joined.ensures)) c.in_ok-push_reads-in-Joined-2.ensures c.push_operands.ensures)
