use Rattle.std.proofs.Common.{◌∙◌, ◌++◌, [], ◌∷◌, List, ap, sym, arith}
use Rattle.std.proofs.lemmas.List.FromFn.{map-range_with_len_more}
use Rattle.bx_logic.specs.declared.components.Step.{Step}
use Rattle.bx_logic.specs.declared.components.Step.TheVariants.{Enter}
use Rattle.bx_logic.proofs.components.all_entries.Goals as goal

pub loop-net-preserved : goal.loop-net-preserved
loop-net-preserved c =
    c.in_ok-push.ensures.items
    ∙ (ap (λ (steps : List Step). steps ++ Enter c.loop-net.net ∷ []) c.loop-net.invariant
    ∙ sym (map-range_with_len_more Enter 0 c.loop-net.net c.loop-net.net (omega arith)))
