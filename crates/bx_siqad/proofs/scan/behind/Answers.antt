use Rattle.std.proofs.Common.{◌++◌, ◌≡◌, ℕ, List, Bor, sym, ap, ◌∙◌}
use Rattle.std.proofs.lemmas.Bool.Decides.{Decides-eqb}
use Rattle.std.proofs.lemmas.Slice.Eq.{strip_prefix_is}
use Rattle.bx_siqad.proofs.Fields.{if_some, if_none}
use Rattle.bx_siqad.proofs.scan.behind.Goals as goal

pub returns-clause-found : goal.returns-clause-found
returns-clause-found c = if_some _ _ (λ (rest : Bor (List ℕ)). c.args.text.now ≡ c.args.word.now ++ rest.now) c.strip_prefix.result (strip_prefix_is Decides-eqb c.args.text.now c.as_bytes.result.now c.strip_prefix.result c.strip_prefix.ensures.cases) (λ rest is. is ∙ ap (λ w. w ++ rest.now) c.as_bytes.ensures.value)

pub returns-clause-none : goal.returns-clause-none
returns-clause-none c = if_none _ _ ((rest : List ℕ) → c.args.text.now ≡ c.args.word.now ++ rest → ⊥) c.strip_prefix.result (strip_prefix_is Decides-eqb c.args.text.now c.as_bytes.result.now c.strip_prefix.result c.strip_prefix.ensures.cases) (λ is rest at. is rest (at ∙ ap (λ w. w ++ rest) (sym c.as_bytes.ensures.value)))
