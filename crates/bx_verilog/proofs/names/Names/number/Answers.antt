use Rattle.std.proofs.Common.{List, ℕ, ap, eqb, ◌∙◌}
use Rattle.std.specs.List.{position_or_len}
use Rattle.std.specs.Option.{unwrap_or}
use Rattle.bx_verilog.specs.Formulas.{Text}
use Rattle.bx_verilog.specs.Shown.{number_among}
use Rattle.bx_verilog.proofs.Places.{unwrap_or-position}
use Rattle.bx_verilog.proofs.Sorting.{number-by_place}
use Rattle.bx_verilog.proofs.names.Names.number.Goals as goal

pub returns : goal.returns
returns c =
    let keys = c.self.inside.places.keys in
    c.unwrap_or.ensures
    ∙ (λ i. unwrap_or (c.get_index_of-number.ensures.index i) (c.len.ensures.len i))
    ∙ unwrap_or-position (λ (k : ℕ). eqb c.place-place.result k) keys
    ∙ ap (λ (place : ℕ). position_or_len (λ k. eqb place k) keys) c.place-place.ensures.place
    ∙ number-by_place _ c.args.name.now keys c.place-place.ensures.distinct c.self.invariant.1
    ∙ ap (λ (names : List Text). number_among names c.args.name.now) c.self.view_is
