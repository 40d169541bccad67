-- Each text is refused for some fault, or taken.
use Rattle.std.proofs.Common.{◌≡◌, ℕ, ◌⊎◌, inl, inr, [], Option, Some, None, length, Result, Ok, Err, refl}
use Rattle.std.specs.Prelude.{slice_index_or}
use Rattle.std.proofs.lemmas.Bool.{cases_lt}
use Rattle.bx_logic.specs.Nets.{Netlist, output_names}
use Rattle.bx_map.specs.Maps.{first_constant, node_count}
use Rattle.bx_lex.specs.declared.token.LexFault.{LexFault}
use Rattle.bx_lex.specs.Tokens.{TokenList, HasTokens, Reads}
use Rattle.bx_lex.proofs.Readings.{some_reading}
use Rattle.bx_syntax.specs.declared.fault.ReadFault.{ReadFault}
use Rattle.bx_syntax.specs.Parts.{ModuleTree}
use Rattle.bx_syntax.specs.Terminals.{terminals_of}
use Rattle.bx_syntax.specs.Grammar.{IsModule}
use Rattle.bx_syntax.specs.Faults.{HasReadFault}
use Rattle.bx_syntax.proofs.Faults.{tree_or_fault}
use Rattle.bx_verilog.specs.declared.fault.NetFault.{NetFault}
use Rattle.bx_verilog.specs.Formulas.{Text}
use Rattle.bx_verilog.specs.Elaboration.{net_of, Elaborates}
use Rattle.bx_verilog.proofs.Existence.{meaning}
use Rattle.bx_engine.specs.declared.status.InputFault.{InputFault}
use Rattle.bx_engine.specs.declared.status.InputFault.TheVariants.{TooLong, Lex, Read, Net, Constant, Nodes}
use Rattle.bx_engine.specs.declared.status.Which.TheVariants.{NetFile}
use Rattle.bx_engine.specs.Texts.{IsShort, IsText, IsGood, IsRefused, IsTaken}

module _ (text : Text) where
  abbrev HasAnswer : Type 0
  HasAnswer = ((fault : InputFault) × IsRefused text fault) ⊎ ((m : ModuleTree) × IsTaken text m)

  module _ (short : IsShort text) where
    -- an accepted module
    by_count : (m : ModuleTree) → IsGood text m → first_constant (net_of m) ≡ None → HasAnswer
    by_count m good none = elim (cases_lt 96 (node_count (net_of m))) [
      | inl many ↦ inl (Nodes (node_count (net_of m)), (m, good, record { no_constant = none; counted = refl; many = many }))
      | inr few ↦ inr (m, record { good = good; is_mapped = record { no_constant = none; few = few } })
    ]

    by_constant : (m : ModuleTree) → IsGood text m → (o : Option ℕ) → first_constant (net_of m) ≡ o → HasAnswer
    by_constant m good None e = by_count m good e
    by_constant m good (Some port) e = inl (Constant (slice_index_or (output_names (net_of m)) port []), (m, good, record { port = port; first = e; named = refl }))

    by_meaning : (m : ModuleTree) → IsText text m → (r : Result Netlist NetFault) → Elaborates m r → HasAnswer
    by_meaning m is_text (Err fault) has = inl (Net fault, (short, (m, is_text, has)))
    by_meaning m is_text (Ok net) (accepted, same) =
        by_constant m (record { short = short; is_text = is_text; accepted = accepted }) (first_constant (net_of m)) refl

    by_tokens : (found : TokenList) → HasTokens text found → ((m : ModuleTree) × IsModule 256 m (terminals_of text found.tokens)) ⊎ ((f : ReadFault) × HasReadFault text found f) → HasAnswer
    by_tokens found tokens (inr (f, has)) = inl (Read f, (short, record { found = found; tokens = tokens; has = has }))
    by_tokens found tokens (inl (m, is)) =
        let is_text : IsText text m = record { found = found; tokens = tokens; is_module = is } in
        let means = meaning m in
        by_meaning m is_text means.0 means.1

    by_reading : (r : Result TokenList LexFault) → Reads text r → HasAnswer
    by_reading (Err fault) has = inl (Lex fault, (short, has))
    by_reading (Ok found) tokens = by_tokens found tokens (tree_or_fault text found)

  pub each_text : HasAnswer
  each_text = elim (cases_lt 1048576 (length text)) [
    | inl long ↦ inl (TooLong NetFile, (refl, long))
    | inr short ↦ (let reading = some_reading text in by_reading short reading.0 reading.1)
  ]
