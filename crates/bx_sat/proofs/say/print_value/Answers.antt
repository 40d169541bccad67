use Rattle.std.proofs.Common.{◌∙◌}
use Rattle.bx_desk.proofs.Printing.{prints_then, prints_as}
use Rattle.bx_sat.proofs.Values.{word_behind_is}
use Rattle.bx_sat.proofs.say.print_value.Goals as goal

pub returns-then-fits-clause-prints : goal.returns-then-fits-clause-prints
returns-then-fits-clause-prints g c =
    prints_as (word_behind_is c.args.column c.args.number c.args.value c.start_of.result.now c.sign_of-sign.result.now c.as_bytes-digits.result.now c.sign_of-sign.ensures (c.as_bytes-digits.ensures.value ∙ c.format.ensures.text) c.start_of.ensures)
    (prints_then c.bytes.ensures (prints_then c.bytes-2.ensures c.bytes-3.ensures))

pub returns-else-fits-clause-prints : goal.returns-else-fits-clause-prints
returns-else-fits-clause-prints g c =
    prints_as (word_behind_is c.args.column c.args.number c.args.value c.start_of.result.now c.sign_of-sign.result.now c.as_bytes-digits.result.now c.sign_of-sign.ensures (c.as_bytes-digits.ensures.value ∙ c.format.ensures.text) c.start_of.ensures)
    (prints_then c.bytes.ensures (prints_then c.bytes-2.ensures c.bytes-3.ensures))
