use Rattle.std.proofs.Common.{◌≡◌, ap, sym, ◌∙◌, true}
use Rattle.bx_words.specs.Numbers.{is_number}
use Rattle.bx_words.proofs.Digits.{number_read}
use Rattle.bx_words.proofs.numbers.number.Goals as goal

pub returns : goal.returns
returns c =
    let is : is_number c.args.text.now ≡ true =
    ap is_number (sym c.as_bytes.ensures.value) ∙ sym c.are_digits.ensures ∙ c.if-not-are_digits.false in
    number_read c.args.text.now c.parse.result c.ok.result c.parse.ensures.value.0 is c.ok.ensures.value
