use Rattle.std.proofs.Common.{◌≡◌, ap, sym, ◌∙◌, true}
use Rattle.std.specs.Char.{is_ascii_digit}
use Rattle.std.specs.List.{list_all}
use Rattle.bx_sat.proofs.Numbers.{number_read}
use Rattle.bx_sat.proofs.command.number_of.Goals as goal

pub returns-then-all_digits : goal.returns-then-all_digits
returns-then-all_digits c =
    let digits : list_all is_ascii_digit c.args.word.now ≡ true =
    ap (list_all is_ascii_digit) (sym c.as_bytes.ensures.value) ∙ sym c.all_digits.ensures ∙ c.if-all_digits.true in
    c.ok.ensures.value ∙ number_read c.args.word.now c.parse.result c.parse.ensures.value.0 digits
