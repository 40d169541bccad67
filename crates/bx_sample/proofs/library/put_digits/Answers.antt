use Rattle.std.proofs.Common.{◌++◌, ◌∙◌, ap, string_bytes}
use Rattle.bx_sample.specs.Library.{digit_text}
use Rattle.bx_sample.proofs.Turns.{numbers_turn}
use Rattle.bx_sample.proofs.library.put_digits.Goals as goal

pub loop-i-preserved : goal.loop-i-preserved
loop-i-preserved c =
    let digit = digit_text c.args.number in
    c.in_ok-put_digit.ensures
    ∙ ap (λ bs. bs ++ digit c.loop-i.i) c.loop-i.invariant
    ∙ numbers_turn digit (string_bytes c.args.text.now) c.loop-i.i
