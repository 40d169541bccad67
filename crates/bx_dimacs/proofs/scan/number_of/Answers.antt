use Rattle.std.proofs.Common.{◌≡◌, ◌-◌, ◌+◌, ◌*◌, ◌^◌, ◌≤◌, ℕ, true, None, get_or, rules, arith, sym, ◌∙◌}
use Rattle.std.specs.Char.{is_ascii_digit}
use Rattle.bx_dimacs.proofs.Digits.{number_past, number_read}
use Rattle.bx_dimacs.proofs.scan.number_of.Goals as goal

pub returns-in_err-checked_mul : goal.returns-in_err-checked_mul
returns-in_err-checked_mul c =
    let n : ℕ = c.loop-byte.number in
    let b : ℕ = get_or c.args.word.now c.loop-byte.byte-index 0 in
    let none : c.from_residual.result ≡ None = search rules in
    let digit : is_ascii_digit b ≡ true = search rules in
    let past : 2 ^ 64 ≤ 10 * n + (b - 48) = omega arith in
    none ∙ sym (number_past 64 c.args.word.now n c.loop-byte.byte-index c.loop-byte.invariant.1 c.loop-byte-test.true digit c.loop-byte.invariant.0 past)

pub returns-in_err-number : goal.returns-in_err-number
returns-in_err-number c =
    let n : ℕ = c.loop-byte.number in
    let b : ℕ = get_or c.args.word.now c.loop-byte.byte-index 0 in
    let none : c.from_residual-in_err-number.result ≡ None = search rules in
    let digit : is_ascii_digit b ≡ true = search rules in
    let past : 2 ^ 64 ≤ 10 * n + (b - 48) = omega arith in
    none ∙ sym (number_past 64 c.args.word.now n c.loop-byte.byte-index c.loop-byte.invariant.1 c.loop-byte-test.true digit c.loop-byte.invariant.0 past)

pub returns : goal.returns
returns c = sym (number_read 64 c.args.word.now c.loop-byte.number c.loop-byte.byte-index c.loop-byte.invariant.1 c.loop-byte-test.false c.loop-byte.invariant.0 c.loop-byte.invariant.2)
