use Rattle.std.proofs.Common.{◌≡◌, [], length, take, drop, ap, ◌∙◌, arith}
use Rattle.std.proofs.Math.ListN.{drop_of_length-le}
use Rattle.bx_lines.specs.Lines.{first_lines}
use Rattle.bx_cert.proofs.Cuts.{cut_end}
use Rattle.bx_cert.proofs.read.cut_lines.Goals as goal

pub returns-clause-front : goal.returns-clause-front
returns-clause-front c =
    let k : length c.args.text.now ≡ c.loop-k.k = omega arith in
    let none : drop c.loop-k.k c.args.text.now ≡ [] = drop_of_length-le c.args.text.now (omega (arith, k)) in
    c.split_at-2.ensures.front ∙ ap (λ n. take n c.args.text.now) k ∙ cut_end c.args.text.now (first_lines c.args.count c.args.text.now) c.loop-k.k c.loop-k.left none c.loop-k.invariant
