use Rattle.std.proofs.Common.{◌≤◌, ◌++◌, ◌+◌, length, drop, get_or, false, refl, ◌∙◌, ap, arith, append_assoc}
use Rattle.std.specs.Prelude.{codes}
use Rattle.bx_desk.proofs.Printing.{prints_then, prints_as}
use Rattle.bx_says.specs.Texts.{Text}
use Rattle.bx_sat.specs.Sayings.{values_text, value_word, word_behind, column_behind}
use Rattle.bx_sat.proofs.Values.{values_turn, values_end}
use Rattle.bx_sat.proofs.say.print_solution.Goals as goal

pub loop-k-init : goal.loop-k-init
loop-k-init g c = record { column = omega arith; said = (codes "s SATISFIABLE\nv", c.bytes.ensures, refl) }

pub loop-k-preserved : goal.loop-k-preserved
loop-k-preserved g c =
    let (done, prints, is) = c.loop-k.invariant.said in
    let word : Text = value_word (c.loop-k.k + 1) (get_or c.args.bits.now c.loop-k.k false) in
    let rest = values_text (column_behind c.loop-k.column word) (c.loop-k.k + 1 + 1) (drop (c.loop-k.k + 1) c.args.bits.now) in
    record {
      column = c.print_value-column.ensures.short;
      said = (
        done ++ word_behind c.loop-k.column word,
        prints_then prints c.print_value-column.ensures.prints,
        ap (λ n. (done ++ word_behind c.loop-k.column word) ++ values_text n (c.loop-k.k + 1 + 1) (drop (c.loop-k.k + 1) c.args.bits.now)) c.print_value-column.ensures.column
            ∙ append_assoc done (word_behind c.loop-k.column word) rest
            ∙ ap (λ w. done ++ w) (values_turn c.args.bits.now c.loop-k.column c.loop-k.k false c.loop-k-test.true) ∙ is,
      );
    }

pub returns : goal.returns
returns g c =
    let (done, prints, is) = c.loop-k.invariant.said in
    let past : length c.args.bits.now ≤ c.loop-k.k = omega arith in
    prints_as (ap (λ w. done ++ w) (values_end c.args.bits.now c.loop-k.column c.loop-k.k past) ∙ is)
    (prints_then prints (prints_then c.print_value.ensures.prints c.end_line.ensures))
