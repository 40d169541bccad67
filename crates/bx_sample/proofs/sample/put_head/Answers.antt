use Rattle.std.proofs.Common.{◌++◌, ◌∙◌, ap, sym, append-nil, string_bytes}
use Rattle.std.specs.Prelude.{codes}
use Rattle.bx_lines.specs.Lines.{ended}
use Rattle.bx_sample.specs.Samples.{outputs}
use Rattle.bx_sample.proofs.Turns.{put_then}
use Rattle.bx_sample.proofs.sample.put_head.Goals as goal

pub returns : goal.returns
returns c =
    let old = string_bytes c.args.text.now in
    let one = string_bytes c.put_outputs.new.text in
    let two = string_bytes c.push_str.new.self in
    let three = string_bytes c.put_outputs-2.new.text in
    let ports = ended (codes "module sample(i0, i1, i2, i3, " ++ (outputs c.args.gates ++ codes ");")) in
    let ins = ended (codes "input i0, i1, i2, i3;") in
    let outs = ended (codes "output " ++ (outputs c.args.gates ++ codes ";")) in
    put_then old one three ports (ins ++ outs) c.in_ok-put_outputs.ensures
    (put_then one two three ins outs c.in_ok-push_str.ensures.bytes c.in_ok-put_outputs-2.ensures)
    ∙ ap (λ last. old ++ (ports ++ (ins ++ last))) (sym (append-nil outs))
