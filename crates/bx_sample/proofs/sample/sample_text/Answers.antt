use Rattle.std.proofs.Common.{◌≡◌, ℕ, List, [], ◌++◌, ◌∙◌, ap, sym, Vec, Global, string_bytes}
use Rattle.std.proofs.lemmas.Grind.{flat_map-append}
use Rattle.bx_lines.specs.Lines.{ended, text_of}
use Rattle.bx_sample.specs.Samples.{head_lines, gate_lines, tail_lines}
use Rattle.bx_sample.proofs.Turns.{put_then}
use Rattle.bx_sample.proofs.sample.sample_text.Goals as goal

-- the text of lines from that of three parts of them
joined : (a b c : List (List ℕ)) → text_of a ++ (text_of b ++ text_of c) ≡ text_of (a ++ (b ++ c))
joined a b c = ap (λ bs. text_of a ++ bs) (sym (flat_map-append ended b c)) ∙ sym (flat_map-append ended a (b ++ c))

pub returns : goal.returns
returns c =
    let gates = c.args.gates in
    let head = head_lines gates in
    let middle = gate_lines c.args.number gates c.args.extra in
    let tail = tail_lines gates in
    let first : string_bytes c.put_head.new.text ≡ text_of head = c.in_ok-put_head.ensures ∙ ap (λ bs. bs ++ text_of head) c.new-text.ensures.bytes in
    ap (λ (v : Vec ℕ Global). v.items) c.into_bytes.ensures.value
    ∙ put_then [] (string_bytes c.put_head.new.text) (string_bytes c.put_tail.new.text) (text_of head) (text_of middle ++ text_of tail) first
    (put_then (string_bytes c.put_head.new.text) (string_bytes c.put_gates.new.text) (string_bytes c.put_tail.new.text) (text_of middle) (text_of tail) c.in_ok-put_gates.ensures c.in_ok-put_tail.ensures)
    ∙ joined head middle tail
