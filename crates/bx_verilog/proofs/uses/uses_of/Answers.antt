use Rattle.std.proofs.Common.{ℕ, replicate, ap, ◌∙◌, arith}
use Rattle.bx_verilog.proofs.Counting.{none, uses_among-none, number-within, room-at_number, uses-more}
use Rattle.bx_verilog.proofs.uses.uses_of.Goals as goal

pub loop-mention-init : goal.loop-mention-init
loop-mention-init c =
    c.in_ok-uses.ensures.items_if_clones_equal (λ y e. e) ∙ ap (λ (n : ℕ). replicate n none) c.len.ensures ∙ uses_among-none c.args.names.now

pub index_mut-requires : goal.index_mut-requires
index_mut-requires c =
    let low = number-within c.args.mentions.now c.loop-mention.mention-index _ c.args.names.now c.loop-mention.uses.items c.number.result c.requires c.loop-mention.invariant c.loop-mention-test.true c.number.ensures in
    omega (arith, c.loop-mention.uses.ok.0)

pub note-requires : goal.note-requires
note-requires c =
    room-at_number c.args.mentions.now c.loop-mention.mention-index _ c.args.names.now c.loop-mention.uses.items c.number.result c.index_mut.result.now c.requires c.loop-mention.invariant c.loop-mention-test.true c.number.ensures (omega arith) c.index_mut.ensures.value

pub loop-mention-preserved : goal.loop-mention-preserved
loop-mention-preserved c =
    uses-more c.args.mentions.now c.loop-mention.mention-index _ c.args.names.now c.loop-mention.uses.items c.number.result c.index_mut.result.now c.note.new.self c.requires c.loop-mention.invariant c.loop-mention-test.true c.number.ensures c.index_mut.ensures.value c.note.ensures
