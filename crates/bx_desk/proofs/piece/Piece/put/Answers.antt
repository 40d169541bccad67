use Rattle.std.proofs.Common.{ℕ, List, ◌++◌, rules, length, ◌-◌, ◌∙◌, subst, arith}
use Rattle.std.proofs.lemmas.Result.{MatchResult-from_err}
use borrow.Rule.Slice.PartMut.{put_mid}
use Rattle.bx_desk.specs.Pieces.{pending, PutsUpTo}
use Rattle.bx_desk.proofs.Filled.{filled, less_a_buffer}
use Rattle.bx_desk.proofs.Put.{puts_piece, puts_front}
use Rattle.bx_desk.proofs.piece.Piece.put.Goals as goal

pub returns-in_err-hand_on-clause-hands_on : goal.returns-in_err-hand_on-clause-hands_on
returns-in_err-hand_on-clause-hands_on g c =
    let state = g.D.Desk.state in
    let piece : List ℕ = put_mid c.loop-self.self.len (4096 - c.loop-self.self.len) c.loop-self.self.buffer c.copy_from_slice.new.self in
    let later : List ℕ = c.split_at.result.1.now in
    let text : List ℕ = pending c.args.self.now ++ c.args.bytes.now in
    MatchResult-from_err c.from_residual.result _ _ c.from_residual.ensures.0 (λ _.
    puts_front c.args.self.now.target c.loop-self.self.target c.loop-self.invariant.target (state c.args.desk.now) (state c.loop-self.desk) (state c.hand_on.new.desk) text piece later (subst (PutsUpTo c.args.self.now.target (state c.args.desk.now) (state c.loop-self.desk) text) (filled c.loop-self.self.len 4096 c.loop-self.self.buffer c.loop-self.rest.now c.copy_from_slice.new.self later (search rules) (c.copy_from_slice.ensures.after ∙ c.split_at.ensures.front) c.split_at.ensures.back) c.loop-self.invariant.puts) c.in_err-hand_on.ensures.err)

pub loop-self-preserved : goal.loop-self-preserved
loop-self-preserved g c =
    let state = g.D.Desk.state in
    let piece : List ℕ = put_mid c.loop-self.self.len (4096 - c.loop-self.self.len) c.loop-self.self.buffer c.copy_from_slice.new.self in
    let later : List ℕ = c.split_at.result.1.now in
    let text : List ℕ = pending c.args.self.now ++ c.args.bytes.now in
    record {
      puts = puts_piece c.args.self.now.target c.loop-self.self.target c.loop-self.invariant.target (state c.args.desk.now) (state c.loop-self.desk) (state c.hand_on.new.desk) text piece later (subst (PutsUpTo c.args.self.now.target (state c.args.desk.now) (state c.loop-self.desk) text) (filled c.loop-self.self.len 4096 c.loop-self.self.buffer c.loop-self.rest.now c.copy_from_slice.new.self later (search rules) (c.copy_from_slice.ensures.after ∙ c.split_at.ensures.front) c.split_at.ensures.back) c.loop-self.invariant.puts) c.in_ok-hand_on.ensures.ok;
      can = search rules;
      target = search rules;
      size = less_a_buffer c.loop-self.self.len (4096 - c.loop-self.self.len) (length c.split_at.result.1.now) _ (length c.loop-self.rest.now) (omega arith) (omega arith) c.loop-self.invariant.size;
      quiet = λ h. absurd (omega (arith, (c.loop-self.invariant.quiet h).1));
    }
