use Rattle.std.proofs.Common.{◌≡◌, ◌∙◌, ◌+◌, true, Option, Some, None, refl, ap, subst}
use Rattle.bx_cnf.specs.Formulas.{Formula}
use Rattle.bx_dimacs.specs.declared.proof.LratProof.{LratProof}
use Rattle.bx_dimacs.specs.declared.read.Progress.TheVariants.{Ended}
use Rattle.bx_dimacs.specs.ProofTexts.{ProofText, line_of, read_steps, with_line}
use Rattle.bx_dimacs.specs.StepsShown.{GoesOnAs, KeepsSoFar}
use Rattle.bx_dimacs.specs.Words.{lines_from, words_of}
use Rattle.bx_dimacs.proofs.Open.{open_read}
use Rattle.bx_dimacs.proofs.Stepping.{lines_on, lines_over}
use Rattle.bx_dimacs.proofs.read.read_steps.Goals as goal

pub returns-clause-read : goal.returns-clause-read
returns-clause-read c = open_read c.args.clauses.now c.loop-line.proof c.loop-line.invariant.goes_on

-- where a proof ends, so does its text
text_ends : (formula : Formula) (read : LratProof) (next : Option ProofText) → GoesOnAs formula read Ended next → (text : ProofText) × (next ≡ Some text) × KeepsSoFar formula read true text
text_ends formula read None goes = absurd goes
text_ends formula read (Some text) goes = (text, refl, goes)

pub returns-in-Ended-clause-said : goal.returns-in-Ended-clause-said
returns-in-Ended-clause-said c =
    let (before, so_far, says) = c.loop-line.invariant.says in
    let words = words_of c.in-Some.line.now in
    let goes = subst (λ progress. GoesOnAs c.args.clauses.now c.read_line.new.proof progress (with_line c.args.clauses.now before (line_of words))) c.in-Ended.is (c.in_ok-read_line.ensures.keeps before so_far) in
    let (text, next, keeps) = text_ends c.args.clauses.now c.read_line.new.proof (with_line c.args.clauses.now before (line_of words)) goes in
    let rest = lines_from (c.next.new.self.number + 1) c.next.new.self.rest.now in
    record {
      said = text;
      says = says ∙ ap (read_steps c.args.clauses.now before) c.in-Some.ensures.some ∙ lines_on c.args.clauses.now before (c.next.new.self.number, words) rest (Some text) so_far.1 next ∙ lines_over c.args.clauses.now text rest keeps.1;
      keeps = keeps.0;
    }
