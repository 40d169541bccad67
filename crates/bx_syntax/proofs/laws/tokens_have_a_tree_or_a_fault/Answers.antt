use Rattle.bx_syntax.specs.Terminals.{terminals_of}
use Rattle.bx_syntax.proofs.Faults.{tree_or_fault, no_fault, one_fault}
use Rattle.bx_syntax.proofs.laws.tokens_have_a_tree_or_a_fault.Goals as goal

pub returns : goal.returns
returns c = record {
  some = tree_or_fault;
  either = λ text found m f has is. no_fault 256 (terminals_of text found.tokens) found f m has is;
  one = λ text found f g x y. one_fault 256 (terminals_of text found.tokens) found f g x y;
}
