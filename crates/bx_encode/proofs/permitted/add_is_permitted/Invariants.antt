-- The clauses so far.
use Rattle.std.proofs.Common.{filter, not}
use Rattle.std.specs.List.{range_with_len}
use Rattle.bx_forms.specs.Forms.{forms}
use Rattle.bx_layout.specs.Permits.{test_of}
use Rattle.bx_encode.specs.Families.{each, bars}
use Rattle.bx_encode.specs.Sizes.{Adds}
use Rattle.bx_encode.proofs.permitted.add_is_permitted.Given as goal

abbrev pub invariant-loop-t : goal.invariant-loop-t
invariant-loop-t l = Adds l.initial.to.clauses l.to.clauses (each (range_with_len 0 l.t) (λ t. each (filter (λ form. not (test_of l.permit l.frame.ratio t form)) forms) (bars l.frame.net.now l.frame.ratio t)))
