use Rattle.std.proofs.Common.{◌∷◌, [], append_assoc}
use Rattle.std.specs.Prelude.{codes}
use Rattle.bx_desk.proofs.Printing.{prints_then, prints_as}
use Rattle.bx_cert.specs.Texts.{numbers, count_text}
use Rattle.bx_cert.proofs.write.print_counted.Goals as goal

pub returns : goal.returns
returns g c = prints_as (append_assoc (codes "count") (numbers (c.args.ratio.w ∷ c.args.ratio.h ∷ [])) (count_text c.args.proof)) (prints_then c.print_pair.ensures c.print_count.ensures)
