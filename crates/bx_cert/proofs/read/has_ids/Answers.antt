use Rattle.std.proofs.Common.{◌+◌, arith}
use Rattle.std.proofs.lemmas.Bool.{leb-true, le-leb}
use Rattle.bx_lines.proofs.Numbers.{one_number}
use Rattle.bx_cert.proofs.read.has_ids.Goals as goal

pub returns-in-Some : goal.returns-in-Some
returns-in-Some c =
    let found = c.in-Some.ensures.found in (
      λ yes. (let le = leb-true (c.in-Some.id + c.from.result) 4294967296 yes in (c.in-Some.id, c.in-Some.field-0-1.now, found.1, (omega (arith, le, c.from.ensures)))),
      λ has. (
          let same = one_number c.args.text.now c.in-Some.id has.0 c.in-Some.field-0-1.now has.1 (omega (arith, found.0)) (omega (arith, has.3)) found.1 has.2 in
          le-leb (c.in-Some.id + c.from.result) 4294967296 (omega (arith, same.0, has.3, c.from.ensures))),
    )

pub returns-in-None : goal.returns-in-None
returns-in-None c = (
  λ yes. (let never : ⊥ = cc in absurd never),
  λ has. absurd (c.in-None.ensures.none has.0 has.1 (omega (arith, has.3, c.requires)) has.2),
)
