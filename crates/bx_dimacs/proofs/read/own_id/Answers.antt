use Rattle.std.proofs.Common.{◌≡◌, pos, sym, ap, ◌∙◌, refl, rules, arith}
use Rattle.bx_dimacs.proofs.Stepping.{zero_names_none, id_found, id_not_found}
use Rattle.bx_dimacs.proofs.read.own_id.Goals as goal

pub returns-then-id-eq0-clause-exact : goal.returns-then-id-eq0-clause-exact
returns-then-id-eq0-clause-exact c =
    let is : c.args.number ≡ pos c.in_ok-id.id = search rules in
    sym (zero_names_none c.args.count c.args.ids.now c.args.number c.in_ok-id.id c.requires.ascending is c.if-id-eq0.true)

pub returns-in-Ok-clause-own : goal.returns-in-Ok-clause-own
returns-in-Ok-clause-own c =
    let is : c.args.number ≡ pos c.in_ok-id.id = search rules in
    id_found c.args.count c.in-Ok.place _ c.in_ok-id.id c.args.ids.now c.args.number c.binary_search.result c.requires.ascending c.binary_search.ensures.position c.in-Ok.is is refl

pub returns-in-Err-clause-exact : goal.returns-in-Err-clause-exact
returns-in-Err-clause-exact c =
    let is : c.args.number ≡ pos c.in_ok-id.id = search rules in
    sym (id_not_found c.args.count c.in-Err.field-0 c.in_ok-id.id c.args.ids.now c.args.number c.binary_search.result c.requires.ascending c.binary_search.ensures.position c.in-Err.is is (omega (arith, c.from.ensures, c.if-id-from.false)))
