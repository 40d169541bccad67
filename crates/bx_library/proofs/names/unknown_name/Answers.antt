use Rattle.std.proofs.Common.{◌≡◌, ◌++◌, ◌∷◌, Some, map, not, rules, sym, ap, ◌∙◌, subst}
use Rattle.std.proofs.lemmas.List.Elements.{All-map, All-push, recursion_from_All}
use Rattle.std.proofs.lemmas.Map.Iter.{rest_more, rest_so_far, iter_end}
use Rattle.std.specs.Map.{keys_of}
use Rattle.std.specs.Map.Iter.{deref}
use Rattle.std.specs.Prelude.{IsNone}
use Rattle.bx_library.proofs.Keys.{IsFormName, IsKnown, named, least_unknown, none_unknown}
use Rattle.bx_library.proofs.names.unknown_name.Goals as goal

pub loop-name-preserved : goal.loop-name-preserved
loop-name-preserved c =
    let known : IsFormName c.as_str.result.now = named c.by_name.result c.as_str.result.now (c.is_none.ensures ∙ ap not c.if-is_none.false) c.by_name.ensures.some in
    record {
      can = tt;
      finite = tt;
      known = All-push (λ k. IsKnown k.now) c.loop-name.yielded c.in-Some.name c.loop-name.invariant.known (subst IsFormName c.as_str.ensures.value known);
    }

pub returns-then-is_none-clause-some : goal.returns-then-is_none-clause-some
returns-then-is_none-clause-some c =
    let start : c.into_iter-name-iterator.result ≡ keys_of c.args.map.now.entries = search rules in
    let so_far = rest_so_far deref c.loop-name.yielded c.into_iter-name-iterator.result c.loop-name.name-iterator c.loop-name.yielded_by in
    let more = rest_more deref c.loop-name.name-iterator c.next.new.self c.next.result c.in-Some.name c.in-Some.is c.next.ensures.steps in
    let split : keys_of c.args.map.now.entries ≡ map deref c.loop-name.yielded ++ c.in-Some.name.now ∷ c.next.new.self =
    sym start ∙ so_far ∙ ap (λ t. map deref c.loop-name.yielded ++ t) more in
    let unknown : IsNone c.by_name.result = c.is_none.ensures ∙ ap not c.if-is_none.true in
    rw c.as_str-then-is_none.ensures.value (least_unknown c.args.map.now.entries (map deref c.loop-name.yielded) c.in-Some.name.now c.next.new.self c.keys-name-items.ensures.ordered split
    (recursion_from_All IsKnown (map deref c.loop-name.yielded) (All-map IsKnown deref c.loop-name.yielded c.loop-name.invariant.known))
    (λ form e. c.by_name.ensures.none unknown form (e ∙ ap Some (sym c.as_str.ensures.value))))

pub returns-clause-none : goal.returns-clause-none
returns-clause-none c = λ _.
    let start : c.into_iter-name-iterator.result ≡ keys_of c.args.map.now.entries = search rules in
    let all = (iter_end deref (keys_of c.args.map.now.entries) c.loop-name.yielded c.into_iter-name-iterator.result c.loop-name.name-iterator c.next.new.self c.next.result start c.loop-name.yielded_by c.in-None.is c.next.ensures.steps).0 in
    none_unknown c.args.map.now.entries
    (recursion_from_All IsKnown (keys_of c.args.map.now.entries) (rw (← all) (All-map IsKnown deref c.loop-name.yielded c.loop-name.invariant.known)))
