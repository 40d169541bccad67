use Rattle.std.proofs.Common.{◌<◌, length, refl, arith}
use Rattle.std.proofs.lemmas.Result.{on_ok_weaker}
use Rattle.bx_map.specs.FanOuts.{IsConsumerOf}
use Rattle.bx_map.proofs.Trees.{halves, halves-own, halved, fan_edges-one, fan_edges-many}
use Rattle.bx_map.proofs.edges.+put_fan_edges.Goals as goal

pub returns-then-consumers-eq1 : goal.returns-then-consumers-eq1
returns-then-consumers-eq1 t c = fan_edges-one _ _ c.args.consumers.now _ c.if-consumers-eq1.true

pub put_fan_edges-requires : goal.put_fan_edges-requires
put_fan_edges-requires t c =
    let h = halves c.args.consumers.now _ _ _ c.div_ceil.ensures c.split_at.ensures.front c.split_at.ensures.back in
    let own = halves-own (IsConsumerOf c.args.fan_outs.now) _ _ _ h c.requires.own in
    let more : 1 < length c.args.consumers.now = omega arith in
    let deep = halved (length c.args.consumers.now) c.args.halvings more c.requires.shallow in
    (omega (arith, deep.0), (omega (arith, h.first_many), (own.0, (omega (arith, h.first_many), omega (arith, h.first_many, deep.1)))))

pub put_fan_edges-requires-2 : goal.put_fan_edges-requires-2
put_fan_edges-requires-2 t c =
    let h = halves c.args.consumers.now _ _ _ c.div_ceil.ensures c.split_at.ensures.front c.split_at.ensures.back in
    let own = halves-own (IsConsumerOf c.args.fan_outs.now) _ _ _ h c.requires.own in
    let more : 1 < length c.args.consumers.now = omega arith in
    let deep = halved (length c.args.consumers.now) c.args.halvings more c.requires.shallow in (
      omega (arith, deep.0),
      (omega (arith, h.first_many, h.second_many), (own.1, (omega (arith, h.first_many, h.second_many), omega (arith, h.second_many, deep.2)))),
    )

pub returns : goal.returns
returns t c =
    let h = halves c.args.consumers.now _ _ _ c.div_ceil.ensures c.split_at.ensures.front c.split_at.ensures.back in
    let more : 1 < length c.args.consumers.now = omega arith in
    on_ok_weaker c.put_fan_edges-2.result
    (λ put.
    fan_edges-many c.args.fan_outs.now c.args.v _ c.args.consumers.now _ _ c.args.edges.now.items c.push.new.self.items c.push-2.new.self.items c.put_fan_edges.new.edges.items _ _ _ _ _ more h refl
    c.entry-target.ensures c.entry-other.ensures c.edge_to.ensures c.edge_to-2.ensures c.in_ok-push.ensures.items c.in_ok-push-2.ensures.items c.in_ok-put_fan_edges.ensures put)
    c.put_fan_edges-2.ensures
