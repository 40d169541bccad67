use Rattle.std.proofs.Common.{◌≡◌, [], rules}
use Rattle.bx_watch.proofs.Attaching.{enters-one, enters-two}
use Rattle.bx_watch.proofs.watches.Watches.enter.Goals as goal

pub returns-then-is_one-clause-lists : goal.returns-then-is_one-clause-lists
returns-then-is_one-clause-lists c =
    let full : c.args.literals.now ≡ [] → ⊥ = search rules in
    enters-one c.args.self.now.lists c.push.new.self c.args.clause c.args.literals.now c.args.pair.now full (c.is_one.ensures.yes c.if-is_one.true) c.in_ok-push.ensures

pub returns-clause-lists : goal.returns-clause-lists
returns-clause-lists c =
    let full : c.args.literals.now ≡ [] → ⊥ = search rules in
    enters-two c.args.self.now.lists c.push.new.self c.push-2.new.self c.args.clause c.args.literals.now c.args.pair.now full c.in_ok-push.ensures c.in_ok-push-2.ensures
