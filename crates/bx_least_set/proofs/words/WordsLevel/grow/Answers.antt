use Rattle.std.proofs.Common.{◌<◌, ◌+◌, ◌^◌, length, ap, arith}
use Rattle.bx_least_set.proofs.WordBits.{length-numbers_of, AreWords-more, Grows-words}
use Rattle.bx_least_set.proofs.words.WordsLevel.grow.Goals as goal

pub overflow_add-self : goal.overflow_add-self
overflow_add-self c = omega (arith, c.requires, length-numbers_of c.self.inside.bound c.self.inside.words.items, ap length c.self.view_is)

pub invariant_of-self-2 : goal.invariant_of-self-2
invariant_of-self-2 c =
    AreWords-more c.self.inside.bound c.self.inside.words.items _ c.self.invariant
    (omega (arith, c.requires, length-numbers_of c.self.inside.bound c.self.inside.words.items, ap length c.self.view_is))
    c.in_ok-make_room.ensures.ok c.make_room.ensures.same

pub returns-clause-ok : goal.returns-clause-ok
returns-clause-ok c =
    let small : c.self.inside.bound + 1 < 2 ^ 32 = omega (arith, c.requires, length-numbers_of c.self.inside.bound c.self.inside.words.items, ap length c.self.view_is) in
    rw (← c.self.view_is)
    (Grows-words c.self.inside.bound c.self.inside.words.items _ c.self.invariant
    (AreWords-more c.self.inside.bound c.self.inside.words.items _ c.self.invariant small c.in_ok-make_room.ensures.ok c.make_room.ensures.same)
    c.make_room.ensures.same)
