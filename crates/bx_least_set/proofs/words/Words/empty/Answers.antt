use Rattle.std.proofs.Common.{◌≡◌, ◌/◌, ◌+◌, replicate, rules}
use Rattle.bx_least_set.proofs.WordBits.{IsNew-zeros, AreWords-zeros}
use Rattle.bx_least_set.proofs.words.Words.empty.Goals as goal

pub returns : goal.returns
returns c =
    let items : c.in_ok-words.words.items ≡ replicate (c.args.bound / 64 + 1) 0 = search rules in
    IsNew-zeros c.args.bound _ _ (AreWords-zeros c.args.bound _ c.ranges.bound.fits items) items
