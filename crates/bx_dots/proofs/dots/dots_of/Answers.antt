use Rattle.bx_dots.proofs.Listing.{sorted_is, sorted_ascends}
use Rattle.bx_dots.proofs.Near.{sorted_near}
use Rattle.bx_dots.proofs.dots.dots_of.Goals as goal

pub returns-clause-same : goal.returns-clause-same
returns-clause-same c =
    sorted_is c.args.library.now c.args.grid.now c.in_ok-dots.dots.items c.sort_unstable.new.self.items c.in_ok-dots.ensures.listed c.sort_unstable.ensures.permutation

pub returns-clause-ascending : goal.returns-clause-ascending
returns-clause-ascending c =
    sorted_ascends c.args.library.now c.args.grid.now c.in_ok-dots.dots.items c.sort_unstable.new.self.items c.in_ok-dots.ensures.kept c.in_ok-dots.ensures.listed c.sort_unstable.ensures.permutation
    c.sort_unstable.ensures.sorted

pub returns-clause-near : goal.returns-clause-near
returns-clause-near c =
    sorted_near c.args.library.now c.args.grid.now c.in_ok-dots.dots.items c.sort_unstable.new.self.items c.in_ok-dots.ensures.kept c.in_ok-dots.ensures.listed c.sort_unstable.ensures.permutation
