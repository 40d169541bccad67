use Rattle.bx_lex.proofs.Cuts.{span_at}
use Rattle.std.proofs.Common.{◌≡◌, length, get_or, ap, ◌<◌, ◌≤◌, sym, subst, arith}
use Rattle.bx_lex.proofs.tokens.Tokens.token.Goals as goal

pub returns-clause-inside : goal.returns-clause-inside
returns-clause-inside c =
    let same : c.self.inside.tokens.items ≡ c.args.self.now.tokens = ap (λ v. v.tokens) c.self.view_is in
    let end : c.self.inside.end ≡ c.args.self.now.end = ap (λ v. v.end) c.self.view_is in
    let inside = span_at 0 c.self.inside.tokens.items c.self.inside.end c.args.k c.index.result.now c.self.invariant (omega (arith, ap length same)) in
    let read : c.index.result.now ≡ get_or c.self.inside.tokens.items c.args.k c.index.result.now = c.index.ensures in
    rw (← end) (subst (λ t. (t.start < t.end) × (t.end ≤ c.self.inside.end)) (sym read) inside)
