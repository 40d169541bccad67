use Rattle.std.proofs.Common.{◌≡◌, ◌∙◌, ◌++◌, [], ◌∷◌, ◌-◌, ◌+◌, ◌<◌, ◌≤◌, List, get_or, length, set, take, ap, sym, subst, arith}
use Rattle.std.proofs.lemmas.List.{take_more, take_all}
use Rattle.bx_watch.specs.Watching.{IsOver}
use Rattle.bx_search.specs.States.{Assigned}
use Rattle.bx_search.specs.Trails.{Assignment, IsAssignment}
use Rattle.bx_search.proofs.Trails.{AreBits, entry-over, entry-new, bits-push, bits-all}
use Rattle.bx_search.proofs.trail.Trail.values.Goals as goal

pub index_mut-requires : goal.index_mut-requires
index_mut-requires c =
    let entries = c.args.self.now.entries in
    let formed : IsAssignment c.args.self.now = subst IsAssignment c.self.view_is c.self.invariant.0 in
    let items : c.deref-entry-items.result.now ≡ entries = c.deref-entry-items.ensures.value ∙ ap (λ (t : Assignment). t.entries) c.self.view_is in
    let below : c.loop-entry.entry-index < length entries = subst (λ (xs : List Assigned). c.loop-entry.entry-index < length xs) items c.loop-entry-test.true in
    let at = subst (λ (xs : List Assigned). c.entry-item.result ≡ get_or xs c.loop-entry.entry-index c.entry-item.result) items c.entry-item.is in
    let over : IsOver c.args.self.now.vars c.entry-item.result.literal = entry-over c.args.self.now.vars entries c.loop-entry.entry-index c.entry-item.result formed.over below at in
    omega (arith, c.var.ensures.var, ap (λ (a : Assigned). a.literal.var) c.entry.view_is, over.0, over.1, c.loop-entry.invariant.0)

pub loop-entry-preserved : goal.loop-entry-preserved
loop-entry-preserved c =
    let entries = c.args.self.now.entries in
    let vars = c.args.self.now.vars in
    let a = c.entry-item.result in
    let formed : IsAssignment c.args.self.now = subst IsAssignment c.self.view_is c.self.invariant.0 in
    let items : c.deref-entry-items.result.now ≡ entries = c.deref-entry-items.ensures.value ∙ ap (λ (t : Assignment). t.entries) c.self.view_is in
    let below : c.loop-entry.entry-index < length entries = subst (λ (xs : List Assigned). c.loop-entry.entry-index < length xs) items c.loop-entry-test.true in
    let at : a ≡ get_or entries c.loop-entry.entry-index a = subst (λ (xs : List Assigned). a ≡ get_or xs c.loop-entry.entry-index a) items c.entry-item.is in
    let over : IsOver vars a.literal = entry-over vars entries c.loop-entry.entry-index a formed.over below at in
    let more : AreBits vars (set c.loop-entry.bits.items (a.literal.var - 1) a.literal.positive) (take c.loop-entry.entry-index entries ++ a ∷ []) =
    bits-push vars c.loop-entry.bits.items (take c.loop-entry.entry-index entries) a c.loop-entry.invariant over (entry-new entries c.loop-entry.entry-index a formed.apart below at) in
    let longer : take (c.loop-entry.entry-index + 1) entries ≡ take c.loop-entry.entry-index entries ++ a ∷ [] =
    take_more entries c.loop-entry.entry-index a below ∙ ap (λ (x : Assigned). take c.loop-entry.entry-index entries ++ x ∷ []) (sym at) in
    rw (longer, c.var.ensures.var, c.is_positive.ensures)
    (subst (λ (b : Assigned). AreBits vars (set c.loop-entry.bits.items (b.literal.var - 1) b.literal.positive) (take c.loop-entry.entry-index entries ++ a ∷ [])) (sym c.entry.view_is) more)

pub returns : goal.returns
returns c =
    let items : c.deref-entry-items.result.now ≡ c.args.self.now.entries = c.deref-entry-items.ensures.value ∙ ap (λ (t : Assignment). t.entries) c.self.view_is in
    let end : length c.args.self.now.entries ≤ c.loop-entry.entry-index = subst (λ (xs : List Assigned). length xs ≤ c.loop-entry.entry-index) items c.loop-entry-test.false in
    bits-all c.args.self.now.vars c.loop-entry.bits.items c.args.self.now.entries
    (subst (AreBits c.args.self.now.vars c.loop-entry.bits.items) (take_all c.loop-entry.entry-index c.args.self.now.entries end) c.loop-entry.invariant)
