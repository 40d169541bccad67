use Rattle.std.proofs.Common.{◌≡◌, ◌∷◌, get_or, arith, ap, ◌∙◌}
use Rattle.bx_cnf.proofs.Flats.{sized, list_read}
use Rattle.bx_cnf.proofs.flat.Flat.list.Goals as goal

pub start_of-start-requires : goal.start_of-start-requires
start_of-start-requires g c = let size = sized _ _ _ c.self.view_is in rw c.deref.ensures.value (omega (arith, size))

pub index-requires : goal.index-requires
index-requires g c = let size = sized _ _ _ c.self.view_is in omega (arith, size)

pub offset_bounds-deref-start : goal.offset_bounds-deref-start
offset_bounds-deref-start g c =
    let starts : c.start_of-start.result ≡ get_or (0 ∷ c.self.inside.ends.items) c.args.k 0 = c.start_of-start.ensures ∙ ap (λ ends. get_or (0 ∷ ends) c.args.k 0) c.deref.ensures.value in
    let read = list_read _ _ _ _ _ _ c.self.view_is c.self.invariant c.requires starts c.index.ensures in
    rw c.deref-2.ensures.value (omega (arith, read.0, read.1))

pub slice_bounds-result-count : goal.slice_bounds-result-count
slice_bounds-result-count g c =
    let starts : c.start_of-start.result ≡ get_or (0 ∷ c.self.inside.ends.items) c.args.k 0 = c.start_of-start.ensures ∙ ap (λ ends. get_or (0 ∷ ends) c.args.k 0) c.deref.ensures.value in
    (list_read _ _ _ _ _ _ c.self.view_is c.self.invariant c.requires starts c.index.ensures).0

pub slice_bounds-result-start : goal.slice_bounds-result-start
slice_bounds-result-start g c =
    let starts : c.start_of-start.result ≡ get_or (0 ∷ c.self.inside.ends.items) c.args.k 0 = c.start_of-start.ensures ∙ ap (λ ends. get_or (0 ∷ ends) c.args.k 0) c.deref.ensures.value in
    (list_read _ _ _ _ _ _ c.self.view_is c.self.invariant c.requires starts c.index.ensures).0

pub slice_bounds-result-end : goal.slice_bounds-result-end
slice_bounds-result-end g c =
    let starts : c.start_of-start.result ≡ get_or (0 ∷ c.self.inside.ends.items) c.args.k 0 = c.start_of-start.ensures ∙ ap (λ ends. get_or (0 ∷ ends) c.args.k 0) c.deref.ensures.value in
    let read = list_read _ _ _ _ _ _ c.self.view_is c.self.invariant c.requires starts c.index.ensures in
    rw c.deref-2.ensures.value read.1

pub returns : goal.returns
returns g c =
    let starts : c.start_of-start.result ≡ get_or (0 ∷ c.self.inside.ends.items) c.args.k 0 = c.start_of-start.ensures ∙ ap (λ ends. get_or (0 ∷ ends) c.args.k 0) c.deref.ensures.value in
    let read = list_read _ _ _ _ _ _ c.self.view_is c.self.invariant c.requires starts c.index.ensures in
    rw c.deref-2.ensures.value read.2
