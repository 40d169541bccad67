use Rattle.std.proofs.Common.{◌≡◌, ℕ, ◌-◌, List, ◌++◌, take, drop, length, arith, ap, ◌∙◌, append_assoc}
use Rattle.std.proofs.KnownBytes.{Appends-trans}
use Rattle.std.proofs.lemmas.List.{length-drop, take-append-drop, take_all}
use Rattle.bx_desk.proofs.standard.write_whole.Goals as goal

halves : (n : ℕ) (xs : List ℕ) → take n xs ++ take (length xs - n) (drop n xs) ≡ xs
halves n xs = ap (λ ys. take n xs ++ ys) (take_all (length xs - n) (drop n xs) (omega (arith, length-drop n xs))) ∙ take-append-drop n xs

pub loop-rest-preserved : goal.loop-rest-preserved
loop-rest-preserved g c =
    let before = c.loop-rest.invariant in
    (before.0 ++ take c.in-Ok.count c.loop-rest.rest.now, Appends-trans _ _ _ _ _ before.1 c.in-Ok.ensures.bytes, append_assoc before.0 _ _ ∙ ap (λ xs. before.0 ++ xs) (halves c.in-Ok.count c.loop-rest.rest.now) ∙ before.2)
