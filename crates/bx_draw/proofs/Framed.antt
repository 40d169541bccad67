-- The text of a frame and of dots from the numbers that are put out.
use Rattle.std.proofs.Common.{◌≡◌, ℕ, ◌+◌, ◌*◌, ◌∙◌, ap}
use Rattle.bx_grid.specs.declared.ratio.Ratio.{Ratio}
use Rattle.bx_library.specs.Tiles.{Tiles}
use Rattle.bx_library.specs.declared.dot.Dot.{Dot}
use Rattle.bx_draw.specs.Frames.{Text, titled, title_text, left, top, across, down, stretched, inner_text}
use Rattle.bx_draw.specs.Dotted.{circle, dot_text}

pub title_drawn : (r : Ratio) (w h : ℕ) (end : Text) → w ≡ r.w → h ≡ r.h → titled w h end ≡ title_text r end
title_drawn r w h end is_w is_h = ap (λ n. titled n h end) is_w ∙ ap (λ n. titled r.w n end) is_h

pub inner_drawn : (lib : Tiles) (r : Ratio) (x y width height w h : ℕ)
    → x ≡ left lib → y ≡ top lib → width ≡ across lib w → height ≡ down lib h → w ≡ r.w → h ≡ r.h
    → stretched x y width height ≡ inner_text lib r
inner_drawn lib r x y width height w h is_x is_y is_width is_height is_w is_h =
    ap (λ n. stretched n y width height) is_x
    ∙ ap (λ n. stretched (left lib) n width height) is_y
    ∙ ap (λ n. stretched (left lib) (top lib) n height) (is_width ∙ ap (across lib) is_w)
    ∙ ap (stretched (left lib) (top lib) (across lib r.w)) (is_height ∙ ap (down lib) is_h)

pub dot_drawn : (dot : Dot) (n m l : ℕ) → n ≡ dot.n → m ≡ dot.m → l ≡ dot.l
    → circle (384 * n) (768 * m + 225 * l) ≡ dot_text dot
dot_drawn dot n m l is_n is_m is_l =
    ap (λ k. circle (384 * k) (768 * m + 225 * l)) is_n
    ∙ ap (λ k. circle (384 * dot.n) (768 * k + 225 * l)) is_m
    ∙ ap (λ k. circle (384 * dot.n) (768 * dot.m + 225 * k)) is_l
