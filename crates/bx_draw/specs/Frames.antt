-- What stands around a picture. In a frame's own units a tile is 104 wide and 120 high, rows are 90 apart, and odd rows
-- stand half a tile further right. On the lattice, in hundredths of an angstrom, dimers are 384 apart along a row, and
-- rows of dimers 768; there the same frame is stretched over the dots of the tiles.
use Rattle.std.specs.Prelude.{ℕ, ◌+◌, ◌*◌, List, [], ◌∷◌, ◌++◌, codes, decimal, flat_map}
use Rattle.bx_grid.specs.declared.ratio.Ratio.{Ratio}
use Rattle.bx_library.specs.Tiles.{Tiles}

abbrev pub Text : Type 0
Text = List ℕ

-- texts, one right behind the other
abbrev pub joined : List Text → Text
joined texts = flat_map (λ text. text) texts

-- the first lines, up to the numbers of the box that a picture fills
abbrev pub start_text : Text
start_text = codes "<?xml version=\"1.0\" encoding=\"UTF-8\"?>\n<svg xmlns=\"http://www.w3.org/2000/svg\" xmlns:xlink=\"http://www.w3.org/1999/xlink\" version=\"1.1\" viewBox=\""

-- the numbers of the box of a grid of these sides, in a frame's own units: half a tile more at the left and the right,
-- a row more above, and two below
abbrev pub frame_text : Ratio → Text
frame_text r = joined (codes "-52 -75 " ∷ decimal (52 * (2 * r.w + 3)) ∷ codes " " ∷ decimal (90 * (r.h + 3)) ∷ [])

-- the end of the box, and the title
abbrev pub titled : ℕ → ℕ → Text → Text
titled w h end = joined (codes "\">\n<title>A layout of " ∷ decimal w ∷ codes " by " ∷ decimal h ∷ end ∷ [])

abbrev pub title_text : Ratio → Text → Text
title_text r end = titled r.w r.h end

-- what stands before a plain picture
abbrev pub head_text : Ratio → Text
head_text r = start_text ++ (frame_text r ++ title_text r (codes " tiles</title>\n"))

-- ---- the same box on the lattice

-- how far left of the first dimer of the first tile it begins, how far above, how wide it is and how high
abbrev pub left : Tiles → ℕ
left lib = 192 * (lib.width + 1)

abbrev pub top : Tiles → ℕ
top lib = 768 * lib.height + 272

abbrev pub across : Tiles → ℕ → ℕ
across lib tiles = 192 * (lib.width * (2 * tiles + 3))

abbrev pub down : Tiles → ℕ → ℕ
down lib rows = 768 * (lib.height * (rows + 3))

abbrev pub box_text : Tiles → Ratio → Text
box_text lib r = joined (
    codes "-" ∷ decimal (left lib) ∷ codes " -" ∷ decimal (top lib)
    ∷ codes " " ∷ decimal (across lib r.w) ∷ codes " " ∷ decimal (down lib r.h) ∷ [])

-- what is stretched to so much across and down, with this corner
abbrev pub stretched : ℕ → ℕ → ℕ → ℕ → Text
stretched x y width height = joined (
    codes "<svg x=\"-" ∷ decimal x ∷ codes "\" y=\"-" ∷ decimal y
    ∷ codes "\" width=\"" ∷ decimal width ∷ codes "\" height=\"" ∷ decimal height
    ∷ codes "\" preserveAspectRatio=\"none\" viewBox=\"" ∷ [])

abbrev pub inner_text : Tiles → Ratio → Text
inner_text lib r = stretched (left lib) (top lib) (across lib r.w) (down lib r.h)

-- what stands before a picture that is stretched over dots
abbrev pub stretched_text : Tiles → Ratio → Text
stretched_text lib r = start_text ++ (box_text lib r
    ++ (title_text r (codes " tiles, in hundredths of an angstrom</title>\n")
    ++ (inner_text lib r ++ (frame_text r ++ codes "\">\n"))))
