-- The text of a picture with dots at their true places, over the tiles that they make.
use Rattle.std.specs.Prelude.{ℕ, ◌+◌, ◌*◌, List, [], ◌∷◌, ◌++◌, codes, decimal, flat_map}
use Rattle.bx_layout.specs.Grids.{FormGrid}
use Rattle.bx_library.specs.Tiles.{Tiles}
use Rattle.bx_library.specs.declared.dot.Dot.{Dot}
use Rattle.bx_draw.specs.Frames.{Text, joined, stretched_text}
use Rattle.bx_draw.specs.Pictures.{Label, body_text}

-- where a dot lies, in hundredths of an angstrom: right of the first dimer, and below its upper atom
abbrev pub lattice_x : Dot → ℕ
lattice_x dot = 384 * dot.n

abbrev pub lattice_y : Dot → ℕ
lattice_y dot = 768 * dot.m + 225 * dot.l

abbrev pub circle : ℕ → ℕ → Text
circle x y = joined (codes "<circle cx=\"" ∷ decimal x ∷ codes "\" cy=\"" ∷ decimal y ∷ codes "\" r=\"100\"/>\n" ∷ [])

abbrev pub dot_text : Dot → Text
dot_text dot = circle (lattice_x dot) (lattice_y dot)

-- each dot, once
abbrev pub dots_text : List Dot → Text
dots_text dots = codes "</svg>\n<g class=\"d\">\n" ++ (flat_map dot_text dots ++ codes "</g>\n</svg>\n")

abbrev pub dotted_text : Tiles → List Dot → FormGrid → List Label → List ℕ → Text
dotted_text lib dots g labels places =
    stretched_text lib g.ratio ++ (body_text g labels places ++ dots_text dots)
