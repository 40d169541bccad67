-- The permit of a library: the forms that it offers, on each tile.
use Rattle.std.specs.Prelude.{length, nat_lt}
use Rattle.bx_layout.specs.Permits.{PermitTest}
use Rattle.bx_library.specs.Tiles.{Tiles, form_dots}

-- a form may stand where it has a dot
abbrev pub permit_of : Tiles → PermitTest
permit_of lib ratio t form = nat_lt 0 (length (form_dots lib form))
