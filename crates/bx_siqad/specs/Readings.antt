-- What readers find at the front of bytes.
use Rattle.std.specs.Prelude.{◌≡◌, ℕ, ◌+◌, ◌<◌, List, [], ◌∷◌, ◌++◌, length, take, slice_index_or, map, decimal, ⊤}
use Rattle.std.specs.List.{AllByRecursion}
use Rattle.bx_grid.specs.declared.ratio.Ratio.{Ratio}
use Rattle.bx_library.specs.declared.dot.Dot.{Dot}
use Rattle.bx_library.specs.Dots.{IsAscending}
use Rattle.bx_lines.specs.Decimals.{EndsNumber}
use Rattle.bx_lines.specs.Lines.{ended, text_of}
use Rattle.bx_siqad.specs.Designs.{IsDot}
use Rattle.bx_grid.specs.Orders.{IsRatio}
use Rattle.bx_siqad.specs.Texts.{ratio_line, dot_line}
use Rattle.bx_siqad.specs.declared.fault.DesignFault.{DesignFault}
use Rattle.bx_siqad.specs.declared.fault.DesignFault.TheVariants.{BadDesign, NoMemory}

-- bytes begin with a word and a number
pub record IsNumberBehind (bytes word : List ℕ) (n : ℕ) (rest : List ℕ) : Type 0 where
  pub spelled : bytes ≡ word ++ (decimal n ++ rest)
  pub stops : EndsNumber rest

-- bytes begin with the line of the sides
pub record IsRatioAt (bytes : List ℕ) (ratio : Ratio) (rest : List ℕ) : Type 0 where
  pub is : IsRatio ratio
  pub spelled : bytes ≡ ended (ratio_line ratio) ++ rest

-- bytes begin with the line of a dot
pub record IsDotAt (bytes : List ℕ) (dot : Dot) (rest : List ℕ) : Type 0 where
  pub is : IsDot dot
  pub spelled : bytes ≡ ended (dot_line dot) ++ rest

-- bytes begin with so many of these lines, and the next one doesn't stand behind them
pub record StopsWithin (lines : List (List ℕ)) (bytes : List ℕ) (count : ℕ) : Type 0 where
  pub within : count < length lines
  pub rest : List ℕ
  pub spelled : bytes ≡ text_of (take count lines) ++ rest
  pub no_next : (behind : List ℕ) → rest ≡ ended (slice_index_or lines count []) ++ behind → ⊥

-- the fault of lines of which so many stand before
abbrev pub IsLineFault : List (List ℕ) → List ℕ → ℕ → DesignFault → Type 0
IsLineFault lines bytes before (BadDesign k) = (count : ℕ) × (k ≡ before + count + 1) × StopsWithin lines bytes count
IsLineFault lines bytes before NoMemory = ⊥

-- bytes begin with the lines of dots in order, and no line of a dot follows
pub record AreDotsAt (bytes : List ℕ) (dots : List Dot) (rest : List ℕ) : Type 0 where
  pub are : AllByRecursion IsDot dots
  pub ascending : IsAscending dots
  pub spelled : bytes ≡ text_of (map dot_line dots) ++ rest
  pub no_more : (dot : Dot) (behind : List ℕ) → IsDotAt rest dot behind → ⊥

-- bytes begin with the lines of dots in order, and then a dot that may not follow
pub record IsDisorderAt (bytes : List ℕ) (dots : List Dot) : Type 0 where
  pub are : AllByRecursion IsDot dots
  pub ascending : IsAscending dots
  pub rest : List ℕ
  pub spelled : bytes ≡ text_of (map dot_line dots) ++ rest
  pub dot : Dot
  pub behind : List ℕ
  pub stands : IsDotAt rest dot behind
  pub out_of_order : IsAscending (dots ++ dot ∷ []) → ⊥

-- the fault of dots of which so many lines stand before
abbrev pub IsDotFault : List ℕ → ℕ → DesignFault → Type 0
IsDotFault bytes before (BadDesign k) = (dots : List Dot) × (k ≡ before + length dots + 1) × IsDisorderAt bytes dots
IsDotFault bytes before NoMemory = ⊤
