-- The order of the walk over a net: outputs in port order, and each net behind its arguments, which are
-- visited from left to right, also those that fold away. A net that was visited is passed by.
use Rattle.std.specs.Prelude.{ℕ, zero, suc, Bool, ◌==◌, if◌then◌else◌, List, [], ◌∷◌, ◌++◌, length}
use Rattle.std.specs.List.{fold, list_any}
use Rattle.bx_logic.specs.declared.driver.Driver.{Driver}
use Rattle.bx_logic.specs.Nets.{arguments_of, driver_at, Netlist, output_nets}

-- whether the number is one of these
abbrev pub has : List ℕ → ℕ → Bool
has xs n = list_any (λ m. m == n) xs

-- the visited nets in the order in which the walk finishes them, where these were visited before and
-- the walk comes to this net. The depth is a number of arguments in each other; no net is deeper.
unfoldable pub visit : List Driver → ℕ → List ℕ → ℕ → List ℕ
visit drivers zero done n = done
visit drivers (suc depth) done n =
    if has done n then done else (fold (visit drivers depth) done (arguments_of (driver_at drivers n)) ++ n ∷ [])

-- no net depends on itself, so that none is deeper than there are nets
unfoldable pub walk : Netlist → List ℕ
walk net = fold (visit net.drivers (suc (length net.drivers))) [] (output_nets net)
