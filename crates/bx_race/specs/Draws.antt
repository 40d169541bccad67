-- What one worker of a race drew, and how its steps change that.
use Rattle.std.specs.Prelude.{◌==◌, ℕ, ◌+◌, Bool, false, nat_lt, if◌then◌else◌, List, [], ◌++◌, length, count_by, Option, None, Some, option_to_list}
use Rattle.bx_race.specs.declared.view.Draws.{Draws}

-- how often the index stands in the list
abbrev pub times : ℕ → List ℕ → ℕ
times i xs = count_by (λ j. j == i) xs

abbrev pub no_draws : Draws
no_draws = record { current = None; done = []; offered = []; dropped = []; past = 0 }

-- all that the worker drew
abbrev pub indices : Draws → List ℕ
indices d = option_to_list d.current ++ d.done ++ d.offered ++ d.dropped

-- it has offered, dropped or drawn n or more
abbrev pub has_ended : Draws → Bool
has_ended d = nat_lt 0 (length d.offered + length d.dropped + d.past)

-- x, if it is an index
abbrev pub index_below : ℕ → ℕ → Option ℕ
index_below n x = if nat_lt x n then Some x else None

-- A claim that draws x: the index that was current is done, and x is current, if it is an index.
abbrev pub claiming : ℕ → ℕ → Draws → Draws
claiming n x d = record {
  current = index_below n x;
  done = d.done ++ option_to_list d.current;
  offered = d.offered;
  dropped = d.dropped;
  past = d.past + (if nat_lt x n then 0 else 1);
}

-- An offer of the current index.
abbrev pub offering : Draws → Draws
offering d = record {
  current = None;
  done = d.done;
  offered = d.offered ++ option_to_list d.current;
  dropped = d.dropped;
  past = d.past;
}

abbrev pub dropping : Draws → Draws
dropping d = record {
  current = None;
  done = d.done;
  offered = d.offered;
  dropped = d.dropped ++ option_to_list d.current;
  past = d.past;
}

-- whether there is an index, and it is above the least one that was offered
abbrev pub is_above : ℕ → Option ℕ → Bool
is_above least None = false
is_above least (Some i) = nat_lt least i

-- A look that finds this least index: the current one is dropped where it is above.
abbrev pub looking : ℕ → Draws → Draws
looking least d = if is_above least d.current then dropping d else d
