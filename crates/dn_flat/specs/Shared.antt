-- What nodes reach where some share it.
use Rattle.std.specs.Prelude.{ℕ, List, [], slice_get, unwrap_or}
use Rattle.dn_flat.specs.declared.levels.Levels.{Levels}

-- nothing
abbrev pub no_levels : Levels
no_levels = record { reached = []; stops = []; units = [] }

-- what stands at a place
abbrev pub levels_at : List Levels → ℕ → Levels
levels_at made p = unwrap_or (slice_get made p) no_levels
