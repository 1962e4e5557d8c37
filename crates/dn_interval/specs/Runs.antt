-- Segments that stand one behind another.
use Rattle.std.specs.Prelude.{ℕ, ◌+◌, ◌-◌, Bool, true, ◌&&◌, nat_le, nat_eq, List, [], ◌∷◌}
use Rattle.dn_interval.specs.declared.row.Seg.{Seg}
use Rattle.dn_interval.specs.declared.row.Row.{Row}

-- the segments stand at an address or above it, each behind those before it
abbrev pub is_in_turn : ℕ → List Seg → Bool
is_in_turn from [] = true
is_in_turn from (s ∷ rest) = nat_le from s.span.lo && is_in_turn (s.span.hi + 1) rest

-- the segment begins at the address behind the other, with the names of that moved on
abbrev pub does_go_on : Seg → Seg → Bool
does_go_on s t = nat_eq t.span.lo (s.span.hi + 1) && (nat_eq t.node s.node && nat_eq t.base (s.base + ((s.span.hi + 1) - s.span.lo)))

-- the row of a segment
abbrev pub row_of : Seg → Row
row_of s = record { span = s.span; ends = record { node = s.node; base = s.base } ∷ [] }
