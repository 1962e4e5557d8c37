-- Which rows give names of so many from one on, and the names of a hop's slots.
use Rattle.std.specs.Prelude.{ℕ, ◌+◌, ◌-◌, ◌%◌, ◌^◌, Bool, false, ◌&&◌, if◌then◌else◌, nat_eq, nat_le, nat_lt, List, Option, Some, None}
use Rattle.std.specs.List.{list_any}
use Rattle.dn_interval.specs.declared.row.End.{End}
use Rattle.dn_interval.specs.declared.row.Row.{Row}
use Rattle.dn_interval.specs.declared.span.Span.{Span}
use Rattle.dn_interval.specs.Spans.{in_span}
use Rattle.dn_net.specs.declared.node.NodeDecl.{NodeDecl}
use Rattle.dn_net.specs.declared.node.Unit.{Unit as UnitPart}
use Rattle.dn_net.specs.Decode.{unit_at}
use Rattle.dn_tables.specs.declared.placement.Hop.{Hop}

-- a span whose first address has this name gives one of so many names from one on
abbrev pub is_near : End → ℕ → Span → End → Bool
is_near t size span e = nat_eq e.node t.node
    && (if nat_lt t.base e.base then nat_lt (e.base - t.base) size
    else nat_le (t.base - e.base) (span.hi - span.lo))

-- it does, and gives the name to the address
abbrev pub end_near : End → ℕ → Span → ℕ → End → End → Bool
end_near t size span a z e = is_near t size span e
    && (nat_eq e.node z.node && nat_eq (e.base + (a - span.lo)) z.base)

-- so does one of the names of the row
abbrev pub row_near : End → ℕ → Row → ℕ → End → Bool
row_near t size r a z = in_span r.span a && list_any (λ e. end_near t size r.span a z e) r.ends

-- so does one of the rows
abbrev pub rows_near : End → ℕ → List Row → ℕ → End → Bool
rows_near t size rows a z = list_any (λ r. row_near t size r a z) rows

-- so does one of the levels
abbrev pub levels_near : End → ℕ → List (List Row) → ℕ → End → Bool
levels_near t size levels a z = list_any (λ rows. rows_near t size rows a z) levels

-- the first name of the first slot of a hop
abbrev pub first_slot_name : UnitPart → Hop → End
first_slot_name u hop = record { node = hop.unit; base = hop.x - hop.x % 2 ^ u.page }

-- how many names there are from it up to the last of the last slot, where the hop has so many addresses
abbrev pub name_count : UnitPart → ℕ → Hop → ℕ
name_count u size hop =
    ((hop.x + size - 1) - (hop.x + size - 1) % 2 ^ u.page) + 2 ^ u.page
    - (hop.x - hop.x % 2 ^ u.page)

-- one of the levels gives the name to the address by a row with names of the hop's slots, where the
-- hop's node is this unit, or none
abbrev pub hop_near_by : Option UnitPart → ℕ → Hop → List (List Row) → ℕ → End → Bool
hop_near_by None size hop levels a z = false
hop_near_by (Some u) size hop levels a z =
    levels_near (first_slot_name u hop) (name_count u size hop) levels a z

-- so it does by names of the slots of one of the hops
abbrev pub hops_near : List NodeDecl → ℕ → List Hop → List (List Row) → ℕ → End → Bool
hops_near net size hops levels a z =
    list_any (λ hop. hop_near_by (unit_at net hop.unit) size hop levels a z) hops
