-- How names of nodes go on, by what their nodes come to in one step.
use Rattle.std.specs.Prelude.{ℕ, ◌+◌, ◌-◌, Bool, ◌&&◌, nat_eq, nat_lt, List, length, slice_get}
use Rattle.std.specs.List.{list_any}
use Rattle.dn_interval.specs.declared.row.End.{End}
use Rattle.dn_interval.specs.declared.row.Row.{Row}
use Rattle.dn_interval.specs.declared.row.Seg.{Seg}
use Rattle.dn_interval.specs.Spans.{in_span}
use Rattle.dn_interval.specs.Strands.{rows_give}
use Rattle.dn_interval.specs.Onward.{gives_by, rows_go, rows_of}
use Rattle.dn_flat.specs.declared.found.Continuation.{Continuation}
use Rattle.dn_flat.specs.declared.found.Continuation.TheVariants.{Accepts, Stops, Goes, Stays, Toward}
use Rattle.dn_flat.specs.declared.reach.Reach.{Reach}
use Rattle.dn_flat.specs.Firsts.{is_same}

-- there is a row
abbrev pub has_rows : List Row → Bool
has_rows rows = nat_lt 0 (length rows)

-- the address of the node, of which this is known, goes on to the name: by its rows of a sort; as itself, where the node
-- accepts something; or by rows of one node alone
abbrev pub reach_leads : Continuation → Reach → ℕ → ℕ → End → Bool
reach_leads Accepts reach node a z = rows_give reach.done.accepts a z
reach_leads Stops reach node a z = rows_give reach.done.stops a z
reach_leads Goes reach node a z = rows_give reach.go a z
reach_leads Stays reach node a z = has_rows reach.done.accepts && is_same node a z
reach_leads (Toward other rows) reach node a z = nat_eq node other && rows_give rows.now a z

-- so does the address of a node in a list with an item for each node; where none is there, it goes on to nothing
abbrev pub leads_by : Continuation → List Reach → ℕ → ℕ → End → Bool
leads_by Accepts nodes node a z = gives_by (λ (r : Reach). r.done.accepts) nodes node a z
leads_by Stops nodes node a z = gives_by (λ (r : Reach). r.done.stops) nodes node a z
leads_by Goes nodes node a z = gives_by (λ (r : Reach). r.go) nodes node a z
leads_by Stays nodes node a z = has_rows (rows_of (λ (r : Reach). r.done.accepts) (slice_get nodes node)) && is_same node a z
leads_by (Toward other rows) nodes node a z = nat_eq node other && gives_by (λ (r : Reach). rows.now) nodes node a z

-- a name that the segment gives to the address goes on to the name
abbrev pub seg_leads : (ℕ → ℕ → End → Bool) → Seg → ℕ → End → Bool
seg_leads next s a z = in_span s.span a && next s.node (s.base + (a - s.span.lo)) z

-- a name that one of the segments gives to the address does
abbrev pub segs_lead : (ℕ → ℕ → End → Bool) → List Seg → ℕ → End → Bool
segs_lead next segs a z = list_any (λ s. seg_leads next s a z) segs

-- a name that the rows of one of the levels give to the address does
abbrev pub levels_lead : (ℕ → ℕ → End → Bool) → List (List Row) → ℕ → End → Bool
levels_lead next levels a z = list_any (λ rows. rows_go next rows a z) levels
