-- What segments of names in units come to through one slot each.
use Rattle.std.specs.Prelude.{ℕ, ◌+◌, ◌-◌, ◌/◌, ◌^◌, ◌<◌, Bool, false, ◌&&◌, nat_eq, nat_lt, List, [], length, slice_get, Option, Some, None, IfSome}
use Rattle.std.specs.List.{list_any}
use Rattle.dn_interval.specs.declared.row.End.{End}
use Rattle.dn_interval.specs.declared.row.Row.{Row}
use Rattle.dn_interval.specs.declared.row.Seg.{Seg}
use Rattle.dn_interval.specs.Spans.{in_span}
use Rattle.dn_net.specs.declared.node.Name.{Name}
use Rattle.dn_net.specs.declared.node.NodeDecl.{NodeDecl}
use Rattle.dn_net.specs.declared.node.Unit.{Unit as UnitPart}
use Rattle.dn_net.specs.Decode.{unit_at}
use Rattle.dn_kind.specs.Tables.{Held, output}
use Rattle.dn_flat.specs.Levels.{FlatsView, levels_give, reached_of, shows, stops_in}
use Rattle.dn_flat.specs.Onward.{has_rows, seg_leads}
use Rattle.dn_view.specs.declared.part.FlatPart.{FlatPart}
use Rattle.dn_view.specs.declared.part.FlatPart.TheVariants.{Accepts, Stops}

-- the layers of the stops of a node
abbrev pub stops_of : FlatsView → ℕ → List (List Row)
stops_of flats node = stops_in (slice_get flats.nodes node)

-- the address of the node comes to the name: to an accepted one, or to a stop
abbrev pub part_gives : FlatPart → FlatsView → ℕ → ℕ → End → Bool
part_gives Accepts flats node a z = shows flats node a z
part_gives Stops flats node a z = levels_give (stops_of flats node) a z

-- there is something to which the node leads: a level, or a stop
abbrev pub part_leads : FlatPart → FlatsView → ℕ → Bool
part_leads Accepts flats node = nat_lt 0 (length (reached_of (slice_get flats.nodes node)))
part_leads Stops flats node = list_any has_rows (stops_of flats node)

-- the output of a name in this unit, or in none
abbrev pub outputs_by : Held → Name → Option UnitPart → List Name
outputs_by h x None = []
outputs_by h x (Some u) = output u (h x.node (x.addr / 2 ^ u.page)) x.addr

-- the output of a name, where its node is a unit and its slot has a record
abbrev pub outputs : List NodeDecl → Held → Name → List Name
outputs net h x = outputs_by h x (unit_at net x.node)

-- one of the names goes on to the name, by a test of what each node gives to its addresses
abbrev pub names_go : (ℕ → ℕ → End → Bool) → List Name → End → Bool
names_go next xs z = list_any (λ x. next x.node x.addr z) xs

-- the name that a segment gives to an address
abbrev pub seg_name : Seg → ℕ → Name
seg_name s a = record { node = s.node; addr = s.base + (a - s.span.lo) }

-- the name of an address of the segment goes on to the name, through a slot
abbrev pub seg_passes : List NodeDecl → Held → (ℕ → ℕ → End → Bool) → Seg → ℕ → End → Bool
seg_passes net h next s a z = in_span s.span a && names_go next (outputs net h (seg_name s a)) z

-- the name of an address of one of the segments does
abbrev pub segs_pass : List NodeDecl → Held → (ℕ → ℕ → End → Bool) → List Seg → ℕ → End → Bool
segs_pass net h next segs a z = list_any (λ s. seg_passes net h next s a z) segs

-- what a run of names comes to that is still to be followed, where there is one
abbrev pub run_leads : (ℕ → ℕ → End → Bool) → Option Seg → ℕ → End → Bool
run_leads next None a z = false
run_leads next (Some s) a z = seg_leads next s a z

-- the node of the run is there
abbrev pub IsRun : FlatsView → Option Seg → Type 0
IsRun flats run = IfSome run (λ s. s.node < length flats.nodes)

-- the name of an address of the segment stands in the slot
abbrev pub in_slot : ℕ → ℕ → Seg → ℕ → Bool
in_slot page slot s a = in_span s.span a && nat_eq ((s.base + (a - s.span.lo)) / 2 ^ page) slot
