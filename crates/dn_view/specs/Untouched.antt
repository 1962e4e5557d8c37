-- From which nodes a placement can be met.
use Rattle.std.specs.Prelude.{ℕ, Bool, false, ◌||◌, nat_eq, List, slice_get, Option, Some, None}
use Rattle.std.specs.List.{list_any}
use Rattle.dn_net.specs.declared.node.NodeDecl.{NodeDecl}
use Rattle.dn_net.specs.declared.node.Unit.{Unit as UnitPart}
use Rattle.dn_net.specs.Decode.{unit_at}
use Rattle.dn_flat.specs.Levels.{FlatsView, leads_to_units, units_in}
use Rattle.dn_tables.specs.declared.placement.Hop.{Hop}

-- one of the hops stands in the node
abbrev pub has_hop : List Hop → ℕ → Bool
has_hop hops node = list_any (λ h. nat_eq node h.unit) hops

-- what stands in the node can come to a hop: to one in the node itself, or through it to others
abbrev pub can_meet : List NodeDecl → FlatsView → List Hop → ℕ → Bool
can_meet net flats hops node = has_hop hops node || leads_to_units flats.nodes (unit_at net node)

-- the node leads to a unit in which something stands that can come to a hop
abbrev pub leads_to_hops : List NodeDecl → FlatsView → List Hop → ℕ → Bool
leads_to_hops net flats hops node = list_any (can_meet net flats hops) (units_in (slice_get flats.nodes node))

-- so does the node of a port of the unit, if it is one
abbrev pub comes_on : List NodeDecl → FlatsView → List Hop → Option UnitPart → Bool
comes_on net flats hops None = false
comes_on net flats hops (Some u) = list_any (leads_to_hops net flats hops) u.ports

-- what stands in the node goes on to units
abbrev pub leads_on : List NodeDecl → FlatsView → ℕ → Bool
leads_on net flats node = leads_to_units flats.nodes (unit_at net node)
