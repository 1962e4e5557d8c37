-- No port so far leads to units.
use Rattle.std.proofs.Common.{◌≡◌, drop}
use Rattle.std.specs.List.{list_any}
use Rattle.dn_flat.specs.Levels.{has_stops}
use Rattle.dn_flat.proofs.seers.some_have_stops.Given as goal

abbrev pub invariant-loop-port : goal.invariant-loop-port
invariant-loop-port l = list_any (has_stops l.nodes) l.ports ≡ list_any (has_stops l.nodes) (drop l.port-index l.ports)
