-- No port so far leads to the other.
use Rattle.std.proofs.Common.{◌≡◌, ◌||◌, ◌==◌, ◌+◌, ◌*◌, ◌^◌, nat_lt, get_or, drop}
use Rattle.std.specs.List.{list_any}
use Rattle.dn_walk.specs.Units.{leads_by_lows}
use Rattle.dn_walk.proofs.leads.does_lead.Given as goal

abbrev pub invariant-loop-port : goal.invariant-loop-port
invariant-loop-port l = leads_by_lows l.nodes l.lows l.unit l.other ≡ list_any (λ p. (p == l.other) || nat_lt (get_or l.lows (p * l.nodes + l.other) 0) (2 ^ l.unit.reach)) (drop l.port-index l.port-items)
