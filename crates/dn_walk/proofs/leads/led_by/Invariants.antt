-- The units so far to which the unit leads.
use Rattle.std.proofs.Common.{◌≡◌, take}
use Rattle.std.specs.List.{filter}
use Rattle.dn_walk.specs.Units.{leads_by_lows}
use Rattle.dn_walk.proofs.leads.led_by.Given as goal

abbrev pub invariant-loop-other : goal.invariant-loop-other
invariant-loop-other l = l.next ≡ filter (leads_by_lows l.nodes l.lows l.unit) (take l.other-index l.units)
