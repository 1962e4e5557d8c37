use Rattle.std.proofs.Common.{◌≡◌, drop}
use Rattle.std.specs.List.{list_any}
use Rattle.dn_view.specs.Untouched.{leads_on}
use Rattle.dn_view.proofs.met.some_lead_on.Given as goal

abbrev pub invariant-loop-node : goal.invariant-loop-node
invariant-loop-node g l = list_any (leads_on l.system.on.net.now l.system.flats.now) l.nodes ≡ list_any (leads_on l.system.on.net.now l.system.flats.now) (drop l.node-index l.nodes)
