-- No port so far leads to hops.
use Rattle.std.proofs.Common.{◌≡◌, drop}
use Rattle.std.specs.List.{list_any}
use Rattle.dn_view.specs.Untouched.{leads_to_hops}
use Rattle.dn_view.proofs.onward.comes_on.Given as goal

abbrev pub invariant-loop-port : goal.invariant-loop-port
invariant-loop-port g l = list_any (leads_to_hops l.trial.system.on.net.now l.trial.system.flats.now l.trial.placement.now.hops) l.ports ≡ list_any (leads_to_hops l.trial.system.on.net.now l.trial.system.flats.now l.trial.placement.now.hops) (drop l.port-index l.ports)
