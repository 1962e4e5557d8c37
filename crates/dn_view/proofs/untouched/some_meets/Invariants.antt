use Rattle.std.proofs.Common.{◌≡◌, drop}
use Rattle.std.specs.List.{list_any}
use Rattle.dn_view.specs.Untouched.{can_meet}
use Rattle.dn_view.proofs.untouched.some_meets.Given as goal

abbrev pub invariant-loop-node : goal.invariant-loop-node
invariant-loop-node g l = list_any (can_meet l.trial.system.on.net.now l.trial.system.flats.now l.trial.placement.now.hops) l.nodes ≡ list_any (can_meet l.trial.system.on.net.now l.trial.system.flats.now l.trial.placement.now.hops) (drop l.node-index l.nodes)
