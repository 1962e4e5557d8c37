use Rattle.std.proofs.Common.{◌-◌, length}
use Rattle.dn_gather.specs.Grounds.{request_for, wanted_slots}
use Rattle.dn_gather.proofs.Trying.{Tried}
use Rattle.dn_gather.proofs.choice.first_hop.Given as goal

abbrev pub invariant-outputs : goal.invariant-outputs
invariant-outputs g l = Tried l.ground.wanted.system.on.net.now (wanted_slots (λ k. (goal.UnitKind-dyn g k).meaning k.1) l.ground.wanted) (request_for l.ground.wanted l.piece) l.ground.unit l.a l.x l.exits l.from l.k

abbrev pub decreases-outputs : goal.decreases-outputs
decreases-outputs g l = length l.exits - l.k
