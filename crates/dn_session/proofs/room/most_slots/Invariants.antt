use Rattle.std.proofs.Common.{◌≡◌, ◌≤◌, drop, length}
use Rattle.dn_session.specs.Room.{most_slots}
use Rattle.dn_session.proofs.room.most_slots.Given as goal

abbrev pub invariant-units : goal.invariant-units
invariant-units g l = record {
  rest : l.most ≡ most_slots (drop l.node l.system.on.net.now) l.size;
  there : l.node ≤ length l.system.on.net.now;
  few : l.most ≤ 262145;
}

abbrev pub decreases-units : goal.decreases-units
decreases-units g l = l.node
