use Rattle.std.proofs.Common.{◌≡◌, ◌≤◌, ◌+◌, ◌*◌, drop}
use Rattle.dn_queue.specs.Room.{slots_taken}
use Rattle.dn_queue.proofs.room.event_room.Given as goal

abbrev pub invariant-loop-hop : goal.invariant-loop-hop
invariant-loop-hop l = record {
  whole : slots_taken l.net l.size l.hops ≡ l.slots + slots_taken l.net l.size (drop l.hop-index l.hops);
  few : l.slots ≤ l.hop-index * 262144;
}
