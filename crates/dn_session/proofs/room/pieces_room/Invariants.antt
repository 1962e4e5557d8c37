use Rattle.std.proofs.Common.{◌≡◌, ◌≤◌, ◌+◌, ◌*◌, drop}
use Rattle.dn_session.specs.Room.{pieces_room}
use Rattle.dn_session.proofs.room.pieces_room.Given as goal

abbrev pub invariant-loop-piece : goal.invariant-loop-piece
invariant-loop-piece g l = record {
  whole : pieces_room l.system.on.net.now l.pieces ≡ l.room + pieces_room l.system.on.net.now (drop l.piece-index l.pieces);
  few : l.room ≤ l.piece-index * 1048581;
}
