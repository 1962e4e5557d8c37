-- None of the pieces so far is refused.
use Rattle.dn_gather.specs.Refusal.{address_refusal}
use Rattle.dn_gather.proofs.Refused.{NoneSoFar}
use Rattle.dn_gather.proofs.refusal.unaccepted_piece.Given as goal

abbrev pub invariant-loop-i : goal.invariant-loop-i
invariant-loop-i l = NoneSoFar (address_refusal l.checked.net.now) l.pieces l.i
