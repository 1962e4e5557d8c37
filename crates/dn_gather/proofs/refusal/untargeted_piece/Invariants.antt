-- None of the pieces so far is refused.
use Rattle.dn_gather.specs.Refusal.{target_refusal}
use Rattle.dn_gather.proofs.Refused.{NoneSoFar}
use Rattle.dn_gather.proofs.refusal.untargeted_piece.Given as goal

abbrev pub invariant-loop-i : goal.invariant-loop-i
invariant-loop-i l = NoneSoFar (target_refusal l.net) l.pieces l.i
