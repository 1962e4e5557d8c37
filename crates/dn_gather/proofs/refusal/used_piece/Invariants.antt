-- None of the pieces so far is refused.
use Rattle.dn_gather.specs.Refusal.{used_refusal}
use Rattle.dn_gather.proofs.Refused.{NoneSoFar}
use Rattle.dn_gather.proofs.refusal.used_piece.Given as goal

abbrev pub invariant-loop-i : goal.invariant-loop-i
invariant-loop-i l = NoneSoFar (used_refusal l.book.grants l.pieces) l.pieces l.i
