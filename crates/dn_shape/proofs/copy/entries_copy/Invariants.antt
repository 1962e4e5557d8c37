-- The entries so far.
use Rattle.std.proofs.Common.{◌≡◌, take}
use Rattle.dn_shape.proofs.copy.entries_copy.Given as goal

abbrev pub invariant-loop-entry : goal.invariant-loop-entry
invariant-loop-entry l = l.copy.items ≡ take l.entry-index l.entries
