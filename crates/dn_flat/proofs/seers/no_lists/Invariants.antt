-- As many lists as nodes so far.
use Rattle.std.proofs.Common.{◌≡◌, length}
use Rattle.dn_flat.proofs.seers.no_lists.Given as goal

abbrev pub invariant-loop : goal.invariant-loop
invariant-loop l = length l.lists.items ≡ l.counter
