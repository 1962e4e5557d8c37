use Rattle.std.proofs.Common.{◌≤◌}
use Rattle.dn_place.proofs.blocks.is_of_pages.Given as goal

abbrev pub invariant-loop-unit : goal.invariant-loop-unit
invariant-loop-unit g l = l.least ≤ 40
