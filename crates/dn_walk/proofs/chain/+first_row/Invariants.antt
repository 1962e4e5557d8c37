-- No row begins with a unit so far.
use Rattle.std.proofs.Common.{◌≡◌, drop}
use Rattle.dn_walk.specs.Units.{first_over}
use Rattle.dn_walk.proofs.chain.+first_row.Given as goal

abbrev pub decreases-first_row : goal.decreases-first_row
decreases-first_row l = l.left

abbrev pub invariant-loop-unit : goal.invariant-loop-unit
invariant-loop-unit l = first_over l.checked.net.now l.next l.left l.most l.units ≡ first_over l.checked.net.now l.next l.left l.most (drop l.unit-index l.units)
