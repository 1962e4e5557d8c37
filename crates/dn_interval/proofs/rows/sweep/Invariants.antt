-- The rows made, and what runs and is still to come, are what all strands give.
use Rattle.std.proofs.Common.{◌+◌, ◌-◌}
use Rattle.dn_interval.specs.declared.span.TheConstants.{TOP}
use Rattle.dn_interval.specs.Strands.{strands_give}
use Rattle.dn_interval.proofs.Sweep.{Sweeping}
use Rattle.dn_interval.proofs.rows.sweep.Given as goal

abbrev pub invariant-rows : goal.invariant-rows
invariant-rows l = Sweeping (strands_give l.strands) l.rows.items l.from l.running.items l.rest

abbrev pub decreases-rows : goal.decreases-rows
decreases-rows l = TOP + 1 - l.from
