-- A destination for each name so far.
use Rattle.std.proofs.Common.{◌≡◌, map, take}
use Rattle.dn_shape.specs.Absorb.{dest_of_end}
use Rattle.dn_shape.proofs.past.dests_of.Given as goal

abbrev pub invariant-loop-end : goal.invariant-loop-end
invariant-loop-end l = l.dests.items ≡ map dest_of_end (take l.end-index l.ends)
