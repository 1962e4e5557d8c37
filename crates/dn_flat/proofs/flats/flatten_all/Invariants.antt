-- What the nodes so far reach.
use Rattle.dn_flat.specs.Levels.{AreLevelsBelow}
use Rattle.dn_flat.proofs.flats.flatten_all.Given as goal

abbrev pub invariant-loop-node : goal.invariant-loop-node
invariant-loop-node l = record { below : AreLevelsBelow l.net l.node l.nodes }
