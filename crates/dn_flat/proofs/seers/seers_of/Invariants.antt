-- The agents so far are listed.
use Rattle.dn_flat.specs.Levels.{AreListed}
use Rattle.dn_flat.proofs.seers.seers_of.Given as goal

abbrev pub invariant-loop-node : goal.invariant-loop-node
invariant-loop-node l = AreListed l.net l.nodes l.node l.leads.items l.by_unit.items l.onward.items
