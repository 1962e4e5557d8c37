use Rattle.dn_gather.specs.Stands.{AreUsed}
use Rattle.dn_gather.proofs.used.used_slots.Given as goal

abbrev pub invariant-loop-slot : goal.invariant-loop-slot
invariant-loop-slot l = AreUsed l.tables l.unit l.slot l.used.items
