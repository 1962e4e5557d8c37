use Rattle.std.proofs.Common.{ℕ, ◌<◌, get_or}
use Rattle.dn_place.specs.Marks.{Keeps, Marks}
use Rattle.dn_place.proofs.marks.mark_unit.Given as goal

abbrev pub invariant-loop-port : goal.invariant-loop-port
invariant-loop-port g l = record { keeps : Keeps l.initial.marks l.marks; done : (k : ℕ) → k < l.port-index → Marks l.system.on.net.now (get_or l.port-items k 0) l.marks }
