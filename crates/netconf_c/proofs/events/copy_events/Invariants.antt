use Rattle.std.proofs.Common.{◌≡◌, ◌++◌, drop, map, take}
use Rattle.netconf_c.specs.Calls.{event_of}
use Rattle.netconf_c.proofs.events.copy_events.Given as goal

abbrev pub invariant-loop-at : goal.invariant-loop-at
invariant-loop-at l = l.out ≡ map event_of (take l.at (drop l.from l.pending)) ++ drop l.at l.fn.out
