use Rattle.std.proofs.Common.{◌≡◌, drop}
use Rattle.std.specs.List.{list_any}
use Rattle.dn_net.specs.Rules.{same_dest}
use Rattle.dn_net.proofs.rules.has_dest.Given as goal

abbrev pub invariant-loop-other : goal.invariant-loop-other
invariant-loop-other l = list_any (same_dest l.dest) l.dests ≡ list_any (same_dest l.dest) (drop l.other-index l.dests)
