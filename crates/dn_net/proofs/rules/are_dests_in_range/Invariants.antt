use Rattle.std.proofs.Common.{◌≡◌, drop}
use Rattle.std.specs.List.{list_all}
use Rattle.dn_net.specs.Rules.{dest_in_range}
use Rattle.dn_net.proofs.rules.are_dests_in_range.Given as goal

abbrev pub invariant-loop-dest : goal.invariant-loop-dest
invariant-loop-dest l = list_all (dest_in_range l.fn.block) l.dests ≡ list_all (dest_in_range l.fn.block) (drop l.dest-index l.dests)
