use Rattle.std.proofs.Common.{◌≡◌, length}
use Rattle.dn_net.specs.Rules.{dests_repeat}
use Rattle.dn_net.proofs.rules.do_dests_repeat.Given as goal

abbrev pub invariant-loop-rest : goal.invariant-loop-rest
invariant-loop-rest l = dests_repeat l.dests ≡ dests_repeat l.rest

abbrev pub decreases-loop-rest : goal.decreases-loop-rest
decreases-loop-rest l = length l.rest
