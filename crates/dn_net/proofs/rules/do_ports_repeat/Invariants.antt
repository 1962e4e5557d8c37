use Rattle.std.proofs.Common.{◌≡◌, length}
use Rattle.dn_net.specs.Rules.{ports_repeat}
use Rattle.dn_net.proofs.rules.do_ports_repeat.Given as goal

abbrev pub invariant-loop-rest : goal.invariant-loop-rest
invariant-loop-rest l = ports_repeat l.ports ≡ ports_repeat l.rest

abbrev pub decreases-loop-rest : goal.decreases-loop-rest
decreases-loop-rest l = length l.rest
