use Rattle.std.proofs.Common.{◌≡◌, map, take}
use Rattle.dn_interval.specs.declared.row.End.{End}
use Rattle.dn_audit.proofs.shared.agents_of.Given as goal

abbrev pub invariant-loop-end : goal.invariant-loop-end
invariant-loop-end l = l.agents ≡ map (λ (e : End). e.node) (take l.end-index l.ends)
