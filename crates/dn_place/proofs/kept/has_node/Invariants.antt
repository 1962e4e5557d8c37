use Rattle.std.proofs.Common.{◌≡◌, nat_eq, drop}
use Rattle.std.specs.List.{list_any}
use Rattle.dn_interval.specs.declared.row.End.{End}
use Rattle.dn_place.proofs.kept.has_node.Given as goal

abbrev pub invariant-loop-end : goal.invariant-loop-end
invariant-loop-end l = list_any (λ (e : End). nat_eq e.node l.node) l.ends ≡ list_any (λ (e : End). nat_eq e.node l.node) (drop l.end-index l.ends)
