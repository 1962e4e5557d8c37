use Rattle.std.proofs.Common.{◌≡◌, map, drop}
use Rattle.dn_parse.specs.Views.{dest_view}
use Rattle.dn_module.specs.Drafts.{dest_of}
use Rattle.dn_scope.specs.Values.{each}
use Rattle.dn_scope.specs.Replace.{in_dest}
use Rattle.dn_scope.proofs.Each.{followed}
use Rattle.dn_module.proofs.nodes.dests.Given as goal

abbrev pub invariant-loop-expr : goal.invariant-loop-expr
invariant-loop-expr l = each (dest_of l.lo) (map (in_dest l.scope) (map dest_view l.dests)) ≡ followed l.made (each (dest_of l.lo) (map (in_dest l.scope) (map dest_view (drop l.expr-index l.dests))))
