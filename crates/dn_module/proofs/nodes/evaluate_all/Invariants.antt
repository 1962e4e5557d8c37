use Rattle.std.proofs.Common.{◌≡◌, map, drop}
use Rattle.dn_scope.specs.Values.{each}
use Rattle.dn_scope.proofs.Each.{followed}
use Rattle.dn_module.proofs.nodes.evaluate_all.Given as goal

abbrev pub invariant-loop-part : goal.invariant-loop-part
invariant-loop-part g l =
    each g.P.Evaluated.value_of (map (g.P.Evaluated.replaced l.scope) (map g.P.Evaluated.view l.parts)) ≡ followed l.made (each g.P.Evaluated.value_of (map (g.P.Evaluated.replaced l.scope) (map g.P.Evaluated.view (drop l.part-index l.parts))))
