use Rattle.std.proofs.Common.{◌≡◌, map, drop}
use Rattle.dn_parse.specs.Views.{arg_view}
use Rattle.dn_scope.specs.Uses.{given_by}
use Rattle.dn_scope.specs.Values.{each}
use Rattle.dn_scope.specs.Replace.{in_arg}
use Rattle.dn_scope.specs.Words.{given_view}
use Rattle.dn_scope.proofs.Each.{followed}
use Rattle.dn_scope.proofs.uses.values_of.Given as goal

abbrev pub invariant-loop-arg : goal.invariant-loop-arg
invariant-loop-arg l = each given_by (map (in_arg l.scope) (map arg_view l.args)) ≡ followed (map given_view l.made) (each given_by (map (in_arg l.scope) (map arg_view (drop l.arg-index l.args))))
