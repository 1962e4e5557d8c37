use Rattle.std.proofs.Common.{◌≡◌, length, map, drop}
use Rattle.dn_parse.specs.Views.{param_view, arg_view}
use Rattle.dn_scope.specs.Uses.{arguments_fit}
use Rattle.dn_scope.proofs.uses.fit.Given as goal

abbrev pub invariant-loop-i : goal.invariant-loop-i
invariant-loop-i l = record {
  end : l.i-end ≡ length l.params;
  count : length l.params ≡ length l.args;
  same : arguments_fit (map param_view l.params) (map arg_view l.args) ≡ arguments_fit (map param_view (drop l.i l.params)) (map arg_view (drop l.i l.args));
}
