use Rattle.std.proofs.Common.{◌≡◌, IsTrue, length, map, drop}
use Rattle.dn_parse.specs.Views.{piece_view}
use Rattle.dn_module.specs.Commands.{piece_target, pieces_within}
use Rattle.dn_scope.specs.Values.{each}
use Rattle.dn_scope.proofs.Each.{followed}
use Rattle.dn_module.proofs.orders.pieces.Given as goal

abbrev pub invariant-loop-expr : goal.invariant-loop-expr
invariant-loop-expr l = record {
  made : each (piece_target l.names) (map piece_view l.asked) ≡ followed l.made (each (piece_target l.names) (map piece_view (drop l.expr-index l.asked)));
  known : IsTrue (pieces_within (length l.names) l.made);
}
