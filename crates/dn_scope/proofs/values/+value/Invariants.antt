use Rattle.std.proofs.Common.{◌≡◌, ◌^◌, ◌≤◌, map, drop}
use Rattle.dn_parse.specs.Tree.{sum, product, expressions}
use Rattle.dn_parse.specs.Views.{expr_view}
use Rattle.dn_scope.specs.Values.{value}
use Rattle.dn_scope.specs.Replace.{in_expression}
use Rattle.dn_scope.proofs.Totals.{members_of, summed, multiplied}
use Rattle.dn_scope.proofs.values.+value.Given as goal

abbrev pub invariant-product-loop-member : goal.invariant-product-loop-member
invariant-product-loop-member l = record {
  small : l.total ≤ 2 ^ 64;
  so_far : value (in_expression l.scope.numbers (product (expressions (map expr_view l.members)))) ≡ multiplied l.total (members_of expr_view l.scope.numbers (drop l.member-index l.members));
}

abbrev pub invariant-sum-loop-member : goal.invariant-sum-loop-member
invariant-sum-loop-member l = record {
  small : l.total ≤ 2 ^ 64;
  so_far : value (in_expression l.scope.numbers (sum (expressions (map expr_view l.members)))) ≡ summed l.total (members_of expr_view l.scope.numbers (drop l.member-index l.members));
}
