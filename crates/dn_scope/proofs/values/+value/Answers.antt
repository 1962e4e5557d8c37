use Rattle.std.proofs.Common.{rules, ◌≡◌, sym, subst, ℕ, ◌+◌, ◌*◌, ◌^◌, ◌≤◌, drop, map, Ok}
use Rattle.dn_parse.specs.Tree.{product, expressions}
use Rattle.dn_parse.specs.Views.{expr_view}
use Rattle.dn_scope.specs.Values.{value}
use Rattle.dn_scope.specs.Replace.{in_expression}
use Rattle.dn_scope.proofs.Totals.{limit_of, limit_small, product_step, multiplied, members_of}
use Rattle.dn_scope.proofs.values.+value.Goals as goal

pub product-loop-member-preserved : goal.product-loop-member-preserved
product-loop-member-preserved t c =
    let ns = c.args.scope.now.numbers in
    let xs = c.args.members.now in
    let whole = value (in_expression ns (product (expressions (map expr_view xs)))) in
    let is : value (in_expression ns (expr_view c.member-item.result)) ≡ Ok c.in_ok-factor.factor = search rules in
    let limited : c.number_or_limit-total.result ≡ limit_of (c.loop-member.total * c.in_ok-factor.factor) = search rules in
    record {
      small = subst (λ (n : ℕ). n ≤ 2 ^ 64) (sym limited) (limit_small (c.loop-member.total * c.in_ok-factor.factor));
      so_far = subst (λ (n : ℕ). whole ≡ multiplied n (members_of expr_view ns (drop (c.loop-member.member-index + 1) xs))) (sym limited) (product_step expr_view ns xs c.loop-member.member-index c.member-item.result c.in_ok-factor.factor c.loop-member.total whole c.loop-member-test.true c.member-item.is is c.loop-member.invariant.so_far);
    }
