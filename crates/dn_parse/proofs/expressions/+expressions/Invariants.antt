use Rattle.std.proofs.Common.{ℕ, ◌<◌, ◌+◌, ◌*◌, length, map}
use Rattle.dn_token.specs.Cursor.{cursor_view}
use Rattle.dn_parse.specs.declared.expressions.Operation.{Operation}
use Rattle.dn_parse.specs.declared.expressions.Operation.TheVariants.{Product, Sum}
use Rattle.dn_parse.specs.Views.{expr_view}
use Rattle.dn_parse.specs.Rows.{next_member_at, members_at}
use Rattle.dn_parse.proofs.Series.{Found}
use Rattle.dn_parse.proofs.expressions.+expressions.Given as goal

-- a sum is made of products, and these of factors
abbrev pub height : Operation → ℕ
height Product = 1
height Sum = 4

abbrev pub decreases-factor : goal.decreases-factor
decreases-factor l = 10 * l.depth + 1

abbrev pub decreases-member : goal.decreases-member
decreases-member l = 10 * l.depth + 1 + height l.row

abbrev pub decreases-next_member : goal.decreases-next_member
decreases-next_member l = 10 * l.depth + 2 + height l.row

abbrev pub decreases-row_expr : goal.decreases-row_expr
decreases-row_expr l = 10 * l.depth + 3 + height l.row

abbrev pub decreases-expr : goal.decreases-expr
decreases-expr l = 10 * l.depth + 8

abbrev pub decreases-after_open : goal.decreases-after_open
decreases-after_open l = 10 * l.depth + 9

abbrev pub invariant-row_expr-more : goal.invariant-row_expr-more
invariant-row_expr-more l = record {
  several : 1 < length l.members.items;
  shorter : length (cursor_view l.tokens) < length (cursor_view l.fn.tokens);
  before : Found (next_member_at l.fn.row l.fn.depth) (members_at l.fn.row l.fn.depth (cursor_view l.fn.tokens)) (map expr_view l.members.items) (cursor_view l.tokens);
}

abbrev pub decreases-row_expr-more : goal.decreases-row_expr-more
decreases-row_expr-more l = length (cursor_view l.tokens)
