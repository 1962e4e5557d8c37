-- What was read so far is the front of the row, and so many more may follow.
use Rattle.std.proofs.Common.{◌≡◌, ◌<◌, length, map}
use Rattle.dn_token.specs.Cursor.{cursor_view}
use Rattle.dn_parse.specs.Descent.{with_front, row, first_and_most}
use Rattle.dn_parse.specs.Rows.{one_behind}
use Rattle.dn_parse.proofs.listed.eight_members.Given as goal

abbrev pub invariant-list : goal.invariant-list
invariant-list g l = record {
  shorter : length (cursor_view l.tokens) < length (cursor_view l.fn.tokens);
  before : first_and_most 7 g.M.Member.read_at (one_behind l.fn.by g.M.Member.read_at) (cursor_view l.fn.tokens) ≡ with_front (map g.M.Member.view l.members) (row (one_behind l.fn.by g.M.Member.read_at) l.left (cursor_view l.tokens));
}

abbrev pub decreases-list : goal.decreases-list
decreases-list g l = l.left
