-- What was read so far is the front of the row.
use Rattle.std.proofs.Common.{◌<◌, length, map}
use Rattle.dn_token.specs.Cursor.{cursor_view}
use Rattle.dn_parse.specs.Descent.{after_comma}
use Rattle.dn_parse.specs.Rows.{by_commas}
use Rattle.dn_parse.proofs.Series.{Found}
use Rattle.dn_parse.proofs.listed.members.Given as goal

abbrev pub invariant-list : goal.invariant-list
invariant-list g l = record {
  shorter : length (cursor_view l.tokens) < length (cursor_view l.fn.tokens);
  before : Found (after_comma g.M.Member.read_at) (by_commas g.M.Member.read_at (cursor_view l.fn.tokens)) (map g.M.Member.view l.members) (cursor_view l.tokens);
}

abbrev pub decreases-list : goal.decreases-list
decreases-list g l = length (cursor_view l.tokens)
