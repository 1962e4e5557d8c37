use Rattle.std.proofs.Common.{◌≡◌, length}
use Rattle.dn_token.specs.Cursor.{cursor_view}
use Rattle.dn_parse.specs.Whole.{last_line, line_at}
use Rattle.dn_parse.proofs.reader.line_at.Given as goal

abbrev pub invariant-tokens : goal.invariant-tokens
invariant-tokens l = line_at (last_line l.text) (cursor_view l.fn.tokens) l.left ≡ line_at (last_line l.text) (cursor_view l.rest) l.left

abbrev pub decreases-tokens : goal.decreases-tokens
decreases-tokens l = length (cursor_view l.rest)
