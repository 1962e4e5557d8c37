use Rattle.dn_token.specs.Cursor.{cursor_view}
use Rattle.dn_token.proofs.cursor.Cursor.left.Goals as goal

pub returns : goal.returns
unfolding cursor_view
returns c = c.args.self.counted
