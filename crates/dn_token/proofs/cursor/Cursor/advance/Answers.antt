use Rattle.dn_token.specs.Cursor.{cursor_view, behind_view}
use Rattle.dn_token.proofs.Counting.{ahead_less, ahead_some}
use Rattle.dn_token.proofs.cursor.Cursor.advance.Goals as goal

pub overflow_sub-self : goal.overflow_sub-self
unfolding cursor_view
overflow_sub-self c = ahead_some c.args.self.front c.args.self.line c.args.self.rest.now c.args.self.left c.args.self.counted c.requires

pub at-requires-clause-counted : goal.at-requires-clause-counted
unfolding cursor_view
at-requires-clause-counted c = ahead_less c.args.self.front c.args.self.line c.args.self.rest.now c.args.self.left c.args.self.counted c.requires

pub returns : goal.returns
unfolding behind_view
returns c = c.at.ensures
