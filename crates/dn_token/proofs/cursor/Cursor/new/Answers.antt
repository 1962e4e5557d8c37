use Rattle.std.proofs.Common.{◌∙◌, ap}
use Rattle.dn_token.specs.Ahead.{how_many}
use Rattle.dn_token.specs.Going.{tokens_of}
use Rattle.dn_token.proofs.Counting.{counted_good, counted_tokens, counted_made}
use Rattle.dn_token.proofs.Going.{tokens_go_on}
use Rattle.dn_token.proofs.cursor.Cursor.new.Goals as goal

pub at-requires-clause-good : goal.at-requires-clause-good
at-requires-clause-good c =
    counted_good (tokens_of 1 c.args.text.now) c.in_ok-left.left (c.in_ok-left.ensures ∙ ap how_many (tokens_go_on.whole c.args.text.now))

pub at-requires-clause-counted : goal.at-requires-clause-counted
at-requires-clause-counted c =
    counted_tokens (tokens_of 1 c.args.text.now) c.in_ok-left.left (c.in_ok-left.ensures ∙ ap how_many (tokens_go_on.whole c.args.text.now))

pub returns : goal.returns
returns c =
    tokens_go_on.whole c.args.text.now ∙ counted_made (tokens_of 1 c.args.text.now) c.in_ok-left.left _ (c.in_ok-left.ensures ∙ ap how_many (tokens_go_on.whole c.args.text.now)) c.at.ensures
