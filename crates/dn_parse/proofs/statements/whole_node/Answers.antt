use Rattle.std.proofs.Common.{◌∙◌, ap, rules, arith}
use Rattle.dn_token.specs.Cursor.{cursor_view}
use Rattle.dn_parse.specs.Descent.{as_declared}
use Rattle.dn_parse.proofs.Judge.{statement_no_longer}
use Rattle.dn_parse.proofs.Opening.{node_begins}
use Rattle.dn_parse.proofs.statements.whole_node.Goals as goal

pub returns-clause-shorter : goal.returns-clause-shorter
returns-clause-shorter c =
    let no_longer = statement_no_longer (cursor_view c.args.tokens.now) _ _ (node_begins (cursor_view c.args.tokens.now) c.requires ∙ ap as_declared c.in_ok-decl.ensures.gives) in
    let shorter = c.after_sign.ensures.shorter (search rules) in
    omega (arith, no_longer, shorter)
