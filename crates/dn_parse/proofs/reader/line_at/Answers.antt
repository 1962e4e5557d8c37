use Rattle.std.proofs.Common.{◌∙◌, ap, sym, ◌<◌, length, List, arith}
use Rattle.dn_token.specs.Token.{Token}
use Rattle.dn_token.specs.Cursor.{cursor_view, behind_view}
use Rattle.dn_token.specs.Lexing.{token_view}
use Rattle.dn_parse.specs.Whole.{last_line, line_at}
use Rattle.dn_parse.proofs.Judge.{line_on}
use Rattle.dn_parse.proofs.reader.line_at.Goals as goal

pub tokens-preserved : goal.tokens-preserved
tokens-preserved c =
    let within : c.args.left < length (cursor_view c.tokens.rest) = omega (arith, c.if-left.false, c.left.ensures) in
    c.tokens.invariant
    ∙ line_on (last_line c.args.text.now) (cursor_view c.tokens.rest) (token_view c.in-Some.token) (behind_view c.tokens.rest) c.args.left c.in-Some.ensures within
    ∙ ap (λ (l : List Token). line_at (last_line c.args.text.now) l c.args.left) (sym c.advance-rest.ensures)
