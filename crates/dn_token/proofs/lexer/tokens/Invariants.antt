use Rattle.std.proofs.Common.{◌≡◌, ◌++◌, length, map, Ok}
use Rattle.dn_token.specs.Token.{tokens}
use Rattle.dn_token.specs.Lexing.{token_view}
use Rattle.dn_token.specs.Cursor.{cursor_view}
use Rattle.dn_token.proofs.lexer.tokens.Given as goal

abbrev pub invariant-text : goal.invariant-text
invariant-text l = tokens l.fn.text ≡ Ok (map token_view l.found.items ++ cursor_view l.rest)

abbrev pub decreases-text : goal.decreases-text
decreases-text l = length (cursor_view l.rest)
