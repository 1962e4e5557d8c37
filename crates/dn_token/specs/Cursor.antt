-- What contracts see of a cursor: the tokens that are still to come.
use Rattle.std.specs.Prelude.{List}
use Rattle.dn_token.specs.declared.cursor.Cursor.{Cursor}
use Rattle.dn_token.specs.Token.{Token}
use Rattle.dn_token.specs.Going.{tokens_of}
use Rattle.dn_token.specs.Ahead.{ahead, good_tokens}

-- the tokens that are still to come
unfoldable pub cursor_view : Cursor → List Token
cursor_view c = ahead c.front c.line c.rest.now

-- the tokens behind the next one
unfoldable pub behind_view : Cursor → List Token
behind_view c = good_tokens (tokens_of c.line c.rest.now)
