use Rattle.std.proofs.Common.{◌≡◌, ℕ, List, length}
use Rattle.dn_token.specs.Cursor.{cursor_view}
use Rattle.dn_token.specs.Token.{Token}
use Rattle.dn_parse.specs.Whole.{judge, no_blocks_yet}
use Rattle.dn_parse.specs.Views.{blocks_view}
use Rattle.dn_parse.proofs.reader.blocks_before.Given as goal

abbrev pub invariant-statements : goal.invariant-statements
invariant-statements l = (last : ℕ) (all : List Token) → judge last all no_blocks_yet (cursor_view l.fn.tokens) ≡ judge last all (blocks_view l.blocks) (cursor_view l.tokens)

abbrev pub decreases-statements : goal.decreases-statements
decreases-statements l = length (cursor_view l.tokens)
