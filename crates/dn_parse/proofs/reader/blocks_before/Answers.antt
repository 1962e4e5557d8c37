use Rattle.std.proofs.Common.{ap, sym, ◌∙◌}
use Rattle.dn_token.specs.Cursor.{cursor_view}
use Rattle.dn_parse.specs.Whole.{judge, Blocks}
use Rattle.dn_parse.proofs.reader.blocks_before.Goals as goal

pub statements-init : goal.statements-init
statements-init c = λ last all. ap (λ (b : Blocks). judge last all b (cursor_view c.args.tokens.now)) (sym c.none-blocks.ensures)

pub statements-preserved : goal.statements-preserved
statements-preserved c = λ last all. c.statements.invariant last all ∙ c.in_ok-put_next.ensures.placed last all
