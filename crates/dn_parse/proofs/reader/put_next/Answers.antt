use Rattle.std.proofs.Common.{rules}
use Rattle.dn_parse.specs.Views.{blocks_view}
use Rattle.dn_token.specs.Cursor.{cursor_view}
use Rattle.dn_parse.proofs.Judge.{fault_halted, put_before}
use Rattle.dn_parse.proofs.reader.put_next.Goals as goal

pub returns-in-Err-clause-placed : goal.returns-in-Err-clause-placed
returns-in-Err-clause-placed c = λ last all. fault_halted last all (blocks_view c.args.blocks.now) (cursor_view c.args.tokens.now) c.args.line c.in-Err.halt c.requires.begins c.in-Err.ensures.gives

pub returns-in-Ok-clause-placed : goal.returns-in-Ok-clause-placed
returns-in-Ok-clause-placed c = put_before (λ _. blocks_view c.put_node.new.self) (blocks_view c.args.blocks.now) (cursor_view c.args.tokens.now) c.args.line _ _ c.put_node.result _ c.requires.begins c.in-Ok.ensures.gives c.requires.before c.put_node.ensures (search rules)

pub returns-in-Err-whole_statement-clause-placed : goal.returns-in-Err-whole_statement-clause-placed
returns-in-Err-whole_statement-clause-placed c = λ last all. fault_halted last all (blocks_view c.args.blocks.now) (cursor_view c.args.tokens.now) c.args.line c.in-Err-whole_statement.halt c.requires.begins c.in-Err-whole_statement.ensures.gives

pub returns-in-Ok-whole_statement-clause-placed : goal.returns-in-Ok-whole_statement-clause-placed
returns-in-Ok-whole_statement-clause-placed c = put_before (λ _. blocks_view c.put.new.self) (blocks_view c.args.blocks.now) (cursor_view c.args.tokens.now) c.args.line _ _ c.put.result _ c.requires.begins c.in-Ok-whole_statement.ensures.gives c.requires.before c.put.ensures (search rules)
