use Rattle.std.proofs.Common.{arith}
use Rattle.dn_token.specs.Cursor.{cursor_view}
use Rattle.dn_parse.proofs.Judge.{text_too_long, text_reads, text_bad}
use Rattle.dn_parse.proofs.reader.read.Goals as goal

pub returns-then-text-gt-MAX_TEXT : goal.returns-then-text-gt-MAX_TEXT
returns-then-text-gt-MAX_TEXT c = text_too_long c.args.text.now (omega arith)

pub returns-in-Ok : goal.returns-in-Ok
returns-in-Ok c = text_reads c.args.text.now (cursor_view c.in-Ok.tokens) c.statements.result (omega arith) c.in-Ok.ensures c.statements.ensures

pub returns-in-Err : goal.returns-in-Err
returns-in-Err c = text_bad c.args.text.now c.in-Err.line (omega arith) c.in-Err.ensures
