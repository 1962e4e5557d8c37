use Rattle.std.proofs.Common.{ap, Option}
use Rattle.dn_token.specs.declared.token.Lexeme.{Lexeme}
use Rattle.dn_token.specs.Ahead.{ahead}
use Rattle.dn_token.specs.Cursor.{cursor_view, behind_view}
use Rattle.dn_token.proofs.cursor.Cursor.peek.Goals as goal

pub returns-in-Some : goal.returns-in-Some
unfolding cursor_view behind_view
returns-in-Some c = ap (λ (o : Option Lexeme). ahead o c.args.self.line c.args.self.rest.now) c.in-Some.is

pub returns-in-None : goal.returns-in-None
unfolding cursor_view behind_view
returns-in-None c = ap (λ (o : Option Lexeme). ahead o c.args.self.line c.args.self.rest.now) c.in-None.is
