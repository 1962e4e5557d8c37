use Rattle.std.proofs.Common.{length}
use Rattle.dn_token.proofs.Skipped.{Skipped}
use Rattle.dn_token.proofs.lexer.next_token.Given as goal

abbrev pub invariant-text : goal.invariant-text
invariant-text l = Skipped l.fn.line l.fn.text l.line l.rest

abbrev pub decreases-text : goal.decreases-text
decreases-text l = length l.rest
