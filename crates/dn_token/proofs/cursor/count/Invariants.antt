use Rattle.std.proofs.Common.{◌≡◌, ◌+◌, ◌≤◌, length}
use Rattle.dn_token.specs.Token.{tokens}
use Rattle.dn_token.specs.Going.{tokens_of}
use Rattle.dn_token.specs.Ahead.{how_many}
use Rattle.dn_token.proofs.Counting.{and_more}
use Rattle.dn_token.proofs.cursor.count.Given as goal

abbrev pub invariant-text : goal.invariant-text
invariant-text l = record {
  counted : how_many (tokens l.fn.text) ≡ and_more l.count (tokens_of l.line l.rest);
  room : l.count + length l.rest ≤ length l.fn.text;
  lines : l.line + length l.rest ≤ length l.fn.text + 1;
}

abbrev pub decreases-text : goal.decreases-text
decreases-text l = length l.rest
