use Rattle.std.proofs.Common.{◌≡◌, ◌+◌, ◌≤◌, length}
use Rattle.dn_parse.specs.Whole.{line_feeds}
use Rattle.dn_parse.proofs.reader.last_line.Given as goal

abbrev pub invariant-text : goal.invariant-text
invariant-text l = record {
  counted : l.line + line_feeds l.rest ≡ 1 + line_feeds l.fn.text;
  room : l.line + length l.rest ≤ length l.fn.text + 1;
}

abbrev pub decreases-text : goal.decreases-text
decreases-text l = length l.rest
