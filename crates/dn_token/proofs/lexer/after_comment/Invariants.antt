use Rattle.std.proofs.Common.{◌≡◌, ◌+◌, ◌-◌, ◌≤◌, length, drop, not}
use Rattle.std.specs.List.{prefix_len}
use Rattle.dn_token.specs.Token.{is_line_feed}
use Rattle.dn_token.proofs.lexer.after_comment.Given as goal

abbrev pub invariant-loop-length : goal.invariant-loop-length
invariant-loop-length l = record {
  within : l.length ≤ length l.text;
  passed : prefix_len (λ b. not (is_line_feed b)) l.text ≡ l.length + prefix_len (λ b. not (is_line_feed b)) (drop l.length l.text);
}

abbrev pub decreases-loop-length : goal.decreases-loop-length
decreases-loop-length l = length l.text - l.length
