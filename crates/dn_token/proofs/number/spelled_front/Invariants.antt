use Rattle.std.proofs.Common.{◌≡◌, ◌+◌, ◌-◌, ◌<◌, ◌≤◌, ◌^◌, length, drop, Some}
use Rattle.std.specs.List.{prefix_len}
use Rattle.dn_token.specs.Token.{is_word_byte, spelled_from, number_within, word_run}
use Rattle.dn_token.specs.Lexing.{base_of, value_of}
use Rattle.dn_token.proofs.number.spelled_front.Given as goal

abbrev pub invariant-loop-length : goal.invariant-loop-length
invariant-loop-length l = record {
  within : l.length ≤ length l.text;
  passed : prefix_len is_word_byte l.text ≡ l.length + prefix_len is_word_byte (drop l.length l.text);
  spelled : number_within (spelled_from (base_of l.radix) (value_of l.radix) (Some 0) (word_run l.text)) ≡ number_within (spelled_from (base_of l.radix) (value_of l.radix) (Some l.number) (drop l.length (word_run l.text)));
  fits : l.number < 2 ^ 64;
}

abbrev pub decreases-loop-length : goal.decreases-loop-length
decreases-loop-length l = length l.text - l.length
