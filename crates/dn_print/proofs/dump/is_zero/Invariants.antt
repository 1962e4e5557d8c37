-- Where the sum so far is 0, so are the bytes so far.
use Rattle.std.proofs.Common.{◌≡◌, ◌*◌, ◌≤◌, take, replicate}
use Rattle.dn_print.proofs.dump.is_zero.Given as goal

abbrev pub invariant-loop-byte : goal.invariant-loop-byte
invariant-loop-byte l = record {
  few : l.sum ≤ 255 * l.byte-index;
  zero : l.sum ≡ 0 → take l.byte-index l.line ≡ replicate l.byte-index 0;
}
