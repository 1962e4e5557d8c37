use Rattle.std.proofs.Common.{◌≡◌, ◌*◌, min, List, ℕ, length, take}
use Rattle.dn_radix.specs.Built.{IsTreeOf}
use Rattle.dn_radix.proofs.linear.words_in.Given as goal

abbrev pub invariant-loop-number : goal.invariant-loop-number
invariant-loop-number l = record {
  found : (ws : List ℕ) → IsTreeOf l.image l.words ws → l.list.items ≡ take (512 * l.number) ws;
  count : length l.list.items ≡ min (512 * l.number) l.words;
}
