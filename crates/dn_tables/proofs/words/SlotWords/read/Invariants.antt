use Rattle.std.proofs.Common.{◌≡◌, drop, length, take}
use Rattle.dn_tables.proofs.words.SlotWords.read.Given as goal

abbrev pub invariant-loop-at : goal.invariant-loop-at
invariant-loop-at l = record {
  last : l.at-end ≡ l.width;
  many : length l.slot ≡ 4;
  same : take l.at l.slot ≡ take l.at (drop l.first l.words);
}
