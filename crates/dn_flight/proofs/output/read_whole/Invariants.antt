use Rattle.std.proofs.Common.{◌≡◌, drop, length, take}
use Rattle.dn_flight.proofs.output.read_whole.Given as goal

abbrev pub invariant-loop-at : goal.invariant-loop-at
invariant-loop-at l = record {
  many : length l.read ≡ 4;
  same : take l.at l.read ≡ take l.at (drop l.first l.words);
}
