use Rattle.std.proofs.Common.{◌≡◌, ◌++◌, ◌≤◌, drop}
use Rattle.dn_image.specs.Bytes.{word_bytes}
use Rattle.dn_image.proofs.write.push_words.Given as goal

abbrev pub invariant-loop-at : goal.invariant-loop-at
invariant-loop-at l = record {
  few : l.at ≤ l.end;
  so_far : l.out.items ++ word_bytes (drop l.at l.words) ≡ l.fn.out.items ++ word_bytes l.words;
}
