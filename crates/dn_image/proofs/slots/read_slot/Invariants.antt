use Rattle.std.proofs.Common.{◌≡◌, ◌++◌, ◌-◌, ◌*◌, take, drop, length}
use Rattle.dn_image.specs.Bytes.{words_spelled}
use Rattle.dn_image.proofs.slots.read_slot.Given as goal

abbrev pub invariant-loop-word : goal.invariant-loop-word
invariant-loop-word l = record {
  many : length l.words ≡ 4;
  so_far : take l.word l.words ++ words_spelled (l.width - l.word) (drop (8 * l.word) l.bytes) ≡ words_spelled l.width l.bytes;
}
