use Rattle.std.proofs.Common.{◌≡◌, ◌++◌, ◌-◌, ◌*◌, drop}
use Rattle.dn_image.specs.Bytes.{words_spelled}
use Rattle.dn_image.proofs.read.read_unit.Given as goal

abbrev pub invariant-loop-word : goal.invariant-loop-word
invariant-loop-word l = l.words.items ++ words_spelled (l.count - l.word) (drop (8 * l.word) l.bytes) ≡ words_spelled l.count l.bytes
