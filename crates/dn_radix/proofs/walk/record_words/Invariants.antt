use Rattle.std.proofs.Common.{◌≡◌, ◌+◌, ◌-◌, take, length}
use Rattle.dn_radix.specs.Walked.{walked_words}
use Rattle.dn_radix.proofs.Walks.{with_words}
use Rattle.dn_radix.proofs.walk.record_words.Given as goal

abbrev pub invariant-loop-word : goal.invariant-loop-word
invariant-loop-word l = record {
  many : length l.words ≡ 4;
  so_far : walked_words l.image l.level l.first l.width ≡ with_words (take l.word l.words) (walked_words l.image l.level (l.first + l.word) (l.width - l.word));
}
