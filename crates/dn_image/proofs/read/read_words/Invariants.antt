use Rattle.std.proofs.Common.{◌≡◌, ◌+◌, ◌++◌, drop, length}
use Rattle.dn_kind.specs.Kinded.{kinds_of}
use Rattle.dn_image.specs.Reading.{nodes_size, words_from, image_words}
use Rattle.dn_image.proofs.read.read_words.Given as goal

abbrev pub invariant-loop-node : goal.invariant-loop-node
invariant-loop-node g l =
    let kinds = kinds_of (λ k. (goal.UnitKind-dyn g k).meaning k.1) l.on.kinds.now in
    record {
      last : l.node-end ≡ length l.on.net.now;
      size : l.at + nodes_size kinds (drop l.node l.on.net.now) ≡ length l.bytes;
      so_far : l.words.items ++ words_from kinds (drop l.node l.on.net.now) (drop l.at l.bytes) ≡ image_words l.on.net.now kinds l.bytes;
    }
