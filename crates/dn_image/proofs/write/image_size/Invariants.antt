use Rattle.std.proofs.Common.{◌≡◌, ◌+◌, ◌-◌, ◌^◌, ◌≤◌, List, drop, length, min}
use Rattle.dn_kind.specs.Kind.{Meaning}
use Rattle.dn_tables.specs.Set.{words_of}
use Rattle.dn_image.specs.Image.{image, units_bytes}
use Rattle.dn_image.proofs.write.image_size.Given as goal

abbrev pub invariant-loop-node : goal.invariant-loop-node
invariant-loop-node l = record {
  last : l.node-end ≡ length l.net;
  few : l.size ≤ 2 ^ 64 - 1;
  whole : (kinds : List Meaning) → min (l.size + length (units_bytes kinds l.node (drop l.node l.net) (drop l.node (words_of l.tables)))) (2 ^ 64 - 1) ≡ min (length (image l.net kinds (words_of l.tables))) (2 ^ 64 - 1);
}
