use Rattle.std.proofs.Common.{◌≡◌, ◌++◌, drop, length}
use Rattle.dn_kind.specs.Kinded.{kinds_of}
use Rattle.dn_tables.specs.Set.{words_of}
use Rattle.dn_image.specs.Image.{image, units_bytes}
use Rattle.dn_image.proofs.write.write.Given as goal

abbrev pub invariant-loop-node : goal.invariant-loop-node
invariant-loop-node g l =
    let kinds = kinds_of (λ k. (goal.UnitKind-dyn g k).meaning k.1) l.on.kinds.now in
    record {
      last : l.node-end ≡ length l.on.net.now;
      whole : l.out.items ++ units_bytes kinds l.node (drop l.node l.on.net.now) (drop l.node (words_of l.tables)) ≡ image l.on.net.now kinds (words_of l.tables);
    }
