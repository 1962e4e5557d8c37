-- The nodes so far, and those that are still to come.
use Rattle.std.proofs.Common.{◌≡◌, ◌+◌, ◌*◌, ◌≤◌, ◌++◌, None, drop}
use Rattle.dn_kind.specs.Kinded.{kinds_of}
use Rattle.dn_audit.specs.Records.{held_of_nodes, shut_of_nodes}
use Rattle.dn_tables.specs.Sizes.{sizes_by}
use Rattle.dn_audit.specs.Taking.{IsFilledTo, records_in, image_says}
use Rattle.dn_audit.proofs.taking.take.Given as goal

abbrev pub invariant-loop-node : goal.invariant-loop-node
invariant-loop-node g l =
    let kinds = kinds_of (λ k. (goal.UnitKind-dyn g k).meaning k.1) l.image.on.kinds.now in
    let h = records_in (λ k. (goal.UnitKind-dyn g k).meaning k.1) l.image in
    let words = (image_says (λ k. (goal.UnitKind-dyn g k).meaning k.1) l.image).words in
    record {
      filled : IsFilledTo l.image.on.net.now kinds h l.node 0 l.tables (sizes_by l.device.sizes.items) None;
      records : l.found.records + held_of_nodes h l.node (drop l.node l.image.on.net.now) ≡ held_of_nodes h 0 l.image.on.net.now;
      few : l.found.records ≤ 262144 * l.node;
      shut : l.found.shut ++ shut_of_nodes kinds h l.node (drop l.node l.image.on.net.now) (drop l.node words) ≡ shut_of_nodes kinds h 0 l.image.on.net.now words;
    }
