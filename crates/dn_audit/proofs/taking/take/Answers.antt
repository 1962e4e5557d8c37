use Rattle.std.proofs.Common.{◌≡◌, ◌<◌, ◌≤◌, None, ℕ, List, length, arith, rules}
use Rattle.std.specs.List.{All}
use Rattle.dn_kind.specs.Kind.{Meaning, IsLawful}
use Rattle.dn_kind.specs.Kinded.{kinds_of}
use Rattle.dn_kind.specs.Tables.{Held}
use Rattle.dn_tables.proofs.Slots.{all_of_map}
use Rattle.dn_tables.specs.Set.{FitsNet, IsOnDevice, fresh_set}
use Rattle.dn_book.proofs.Packed.{AreKindsOf}
use Rattle.dn_tables.specs.Sizes.{sizes_by}
use Rattle.dn_audit.specs.Taking.{records_in, image_says}
use Rattle.dn_audit.proofs.Counting.{held_next, shut_next}
use Rattle.dn_audit.proofs.Filled.{filled_all, filled_first, image_held}
use Rattle.dn_audit.proofs.taking.take.Goals as goal

pub loop-node-init : goal.loop-node-init
loop-node-init g c =
    let net = c.args.image.on.net.now in
    let kinds : List Meaning = kinds_of (λ k. (goal.UnitKind-dyn g k).meaning k.1) c.args.image.on.kinds.now in
    let are : AreKindsOf net kinds = record { lawful = all_of_map _ c.args.image.on.kinds.now.list.items c.requires.image.on.lawful; shaped = c.requires.image.on.shaped } in
    let h : Held = records_in (λ k. (goal.UnitKind-dyn g k).meaning k.1) c.args.image in
    let fits : FitsNet net kinds c.in_ok-tables.tables = search rules in
    let fresh : c.in_ok-tables.tables ≡ fresh_set kinds net = search rules in
    let on_device : IsOnDevice c.in_ok-tables.tables (sizes_by c.make.new.device.sizes.items) None = search rules in
    record {
      filled = filled_first net kinds are c.requires.image.legal h _ _ _ fits fresh on_device;
      records = omega arith;
      few = omega arith;
      shut = search rules;
    }

pub loop-node-preserved : goal.loop-node-preserved
loop-node-preserved g c =
    let net = c.args.image.on.net.now in
    let kinds : List Meaning = kinds_of (λ k. (goal.UnitKind-dyn g k).meaning k.1) c.args.image.on.kinds.now in
    let h : Held = records_in (λ k. (goal.UnitKind-dyn g k).meaning k.1) c.args.image in
    let words : List (List ℕ) = (image_says (λ k. (goal.UnitKind-dyn g k).meaning k.1) c.args.image).words in
    let here : c.loop-node.node < length net = (let t = c.loop-node-test.true in let n = c.nodes-node-end.ensures in omega (arith, t, n)) in
    record {
      filled = c.in_ok-take_node.ensures.filled;
      records = held_next _ _ c.loop-node.node _ h net here c.loop-node.invariant.records c.in_ok-take_node.ensures.records;
      few = c.in_ok-take_node.ensures.few;
      shut = shut_next kinds h net words c.loop-node.node _ _ _ here c.loop-node.invariant.shut c.in_ok-take_node.ensures.shut;
    }

pub returns-clause-holds : goal.returns-clause-holds
returns-clause-holds g c =
    let net = c.args.image.on.net.now in
    let kinds : List Meaning = kinds_of (λ k. (goal.UnitKind-dyn g k).meaning k.1) c.args.image.on.kinds.now in
    let lawful : All IsLawful kinds = all_of_map _ c.args.image.on.kinds.now.list.items c.requires.image.on.lawful in
    let are : AreKindsOf net kinds = record { lawful = lawful; shaped = c.requires.image.on.shaped } in
    let all : length net ≤ c.loop-node.node = (let t = c.loop-node-test.false in let n = c.nodes-node-end.ensures in omega (arith, t, n)) in
    filled_all net kinds are (records_in (λ k. (goal.UnitKind-dyn g k).meaning k.1) c.args.image) c.loop-node.node _ _ _ (image_held net kinds (image_says (λ k. (goal.UnitKind-dyn g k).meaning k.1) c.args.image) lawful) all c.loop-node.invariant.filled
