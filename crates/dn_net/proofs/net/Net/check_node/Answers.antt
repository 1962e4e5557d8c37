use Rattle.std.proofs.Common.{sym, true, false}
use Rattle.dn_base.proofs.Lists.{item_there}
use Rattle.dn_net.proofs.Blocks.{blocks_of}
use Rattle.dn_net.proofs.Latest.{order_in_range}
use Rattle.dn_net.proofs.Faults.{range_is, range_parts, repeats_is, overlap_is, no_overlap_is, space_is, fault_overlap, fault_repeat, fault_space, no_fault}
use Rattle.dn_net.proofs.net.Net.check_node.Goals as goal

pub merged_spans-requires-clause-maps_in_range : goal.merged_spans-requires-clause-maps_in_range
merged_spans-requires-clause-maps_in_range c =
    let d = item_there c.args.self.now c.args.node c.requires in
    order_in_range d.0.entries c.entry_order.result.now (c.entry_order.ensures.every d.0 d.1) (range_parts _ d.0 d.1 _ _ c.accepts-accepts.ensures c.entries-entries.ensures (sym c.if-not-are_in_range.ensures)).1

pub merged_spans-requires-clause-accepts_in_range : goal.merged_spans-requires-clause-accepts_in_range
merged_spans-requires-clause-accepts_in_range c =
    let d = item_there c.args.self.now c.args.node c.requires in
    c.accept_rows.ensures.in_range d.0 d.1 (range_parts _ d.0 d.1 _ _ c.accepts-accepts.ensures c.entries-entries.ensures (sym c.if-not-are_in_range.ensures)).0

pub returns-in-Some : goal.returns-in-Some
returns-in-Some c d at =
    let acc = c.accepts-accepts.ensures in
    let ent = c.entries-entries.ensures in
    let spans = c.deref.ensures.value in
    fault_overlap _ d _ (range_is _ d at _ _ acc ent true (sym c.if-not-are_in_range.ensures)) (overlap_is _ d at _ _ acc ent _ (blocks_of d _ _ _ (c.entry_order.ensures.every d at) (c.accept_rows.ensures.same d at) c.in-Ok.ensures.same) _ (rw spans at c.in-Some.ensures.found) (rw spans at c.in-Some.ensures.least))

pub returns-then-has_repeat : goal.returns-then-has_repeat
returns-then-has_repeat c d at =
    let acc = c.accepts-accepts.ensures in
    let ent = c.entries-entries.ensures in
    let range = range_is _ d at _ _ acc ent true (sym c.if-not-are_in_range.ensures) in
    let overlap = no_overlap_is _ d at _ _ acc ent _ (blocks_of d _ _ _ (c.entry_order.ensures.every d at) (c.accept_rows.ensures.same d at) c.in-Ok.ensures.same) (rw c.deref.ensures.value at c.in_default-first_overlap.ensures.none) in
    fault_repeat _ d range overlap (repeats_is _ d at _ _ acc ent true _ c.unit.ensures (sym c.if-has_repeat.ensures))

pub returns-then-not-has_vector_space : goal.returns-then-not-has_vector_space
returns-then-not-has_vector_space c d at =
    let acc = c.accepts-accepts.ensures in
    let ent = c.entries-entries.ensures in
    fault_space _ d (range_is _ d at _ _ acc ent true (sym c.if-not-are_in_range.ensures)) (no_overlap_is _ d at _ _ acc ent _ (blocks_of d _ _ _ (c.entry_order.ensures.every d at) (c.accept_rows.ensures.same d at) c.in-Ok.ensures.same) (rw c.deref.ensures.value at c.in_default-first_overlap.ensures.none)) (repeats_is _ d at _ _ acc ent false _ c.unit.ensures (sym c.if-has_repeat.ensures)) (space_is _ d at _ _ acc ent _ (blocks_of d _ _ _ (c.entry_order.ensures.every d at) (c.accept_rows.ensures.same d at) c.in-Ok.ensures.same) false _ _ c.role.ensures c.over.ensures (rw c.deref-2.ensures.value at (sym c.if-not-has_vector_space.ensures)))

pub returns : goal.returns
returns c d at =
    let acc = c.accepts-accepts.ensures in
    let ent = c.entries-entries.ensures in
    no_fault _ d (range_is _ d at _ _ acc ent true (sym c.if-not-are_in_range.ensures)) (no_overlap_is _ d at _ _ acc ent _ (blocks_of d _ _ _ (c.entry_order.ensures.every d at) (c.accept_rows.ensures.same d at) c.in-Ok.ensures.same) (rw c.deref.ensures.value at c.in_default-first_overlap.ensures.none)) (repeats_is _ d at _ _ acc ent false _ c.unit.ensures (sym c.if-has_repeat.ensures)) (space_is _ d at _ _ acc ent _ (blocks_of d _ _ _ (c.entry_order.ensures.every d at) (c.accept_rows.ensures.same d at) c.in-Ok.ensures.same) true _ _ c.role.ensures c.over.ensures (rw c.deref-2.ensures.value at (sym c.if-not-has_vector_space.ensures)))
