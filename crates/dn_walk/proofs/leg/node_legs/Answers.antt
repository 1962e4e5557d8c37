-- The legs of the node's entries and of its gaps, in order.
use Rattle.std.proofs.Common.{◌∙◌, sym, ap, subst, map, option_map, Some, IsTrue}
use Rattle.std.specs.List.{list_all}
use Rattle.std.specs.List.Sorted.{IsNonDecreasingBy, IsPermutation, IsStableByKey}
use Rattle.std.specs.Ordering.{nat_cmp}
use Rattle.dn_base.proofs.Lists.{item_there}
use Rattle.dn_interval.specs.declared.row.Seg.{Seg}
use Rattle.dn_net.specs.declared.entries.Place.{Place}
use Rattle.dn_net.specs.declared.node.NodeDecl.{NodeDecl}
use Rattle.dn_net.specs.Order.{places_from}
use Rattle.dn_net.specs.Rules.{entry_in_range}
use Rattle.dn_net.proofs.Faults.{part_is}
use Rattle.dn_walk.specs.Legs.{bare_gap_legs, bare_legs, gaps_by, leg_view}
use Rattle.dn_walk.proofs.Nodes.{legs_of_parts, node_in_range}
use Rattle.dn_walk.proofs.leg.node_legs.Goals as goal

pub merged_legs-requires-clause-entries : goal.merged_legs-requires-clause-entries
merged_legs-requires-clause-entries c =
    let d = item_there c.args.checked.net.now c.args.node c.requires.there in
    subst (λ l. IsTrue (list_all entry_in_range l)) (part_is (λ d. d.entries) _ d.0 _ d.1 c.entries.ensures) (node_in_range c.args.checked.net.now c.args.checked.rules.each c.args.node d.0 d.1).1

pub merged_legs-requires-clause-every : goal.merged_legs-requires-clause-every
merged_legs-requires-clause-every c =
    let d = item_there c.args.checked.net.now c.args.node c.requires.there in
    subst (λ l. IsPermutation (places_from 0 l) c.entry_order.result.now) (part_is (λ d. d.entries) _ d.0 _ d.1 c.entries.ensures) (c.entry_order.ensures.every d.0 d.1)

pub merged_legs-requires-clause-stable : goal.merged_legs-requires-clause-stable
merged_legs-requires-clause-stable c =
    let d = item_there c.args.checked.net.now c.args.node c.requires.there in
    subst (λ l. IsStableByKey (λ (p : Place). p.block.lo) nat_cmp (places_from 0 l) c.entry_order.result.now) (part_is (λ d. d.entries) _ d.0 _ d.1 c.entries.ensures) (c.entry_order.ensures.stable d.0 d.1)

pub merged_legs-requires-clause-gaps : goal.merged_legs-requires-clause-gaps
merged_legs-requires-clause-gaps c = subst (λ l. IsNonDecreasingBy (λ (s : Seg). s.span.lo) l) (sym c.as_slice.ensures.value) c.in_ok-gaps.ensures.sorted

pub returns : goal.returns
returns c =
    let d = item_there c.args.checked.net.now c.args.node c.requires.there in
    let gaps = part_is (λ (n : NodeDecl). bare_gap_legs n.over (gaps_by n.accepts n.entries)) _ d.0 _ d.1 c.in_ok-gaps.ensures.legs ∙ ap (map leg_view) (sym c.as_slice.ensures.value) in
    ap (λ o. option_map bare_legs o) d.1
    ∙ ap Some (legs_of_parts d.0 c.entries.result.now _ _ (part_is (λ n. n.entries) _ d.0 _ d.1 c.entries.ensures) gaps c.in_ok-legs.ensures)
    ∙ ap (λ l. Some (map leg_view l)) (sym c.from_vec.ensures)
