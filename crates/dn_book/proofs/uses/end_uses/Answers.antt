use Rattle.std.proofs.Common.{◌≡◌, ◌<◌, sym, subst, get_or, slice_get, Some}
use Rattle.dn_kind.specs.Rights.{both_rights}
use Rattle.dn_tables.specs.declared.placement.Hop.{Hop}
use Rattle.dn_tables.specs.declared.table.SlotUse.{SlotUse}
use Rattle.dn_tables.specs.Set.{use_in}
use Rattle.dn_book.specs.Sets.{one_use_less}
use Rattle.dn_book.proofs.Changes.{hop_ordered, hop_slot_there, hops_later, hops_next}
use Rattle.dn_book.proofs.InOrder.{front_hop, hop_member}
use Rattle.dn_book.proofs.uses.end_uses.Goals as goal

pub end_hop_uses-requires-clause-there : goal.end_hop_uses-requires-clause-there
end_hop_uses-requires-clause-there c =
    let d : Hop = record { unit = 0; port = 0; x = 0; y = 0 } in
    let hop : Hop = get_or c.hops-hop-items.result.now c.loop-hop.hop-index d in
    let at : slice_get c.args.grant.now.placement.hops c.loop-hop.hop-index ≡ Some hop = front_hop c.args.grant.now.placement.hops c.hops-hop-items.result.now c.loop-hop.hop-index d c.hops-hop-items.ensures.value c.loop-hop-test.true in
    let fit = c.requires.hops.units hop (hop_member c.args.grant.now.placement.hops c.loop-hop.hop-index hop at) in
    fit

pub end_hop_uses-requires-clause-used : goal.end_hop_uses-requires-clause-used
end_hop_uses-requires-clause-used c s m =
    let d : Hop = record { unit = 0; port = 0; x = 0; y = 0 } in
    let hop : Hop = get_or c.hops-hop-items.result.now c.loop-hop.hop-index d in
    let at : slice_get c.args.grant.now.placement.hops c.loop-hop.hop-index ≡ Some hop = front_hop c.args.grant.now.placement.hops c.hops-hop-items.result.now c.loop-hop.hop-index d c.hops-hop-items.ensures.value c.loop-hop-test.true in
    let fit = c.requires.hops.units hop (hop_member c.args.grant.now.placement.hops c.loop-hop.hop-index hop at) in
    let there = hop_slot_there c.args.net.now c.args.tables.now c.args.grant.now.request.size both_rights hop c.requires.units fit s m in
    let same : use_in c.loop-hop.tables s.unit s.slot ≡ use_in c.args.tables.now s.unit s.slot = hops_later c.args.net.now c.args.grant.now.request.size (λ place. one_use_less) c.args.grant.now.placement.hops c.loop-hop.hop-index hop c.args.tables.now c.loop-hop.tables c.requires.hops.apart at c.loop-hop.invariant s.unit s.slot there.0 there.1 in
    subst (λ (u : SlotUse). 0 < u.uses) (sym same) (c.requires.used c.loop-hop.hop-index hop at s m)

pub loop-hop-preserved : goal.loop-hop-preserved
loop-hop-preserved c =
    let d : Hop = record { unit = 0; port = 0; x = 0; y = 0 } in
    let hop : Hop = get_or c.hops-hop-items.result.now c.loop-hop.hop-index d in
    let at : slice_get c.args.grant.now.placement.hops c.loop-hop.hop-index ≡ Some hop = front_hop c.args.grant.now.placement.hops c.hops-hop-items.result.now c.loop-hop.hop-index d c.hops-hop-items.ensures.value c.loop-hop-test.true in
    let fit = c.requires.hops.units hop (hop_member c.args.grant.now.placement.hops c.loop-hop.hop-index hop at) in
    hops_next c.args.net.now c.args.grant.now.request.size (λ place. one_use_less) c.args.grant.now.placement.hops c.loop-hop.hop-index hop c.args.tables.now c.loop-hop.tables c.end_hop_uses.new.tables c.requires.hops.apart at (hop_ordered c.args.net.now c.args.grant.now.request.size hop fit) c.loop-hop.invariant c.end_hop_uses.ensures
