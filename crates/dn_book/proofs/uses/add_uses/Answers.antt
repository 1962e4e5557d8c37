use Rattle.std.proofs.Common.{◌≡◌, ◌∙◌, ◌<◌, sym, ap, subst, get_or, slice_get, Option, Some}
use Rattle.dn_kind.specs.Rights.{both_rights}
use Rattle.dn_tables.specs.declared.placement.Hop.{Hop}
use Rattle.dn_tables.specs.declared.table.SlotUse.{SlotUse}
use Rattle.dn_tables.specs.Set.{use_in}
use Rattle.dn_book.specs.Sets.{AreChanged, MayUse, hop_owner, one_use_more}
use Rattle.dn_book.specs.Writes.{hop_slots}
use Rattle.dn_book.proofs.Changes.{hop_ordered, hop_slot_there, hops_later, hops_next}
use Rattle.dn_book.proofs.InOrder.{front_hop, hop_member}
use Rattle.dn_book.proofs.uses.add_uses.Goals as goal

pub add_hop_uses-requires-clause-there : goal.add_hop_uses-requires-clause-there
add_hop_uses-requires-clause-there c =
    let d : Hop = record { unit = 0; port = 0; x = 0; y = 0 } in
    let hop : Hop = get_or c.hops-hop-items.result.now c.loop-place.place d in
    let at : slice_get c.args.grant.now.placement.hops c.loop-place.place ≡ Some hop = front_hop c.args.grant.now.placement.hops c.hops-hop-items.result.now c.loop-place.place d c.hops-hop-items.ensures.value c.loop-place-test.true in
    let fit = c.requires.hops.units hop (hop_member c.args.grant.now.placement.hops c.loop-place.place hop at) in
    fit

pub add_hop_uses-requires-clause-may : goal.add_hop_uses-requires-clause-may
add_hop_uses-requires-clause-may c s m =
    let d : Hop = record { unit = 0; port = 0; x = 0; y = 0 } in
    let hop : Hop = get_or c.hops-hop-items.result.now c.loop-place.place d in
    let at : slice_get c.args.grant.now.placement.hops c.loop-place.place ≡ Some hop = front_hop c.args.grant.now.placement.hops c.hops-hop-items.result.now c.loop-place.place d c.hops-hop-items.ensures.value c.loop-place-test.true in
    let fit = c.requires.hops.units hop (hop_member c.args.grant.now.placement.hops c.loop-place.place hop at) in
    let owner : c.hop_owner-owner.result ≡ hop_owner c.args.grant.now.id c.args.grant.now.placement.own c.loop-place.place = c.hop_owner-owner.ensures ∙ ap (λ o. hop_owner c.args.grant.now.id o c.loop-place.place) (c.from-own.ensures ∙ c.own.ensures.value) in
    let there = hop_slot_there c.args.net.now c.args.tables.now c.args.grant.now.request.size both_rights hop c.requires.units fit s m in
    let same : use_in c.loop-place.tables s.unit s.slot ≡ use_in c.args.tables.now s.unit s.slot = hops_later c.args.net.now c.args.grant.now.request.size (λ place. one_use_more (hop_owner c.args.grant.now.id c.args.grant.now.placement.own place)) c.args.grant.now.placement.hops c.loop-place.place hop c.args.tables.now c.loop-place.tables c.requires.hops.apart at c.loop-place.invariant s.unit s.slot there.0 there.1 in
    let may : MayUse (hop_owner c.args.grant.now.id c.args.grant.now.placement.own c.loop-place.place) c.args.tables.now s = c.requires.may c.loop-place.place hop at s m in
    subst (λ (o : Option _). MayUse o c.loop-place.tables s) (sym owner) (record {
      few = subst (λ (u : SlotUse). u.uses < 4096) (sym same) may.few;
      unowned = ap (λ (u : SlotUse). u.owner) same ∙ may.unowned;
      alone = λ o. ap (λ (u : SlotUse). u.uses) same ∙ may.alone o;
    })

pub loop-place-preserved : goal.loop-place-preserved
loop-place-preserved c =
    let d : Hop = record { unit = 0; port = 0; x = 0; y = 0 } in
    let hop : Hop = get_or c.hops-hop-items.result.now c.loop-place.place d in
    let at : slice_get c.args.grant.now.placement.hops c.loop-place.place ≡ Some hop = front_hop c.args.grant.now.placement.hops c.hops-hop-items.result.now c.loop-place.place d c.hops-hop-items.ensures.value c.loop-place-test.true in
    let fit = c.requires.hops.units hop (hop_member c.args.grant.now.placement.hops c.loop-place.place hop at) in
    let owner : c.hop_owner-owner.result ≡ hop_owner c.args.grant.now.id c.args.grant.now.placement.own c.loop-place.place = c.hop_owner-owner.ensures ∙ ap (λ o. hop_owner c.args.grant.now.id o c.loop-place.place) (c.from-own.ensures ∙ c.own.ensures.value) in
    hops_next c.args.net.now c.args.grant.now.request.size (λ place. one_use_more (hop_owner c.args.grant.now.id c.args.grant.now.placement.own place)) c.args.grant.now.placement.hops c.loop-place.place hop c.args.tables.now c.loop-place.tables c.add_hop_uses.new.tables c.requires.hops.apart at (hop_ordered c.args.net.now c.args.grant.now.request.size hop fit) c.loop-place.invariant (subst (λ (o : Option _). AreChanged (one_use_more o) (hop_slots c.args.net.now c.args.grant.now.request.size both_rights hop) c.loop-place.tables c.add_hop_uses.new.tables) owner c.add_hop_uses.ensures)
