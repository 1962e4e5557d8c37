use Rattle.std.proofs.Common.{◌≡◌, ◌∙◌, ◌≤◌, ap, sym, subst, rules, option_copied, List, Err, None, false, length}
use Rattle.dn_base.specs.declared.device.TableEvent.{TableEvent}
use Rattle.dn_base.specs.Outside.{IsCounted}
use Rattle.dn_kind.specs.Kind.{Meaning}
use Rattle.dn_kind.specs.Kinded.{kinds_of}
use Rattle.dn_tables.specs.declared.placement.Hop.{Hop}
use Rattle.dn_book.specs.declared.book.RevokeFault.{RevokeFault}
use Rattle.dn_book.specs.declared.grant.Grant.{Grant}
use Rattle.dn_book.specs.Book.{has_id}
use Rattle.dn_book.specs.Faults.{is_revoke_fault}
use Rattle.dn_book.specs.Sets.{AreFit}
use Rattle.dn_book.specs.Writes.{revoke_events}
use Rattle.dn_book.proofs.Ids.{IsLive, live_found, none_live}
use Rattle.dn_book.proofs.Revoke.{going_fit}
use Rattle.dn_queue.specs.Queue.{QueueState, faults_at}
use Rattle.dn_queue.specs.Room.{event_room}
use Rattle.dn_queue.proofs.Changed.{never_full}
use Rattle.dn_queue.proofs.Events.{revoke_few}
use Rattle.dn_queue.proofs.Ready.{going, has_room, with_room}
use Rattle.dn_queue.proofs.change.revoke.Given.{Over}
use Rattle.dn_queue.proofs.change.revoke.Goals.{In-Some}
use Rattle.dn_queue.proofs.change.revoke.Goals as goal

-- the grant that was found has the id
found : (g : Over) (c : In-Some g) → IsLive c.args.book.now.grants c.args.id c.in-Some.live.now
found g c = subst (λ (gs : List Grant). IsLive gs c.args.id c.in-Some.live.now) c.grants.ensures (live_found c.grants.result.now.live c.args.id c.in-Some.live.now (sym (ap option_copied c.in-Some.is) ∙ c.get.ensures))

pub returns-in_default-clause-none : goal.returns-in_default-clause-none
returns-in_default-clause-none g c why e =
    let none : c.get.result ≡ None = search rules in
    subst (λ (gs : List Grant). has_id c.args.id gs ≡ false) c.grants.ensures (none_live c.grants.result.now.live c.args.id (sym (ap option_copied none) ∙ c.get.ensures))

pub event_room-room-requires-clause-fit : goal.event_room-room-requires-clause-fit
event_room-room-requires-clause-fit g c =
    subst (λ (hops : List Hop). AreFit c.args.on.net.now c.in-Some.live.now.request.size hops) (sym c.hops.ensures.value)
    (going_fit _ _ _ _ _ (going (λ k. (goal.UnitKind-dyn g k).meaning k.1) c.args.on c.args.book.now _ _ c.requires.ready c.in-Some.live.now (found g (goal.at.event_room-room-requires-clause-fit g c).In-Some).live))

pub unreachable-requires : goal.unreachable-requires
unreachable-requires g c =
    let is = found g (goal.at.unreachable-requires g c).In-Some in
    let kinds : List Meaning = kinds_of (λ k. (goal.UnitKind-dyn g k).meaning k.1) c.args.on.kinds.now in
    let events : List TableEvent = revoke_events c.args.on.net.now kinds c.args.book.now.grants c.in-Some.live.now in
    let room : c.event_room-room.result ≡ event_room c.args.on.net.now c.in-Some.live.now.request.size c.in-Some.live.now.placement.hops = c.event_room-room.ensures ∙ ap (event_room c.args.on.net.now c.in-Some.live.now.request.size) c.hops.ensures.value in
    let few : length events ≤ c.event_room-room.result = subst (λ n. length events ≤ n) (sym room) (revoke_few c.args.on.net.now kinds c.args.book.now.grants c.in-Some.live.now c.args.book.now.set (going (λ k. (goal.UnitKind-dyn g k).meaning k.1) c.args.on c.args.book.now _ _ c.requires.ready c.in-Some.live.now is.live)) in
    let reserved : c.reserve.new.self ≡ with_room c.args.queue.now c.event_room-room.result = search rules in
    never_full c.reserve.new.self c.revoke.new.device events
    (has_room c.args.queue.now c.reserve.new.self events c.event_room-room.result reserved few)
    (ap (λ (q : QueueState). q.faults) reserved)
    c.facts.ensures
    (subst (λ (x : RevokeFault). IsCounted (faults_at c.reserve.new.self) (faults_at c.revoke.new.device) (is_revoke_fault {A = Unit {0}} (Err x))) c.in-Err-Device.field-0-is c.in-Err-Device.ensures.changed.counted)
    (c.in-Err-Device.ensures.added c.in-Some.live.now is.live is.same)
