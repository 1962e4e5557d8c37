use Rattle.std.proofs.Common.{◌≡◌, ◌∙◌, ◌≤◌, ap, sym, subst, List, Err, length}
use Rattle.dn_base.specs.declared.device.DeviceOrMemory.{DeviceOrMemory}
use Rattle.dn_base.specs.declared.device.TableEvent.{TableEvent}
use Rattle.dn_base.specs.Device.{is_device_fault}
use Rattle.dn_base.specs.Outside.{IsCounted}
use Rattle.dn_kind.specs.Kind.{Meaning}
use Rattle.dn_kind.specs.Kinded.{kinds_of}
use Rattle.dn_tables.specs.declared.placement.Hop.{Hop}
use Rattle.dn_book.specs.Sets.{AreFit}
use Rattle.dn_book.specs.Writes.{grant_events}
use Rattle.dn_book.proofs.Commit.{coming_fit}
use Rattle.dn_queue.specs.Queue.{QueueState, faults_at}
use Rattle.dn_queue.specs.Room.{event_room}
use Rattle.dn_queue.proofs.Changed.{never_full}
use Rattle.dn_queue.proofs.Events.{grant_few}
use Rattle.dn_queue.proofs.Ready.{coming, has_room}
use Rattle.dn_queue.proofs.change.commit.Goals as goal

pub event_room-room-requires-clause-fit : goal.event_room-room-requires-clause-fit
event_room-room-requires-clause-fit g c =
    subst (λ (hops : List Hop). AreFit c.args.on.net.now c.args.grant.request.size hops) (sym c.hops.ensures.value)
    (coming_fit _ _ _ _ _ (coming (λ k. (goal.UnitKind-dyn g k).meaning k.1) c.args.on c.args.book.now _ _ c.requires.ready c.args.grant c.requires.placed))

pub unreachable-requires : goal.unreachable-requires
unreachable-requires g c =
    let kinds : List Meaning = kinds_of (λ k. (goal.UnitKind-dyn g k).meaning k.1) c.args.on.kinds.now in
    let events : List TableEvent = grant_events c.args.on.net.now kinds c.args.book.now.grants c.args.book.now.cleared c.args.grant in
    let room : c.event_room-room.result ≡ event_room c.args.on.net.now c.args.grant.request.size c.args.grant.placement.hops = c.event_room-room.ensures ∙ ap (event_room c.args.on.net.now c.args.grant.request.size) c.hops.ensures.value in
    let few : length events ≤ c.event_room-room.result = subst (λ n. length events ≤ n) (sym room) (grant_few c.args.on.net.now kinds c.args.book.now.grants c.args.grant c.args.book.now.set (coming (λ k. (goal.UnitKind-dyn g k).meaning k.1) c.args.on c.args.book.now _ _ c.requires.ready c.args.grant c.requires.placed) c.args.book.now.cleared) in
    never_full c.reserve.new.self c.commit.new.device events
    (has_room c.args.queue.now c.reserve.new.self events c.event_room-room.result c.in_ok-reserve.ensures.reserved few)
    (ap (λ (q : QueueState). q.faults) c.in_ok-reserve.ensures.reserved)
    c.facts.ensures
    (subst (λ (x : DeviceOrMemory). IsCounted (faults_at c.reserve.new.self) (faults_at c.commit.new.device) (is_device_fault {A = Unit {0}} (Err x))) c.in-Err-Device.field-0-is c.in-Err-Device.ensures.changed.counted)
    (c.in-Err-Device.ensures.added (λ m. let device = c.in-Err-Device.field-0-is in cc))
