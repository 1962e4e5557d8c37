use Rattle.std.proofs.Common.{rules, ◌≡◌, ◌∙◌, ap, subst, Err}
use Rattle.dn_queue.specs.Queue.{QueueState}
use Rattle.dn_queue.proofs.Ready.{with_room}
use Rattle.dn_session.proofs.Gathered.{IsDone, book_gathered, never_stopped}
use Rattle.dn_session.proofs.gather.gather_kept.Goals as goal

pub unreachable-requires : goal.unreachable-requires
unreachable-requires g c =
    let reserved : c.reserve.new.self ≡ with_room c.args.queue.now c.pieces_room-room.result = search rules in
    never_stopped (λ k. (goal.UnitKind-dyn g k).meaning k.1) c.args.system.on c.args.agent c.args.rights c.args.pieces.now c.args.book.now c.gather.new.book c.args.queue.now c.reserve.new.self c.gather.new.device
    c.requires.ready.change c.requires.rights (reserved ∙ ap (with_room c.args.queue.now) c.pieces_room-room.ensures) c.facts.ensures
    (subst (IsDone (λ k. (goal.UnitKind-dyn g k).meaning k.1) c.args.system.on c.args.agent c.args.rights c.args.pieces.now c.args.book.now c.gather.new.book c.args.queue.now c.reserve.new.self c.gather.new.device) (c.in-Err-Device.is ∙ ap Err c.in-Err-Device.field-0-is) c.gather.ensures)

pub returns-in-Ok-clause-gathered : goal.returns-in-Ok-clause-gathered
returns-in-Ok-clause-gathered g c =
    let reserved : c.reserve.new.self ≡ with_room c.args.queue.now c.pieces_room-room.result = search rules in
    book_gathered (λ k. (goal.UnitKind-dyn g k).meaning k.1) c.args.system.on c.args.agent c.args.rights c.args.pieces.now c.args.book.now c.gather.new.book c.args.queue.now c.reserve.new.self c.gather.new.device
    c.in-Ok.v (ap (λ (q : QueueState). q.events) reserved)
    (subst (IsDone (λ k. (goal.UnitKind-dyn g k).meaning k.1) c.args.system.on c.args.agent c.args.rights c.args.pieces.now c.args.book.now c.gather.new.book c.args.queue.now c.reserve.new.self c.gather.new.device) c.in-Ok.is c.gather.ensures)
