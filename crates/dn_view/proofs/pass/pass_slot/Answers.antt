use Rattle.std.proofs.Common.{◌≡◌, ◌∙◌, ◌<◌, ◌&&◌, ◌||◌, ℕ, Bool, sym, subst, length, arith, nat_lt, ltb-true}
use Rattle.std.proofs.lemmas.Result.{IfOk-weaker}
use Rattle.dn_interval.specs.declared.row.End.{End}
use Rattle.dn_interval.specs.Strands.{segs_give}
use Rattle.dn_kind.specs.Tables.{Held}
use Rattle.dn_flat.specs.Onward.{seg_leads}
use Rattle.dn_view.specs.Passes.{in_slot, names_go, outputs, part_gives, run_leads, seg_name}
use Rattle.dn_view.proofs.Cuts.{slot_kept, slot_pushed}
use Rattle.dn_base.proofs.Lists.{list_all-at}
use Rattle.dn_net.proofs.Steps.{ports_at}
use Rattle.dn_kind.specs.Kinded.{kinds_of}
use Rattle.dn_view.specs.Courses.{course_records}
use Rattle.dn_view.proofs.Courses.{course_held}
use Rattle.dn_view.proofs.Fitted.{IsSmall, small_unit}
use Rattle.dn_view.proofs.Held.{slot_there, held_within, legal_plain}
use Rattle.dn_view.proofs.pass.pass_slot.Goals as goal

pub overflow_cast-slot : goal.overflow_cast-slot
overflow_cast-slot g c =
    let s : IsSmall c.args.unit.now = small_unit c.args.course.system.on.net.now c.args.seg.node c.args.unit.now c.requires.course.system.kinded.legal.legal.shapes c.requires.unit in
    let few = s.slots in
    let l = c.requires.there in
    omega arith

pub record_for-requires-clause-there : goal.record_for-requires-clause-there
record_for-requires-clause-there g c =
    slot_there c.args.course.system.on.net.now (kinds_of (λ k. (goal.UnitKind-dyn g k).meaning k.1) c.args.course.system.on.kinds.now) c.args.course.tables.now c.requires.course.fits c.args.seg.node c.args.slot c.args.unit.now c.requires.unit c.requires.there

pub sent_part-sent-requires-clause-plain : goal.sent_part-sent-requires-clause-plain
sent_part-sent-requires-clause-plain g c =
    legal_plain c.args.course.system.on.net.now c.args.seg.node c.args.unit.now c.requires.course.system.kinded.legal.legal.shapes c.requires.unit

pub sent_part-sent-requires-clause-within : goal.sent_part-sent-requires-clause-within
sent_part-sent-requires-clause-within g c =
    held_within c.args.course.system.on.net.now (course_records (λ k. (goal.UnitKind-dyn g k).meaning k.1) c.args.course) (course_held (λ k. (goal.UnitKind-dyn g k).meaning k.1) c.args.course c.requires.course) c.args.seg.node c.args.slot c.args.unit.now c.in-Some.record c.requires.unit (sym c.record_for.ensures ∙ c.in-Some.is)

pub push_after-requires-clause-there : goal.push_after-requires-clause-there
push_after-requires-clause-there g c =
    let net = c.args.course.system.on.net.now in
    let all = ports_at net c.args.seg.node c.args.unit.now c.requires.course.system.kinded.legal.legal.nodes.closed c.requires.unit in
    let l = list_all-at (λ p. nat_lt p (length net)) c.args.unit.now.ports c.in-Some.record.port c.sent_part-sent.result.node all c.sent_part-sent.ensures.node in
    subst (λ n. c.sent_part-sent.result.node < n) (sym c.requires.course.system.flat.every) (ltb-true c.sent_part-sent.result.node (length net) l)

pub returns-in-None-clause-given : goal.returns-in-None-clause-given
returns-in-None-clause-given g c a z =
    let net = c.args.course.system.on.net.now in
    let h : Held = course_records (λ k. (goal.UnitKind-dyn g k).meaning k.1) c.args.course in
    let next : ℕ → ℕ → End → Bool = part_gives c.args.part c.args.course.system.flats.now in
    slot_kept net h next c.args.seg c.args.slot c.args.unit.now a z (segs_give c.args.out.now.items a z || run_leads next c.args.run a z) c.requires.unit (sym c.record_for.ensures ∙ c.in-None.is)

pub returns-in-Some-clause-given : goal.returns-in-Some-clause-given
returns-in-Some-clause-given g c =
    let net = c.args.course.system.on.net.now in
    let h : Held = course_records (λ k. (goal.UnitKind-dyn g k).meaning k.1) c.args.course in
    let next : ℕ → ℕ → End → Bool = part_gives c.args.part c.args.course.system.flats.now in
    let s = c.args.seg in
    let sent = c.sent_part-sent.result in
    IfOk-weaker c.push_after.result
    (λ run. (a : ℕ) (z : End) → (segs_give c.push_after.new.out.items a z || run_leads next run a z) ≡ ((segs_give c.args.out.now.items a z || run_leads next c.args.run a z) || seg_leads next sent a z))
    (λ run. (a : ℕ) (z : End) → (segs_give c.push_after.new.out.items a z || run_leads next run a z) ≡ ((segs_give c.args.out.now.items a z || run_leads next c.args.run a z) || (in_slot c.args.unit.now.page c.args.slot s a && names_go next (outputs net h (seg_name s a)) z)))
    (λ run f a z. slot_pushed net h next s sent c.args.slot c.args.unit.now c.in-Some.record a z (segs_give c.args.out.now.items a z || run_leads next c.args.run a z) (segs_give c.push_after.new.out.items a z || run_leads next run a z) c.requires.unit (sym c.record_for.ensures ∙ c.in-Some.is) c.sent_part-sent.ensures.node (c.sent_part-sent.ensures.span a) (c.sent_part-sent.ensures.names a) (f a z))
    c.push_after.ensures.given
