use Rattle.std.proofs.Common.{◌≡◌, ◌-◌, ◌↔◌, ◌+◌, true, subst, sym, arith}
use Rattle.dn_base.proofs.Booleans.{means_then}
use Rattle.dn_interval.specs.Strands.{segs_give}
use Rattle.dn_kind.specs.Tables.{Held, AreHeld}
use Rattle.dn_view.specs.Courses.{course_records}
use Rattle.dn_view.proofs.Courses.{course_held}
use Rattle.dn_view.proofs.Passed.{Comes, comes_next, comes_end, comes_whole, one_less, both_turned}
use Rattle.dn_view.proofs.shown.push_through.Goals as goal

pub loop-init : goal.loop-init
loop-init g c a z low = ((λ x. x), (λ x. x))

pub loop-preserved : goal.loop-preserved
loop-preserved g c a z low =
    let h : Held = course_records (λ k. (goal.UnitKind-dyn g k).meaning k.1) c.args.course in
    let held : AreHeld c.args.course.system.on.net.now h = course_held (λ k. (goal.UnitKind-dyn g k).meaning k.1) c.args.course c.requires in
    means_then (c.loop.invariant a z low)
    (subst (λ n. Comes c.args.course.system.on.net.now h c.loop.shown.items c.loop.level.items n a z ↔ Comes c.args.course.system.on.net.now h c.pass.new.out.items c.in_ok-level.level.items (3 - (c.loop.counter + 1)) a z) (sym (one_less c.loop.counter c.loop-test.true))
    (comes_next c.args.course.system.on.net.now c.requires.system.kinded.legal.legal h held c.args.course.system.flats.now c.requires.system.flat c.loop.shown.items c.pass.new.out.items c.loop.level.items c.in_ok-level.level.items (3 - (c.loop.counter + 1)) a z
    (rw c.as_slice-segs.ensures.value at (c.in_ok-pass.ensures a z))
    (λ t. rw c.as_slice-segs.ensures.value at (c.in_ok-level.ensures a t))))

pub returns : goal.returns
returns g c a z low =
    let net = c.args.course.system.on.net.now in
    let h : Held = course_records (λ k. (goal.UnitKind-dyn g k).meaning k.1) c.args.course in
    let none : 3 - c.loop.counter ≡ 0 = (let t = c.loop-test.false in omega arith) in
    both_turned (means_then (both_turned (comes_whole net h c.args.shown.now.items c.args.stops.items a z)) (means_then (c.loop.invariant a z low) (subst (λ n. Comes net h c.loop.shown.items c.loop.level.items n a z ↔ (segs_give c.loop.shown.items a z ≡ true)) (sym none) (comes_end net h c.loop.shown.items c.loop.level.items a z))))
