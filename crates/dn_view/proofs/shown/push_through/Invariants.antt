use Rattle.std.proofs.Common.{ℕ, ◌-◌, ◌≤◌, ◌↔◌}
use Rattle.dn_interval.specs.declared.row.End.{End}
use Rattle.dn_interval.specs.declared.span.TheConstants.{TOP}
use Rattle.dn_view.specs.Courses.{course_records}
use Rattle.dn_view.proofs.Passed.{Comes}
use Rattle.dn_view.proofs.shown.push_through.Given as goal

abbrev pub invariant-loop : goal.invariant-loop
invariant-loop g l =
    let net = l.course.system.on.net.now in
    let h = course_records (λ k. (goal.UnitKind-dyn g k).meaning k.1) l.course in
    (a : ℕ) (z : End) → a ≤ TOP → Comes net h l.initial.shown.items l.initial.level.items 3 a z ↔ Comes net h l.shown.items l.level.items (3 - l.counter) a z
