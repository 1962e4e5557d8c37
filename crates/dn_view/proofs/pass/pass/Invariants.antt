use Rattle.std.proofs.Common.{◌≡◌, ℕ, ◌||◌, drop}
use Rattle.dn_interval.specs.declared.row.End.{End}
use Rattle.dn_interval.specs.Strands.{segs_give}
use Rattle.dn_view.specs.Courses.{course_records}
use Rattle.dn_view.specs.Passes.{part_gives, segs_pass}
use Rattle.dn_view.proofs.pass.pass.Given as goal

abbrev pub invariant-loop-seg : goal.invariant-loop-seg
invariant-loop-seg g l =
    let net = l.course.system.on.net.now in
    let h = course_records (λ k. (goal.UnitKind-dyn g k).meaning k.1) l.course in
    let next = part_gives l.part l.course.system.flats.now in
    (a : ℕ) (z : End) → (segs_give l.out.items a z || segs_pass net h next (drop l.seg-index l.segs) a z) ≡ (segs_give l.initial.out.items a z || segs_pass net h next l.segs a z)
