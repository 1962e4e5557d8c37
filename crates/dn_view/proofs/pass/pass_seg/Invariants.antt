use Rattle.std.proofs.Common.{◌≡◌, ℕ, ◌≤◌, ◌&&◌, ◌||◌}
use Rattle.dn_interval.specs.declared.row.End.{End}
use Rattle.dn_interval.specs.Strands.{segs_give}
use Rattle.dn_view.specs.Courses.{course_records}
use Rattle.dn_view.specs.Passes.{IsRun, names_go, outputs, part_gives, run_leads, seg_name}
use Rattle.dn_view.proofs.Cuts.{in_slots}
use Rattle.dn_view.proofs.pass.pass_seg.Given as goal

abbrev pub invariant-loop-slot : goal.invariant-loop-slot
invariant-loop-slot g l =
    let net = l.course.system.on.net.now in
    let h = course_records (λ k. (goal.UnitKind-dyn g k).meaning k.1) l.course in
    let next = part_gives l.part l.course.system.flats.now in
    record {
      from : l.initial.slot ≤ l.slot;
      run : IsRun l.course.system.flats.now l.run;
      so_far : (a : ℕ) (z : End) → (segs_give l.out.items a z || run_leads next l.run a z) ≡ (segs_give l.initial.out.items a z || (in_slots l.unit.page l.initial.slot l.slot l.seg a && names_go next (outputs net h (seg_name l.seg a)) z));
    }
