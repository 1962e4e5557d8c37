use Rattle.std.proofs.Common.{ℕ, Bool, ◌||◌, ◌∙◌, ap}
use Rattle.dn_interval.specs.declared.row.End.{End}
use Rattle.dn_interval.specs.declared.row.Seg.{Seg}
use Rattle.dn_interval.specs.Strands.{segs_give}
use Rattle.dn_kind.specs.Tables.{Held}
use Rattle.dn_view.specs.Courses.{course_records}
use Rattle.dn_view.specs.Passes.{part_gives, seg_passes, segs_pass}
use Rattle.dn_view.proofs.Cuts.{any_next, any_end}
use Rattle.dn_view.proofs.pass.pass.Goals as goal

pub loop-seg-preserved : goal.loop-seg-preserved
loop-seg-preserved g c a z =
    let net = c.args.course.system.on.net.now in
    let h : Held = course_records (λ k. (goal.UnitKind-dyn g k).meaning k.1) c.args.course in
    let next : ℕ → ℕ → End → Bool = part_gives c.args.part c.args.course.system.flats.now in
    let s : Seg = c.seg-item.result in
    any_next (λ (s : Seg). seg_passes net h next s a z) c.args.segs.now c.loop-seg.seg-index s (segs_give c.loop-seg.out.items a z) (segs_give c.pass_seg.new.out.items a z) (segs_give c.args.out.now.items a z || segs_pass net h next c.args.segs.now a z) c.loop-seg-test.true (c.loop-seg.invariant a z)
    (c.in_ok-pass_seg.ensures a z ∙ ap (λ (t : Seg). segs_give c.loop-seg.out.items a z || seg_passes net h next t a z) c.seg-item.is)

pub returns : goal.returns
returns g c a z =
    let net = c.args.course.system.on.net.now in
    let h : Held = course_records (λ k. (goal.UnitKind-dyn g k).meaning k.1) c.args.course in
    let next : ℕ → ℕ → End → Bool = part_gives c.args.part c.args.course.system.flats.now in
    any_end (λ (s : Seg). seg_passes net h next s a z) c.args.segs.now c.loop-seg.seg-index (segs_give c.loop-seg.out.items a z) (segs_give c.args.out.now.items a z || segs_pass net h next c.args.segs.now a z) c.loop-seg-test.false (c.loop-seg.invariant a z)
