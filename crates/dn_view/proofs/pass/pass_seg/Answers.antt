use Rattle.std.proofs.Common.{◌≡◌, ◌∙◌, ◌≤◌, ◌||◌, ℕ, Bool, ap, sym, subst, Some, IsTrue, nat_lt, arith}
use Rattle.std.specs.List.{list_all}
use Rattle.std.proofs.Math.Bool.{or-false}
use Rattle.dn_base.proofs.Told.{on_ok_then}
use Rattle.std.specs.Option.{option_copied}
use Rattle.dn_interval.specs.declared.row.End.{End}
use Rattle.dn_interval.specs.Strands.{segs_give}
use Rattle.dn_interval.specs.Spans.{in_span}
use Rattle.dn_net.specs.declared.node.Unit.{Unit as UnitPart}
use Rattle.dn_net.specs.Decode.{unit_at}
use Rattle.dn_net.proofs.Steps.{ports_at}
use Rattle.dn_kind.specs.Kinded.{kinds_of}
use Rattle.dn_kind.specs.Tables.{Held, record_allowing}
use Rattle.dn_tables.specs.Set.{record_kept}
use Rattle.dn_view.specs.Courses.{course_records}
use Rattle.dn_view.specs.Passes.{part_gives, names_go, outputs, run_leads, seg_name, seg_passes}
use Rattle.dn_view.proofs.Cuts.{slots_more, slots_none, slots_all, none_leads, none_pushed}
use Rattle.dn_view.proofs.pass.pass_seg.Goals as goal

pub leads_on-requires : goal.leads_on-requires
leads_on-requires g c =
    let at : unit_at c.args.course.system.on.net.now c.args.seg.node ≡ Some c.in-Some.unit.now = sym c.unit_of.ensures ∙ ap option_copied c.in-Some.is in
    subst (λ n. IsTrue (list_all (λ p. nat_lt p n) c.in-Some.unit.now.ports)) (sym c.requires.system.flat.every) (ports_at c.args.course.system.on.net.now c.args.seg.node c.in-Some.unit.now c.requires.system.kinded.legal.legal.nodes.closed at)

pub returns-then-not-leads_on : goal.returns-then-not-leads_on
returns-then-not-leads_on g c a z =
    let net = c.args.course.system.on.net.now in
    let h : Held = course_records (λ k. (goal.UnitKind-dyn g k).meaning k.1) c.args.course in
    let next : ℕ → ℕ → End → Bool = part_gives c.args.part c.args.course.system.flats.now in
    let s = c.args.seg in
    let at : unit_at net s.node ≡ Some c.in-Some.unit.now = sym c.unit_of.ensures ∙ ap option_copied c.in-Some.is in
    none_pushed (segs_give c.args.out.now.items a z) (in_span s.span a) (names_go next (outputs net h (seg_name s a)) z) (none_leads net h c.args.course.system.flats.now c.args.part s c.in-Some.unit.now a z at (sym c.if-not-leads_on.ensures))

pub loop-slot-init : goal.loop-slot-init
loop-slot-init g c = record {
  from = omega arith;
  run = tt;
  so_far = λ a z. or-false (segs_give c.args.out.now.items a z) ∙ slots_none c.in-Some.unit.now.page c.slot_range-range.result.0 c.args.seg a (segs_give c.args.out.now.items a z) _;
}

pub loop-slot-preserved : goal.loop-slot-preserved
loop-slot-preserved g c =
    let f = c.loop-slot.invariant.from in
    let next : ℕ → ℕ → End → Bool = part_gives c.args.part c.args.course.system.flats.now in
    record {
      from = omega arith;
      run = c.in_ok-run.ensures.run;
      so_far = λ a z. slots_more c.in-Some.unit.now.page c.slot_range-range.result.0 c.loop-slot.slot c.args.seg a (segs_give c.args.out.now.items a z) (segs_give c.loop-slot.out.items a z || run_leads next c.loop-slot.run a z) _ _ f (c.loop-slot.invariant.so_far a z) (c.in_ok-run.ensures.given a z);
    }

pub returns : goal.returns
returns g c =
    let net = c.args.course.system.on.net.now in
    let h : Held = course_records (λ k. (goal.UnitKind-dyn g k).meaning k.1) c.args.course in
    let next : ℕ → ℕ → End → Bool = part_gives c.args.part c.args.course.system.flats.now in
    let s = c.args.seg in
    let at : unit_at net s.node ≡ Some c.in-Some.unit.now = sym c.unit_of.ensures ∙ ap option_copied c.in-Some.is in
    let u : UnitPart = c.in-Some.unit.now in
    let over : c.slot_range-range.result.1 ≤ c.loop-slot.slot = c.loop-slot-test.false in
    on_ok_then c.push_run.result
    ((a : ℕ) (z : End) → segs_give c.push_run.new.out.items a z ≡ (segs_give c.loop-slot.out.items a z || run_leads next c.loop-slot.run a z))
    ((a : ℕ) (z : End) → segs_give c.push_run.new.out.items a z ≡ (segs_give c.args.out.now.items a z || seg_passes net h next s a z))
    (λ f a z. slots_all net h next s u c.slot_range-range.result.0 c.slot_range-range.result.1 c.loop-slot.slot a z (segs_give c.args.out.now.items a z) (segs_give c.push_run.new.out.items a z) at over
    (λ slot first last out. ap (record_allowing c.args.course.access) (c.slot_range-range.ensures.rest (record_kept (kinds_of (λ k. (goal.UnitKind-dyn g k).meaning k.1) c.args.course.system.on.kinds.now) c.args.course.tables.now) slot c.held_end-end.ensures.none first last out))
    (f a z ∙ c.loop-slot.invariant.so_far a z))
    c.push_run.ensures
