-- One segment more.
use Rattle.std.proofs.Common.{ℕ, true}
use Rattle.dn_interval.specs.declared.row.End.{End}
use Rattle.dn_interval.specs.declared.row.Seg.{Seg}
use Rattle.dn_flat.specs.declared.found.Continuation.TheVariants.{Accepts}
use Rattle.dn_flat.specs.Onward.{leads_by, seg_leads}
use Rattle.dn_flat.proofs.Stretched.{all_given, more_given, none_given, not_given}
use Rattle.dn_flat.proofs.stretches.give_parts.Goals as goal

pub loop-seg-init : goal.loop-seg-init
loop-seg-init c = none_given (λ (a : ℕ). true) (λ (s : Seg) (a : ℕ) (z : End). seg_leads (leads_by Accepts c.args.nodes.now) s a z) c.args.segs.now c.args.whole

pub loop-seg-preserved : goal.loop-seg-preserved
loop-seg-preserved c = more_given (λ (a : ℕ). true) (λ (s : Seg) (a : ℕ) (z : End). seg_leads (leads_by Accepts c.args.nodes.now) s a z) c.args.segs.now c.args.whole _ _ c.loop-seg-test.true c.seg-item.is c.loop-seg.invariant (c.in_ok-part.ensures.0 c.if-not-part.false)

pub returns-then-not-part : goal.returns-then-not-part
returns-then-not-part c = not_given (λ (a : ℕ). true) (λ (s : Seg) (a : ℕ) (z : End). seg_leads (leads_by Accepts c.args.nodes.now) s a z) c.args.segs.now c.args.whole _ _ c.loop-seg-test.true c.seg-item.is c.in_ok-part.part c.if-not-part.true c.in_ok-part.ensures

pub returns : goal.returns
returns c = all_given (λ (a : ℕ). true) (λ (s : Seg) (a : ℕ) (z : End). seg_leads (leads_by Accepts c.args.nodes.now) s a z) c.args.segs.now c.args.whole _ c.loop-seg-test.false c.loop-seg.invariant
