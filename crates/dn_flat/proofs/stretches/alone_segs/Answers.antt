-- One segment more.
use Rattle.std.proofs.Common.{◌↔◌, List, subst}
use Rattle.dn_base.proofs.Lists.{take_past}
use Rattle.dn_interval.specs.declared.row.Seg.{Seg}
use Rattle.dn_interval.specs.Rows.{Member}
use Rattle.dn_flat.specs.Stretches.{IsAlone}
use Rattle.dn_flat.proofs.Stretched.{more_kept, none_kept}
use Rattle.dn_flat.proofs.stretches.alone_segs.Goals as goal

pub loop-seg-init : goal.loop-seg-init
loop-seg-init c = none_kept (IsAlone c.args.nodes.now c.args.levels.now) c.new-out.result.items c.new-out.ensures.items

pub loop-seg-preserved : goal.loop-seg-preserved
loop-seg-preserved c = more_kept (IsAlone c.args.nodes.now c.args.levels.now) c.args.segs.now _ _ c.loop-seg-test.true c.seg-item.is c.loop-seg.out.items c.push_where.new.segs.items c.in_ok-alone.alone c.in_ok-alone.ensures c.loop-seg.invariant c.in_ok-push_where.ensures

pub returns : goal.returns
returns c = λ s. subst (λ (xs : List Seg). Member s c.loop-seg.out.items ↔ (Member s xs × IsAlone c.args.nodes.now c.args.levels.now s)) (take_past c.args.segs.now c.loop-seg.seg-index c.loop-seg-test.false) (c.loop-seg.invariant s)
