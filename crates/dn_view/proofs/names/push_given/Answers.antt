-- One segment more, and then all of them.
use Rattle.std.proofs.Common.{◌||◌, ◌∙◌, ap}
use Rattle.dn_interval.specs.declared.row.Seg.{Seg}
use Rattle.dn_interval.specs.Strands.{seg_gives, segs_give}
use Rattle.dn_walk.specs.Ends.{end_of}
use Rattle.dn_view.specs.Named.{has_name}
use Rattle.dn_view.proofs.Cuts.{any_next, any_end}
use Rattle.dn_view.proofs.names.push_given.Goals as goal

pub loop-seg-preserved : goal.loop-seg-preserved
loop-seg-preserved c z =
    any_next (λ (s : Seg). seg_gives s c.args.addr (end_of z)) c.args.segs.now c.loop-seg.seg-index c.seg-item.result (has_name c.loop-seg.found.items z) (has_name c.push_name.new.found.items z) (has_name c.args.found.now.items z || segs_give c.args.segs.now c.args.addr (end_of z)) c.loop-seg-test.true (c.loop-seg.invariant z)
    (c.in_ok-push_name.ensures z ∙ ap (λ (t : Seg). has_name c.loop-seg.found.items z || seg_gives t c.args.addr (end_of z)) c.seg-item.is)

pub returns : goal.returns
returns c z = any_end (λ (s : Seg). seg_gives s c.args.addr (end_of z)) c.args.segs.now c.loop-seg.seg-index (has_name c.loop-seg.found.items z) (has_name c.args.found.now.items z || segs_give c.args.segs.now c.args.addr (end_of z)) c.loop-seg-test.false (c.loop-seg.invariant z)
