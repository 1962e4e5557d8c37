-- One way more.
use Rattle.std.proofs.Common.{List, sym, subst}
use Rattle.std.proofs.lemmas.List.Elements.{All-push}
use Rattle.dn_flat.specs.declared.crowds.Way.{Way}
use Rattle.dn_flat.specs.Crowds.{AreWays, IsWay}
use Rattle.dn_flat.proofs.Crowded.{way_of}
use Rattle.dn_flat.proofs.crowds.push_ways.Goals as goal

pub loop-seg-init : goal.loop-seg-init
loop-seg-init c = λ net is stops old. old

pub loop-seg-preserved : goal.loop-seg-preserved
loop-seg-preserved c = λ net is stops old.
    subst (λ (ws : List Way). AreWays net ws) (sym c.in_ok-push.ensures.items)
    (All-push (IsWay net) c.loop-seg.ways.items (record { agent = c.args.agent; seg = c.seg-item.result }) (c.loop-seg.invariant net is stops old) (way_of net c.args.agent c.args.segs.now c.seg-item.result is stops c.loop-seg.seg-index c.loop-seg-test.true c.seg-item.is))
