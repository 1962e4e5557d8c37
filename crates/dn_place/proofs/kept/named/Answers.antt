use Rattle.std.proofs.Common.{◌≡◌, true}
use Rattle.std.proofs.lemmas.Bool.{false≢true}
use Rattle.dn_place.proofs.Named.{one_named}
use Rattle.dn_place.proofs.kept.named.Goals as goal

pub loop-seg-init : goal.loop-seg-init
loop-seg-init c = rw c.new-own.ensures.items (λ x z e. absurd (false≢true e))

pub loop-seg-preserved : goal.loop-seg-preserved
loop-seg-preserved c = rw c.in_ok-push.ensures.items (one_named c.args.segs.now c.loop-seg.own.items c.loop-seg.seg-index c.seg-item.result c.at_itself.result c.loop-seg-test.true c.seg-item.is c.at_itself.ensures c.loop-seg.invariant)
