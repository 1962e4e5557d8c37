-- Gaps ascend.
use Rattle.std.proofs.Common.{◌∙◌, ap, map}
use Rattle.dn_base.proofs.Lists.{take_past}
use Rattle.dn_walk.specs.Legs.{gap_leg, span_view}
use Rattle.dn_walk.proofs.Merged.{gaps_rise}
use Rattle.dn_walk.proofs.leg.legs_to.Goals as goal

pub returns-clause-sorted : goal.returns-clause-sorted
returns-clause-sorted c = gaps_rise c.args.node c.args.gaps.now c.loop-gap.legs.items c.requires (c.loop-gap.invariant ∙ ap (λ l. map (gap_leg c.args.node) (map span_view l)) (take_past c.args.gaps.now c.loop-gap.gap-index c.loop-gap-test.false))
