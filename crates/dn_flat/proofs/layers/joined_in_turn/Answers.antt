-- All addresses by the rows of the segments.
use Rattle.std.proofs.Common.{◌∙◌, ◌||◌, ap}
use Rattle.dn_interval.specs.Onward.{seg_goes}
use Rattle.dn_interval.specs.Strands.{segs_give}
use Rattle.dn_flat.proofs.Layered.{same_given}
use Rattle.dn_flat.proofs.Sums.{whole_goes}
use Rattle.dn_flat.proofs.layers.joined_in_turn.Goals as goal

pub returns : goal.returns
returns c = λ a z low.
    let rows = c.in_ok-rows.rows in
    let s = c.whole.result in
    c.in_ok-follow.ensures.ok a z
    ∙ ap (λ t. segs_give t a z || seg_goes rows s a z) c.new-out.ensures.items
    ∙ whole_goes s rows a z c.whole.ensures.base c.whole.ensures.lo c.whole.ensures.hi low
    ∙ same_given c.args.segs.now rows c.in_ok-rows.ensures.normal a z low
