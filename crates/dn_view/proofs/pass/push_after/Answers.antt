use Rattle.std.proofs.Common.{◌∙◌, ◌||◌, ap}
use Rattle.dn_interval.specs.Strands.{segs_give}
use Rattle.dn_flat.specs.Onward.{seg_leads}
use Rattle.dn_view.specs.Passes.{part_gives, run_leads}
use Rattle.dn_view.proofs.Runs.{or_join}
use Rattle.dn_view.proofs.pass.push_after.Goals as goal

pub returns-in-Some-clause-given : goal.returns-in-Some-clause-given
returns-in-Some-clause-given c a z =
    let next = part_gives c.args.part c.args.flats.now in
    ap (λ b. segs_give c.args.out.now.items a z || b) (c.in-Some.ensures.given next a z)
    ∙ or_join (segs_give c.args.out.now.items a z) (run_leads next c.args.run a z) (seg_leads next c.args.seg a z)

pub returns-in_ok-push_run-in-None-clause-given : goal.returns-in_ok-push_run-in-None-clause-given
returns-in_ok-push_run-in-None-clause-given c a z =
    let next = part_gives c.args.part c.args.flats.now in
    ap (λ b. b || seg_leads next c.args.seg a z) (c.in_ok-push_run-in-None.ensures a z)
